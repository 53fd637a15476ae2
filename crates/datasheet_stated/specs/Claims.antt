-- What is promised of the data sheet. `row` gives the figures of a reply buffer, `needed` the buffer for a certificate, and both are any functions: the
-- definitions of Sheet.antt meet the claims by proofs/Theorems.antt, nothing else meets `SheetExactly` or `NeededExactly` by proofs/Only.antt, and the
-- programs of Wrong.antt do not by proofs/Refuted.antt. A column is claimed without its number, as a bound: of any function that meets the core's own claim
-- on it, and in every buffer, not in those alone that are printed. Words: Terms.antt.
use Rattle.std.specs.Prelude.{◌+◌, ◌≤◌, ◌<◌, ◌≡◌, ◌↔◌}
use Rattle.datasheet_stated.specs.Words.{ℕ, Bool, false, List, AtMostOne, Outcome, R, Command, RegisterFields, Order, Finishing, Ended, MakesRegister, RegisterRoomExactly, FinishesExactly, FrameRoom, FrameRoomExactly, Figures, Sheet, Ok, Err, TooShort, TooLong, RoomNeeded, Some, None}
use Rattle.datasheet_stated.specs.Promises.{SheetSaid, NeededSaid}
use Rattle.datasheet_stated.specs.Terms.{UpTo, Longest, Least, HasRoom, FinishR2, FinishR2At255, HandleOf, BodyOf, ShortResponse, AnyResponse, CommandOf, TakesCommands, HasCertificate}

-- ---- which buffers have a row

-- 02, E10: "n at least 394". A buffer is too short exactly where a Register with the longest handle and no certificate at all would be R2; too long exactly
-- where a response to some frame would be, since its length is no number of 64 bits (ours); and a row says whose it is. One that begins at 393 (`from393`)
-- fails it there, and one without an end (`without_end`) at 2^64 - 2.
pub record HasRow (row : ℕ → Sheet) : Type 0 where
  pub too_short : (n : ℕ) → (row n ≡ Err TooShort) ↔ (n < 394)
  pub too_long : (n : ℕ) → (row n ≡ Err TooLong) ↔ (0x10000000000000000 ≤ n + 2)
  pub short_is_r2 : (has : (room h c : ℕ) → Bool) → RegisterRoomExactly has → (n : ℕ) → (row n ≡ Err TooShort) ↔ (has n 255 0 ≡ false)
  pub long_is_r2 : (room : FrameRoom) → FrameRoomExactly room → (n : ℕ) → (row n ≡ Err TooLong) ↔ ((frame : List ℕ) × (room frame n ≡ R 2))
  pub its_own : (n : ℕ) (f : Figures) → row n ≡ Ok f → f.room ≡ n

-- ---- the columns

-- "with a certificate of at most n - 394 bytes .. and a handle of at most 255, the decision and the finish of its order never give Register or Authenticate
-- R2 for the reply buffer": a certificate has room, whatever the handle, exactly up to this length. "For each such n show a certificate one byte longer that
-- is refused at handle length 255." A row that counts one byte too many (`certificate_one_more`) fails it, and one that leaves the signature's 72 bytes out
-- (`without_signature`), at 394 bytes; one that counts one too few (`certificate_one_less`) at 395.
pub record CertificateColumn (row : ℕ → Sheet) : Type 0 where
  pub up_to : (has : (room h c : ℕ) → Bool) → RegisterRoomExactly has → (n : ℕ) (f : Figures) → row n ≡ Ok f → UpTo (HasRoom has n) f.certificate
  pub one_more : (has : (room h c : ℕ) → Bool) → RegisterRoomExactly has → (n : ℕ) (f : Figures) → row n ≡ Ok f → has n 255 (f.certificate + 1) ≡ false

-- The same of finishing, whatever the order: R2 for no certificate up to this length, and for one byte more R2 at handle length 255. `certificate_one_more` fails the
-- first, and `certificate_one_less` the second.
pub record FinishColumn (row : ℕ → Sheet) : Type 0 where
  pub never_r2 : (finish : Finishing → Ended) → FinishesExactly finish → (n : ℕ) (f : Figures) → row n ≡ Ok f → (c : ℕ) → c ≤ f.certificate → FinishR2 finish n c → ⊥
  pub one_more : (finish : Finishing → Ended) → FinishesExactly finish → (n : ℕ) (f : Figures) → row n ≡ Ok f → FinishR2At255 finish n (f.certificate + 1)

-- "a handle of at most 255": whatever makes the orders of Registers, new handles of exactly these lengths come to one. `handle_of256` fails it at a handle
-- of 256 bytes, `handle_of254` at one of 255.
abbrev pub HandleColumn : (ℕ → Sheet) → Type 0
HandleColumn row = (make : RegisterFields → ℕ → Order) → MakesRegister make → (n : ℕ) (f : Figures) → row n ≡ Ok f → UpTo (HandleOf make) f.handle

-- "no body is longer than n", and one is as long: what finishing gives into a buffer of n bytes, whatever the order, certificate and signature.
-- `body_without_signature` fails it, and `body_one_more`, at 394 bytes.
abbrev pub BodyColumn : (ℕ → Sheet) → Type 0
BodyColumn row = (finish : Finishing → Ended) → FinishesExactly finish → (n : ℕ) (f : Figures) → row n ≡ Ok f → Longest (BodyOf finish n) f.body

-- The longest response to a frame in shapes 1 to 4, its status counted, where no body is longer than the buffer. It is reached in every buffer, by a
-- frame without Le. `short_without_status` fails it at 00 03 00 00.
abbrev pub ShortColumn : (ℕ → Sheet) → Type 0
ShortColumn row = (room : FrameRoom) → FrameRoomExactly room → (n : ℕ) (f : Figures) → row n ≡ Ok f → Longest (ShortResponse room n) f.short

-- The longest response to any frame, reached by an extended one. `extended_without_status` fails it at 00 03 00 00 | 00 00 00.
abbrev pub ExtendedColumn : (ℕ → Sheet) → Type 0
ExtendedColumn row = (room : FrameRoom) → FrameRoomExactly room → (n : ℕ) (f : Figures) → row n ≡ Ok f → Longest (AnyResponse room n) f.extended

-- The longest frame that is a command, of the four: an Authenticate in shape 7, with a handle of 255 bytes. A figure for the short shapes alone
-- (`short_frames_only`) fails it.
abbrev pub CommandColumn : (ℕ → Sheet) → Type 0
CommandColumn row =
    (command : List ℕ → Outcome Command) → TakesCommands command → (n : ℕ) (f : Figures) → row n ≡ Ok f → Longest (CommandOf command) f.command

-- The row of every buffer.
pub record SheetExactly (row : ℕ → Sheet) : Type 0 where
  pub has_row : HasRow row
  pub certificate : CertificateColumn row
  pub finish : FinishColumn row
  pub handle : HandleColumn row
  pub body : BodyColumn row
  pub short : ShortColumn row
  pub extended : ExtendedColumn row
  pub command : CommandColumn row

-- ---- the buffer for a certificate

-- The least buffer with such a row that the certificate is within it, and none exactly where no buffer has one. One that asks for a byte less (`needed_one_less`) fails it,
-- one that asks for a byte more (`needed_one_more`), and one without an end (`needed_without_end`).
pub record NeededExactly (needed : ℕ → RoomNeeded) : Type 0 where
  pub room : (row : ℕ → Sheet) → SheetExactly row → (c n : ℕ) → (needed c ≡ Some n) ↔ Least (HasCertificate row c) n
  pub no_buffer : (row : ℕ → Sheet) → SheetExactly row → (c : ℕ) → (needed c ≡ None) ↔ ((n : ℕ) → HasCertificate row c n → ⊥)

-- ---- the contracts

-- Whatever meets a contract meets the claim on it. A contract of `row` that leaves no room for a signature fails it, with code to match.
pub record ContractsAsClaimed : Type 0 where
  pub row : (f : ℕ → Sheet) → ((room : ℕ) → SheetSaid room (f room)) → SheetExactly f
  pub needed : (f : ℕ → RoomNeeded) → ((certificate : ℕ) → NeededSaid certificate (f certificate)) → NeededExactly f

-- Two results that satisfy a contract are equal.
pub record ResultsDetermined : Type 0 where
  pub row : (room : ℕ) → AtMostOne (SheetSaid room)
  pub needed : (certificate : ℕ) → AtMostOne (NeededSaid certificate)
