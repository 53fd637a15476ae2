-- Words that only the claims use: how a figure bounds what it is a figure of, and what comes of a buffer, a frame or a command.
use Rattle.std.specs.Prelude.{◌≤◌, ◌≡◌, ◌↔◌}
use Rattle.datasheet_stated.specs.Words.{ℕ, Bool, true, List, length, Outcome, R, Gives, AreBytes, Says, read_of, Command, RegisterExactly, AuthenticateExactly, VersionExactly, GetResponseExactly, RegisterFields, Order, Finishing, Ended, certificate_length, RegisterShaped, IsWhole, IsBlank, FrameRoom, Figures, Sheet, Ok}

-- ---- bounds
-- `UpTo Fits m`: of the numbers just those up to m fit
abbrev pub UpTo : (ℕ → Type 0) → ℕ → Type 0
UpTo Fits m = (k : ℕ) → (k ≤ m) ↔ Fits k

-- `Longest Comes m`: m comes, and no more does
pub record Longest (Comes : ℕ → Type 0) (m : ℕ) : Type 0 where
  pub reached : Comes m
  pub at_most : (k : ℕ) → Comes k → k ≤ m

-- `Least Serves m`: m serves, and no less does
pub record Least (Serves : ℕ → Type 0) (m : ℕ) : Type 0 where
  pub serves : Serves m
  pub at_least : (k : ℕ) → Serves k → m ≤ k

-- ---- what they bound
-- a certificate of c bytes has room in a buffer of n, whatever the new handle. 01: "h in one byte"
abbrev pub HasRoom : (has : (room h c : ℕ) → Bool) → (n c : ℕ) → Type 0
HasRoom has n c = (h : ℕ) → h ≤ 255 → has n h c ≡ true

-- finishing an order for a certificate of c bytes into a buffer of n is R2; and so it is at the longest handle
pub record FinishR2 (finish : Finishing → Ended) (n c : ℕ) : Type 0 where
  pub lent : Finishing
  pub whole : IsWhole lent.order
  pub buffer : length lent.reply ≡ n
  pub certificate : certificate_length lent.order ≡ c
  pub is_r2 : (finish lent).answer ≡ R 2

pub record FinishR2At255 (finish : Finishing → Ended) (n c : ℕ) : Type 0 where
  pub r2 : FinishR2 finish n c
  pub longest : RegisterShaped 255 r2.lent.order

-- a new handle of h bytes can come to a Register order, for a certificate of some length c: one that is not blank
abbrev pub HandleOf : (make : RegisterFields → ℕ → Order) → (h : ℕ) → Type 0
HandleOf make h = (fields : RegisterFields) × (c : ℕ) × (length fields.handle ≡ h) × (IsBlank (make fields c) → ⊥)

-- finishing an order into a buffer of n bytes can give a body of b
pub record BodyOf (finish : Finishing → Ended) (n b : ℕ) : Type 0 where
  pub lent : Finishing
  pub whole : IsWhole lent.order
  pub buffer : length lent.reply ≡ n
  pub gives : (finish lent).answer ≡ Gives b

-- a frame in shapes 1 to 4 can get a response of m bytes, where no body is longer than n
pub record ShortResponse (room : FrameRoom) (n m : ℕ) : Type 0 where
  pub frame : List ℕ
  pub bytes : AreBytes frame
  pub said : Says
  pub is_read : read_of frame ≡ Gives said
  pub short : said.shape ≤ 4
  pub longest : ℕ
  pub within : longest ≤ n
  pub takes : room frame longest ≡ Gives m

-- and any frame at all
pub record AnyResponse (room : FrameRoom) (n m : ℕ) : Type 0 where
  pub frame : List ℕ
  pub longest : ℕ
  pub within : longest ≤ n
  pub takes : room frame longest ≡ Gives m

-- a command can come in a frame of k bytes
pub record CommandOf (command : List ℕ → Outcome Command) (k : ℕ) : Type 0 where
  pub frame : List ℕ
  pub bytes : AreBytes frame
  pub which : Command
  pub is_taken : command frame ≡ Gives which
  pub long : length frame ≡ k

-- whatever takes the four commands exactly when it should
pub record TakesCommands (command : List ℕ → Outcome Command) : Type 0 where
  pub register : RegisterExactly command
  pub authenticate : AuthenticateExactly command
  pub version : VersionExactly command
  pub get_response : GetResponseExactly command

-- a buffer of n bytes has a row, and a certificate of c bytes is within it
pub record HasCertificate (row : ℕ → Sheet) (c n : ℕ) : Type 0 where
  pub figures : Figures
  pub its_row : row n ≡ Ok figures
  pub within : c ≤ figures.certificate
