-- Two sheets that meet `SheetExactly` are alike: each column is a bound, and a bound is one number. What meets the core's claims is there: the definitions do.
use Prim.Native.Nat.{ℕ}
use mathlib.Core.Path.{◌≡◌, refl, sym, ◌∙◌}
use mathlib.Core.Bool.{Bool}
use native.Mathlib.Omega.{arith}
use borrow.Author.Tests.{leb-true, le-leb}
use lib.Dec.{leb}
use Rattle.command_stated.specs.Command.{command_of}
use Rattle.command_stated.proofs.Laws.{RegisterExactly, AuthenticateExactly, VersionExactly, GetResponseExactly}
use Rattle.signing_stated.specs.Claims.{RegisterRoomExactly}
use Rattle.signing_stated.specs.Orders.{register_order_of}
use Rattle.signing_stated.specs.Finishing.{register_room, end_of}
use Rattle.signing_stated.proofs.Laws.{makes_register, finishes_exactly}
use Rattle.session_stated.specs.Held.{frame_room_of}
use Rattle.session_stated.proofs.Laws.{frame_room_exactly}
use Rattle.datasheet_stated.specs.declared.Figures.{Figures}
use Rattle.datasheet_stated.specs.Words.{Sheet}
use Rattle.std.specs.Prelude.{Ok, Err}
use Rattle.datasheet_stated.specs.declared.NoSheet.TheVariants.{TooShort, TooLong}
use Rattle.datasheet_stated.specs.Terms.{UpTo, Longest, TakesCommands}
use Rattle.datasheet_stated.specs.Claims

-- ---- what meets the core's claims
abbrev pub has_room : (room h c : ℕ) → Bool
has_room room h c = leb (register_room h c) room

pub has_room_exactly : RegisterRoomExactly has_room
has_room_exactly room h c = (leb-true (register_room h c) room, le-leb (register_room h c) room)

pub takes_commands : TakesCommands command_of
takes_commands = record { register = RegisterExactly; authenticate = AuthenticateExactly; version = VersionExactly; get_response = GetResponseExactly }

-- ---- a bound is one number
one_bound : {Fits : ℕ → Type 0} (a b : ℕ) → UpTo Fits a → UpTo Fits b → a ≡ b
one_bound a b p q =
    let low = (q a).1 ((p a).0 (omega arith)) in
    let high = (p b).1 ((q b).0 (omega arith)) in
    omega arith

one_longest : {Comes : ℕ → Type 0} (a b : ℕ) → Longest Comes a → Longest Comes b → a ≡ b
one_longest a b p q =
    let low = q.at_most a p.reached in
    let high = p.at_most b q.reached in
    omega arith

-- ---- and so is a row
module _ (f g : ℕ → Sheet) (p : Claims.SheetExactly f) (q : Claims.SheetExactly g) (n : ℕ) where
  figures : (a b : Figures) → f n ≡ Ok a → g n ≡ Ok b → a ≡ b
  figures a b x y =
      let room = p.has_row.its_own n a x ∙ sym (q.has_row.its_own n b y) in
      let certificate = one_bound _ _ (p.certificate.up_to has_room has_room_exactly n a x) (q.certificate.up_to has_room has_room_exactly n b y) in
      let handle = one_bound _ _ (p.handle register_order_of makes_register n a x) (q.handle register_order_of makes_register n b y) in
      let body = one_longest _ _ (p.body end_of finishes_exactly n a x) (q.body end_of finishes_exactly n b y) in
      let short = one_longest _ _ (p.short frame_room_of frame_room_exactly n a x) (q.short frame_room_of frame_room_exactly n b y) in
      let extended = one_longest _ _ (p.extended frame_room_of frame_room_exactly n a x) (q.extended frame_room_of frame_room_exactly n b y) in
      let command = one_longest _ _ (p.command command_of takes_commands n a x) (q.command command_of takes_commands n b y) in
      λ d. record { room = room d; certificate = certificate d; handle = handle d; body = body d; short = short d; extended = extended d; command = command d }

  pub rows_alike : f n ≡ g n
  rows_alike = go (f n) (g n) refl refl
    where
      go : (s t : Sheet) → f n ≡ s → g n ≡ t → f n ≡ g n
      go (Err TooShort) t x y = x ∙ sym ((q.has_row.too_short n).1 ((p.has_row.too_short n).0 x))
      go (Err TooLong) t x y = x ∙ sym ((q.has_row.too_long n).1 ((p.has_row.too_long n).0 x))
      go (Ok a) (Err TooShort) x y = (p.has_row.too_short n).1 ((q.has_row.too_short n).0 y) ∙ sym y
      go (Ok a) (Err TooLong) x y = (p.has_row.too_long n).1 ((q.has_row.too_long n).0 y) ∙ sym y
      go (Ok a) (Ok b) x y = x ∙ (λ d. Ok (figures a b x y d)) ∙ sym y
