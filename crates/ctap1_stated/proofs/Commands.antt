-- What the decision's laws take from command reading and from the orders: the only file that cites those crates' laws.
use Prim.Native.Nat.{ℕ, ◌+◌, ◌*◌, ◌<◌, ◌≤◌}
use mathlib.Core.Path.{◌≡◌, refl, ap, sym, ◌∙◌}
use mathlib.Core.Bool.{Bool, true, false}
use mathlib.Core.List.{List}
use mathlib.Core.Logic.{inl, inr}
use native.Mathlib.Omega.{arith}
use borrow.Author.Tests.{eqb-true}
use lib.Dec.{eqb}
use lib.ListN.{length, take, drop}
use lib.Seq.{get_or-drop, get_or-take}
use Rattle.outcome.specs.Outcome.{Outcome, R, Gives}
use Rattle.outcome.proofs.Laws.{r_gives, r_word}
use Rattle.octets.specs.Bytes.{bytes4, byte}
use Rattle.apdu_stated.specs.Answers.{Says}
use Rattle.command_stated.specs.Command.{Command, Register, Authenticate, command_of, application_of, challenge_of}
use Rattle.command_stated.proofs.Laws as Command'
use Rattle.command_stated.proofs.Laws.{reading}
use Rattle.signing_stated.specs.Layouts.{RegisterFields, AuthenticateFields, presence_byte}
use Rattle.signing_stated.specs.Orders.{kind_no, certificate_length, is_of_layout, authenticate_fields_of}
use Rattle.signing_stated.specs.Finishing.{register_room, authenticate_room, room_needed}
use Rattle.signing_stated.specs.Words.{Order}
use Rattle.signing_stated.proofs.Laws.{RegisterLengths, AuthenticateLengths, register_fit, authenticate_fit}
use Rattle.signing_stated.proofs.Laws.{register_order_fit, authenticate_order_fit}
use Rattle.signing_stated.proofs.Laws.{made_of_layout, room_of_made, fields_kept}
pub use Rattle.signing_stated.proofs.Laws.{blank_refused, room_kept}
use Rattle.ctap1_stated.specs.Words.{Inputs}
use Rattle.ctap1_stated.specs.Path.{register_ordered, enrolment_order, authenticate_ordered}
use Rattle.ctap1_stated.specs.Terms.{AreBlocks, SaysPresent}

-- command reading gives no refusal
pub never_refused : (frame : List ℕ) (n : ℕ) → command_of frame ≡ R n → ⊥
never_refused frame n e = go (command_of frame) (reading frame) e
  where
    by : (said : Says) (o : Outcome Command) → Command'.Way frame said o → o ≡ R n → ⊥
    by said _ (Command'.register c i l) x = r_gives _ _ (sym x)
    by said _ (Command'.authenticate c i l f k) x = r_gives _ _ (sym x)
    by said _ (Command'.version c i l) x = r_gives _ _ (sym x)
    by said _ (Command'.fetch c i a b l) x = r_gives _ _ (sym x)
    by said _ (Command'.status m) x = r_word _ _ (sym x)

    go : (o : Outcome Command) → Command'.Read frame o → o ≡ R n → ⊥
    go o (Command'.read said r w) x = by said o w x
    go _ (Command'.unread m r) x = r_word _ _ (sym x)

-- P1 is 03, 07 or 08
pub p1_08 : (frame : List ℕ) (p1 : ℕ) (said : Says) → command_of frame ≡ Gives (Authenticate p1 said) → eqb p1 0x07 ≡ false → eqb p1 0x03 ≡ false → p1 ≡ 0x08
p1_08 frame p1 said e n7 n3 = eqb-true p1 0x08 (rw (n3, n7) at ((Command'.AuthenticateExactly frame p1 said).0 e).5)

-- ---- the order of a Register
module _ (a : Inputs) (blocks : AreBlocks a) (said : Says) (c : command_of a.frame ≡ Gives (Register said)) (h : length a.new_handle ≤ 255) where
  registers : RegisterFields
  registers = record { application = application_of a.frame said; challenge = challenge_of a.frame said; handle = a.new_handle; x = a.x; y = a.y }

  register_lengths : RegisterLengths registers
  unfolding registers
  register_lengths = let parts = Command'.RegisterParts a.frame said c in record { application = parts.2; challenge = parts.1; handle = h; x = blocks.0; y = blocks.1 }

  pub register_kind : kind_no (register_ordered a said).kind ≡ 0x01
  unfolding registers enrolment_order
  register_kind = ap (λ (o : Order). kind_no o.kind) (register_order_fit registers (length a.certificate) register_lengths)

  pub register_certificate : certificate_length (register_ordered a said) ≡ length a.certificate
  unfolding registers enrolment_order
  register_certificate = ap certificate_length (register_order_fit registers (length a.certificate) register_lengths)

  pub register_of_layout : is_of_layout (register_ordered a said) ≡ true
  unfolding registers enrolment_order
  register_of_layout = made_of_layout.0 registers (length a.certificate) (register_fit registers register_lengths)

  pub register_room_lem : room_needed (register_ordered a said) ≡ register_room (length a.new_handle) (length a.certificate)
  unfolding registers enrolment_order
  register_room_lem = room_of_made.0 registers (length a.certificate) (register_fit registers register_lengths)

-- ---- the order of an Authenticate
module _ (a : Inputs) (p1 : ℕ) (said : Says) (present : Bool) (n : ℕ) (c : command_of a.frame ≡ Gives (Authenticate p1 said)) where
  fields : AuthenticateFields
  fields = record { application = application_of a.frame said; presence = presence_byte present; counter = bytes4 n; challenge = challenge_of a.frame said }

  small : (b : Bool) → presence_byte b ≤ 1
  small true = omega arith
  small false = omega arith

  lengths : AuthenticateLengths fields
  unfolding fields
  lengths = let parts = Command'.AuthenticateParts a.frame p1 said c in record { application = parts.2; presence = small present; counter = refl; challenge = parts.1 }

  pub kind_is : kind_no (authenticate_ordered a said present n).kind ≡ 0x02
  unfolding fields
  kind_is = ap (λ (o : Order). kind_no o.kind) (authenticate_order_fit fields lengths)

  pub certificate_is : certificate_length (authenticate_ordered a said present n) ≡ 0
  unfolding fields
  certificate_is = ap certificate_length (authenticate_order_fit fields lengths)

  pub of_layout : is_of_layout (authenticate_ordered a said present n) ≡ true
  unfolding fields
  of_layout = made_of_layout.1 fields (authenticate_fit fields lengths)

  pub room_is : room_needed (authenticate_ordered a said present n) ≡ authenticate_room
  unfolding fields
  room_is = room_of_made.1 fields (authenticate_fit fields lengths)

  kept : authenticate_fields_of (authenticate_ordered a said present n).bytes ≡ fields
  unfolding fields
  kept = fields_kept.1 fields (authenticate_fit fields lengths)

  pub presence_is : byte (authenticate_ordered a said present n).bytes 32 ≡ presence_byte present
  unfolding fields
  presence_is = ap (λ (f : AuthenticateFields). f.presence) kept

  counter_kept : take 4 (drop 33 (authenticate_ordered a said present n).bytes) ≡ bytes4 n
  unfolding fields
  counter_kept = ap (λ (f : AuthenticateFields). f.counter) kept

  counter_byte : (i : ℕ) → i < 4 → byte (authenticate_ordered a said present n).bytes (33 + i) ≡ byte (bytes4 n) i
  counter_byte i h =
      let b = (authenticate_ordered a said present n).bytes in
      sym (get_or-drop 33 b i 0) ∙ sym (get_or-take 4 (drop 33 b) i 0 h) ∙ ap (λ (l : List ℕ). byte l i) counter_kept

  pub counter_is : byte (authenticate_ordered a said present n).bytes 33 * 0x1000000 + byte (authenticate_ordered a said present n).bytes 34 * 0x10000 + byte (authenticate_ordered a said present n).bytes 35 * 256 + byte (authenticate_ordered a said present n).bytes 36 ≡ n
  counter_is = omega (arith, counter_byte 0 (omega arith), counter_byte 1 (omega arith), counter_byte 2 (omega arith), counter_byte 3 (omega arith))

-- the order of P1 08 says that nobody was there
pub absent : (a : Inputs) (p1 : ℕ) (said : Says) (n : ℕ) → command_of a.frame ≡ Gives (Authenticate p1 said) → SaysPresent (authenticate_ordered a said false n) → ⊥
absent a p1 said n c (inl one) = omega (arith, kind_is a p1 said false n c)
absent a p1 said n c (inr (two, one)) = omega (arith, presence_is a p1 said false n c)
