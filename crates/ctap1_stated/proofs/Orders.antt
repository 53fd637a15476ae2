-- What an order is made of: the fields of the command that it answers, and what was lent beside the frame.
use Prim.Native.Nat.{ℕ}
use mathlib.Core.Path.{◌≡◌}
use mathlib.Core.Bool.{true, false}
use native.Mathlib.Omega.{arith}
use lib.Dec.{eqb}
use lib.ListN.{length}
use Rattle.outcome.specs.Outcome.{Outcome, Gives}
use Rattle.outcome.proofs.Laws.{r_gives, word_gives}
use Rattle.apdu_stated.specs.Answers.{Says}
use Rattle.command_stated.specs.Command.{Register, Authenticate, command_of, application_of, challenge_of}
use Rattle.command_stated.proofs.Laws.{RegisterParts, AuthenticateParts as authenticate_parts}
use Rattle.u2f_up_stated.specs.declared.Presence.{Presence}
use Rattle.signing_stated.specs.Layouts.{RegisterFields}
use Rattle.signing_stated.specs.Orders.{AuthenticateParts, kind_no, register_order_of, authenticate_order_for}
use Rattle.signing_stated.specs.Terms.{RegisterLengths, PartsLengths}
use Rattle.ctap1_stated.specs.Words.{Remainder, Inputs, Order, DecisionGives, Body, Ordered, Part, DecisionResult}
use Rattle.std.specs.Prelude.{Some}
use Rattle.ctap1_stated.specs.Path.{enrolment_order}
use Rattle.ctap1_stated.specs.Decision.{decision_of}
use Rattle.ctap1_stated.specs.Terms.{AreBlocks}
use Rattle.ctap1_stated.proofs.Commands
use Rattle.ctap1_stated.proofs.Ways.{Way, refused, stated, versioned, fetched, enrolled, signed_03, signed_08, way}

-- a body and an order are apart
pub body_order : (n : ℕ) → ◌≡◌ {A = Outcome DecisionGives} (Gives (Body n)) (Gives Ordered) → ⊥
body_order n e = let z : ◌≡◌ {A = ℕ} 0 1 = cc in omega arith

pub part_order : (n : ℕ) (r : Remainder) → ◌≡◌ {A = Outcome DecisionGives} (Gives (Part n r)) (Gives Ordered) → ⊥
part_order n r e = let z : ◌≡◌ {A = ℕ} 0 1 = cc in omega arith

pub part_body : (n : ℕ) (r : Remainder) (m : ℕ) → ◌≡◌ {A = Outcome DecisionGives} (Gives (Part n r)) (Gives (Body m)) → ⊥
part_body n r m e = let z : ◌≡◌ {A = ℕ} 0 1 = cc in omega arith

abbrev pub enrolment_in : Inputs → Says → RegisterFields
enrolment_in a said = record { application = application_of a.frame said; challenge = challenge_of a.frame said; handle = a.new_handle; x = a.x; y = a.y }

abbrev pub login_in : Inputs → Says → (p1 counter : ℕ) → AuthenticateParts
login_in a said p1 n = record { application = application_of a.frame said; challenge = challenge_of a.frame said; present = eqb p1 0x03; counter = n }

-- an order of this kind, for what is lent
pub data MadeOf (a : Inputs) : (kind : ℕ) → Order → Type 0 where
  of_enrolment : (said : Says) → command_of a.frame ≡ Gives (Register said) → RegisterLengths (enrolment_in a said)
      → MadeOf a 0x01 (register_order_of (enrolment_in a said) (length a.certificate))
  of_login : (p1 n : ℕ) (said : Says) → command_of a.frame ≡ Gives (Authenticate p1 said) → a.hardware.counter ≡ Some n
      → PartsLengths (login_in a said p1 n) → MadeOf a 0x02 (authenticate_order_for (login_in a said p1 n))

made_as : (a : Inputs) (k l : ℕ) (o : Order) → k ≡ l → MadeOf a l o → MadeOf a k o
made_as a k l o e m = rw e m

pub made_of : (p : Presence) (t : ℕ) (a : Inputs) → AreBlocks a → (decision_of p t a).answer ≡ Gives Ordered
    → MadeOf a (kind_no (decision_of p t a).order.kind) (decision_of p t a).order
unfolding enrolment_order
made_of p t a blocks e = go (decision_of p t a) (way p t a) e
  where
    login : (p1 n : ℕ) (said : Says) → command_of a.frame ≡ Gives (Authenticate p1 said) → PartsLengths (login_in a said p1 n)
    login p1 n said c = let parts = authenticate_parts a.frame p1 said c in record { application = parts.2; challenge = parts.1 }

    go : (r : DecisionResult) → Way p t a r → r.answer ≡ Gives Ordered → MadeOf a (kind_no r.order.kind) r.order
    go _ (refused m) x = absurd (r_gives _ _ x)
    go _ (stated m q w) x = absurd (word_gives _ _ x)
    go _ (versioned c room) x = absurd (body_order _ x)
    go _ (fetched c sent) x = absurd (part_order _ _ x)
    go _ (enrolled said y l h) x =
        let parts = RegisterParts a.frame said y.1.1 in
        made_as a _ 0x01 _ (Commands.register_kind a blocks said y.1.1 h)
        (of_enrolment said y.1.1 (record { application = parts.2; challenge = parts.1; handle = h; x = blocks.0; y = blocks.1 }))
    go _ (signed_03 said m y l k) x = made_as a _ 0x02 _ (Commands.kind_is a 0x03 said true m y.1.1) (of_login 0x03 m said y.1.1 k (login 0x03 m said y.1.1))
    go _ (signed_08 said m y k) x = made_as a _ 0x02 _ (Commands.kind_is a 0x08 said false m y.1.1) (of_login 0x08 m said y.1.1 k (login 0x08 m said y.1.1))
