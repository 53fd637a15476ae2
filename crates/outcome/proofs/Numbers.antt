-- Ways back from numbers, and what they show: a map with a way back tells its arguments apart.
use Prim.Native.Nat.{ℕ}
use mathlib.Core.Path.{◌≡◌, refl, sym, ap, ◌∙◌}
use lib.Dec.{eqb}
use Rattle.outcome.specs.Notation.{when◌then◌else◌}
use Rattle.outcome.specs.Outcome.{StatusWord, word_of, refusal_no}
use Rattle.outcome.specs.declared.ApduStatusCode.{ApduStatusCode}
use Rattle.outcome.specs.declared.ApduStatusCode.TheVariants.{Success, WrongData, WrongLength, CondUseNotSatisfied, CommandNotAllowed, IncorrectP1P2, InsInvalid, ClaInvalid, InternalException}
use Rattle.outcome.specs.declared.LengthFault.{LengthFault}
use Rattle.outcome.specs.declared.LengthFault.TheVariants.{Missing, Surplus, LcAgainstIns}
use Rattle.outcome.specs.declared.Refusal.{Refusal}
use Rattle.outcome.specs.declared.Refusal.TheVariants.{R1, R2, R3, R4, R5, R6, R7, R8}

pub one_to_one : {A B : Type 0} (f : A → B) (g : B → A) → ((a : A) → g (f a) ≡ a) → (a b : A) → f a ≡ f b → a ≡ b
one_to_one f g back a b e = sym (back a) ∙ ap g e ∙ back b

pub fault_back : (kind : ℕ) → LengthFault
fault_back kind =
    when eqb kind 1 then Missing
    else when eqb kind 2 then Surplus
    else LcAgainstIns

pub status_of : StatusWord → ApduStatusCode
status_of w =
    when eqb w.number 0x9000 then Success
    else when eqb w.number 0x6a80 then WrongData
    else when eqb w.number 0x6700 then WrongLength (fault_back w.kind) w.place
    else when eqb w.number 0x6985 then CondUseNotSatisfied
    else when eqb w.number 0x6986 then CommandNotAllowed
    else when eqb w.number 0x6a86 then IncorrectP1P2
    else when eqb w.number 0x6d00 then InsInvalid
    else when eqb w.number 0x6e00 then ClaInvalid
    else InternalException

pub status_back : (s : ApduStatusCode) → status_of (word_of s) ≡ s
unfolding status_of fault_back
status_back Success = refl
status_back WrongData = refl
status_back (WrongLength Missing place) = refl
status_back (WrongLength Surplus place) = refl
status_back (WrongLength LcAgainstIns place) = refl
status_back CondUseNotSatisfied = refl
status_back CommandNotAllowed = refl
status_back IncorrectP1P2 = refl
status_back InsInvalid = refl
status_back ClaInvalid = refl
status_back InternalException = refl

pub status_one_to_one : (a b : ApduStatusCode) → word_of a ≡ word_of b → a ≡ b
status_one_to_one = one_to_one word_of status_of status_back

pub refusal_of : ℕ → Refusal
refusal_of n =
    when eqb n 1 then R1
    else when eqb n 2 then R2
    else when eqb n 3 then R3
    else when eqb n 4 then R4
    else when eqb n 5 then R5
    else when eqb n 6 then R6
    else when eqb n 7 then R7
    else R8

pub refusal_back : (r : Refusal) → refusal_of (refusal_no r) ≡ r
unfolding refusal_of
refusal_back R1 = refl
refusal_back R2 = refl
refusal_back R3 = refl
refusal_back R4 = refl
refusal_back R5 = refl
refusal_back R6 = refl
refusal_back R7 = refl
refusal_back R8 = refl

pub refusal_one_to_one : (a b : Refusal) → refusal_no a ≡ refusal_no b → a ≡ b
refusal_one_to_one = one_to_one refusal_no refusal_of refusal_back
