-- The claims of specs/Claims.antt, each under its own name.
use Prim.Native.Nat.{ℕ, zero, suc, ◌≤◌}
use mathlib.Core.Path.{◌≡◌, refl}
use native.Mathlib.Omega.{arith}
use Rattle.outcome.specs.Outcome.{fault_pair, no_fault, SW, wrong_length, status_no, fault_of, word_of, refusal_no, last_refusal}
use Rattle.outcome.specs.declared.ApduStatusCode.{ApduStatusCode}
use Rattle.outcome.specs.declared.ApduStatusCode.TheVariants.{Success, WrongData, WrongLength, CondUseNotSatisfied, CommandNotAllowed, IncorrectP1P2, InsInvalid, ClaInvalid, InternalException}
use Rattle.outcome.specs.declared.LengthFault.{LengthFault}
use Rattle.outcome.specs.Claims
use Rattle.outcome.specs.declared.Refusal.{Refusal}
use Rattle.outcome.specs.declared.Refusal.TheVariants.{R1, R2, R3, R4, R5, R6, R7, R8}
use Rattle.outcome.proofs.Laws.{both_are}
use Rattle.outcome.proofs.Numbers.{status_one_to_one, refusal_one_to_one}

pub StatusNumbers : Claims.StatusNumbers status_no
StatusNumbers =
    record {
      success = refl;
      wrong_data = refl;
      wrong_length = λ fault place. refl;
      no_touch = refl;
      not_allowed = refl;
      wrong_p1_p2 = refl;
      unknown_ins = refl;
      unknown_cla = refl;
      internal = refl;
    }

pub FaultExactly : Claims.FaultExactly fault_of
FaultExactly = record { missing = λ place. refl; surplus = λ place. refl; against_ins = λ place. refl; other = other }
  where
    other : (s : ApduStatusCode) → ((f : LengthFault) (place : ℕ) → s ≡ WrongLength f place → ⊥) → fault_of s ≡ fault_pair 0 0
    other Success n = refl
    other WrongData n = refl
    other (WrongLength f place) n = absurd (n f place refl)
    other CondUseNotSatisfied n = refl
    other CommandNotAllowed n = refl
    other IncorrectP1P2 n = refl
    other InsInvalid n = refl
    other ClaInvalid n = refl
    other InternalException n = refl

pub NoFaultExactly : Claims.NoFaultExactly no_fault
NoFaultExactly = refl

pub WordsExactly : Claims.WordsExactly (λ A n. SW {A = A} n) (λ A kind place. wrong_length {A = A} kind place)
WordsExactly = record { plain_is = λ A n. refl; wrong_is = λ A kind place. refl }

pub WordExactly : Claims.WordExactly status_no fault_of word_of
WordExactly = record { numbered = λ s. refl; kind = λ s. refl; place = λ s. refl }

pub RefusalNumbers : Claims.RefusalNumbers refusal_no
RefusalNumbers = record { r1 = refl; r2 = refl; r3 = refl; r4 = refl; r5 = refl; r6 = refl; r7 = refl; r8 = refl }

pub StatusOneToOne : Claims.StatusOneToOne word_of
StatusOneToOne = status_one_to_one

pub RefusalOneToOne : Claims.RefusalOneToOne refusal_no
RefusalOneToOne = refusal_one_to_one

pub RefusalRange : Claims.RefusalRange refusal_no
RefusalRange = record { within = within; each = each }
  where
    within : (r : Refusal) → (1 ≤ refusal_no r) × (refusal_no r ≤ last_refusal)
    within R1 = (omega arith, omega arith)
    within R2 = (omega arith, omega arith)
    within R3 = (omega arith, omega arith)
    within R4 = (omega arith, omega arith)
    within R5 = (omega arith, omega arith)
    within R6 = (omega arith, omega arith)
    within R7 = (omega arith, omega arith)
    within R8 = (omega arith, omega arith)

    each : (n : ℕ) → 1 ≤ n → n ≤ last_refusal → (r : Refusal) × (refusal_no r ≡ n)
    each zero low high = absurd (omega arith)
    each (suc zero) low high = (R1, refl)
    each (suc (suc zero)) low high = (R2, refl)
    each (suc (suc (suc zero))) low high = (R3, refl)
    each (suc (suc (suc (suc zero)))) low high = (R4, refl)
    each (suc (suc (suc (suc (suc zero))))) low high = (R5, refl)
    each (suc (suc (suc (suc (suc (suc zero)))))) low high = (R6, refl)
    each (suc (suc (suc (suc (suc (suc (suc zero))))))) low high = (R7, refl)
    each (suc (suc (suc (suc (suc (suc (suc (suc zero)))))))) low high = (R8, refl)
    each (suc (suc (suc (suc (suc (suc (suc (suc (suc n))))))))) low high = absurd (omega arith)

pub ResultsDetermined : Claims.ResultsDetermined
ResultsDetermined = record { status_number = λ s a b. both_are a b; fault = λ s a b. both_are a b; no_fault = both_are; refusal_number = λ r a b. both_are a b; refused = λ r a b. both_are a b; status = λ s a b. both_are a b }
