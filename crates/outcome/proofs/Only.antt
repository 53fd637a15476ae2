-- Only these tables meet the claims.
use Prim.Native.Nat.{ℕ}
use mathlib.Core.Path.{◌≡◌, sym, ap, ap₂, ◌∙◌}
use native.Mathlib.Omega.{arith}
use Rattle.outcome.specs.Notation.{Determines}
use Rattle.outcome.specs.Outcome.{StatusWord, FaultNumbers, Outcome}
use Rattle.outcome.specs.Claims
use Rattle.outcome.specs.declared.ApduStatusCode.{ApduStatusCode}
use Rattle.outcome.specs.declared.ApduStatusCode.TheVariants.{Success, WrongData, WrongLength, CondUseNotSatisfied, CommandNotAllowed, IncorrectP1P2, InsInvalid, ClaInvalid, InternalException}
use Rattle.outcome.specs.declared.LengthFault.{LengthFault}
use Rattle.outcome.specs.declared.LengthFault.TheVariants.{Missing, Surplus, LcAgainstIns}
use Rattle.outcome.specs.declared.Refusal.TheVariants.{R1, R2, R3, R4, R5, R6, R7, R8}

pub StatusNumbers : Determines Claims.StatusNumbers
StatusNumbers f g p q Success = p.success ∙ sym q.success
StatusNumbers f g p q WrongData = p.wrong_data ∙ sym q.wrong_data
StatusNumbers f g p q (WrongLength fault place) = p.wrong_length fault place ∙ sym (q.wrong_length fault place)
StatusNumbers f g p q CondUseNotSatisfied = p.no_touch ∙ sym q.no_touch
StatusNumbers f g p q CommandNotAllowed = p.not_allowed ∙ sym q.not_allowed
StatusNumbers f g p q IncorrectP1P2 = p.wrong_p1_p2 ∙ sym q.wrong_p1_p2
StatusNumbers f g p q InsInvalid = p.unknown_ins ∙ sym q.unknown_ins
StatusNumbers f g p q ClaInvalid = p.unknown_cla ∙ sym q.unknown_cla
StatusNumbers f g p q InternalException = p.internal ∙ sym q.internal

pub FaultExactly : Determines Claims.FaultExactly
FaultExactly f g p q s = go s
  where
    plain : (s : ApduStatusCode) → ((f : LengthFault) (place : ℕ) → s ≡ WrongLength f place → ⊥) → f s ≡ g s
    plain s n = p.other s n ∙ sym (q.other s n)

    go : (s : ApduStatusCode) → f s ≡ g s
    go (WrongLength Missing place) = p.missing place ∙ sym (q.missing place)
    go (WrongLength Surplus place) = p.surplus place ∙ sym (q.surplus place)
    go (WrongLength LcAgainstIns place) = p.against_ins place ∙ sym (q.against_ins place)
    go Success = plain Success (λ f place e. let z : ◌≡◌ {A = ℕ} 0 1 = cc in omega arith)
    go WrongData = plain WrongData (λ f place e. let z : ◌≡◌ {A = ℕ} 0 1 = cc in omega arith)
    go CondUseNotSatisfied = plain CondUseNotSatisfied (λ f place e. let z : ◌≡◌ {A = ℕ} 0 1 = cc in omega arith)
    go CommandNotAllowed = plain CommandNotAllowed (λ f place e. let z : ◌≡◌ {A = ℕ} 0 1 = cc in omega arith)
    go IncorrectP1P2 = plain IncorrectP1P2 (λ f place e. let z : ◌≡◌ {A = ℕ} 0 1 = cc in omega arith)
    go InsInvalid = plain InsInvalid (λ f place e. let z : ◌≡◌ {A = ℕ} 0 1 = cc in omega arith)
    go ClaInvalid = plain ClaInvalid (λ f place e. let z : ◌≡◌ {A = ℕ} 0 1 = cc in omega arith)
    go InternalException = plain InternalException (λ f place e. let z : ◌≡◌ {A = ℕ} 0 1 = cc in omega arith)

word : (number kind place : ℕ) → StatusWord
word number kind place = record { number = number; kind = kind; place = place }

word_is : (a b : StatusWord) → a.number ≡ b.number → a.kind ≡ b.kind → a.place ≡ b.place → a ≡ b
unfolding word
word_is a b n k p = ap₂ (λ (x y : ℕ). word x y a.place) n k ∙ ap (word b.number b.kind) p

pub WordExactly : (number : ApduStatusCode → ℕ) (fault : ApduStatusCode → FaultNumbers) → Determines (Claims.WordExactly number fault)
WordExactly number fault f g p q s =
    word_is (f s) (g s) (p.numbered s ∙ sym (q.numbered s)) (p.kind s ∙ sym (q.kind s)) (p.place s ∙ sym (q.place s))

pub NoFaultExactly : (a b : FaultNumbers) → Claims.NoFaultExactly a → Claims.NoFaultExactly b → a ≡ b
NoFaultExactly a b p q = p ∙ sym q

pub WordsExactly : (f g : (A : Type 0) → ℕ → Outcome A) (h k : (A : Type 0) → (kind place : ℕ) → Outcome A) → Claims.WordsExactly f h → Claims.WordsExactly g k
    → (A : Type 0) (n m : ℕ) → (f A n ≡ g A n) × (h A n m ≡ k A n m)
WordsExactly f g h k p q A n m = (p.plain_is A n ∙ sym (q.plain_is A n), p.wrong_is A n m ∙ sym (q.wrong_is A n m))

pub RefusalNumbers : Determines Claims.RefusalNumbers
RefusalNumbers f g p q R1 = p.r1 ∙ sym q.r1
RefusalNumbers f g p q R2 = p.r2 ∙ sym q.r2
RefusalNumbers f g p q R3 = p.r3 ∙ sym q.r3
RefusalNumbers f g p q R4 = p.r4 ∙ sym q.r4
RefusalNumbers f g p q R5 = p.r5 ∙ sym q.r5
RefusalNumbers f g p q R6 = p.r6 ∙ sym q.r6
RefusalNumbers f g p q R7 = p.r7 ∙ sym q.r7
RefusalNumbers f g p q R8 = p.r8 ∙ sym q.r8
