-- The claims are false of the wrong tables of specs/Wrong.antt.
use Prim.Native.Nat.{ℕ}
use mathlib.Core.Path.{◌≡◌, refl, ap}
use native.Mathlib.Omega.{arith}
use Rattle.outcome.specs.Claims
use Rattle.outcome.specs.Wrong
use Rattle.outcome.specs.Outcome.{StatusWord, Outcome, Word, FaultNumbers, SW, wrong_length, status_no, fault_of}
use Rattle.outcome.proofs.Laws.{word_same}
use Rattle.outcome.specs.declared.ApduStatusCode.TheVariants.{WrongData, WrongLength}
use Rattle.outcome.specs.declared.LengthFault.TheVariants.{Missing, Surplus}
use Rattle.outcome.specs.declared.Refusal.TheVariants.{R2, R4}

pub wrong_data_as_wrong_length : Claims.StatusNumbers Wrong.wrong_data_as_wrong_length → ⊥
wrong_data_as_wrong_length p = let e : ◌≡◌ {A = ℕ} 0x6700 0x6a80 = p.wrong_data in omega arith

kind_is : (a b : FaultNumbers) → a ≡ b → a.kind ≡ b.kind
kind_is a b e = ap (λ (n : FaultNumbers). n.kind) e

place_is : (a b : FaultNumbers) → a ≡ b → a.place ≡ b.place
place_is a b e = ap (λ (n : FaultNumbers). n.place) e

pub missing_as_surplus : Claims.FaultExactly Wrong.missing_as_surplus → ⊥
missing_as_surplus p = omega (arith, kind_is _ _ (p.missing 6))

pub place_one_off : Claims.FaultExactly Wrong.place_one_off → ⊥
place_one_off p = omega (arith, place_is _ _ (p.surplus 9))

pub wrong_data_with_pair : Claims.FaultExactly Wrong.wrong_data_with_pair → ⊥
wrong_data_with_pair p = omega (arith, kind_is _ _ (p.other WrongData (λ f place e. let z : ◌≡◌ {A = ℕ} 0 1 = cc in omega arith)))

pub no_fault_at7 : Claims.NoFaultExactly Wrong.no_fault_at7 → ⊥
no_fault_at7 p = omega (arith, place_is _ _ p)

word_place : (v w : StatusWord) → ◌≡◌ {A = Outcome ℕ} (Word v) (Word w) → v.place ≡ w.place
word_place v w e = ap (λ (x : StatusWord). x.place) (word_same v w e)

word_kind : (v w : StatusWord) → ◌≡◌ {A = Outcome ℕ} (Word v) (Word w) → v.kind ≡ w.kind
word_kind v w e = ap (λ (x : StatusWord). x.kind) (word_same v w e)

pub third_one_on : Claims.WordsExactly (λ A n. SW {A = A} n) Wrong.third_one_on → ⊥
third_one_on p = omega (arith, word_place _ _ (p.wrong_is ℕ 3 4))

pub kinds_swapped : Claims.WordsExactly (λ A n. SW {A = A} n) Wrong.kinds_swapped → ⊥
kinds_swapped p = omega (arith, word_kind _ _ (p.wrong_is ℕ 1 6))

pub plain_at7 : Claims.WordsExactly Wrong.plain_at7 (λ A kind place. wrong_length {A = A} kind place) → ⊥
plain_at7 p = omega (arith, word_place _ _ (p.plain_is ℕ 0x6a80))

pub word_without_pair : Claims.WordExactly status_no fault_of Wrong.pair_dropped → ⊥
word_without_pair p = omega (arith, p.place (WrongLength Missing 6))

-- missing at 6 and surplus at 6 would be one
pub pair_dropped : Claims.StatusOneToOne Wrong.pair_dropped → ⊥
pair_dropped p =
    let e : WrongLength Missing 6 ≡ WrongLength Surplus 6 = p (WrongLength Missing 6) (WrongLength Surplus 6) refl in
    let z : ◌≡◌ {A = ℕ} 0 1 = cc in omega arith

pub r6_numbered7 : Claims.RefusalNumbers Wrong.r6_numbered7 → ⊥
r6_numbered7 p = let e : ◌≡◌ {A = ℕ} 7 6 = p.r6 in omega arith

pub r4_numbered2 : Claims.RefusalOneToOne Wrong.r4_numbered2 → ⊥
r4_numbered2 p = let e : R4 ≡ R2 = p R4 R2 refl in let z : ◌≡◌ {A = ℕ} 0 1 = cc in omega arith
