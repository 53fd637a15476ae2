-- Parts of a byte string, `take n (drop a s)`: their lengths, a field found again, parts that join; and runs of zeros.
use Prim.Native.Nat.{ℕ, zero, suc, ◌+◌, ◌-◌, ◌≤◌}
use mathlib.Core.Bool.{true}
use mathlib.Core.Path.{◌≡◌, refl, sym, ap, ◌∙◌}
use mathlib.Core.List.{List, [], ◌∷◌, ◌++◌}
use native.Mathlib.Omega.{arith}
use borrow.Author.Tests.{eqb-true}
use lib.Dec.{eqb}
use lib.ListN.{length, take, drop, replicate, length-drop, length-replicate}
use native.Mathlib.Nat.{sub-zero, zero-sub, suc-sub-suc}
use lib.Seq.{length-take-le, drop-nil, take_at, drop_at, take-add, drop-drop}
use Rattle.octets.specs.Bytes.{laid, all_zero}
use Rattle.octets.proofs.Laid.{laid_fits}
use Rattle.octets.proofs.Tests.{both}

pub length_part : (a n : ℕ) (s : List ℕ) → a + n ≤ length s → length (take n (drop a s)) ≡ n
length_part a n s h = length-take-le n (drop a s) (omega (arith, length-drop a s))

-- a field of n bytes after a bytes
pub part_at : (p f q : List ℕ) (a n : ℕ) → length p ≡ a → length f ≡ n → take n (drop a (p ++ (f ++ q))) ≡ f
part_at p f q a n la ln = rw (drop_at p (f ++ q) a la) (take_at f q n ln)

-- two neighbouring parts are one
pub parts_join : (a n m : ℕ) (s : List ℕ) → take n (drop a s) ++ take m (drop (a + n) s) ≡ take (n + m) (drop a s)
parts_join a n m s = sym (take-add n m (drop a s) ∙ ap (λ (l : List ℕ). take n (drop a s) ++ take m l) (drop-drop n a s))

pub all_zero_replicate : (n : ℕ) → all_zero (replicate n 0) ≡ true
all_zero_replicate zero = refl
all_zero_replicate (suc n) = all_zero_replicate n

pub replicate_all_zero : (s : List ℕ) → all_zero s ≡ true → s ≡ replicate (length s) 0
replicate_all_zero [] e = refl
replicate_all_zero (x ∷ s) e =
    let here : (eqb x 0 ≡ true) × (all_zero s ≡ true) = both (eqb x 0) (all_zero s) e in
    rw (eqb-true x 0 here.0) (ap (λ (l : List ℕ). 0 ∷ l) (replicate_all_zero s here.1))

zeros : ℕ → List ℕ
zeros n = replicate n 0

pub drop_replicate : (n m : ℕ) → drop n (replicate {A = ℕ} m 0) ≡ replicate (m - n) 0
unfolding zeros
drop_replicate n zero = drop-nil n ∙ ap zeros (sym (zero-sub n))
drop_replicate zero (suc m) = ap zeros (sym (sub-zero (suc m)))
drop_replicate (suc n) (suc m) = drop_replicate n m ∙ ap zeros (sym (suc-sub-suc m n))

-- bytes laid over zeros
pub laid_zeros : (s : List ℕ) (m : ℕ) → length s ≤ m → laid s (replicate m 0) ≡ s ++ replicate (m - length s) 0
laid_zeros s m h =
    let long : length (replicate {A = ℕ} m 0) ≡ m = length-replicate {A = ℕ} m 0 in
    laid_fits s (replicate m 0) (omega arith) ∙ ap (λ (l : List ℕ). s ++ l) (drop_replicate (length s) m)

-- a field found again, where the string is known as a concatenation
pub field_at : (s p f q : List ℕ) (a n : ℕ) → s ≡ p ++ (f ++ q) → length p ≡ a → length f ≡ n → take n (drop a s) ≡ f
field_at s p f q a n e la ln = ap (λ (l : List ℕ). take n (drop a l)) e ∙ part_at p f q a n la ln

pub length_take_most : (n : ℕ) (s : List ℕ) → length (take n s) ≤ n
length_take_most zero s = omega arith
length_take_most (suc n) [] = omega arith
length_take_most (suc n) (x ∷ s) = let less : length (take n s) ≤ n = length_take_most n s in omega arith
