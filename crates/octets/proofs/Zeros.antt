-- The zero test: bytes or-ed together are 0 where each is; and a string is zero where its last run is, and the whole runs that reach into it.
use Prim.Native.Nat.{ℕ, zero, suc, ◌+◌, ◌-◌, ◌*◌, ◌/◌, ◌≤◌}
use mathlib.Core.Path.{◌≡◌, refl, sym, ap, ◌∙◌}
use mathlib.Core.Bool.{Bool, true, false, ◌&&◌, and_assoc, and-true, and-false}
use mathlib.Core.List.{List, [], ◌∷◌}
use native.Mathlib.Omega.{arith}
use native.Mathlib.Decide.{ℕ_discrete}
use borrow.Author.Tests.{eq-eqb, ne_eqb}
use lib.Bits.{bit_or, bit_and, or_add_and, and_le_l, and_le_r}
use lib.Dec.{eqb}
use lib.ListN.{length, take, drop}
use lib.Seq.{drop-drop}
use Rattle.std.specs.List.{fold}
use Rattle.octets.specs.Bytes.{all_zero}
use Rattle.octets.proofs.Tails.{tail_is}
use Rattle.octets.proofs.Tests.{both}

both_zero : (a b : ℕ) → eqb (bit_or a b) 0 ≡ eqb a 0 && eqb b 0
both_zero a b = go (ℕ_discrete a 0) (ℕ_discrete b 0)
  where
    sum : bit_or a b + bit_and a b ≡ a + b
    sum = or_add_and a b

    left : bit_and a b ≤ a
    left = and_le_l a b

    right : bit_and a b ≤ b
    right = and_le_r a b

    go : Dec (a ≡ 0) → Dec (b ≡ 0) → eqb (bit_or a b) 0 ≡ eqb a 0 && eqb b 0
    go (yes z) (yes y) = rw (eq-eqb a 0 z, eq-eqb b 0 y, eq-eqb (bit_or a b) 0 (omega (arith, sum)))
    go (yes z) (no n) = rw (eq-eqb a 0 z, ne_eqb b 0 n, ne_eqb (bit_or a b) 0 (λ o. n (omega (arith, sum, left))))
    go (no n) y = rw (ne_eqb a 0 n, ne_eqb (bit_or a b) 0 (λ o. n (omega (arith, sum, right))))

joined_from : (bits : ℕ) (s : List ℕ) → eqb (fold bit_or bits s) 0 ≡ eqb bits 0 && all_zero s
joined_from bits [] = sym (and-true (eqb bits 0))
joined_from bits (b ∷ s) = joined_from (bit_or bits b) s ∙ ap (λ (z : Bool). z && all_zero s) (both_zero bits b) ∙ and_assoc (eqb bits 0) (eqb b 0) (all_zero s)

joined_zero : (s : List ℕ) → eqb (fold bit_or 0 s) 0 ≡ all_zero s
joined_zero s = joined_from 0 s

split : (k : ℕ) (s : List ℕ) → all_zero s ≡ all_zero (take k s) && all_zero (drop k s)
split zero s = refl
split (suc k) [] = refl
split (suc k) (x ∷ s) = ap (λ (b : Bool). eqb x 0 && b) (split k s) ∙ sym (and_assoc (eqb x 0) (all_zero (take k s)) (all_zero (drop k s)))

module _ (s : List ℕ) (r : ℕ) where
  pub short : r ≡ fold bit_or 0 s → eqb r 0 ≡ all_zero s
  short e = ap (λ (n : ℕ). eqb n 0) e ∙ joined_zero s

  last : List ℕ
  last = take (length s - (length s - 32)) (drop (length s - 32) s)

  last_is : r ≡ fold bit_or 0 last → eqb r 0 ≡ all_zero (drop (length s - 32) s)
  unfolding last
  last_is e = ap (λ (n : ℕ). eqb n 0) e ∙ joined_zero last ∙ ap all_zero (tail_is s (length s - 32))

  pub last_not : r ≡ fold bit_or 0 (take (length s - (length s - 32)) (drop (length s - 32) s)) → (r ≡ 0 → ⊥) → false ≡ all_zero s
  unfolding last
  last_not e n =
      sym (split (length s - 32) s ∙ rw (sym (last_is e) ∙ ne_eqb r 0 n) (and-false (all_zero (take (length s - 32) s))))

  -- a later tail of a tail that is zero
  later : (k : ℕ) → length s - 32 ≤ k → all_zero (drop (length s - 32) s) ≡ true → all_zero (drop k s) ≡ true
  later k h e =
      let more = k - (length s - 32) in
      let place : length s - 32 + more ≡ k = omega arith in
      let tail = drop (length s - 32) s in
      ap (λ (i : ℕ). all_zero (drop i s)) (sym place)
      ∙ ap all_zero (sym (drop-drop more (length s - 32) s))
      ∙ (both (all_zero (take more tail)) (all_zero (drop more tail)) (sym (split more tail) ∙ e)).1

  pub whole_runs : (runs : ℕ) → r ≡ fold bit_or 0 (take (length s - (length s - 32)) (drop (length s - 32) s)) → r ≡ 0
      → runs ≡ fold bit_or 0 (take (length s / 32 * 32) s) → eqb runs 0 ≡ all_zero s
  unfolding last
  whole_runs runs e z g =
      let k = length s / 32 * 32 in
      let tail : all_zero (drop (length s - 32) s) ≡ true = sym (last_is e) ∙ eq-eqb r 0 z in
      ap (λ (n : ℕ). eqb n 0) g
      ∙ joined_zero (take k s)
      ∙ sym (and-true (all_zero (take k s)))
      ∙ sym (split k s ∙ ap (λ (b : Bool). all_zero (take k s) && b) (later k (omega arith) tail))
