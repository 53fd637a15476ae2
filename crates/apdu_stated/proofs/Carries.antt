-- What a shape can carry, test by test, and which rows the strict table has, shape by shape, as the code meets it.
use Prim.Native.Nat.{ℕ, ◌<◌, ◌≤◌}
use mathlib.Core.Path.{◌≡◌, ap, sym, ◌∙◌}
use mathlib.Core.Bool.{Bool, true, false, not, ◌&&◌, and-false}
use native.Mathlib.Omega.{arith}
use native.Mathlib.Decide.{ℕ_discrete}
use borrow.Author.Tests.{le-ltb, le-leb, lt-leb, ne_eqb}
use lib.Dec.{ltb, leb, eqb}
use Rattle.apdu_stated.specs.Words.{Case}
use Rattle.apdu_stated.specs.Table.{Entry, Ordinary, Strict, lc_field, le_field, lc_least, lc_most, le_least, le_most, lc_fits, le_fits, can_carry, least_of, in_row, lc_under}
use Rattle.apdu_stated.proofs.Cases.{ordinary_has}

module _ (s : Case) (count le : ℕ) where
  pub too_few : (least : ℕ) → least ≡ lc_least s → count < least → false ≡ can_carry s count le
  unfolding lc_fits
  too_few least e h = rw (lt-leb (lc_least s) count (omega arith))

  module _ (lc_long lc_up : ℕ) (is_lc : lc_long ≡ lc_field s) (is_up : lc_up ≡ lc_most lc_long) where
    pub too_many : lc_up < count → false ≡ can_carry s count le
    unfolding lc_fits
    too_many h =
        let over : lc_most (lc_field s) < count = rw (← is_lc, ← is_up) h in
        rw (lt-leb count (lc_most (lc_field s)) over, and-false)

    -- the data fits, so that Le decides
    pub le_decides : (least le_long : ℕ) (fits : Bool) → le_long ≡ le_field s → least ≡ lc_least s → least ≤ count → count ≤ lc_up
        → fits ≡ (leb (le_least le_long) le && leb le (le_most le_long)) → fits ≡ can_carry s count le
    unfolding lc_fits le_fits
    le_decides least le_long fits is_le is_least low high e =
        let lc_high : count ≤ lc_most (lc_field s) = rw (← is_lc, ← is_up) high in
        e ∙ rw (is_le, le-leb (lc_least s) count (omega arith), le-leb count (lc_most (lc_field s)) lc_high)

-- the strict table's rows: with no Lc field, and with one
module _ (s t : Case) (n : ℕ) (same : s ≡ t) where
  row_at : (b : Bool) → b ≡ in_row Strict t n → b ≡ in_row Strict s n
  row_at b e = e ∙ ap (λ (x : Case). in_row Strict x n) (sym same)

  pub strict_no_lc : 0 ≡ least_of Strict t → true ≡ in_row Strict s n
  strict_no_lc l = row_at true (rw (← l, le-leb 0 n (omega arith)))

  pub strict_lc : 1 ≡ least_of Strict t → not (eqb n 0) ≡ in_row Strict s n
  strict_lc l = row_at (not (eqb n 0)) (rw (← l) (go (ℕ_discrete n 0)))
    where
      go : Dec (n ≡ 0) → not (eqb n 0) ≡ leb 1 n
      go (yes e) = rw e
      go (no m) = rw (ne_eqb n 0 m, le-leb 1 n (omega arith))

-- an extended Lc under row 7's least
module _ (entry : Entry) (lc : ℕ) where
  pub under_ordinary : entry ≡ Ordinary → false ≡ lc_under entry lc
  under_ordinary e = rw e (sym (ordinary_has lc))

  pub under_strict : entry ≡ Strict → eqb lc 0 ≡ lc_under entry lc
  under_strict e = rw e (go (ℕ_discrete lc 0))
    where
      go : Dec (lc ≡ 0) → eqb lc 0 ≡ ltb lc 1
      go (yes z) = rw z
      go (no m) = rw (ne_eqb lc 0 m, le-ltb lc 1 (omega arith))
