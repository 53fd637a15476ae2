-- The definitions case by case, as the code meets them: the answer, from the facts that the tests showed. It mentions no function.
use Prim.Native.Nat.{ℕ, ◌<◌, ◌≤◌}
use mathlib.Core.Path.{◌≡◌, sym, ◌∙◌}
use mathlib.Core.Bool.{Bool, true, false}
use mathlib.Core.List.{List}
use native.Mathlib.Omega.{arith}
use native.Mathlib.Decide.{dec_lt}
use lib.ListN.{length, drop}
use Rattle.apdu_table_stated.specs.Words.{Row, Tried, Ok, Err, UnderFour}
use Rattle.apdu_table_stated.specs.Rows.{rows_of}
use Rattle.apdu_table_stated.specs.Trying.{row_end, fits, in_turn, tried_of}
use Rattle.apdu_table_stated.proofs.Columns
use Rattle.apdu_table_stated.proofs.Turns.{Turn, chosen, short, past_all, turn, chosen_fits}
use Rattle.apdu_table_stated.proofs.Agreement.{tried_short, tried_turn}

-- ---- the rows in turn
-- where the loop stands: the rows from place i on, and what those before came to
pub record At (table : List (List ℕ)) (frame : List ℕ) (i : ℕ) (early : Bool) (most : ℕ) : Type 0 where
  pub within : i ≤ length table
  pub same : in_turn (rows_of (drop i table)) frame early most ≡ in_turn (rows_of table) frame false 0

-- ---- the answers
module _ (rows : List Row) (frame : List ℕ) (t : Tried) (is_t : t ≡ tried_of rows frame) where
  -- the row that was found fits: its fields are small, and it ends where the frame does
  found_fits : (r : Row) → t ≡ Ok r → fits r frame ≡ true
  found_fits r e = go (dec_lt (length frame) 4)
    where
      by : (u : Tried) → Turn rows frame false 0 u → Ok r ≡ u → fits r frame ≡ true
      by _ (chosen x c) q = let same : r ≡ x = cc in rw same (chosen_fits c)
      by _ (short a b) q = let z : ◌≡◌ {A = ℕ} 0 1 = cc in absurd (omega arith)
      by _ (past_all k a b c d f g) q = let z : ◌≡◌ {A = ℕ} 0 1 = cc in absurd (omega arith)

      go : Dec (length frame < 4) → fits r frame ≡ true
      go (yes h) = let q : Ok r ≡ Err UnderFour = sym e ∙ is_t ∙ tried_short rows frame h in let z : ◌≡◌ {A = ℕ} 0 1 = cc in absurd (omega arith)
      go (no h) = by (in_turn rows frame false 0) (turn rows frame false 0) (sym e ∙ is_t ∙ tried_turn rows frame (omega arith))

  pub found_lc : (r : Row) → t ≡ Ok r → r.lc_field ≤ 3
  found_lc r e = small (Columns.row_lc r (Columns.fits_of r frame (found_fits r e)).0.is_row)
    where
      small : {k : ℕ} → Columns.IsLc k → k ≤ 3
      small Columns.lc_0 = omega arith
      small Columns.lc_1 = omega arith
      small Columns.lc_3 = omega arith

  pub found_le : (r : Row) → t ≡ Ok r → r.le_field ≤ 3
  found_le r e = Columns.le_most_lem (Columns.row_le r (Columns.fits_of r frame (found_fits r e)).0.is_row)

  pub found_end : (r : Row) → t ≡ Ok r → row_end r frame ≡ length frame
  found_end r e = (Columns.fits_of r frame (found_fits r e)).1
