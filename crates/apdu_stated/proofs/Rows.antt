-- The rows of the two tables, and what each can carry: as they are defined, and as the claims say ISO's.
use Prim.Native.Nat.{ℕ, ◌≤◌}
use mathlib.Core.Path.{◌≡◌}
use mathlib.Core.Bool.{Bool, true, false, and-eq-true_iff}
use native.Mathlib.Omega.{arith}
use borrow.Author.Tests.{le-leb, leb-true, eq-eqb}
use lib.Dec.{eqb}
use Rattle.outcome.specs.Notation.{when◌then◌else◌}
use Rattle.apdu_stated.specs.Words.{Case, Instruction, Le1, Lc1Data, Lc1DataLe1, Lc3Data, Lc3DataLe2, Le3, shape_no}
use Rattle.apdu_stated.specs.Table.{lc_field, lc_least, can_carry, least_of, in_row, carried_by}
use Rattle.apdu_stated.specs.Reading.{Entry, Ordinary, Strict}
use Rattle.apdu_stated.specs.Terms.{IsoRow}

-- a row of the entry's table, for so much data
pub record RowIn (entry : Entry) (s : Case) (lc : ℕ) : Type 0 where
  pub least : least_of entry s ≤ lc

pub in_row_lem : (entry : Entry) (s : Case) (lc : ℕ) → RowIn entry s lc → in_row entry s lc ≡ true
in_row_lem entry s lc r = le-leb (least_of entry s) lc r.least

pub row_in : (entry : Entry) (s : Case) (lc : ℕ) → in_row entry s lc ≡ true → RowIn entry s lc
row_in entry s lc e = record { least = leb-true (least_of entry s) lc e }

-- no least is over 1, and where there is no Lc field it is 0
pub least_row : (s : Case) → lc_least s ≤ 1
least_row Instruction = omega arith
least_row Le1 = omega arith
least_row Lc1Data = omega arith
least_row Lc1DataLe1 = omega arith
least_row Lc3Data = omega arith
least_row Lc3DataLe2 = omega arith
least_row Le3 = omega arith

pub least_one : (entry : Entry) (s : Case) → least_of entry s ≤ 1
least_one Ordinary s = least_row s
least_one Strict s = go (eqb (lc_field s) 0)
  where
    go : (b : Bool) → (when b then 0 else 1) ≤ 1
    go true = omega arith
    go false = omega arith

pub least_none : (entry : Entry) (s : Case) (lc : ℕ) → lc_field s ≡ 0 → lc_least s ≡ 0 → least_of entry s ≤ lc
least_none Ordinary s lc f l = omega arith
least_none Strict s lc f l = rw (eq-eqb (lc_field s) 0 f) (omega arith)

-- what a table can carry: a row, and what its shape can
pub carried_by_lem : (entry : Entry) (s : Case) (n le : ℕ) → RowIn entry s n → can_carry s n le ≡ true → carried_by entry s n le ≡ true
unfolding carried_by
carried_by_lem entry s n le a b = (and-eq-true_iff (in_row entry s n) (can_carry s n le)).1 (in_row_lem entry s n a, b)

pub carried_of : (entry : Entry) (s : Case) (n le : ℕ) → carried_by entry s n le ≡ true → RowIn entry s n × (can_carry s n le ≡ true)
unfolding carried_by
carried_of entry s n le e = let t = (and-eq-true_iff (in_row entry s n) (can_carry s n le)).0 e in (row_in entry s n t.0, t.1)

-- the strict table's rows are ISO's, shape by shape
pub iso_row : (s : Case) (lc : ℕ) → RowIn Strict s lc → IsoRow (shape_no s) lc
iso_row s lc r = record { some_data = some s r.least }
  where
    some : (s : Case) → least_of Strict s ≤ lc → 3 ≤ shape_no s → shape_no s ≤ 7 → 1 ≤ lc
    some Instruction l a b = absurd (omega arith)
    some Le1 l a b = absurd (omega arith)
    some Lc1Data l a b = l
    some Lc1DataLe1 l a b = l
    some Lc3Data l a b = l
    some Lc3DataLe2 l a b = l
    some Le3 l a b = absurd (omega arith)

pub row_iso : (s : Case) (lc : ℕ) → IsoRow (shape_no s) lc → RowIn Strict s lc
row_iso s lc r = record { least = least s r.some_data }
  where
    least : (s : Case) → (3 ≤ shape_no s → shape_no s ≤ 7 → 1 ≤ lc) → least_of Strict s ≤ lc
    least Instruction d = omega arith
    least Le1 d = omega arith
    least Lc1Data d = d (omega arith) (omega arith)
    least Lc1DataLe1 d = d (omega arith) (omega arith)
    least Lc3Data d = d (omega arith) (omega arith)
    least Lc3DataLe2 d = d (omega arith) (omega arith)
    least Le3 d = omega arith
