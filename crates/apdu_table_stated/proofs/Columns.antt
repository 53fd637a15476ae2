-- A row's columns against a frame: each test of specs/Trying.antt from plain facts, and the facts back from it. The only file that opens these
-- definitions; it mentions no function.
use Prim.Native.Nat.{ℕ, ◌+◌, ◌<◌, ◌≤◌}
use mathlib.Core.Path.{◌≡◌, refl, sym, ◌∙◌}
use mathlib.Core.Bool.{Bool, true, false, not, ◌&&◌, ◌||◌, true≢false}
use mathlib.Core.List.{List}
use mathlib.Core.Logic.{◌⊎◌, inl, inr}
use native.Mathlib.Omega.{arith}
use native.Mathlib.Decide.{ℕ_discrete}
use borrow.Author.Tests.{lt-ltb, le-ltb, ltb-true, le-leb, lt-leb, leb-true, eq-eqb, ne_eqb, eqb-true}
use lib.ListN.{length}
use lib.Dec.{leb, ltb, eqb}
use Rattle.outcome.specs.Notation.{when◌then◌else◌}
use Rattle.octets.specs.Bytes.{byte, pair_at}
use Rattle.octets.proofs.Laws.{both}
use Rattle.apdu_stated.specs.Table.{le_read}
use Rattle.apdu_table_stated.specs.Words.{Row}
use Rattle.apdu_table_stated.specs.Trying.{is_row, begins, lc_in, le_in, data_end, row_end, opens, stands, fits, ends_early, claimed}

-- ---- a bool by its tests
pub join : (a b : Bool) → a ≡ true → b ≡ true → (a && b) ≡ true
join a b e f = rw (e, f)

pub either : (a b : Bool) → (a || b) ≡ true → (a ≡ true) ⊎ (b ≡ true)
either true b e = inl refl
either false b e = inr e

pub known : (a : Bool) → Dec (a ≡ true)
known true = yes refl
known false = no (λ e. true≢false (sym e))

pub is_false : (a : Bool) → (a ≡ true → ⊥) → a ≡ false
is_false true n = absurd (n refl)
is_false false n = refl

-- ---- the first byte of a field of three
module _ (long place : ℕ) (frame : List ℕ) where
  pub begins_other : (long ≡ 3 → ⊥) → begins long place frame ≡ true
  unfolding begins
  begins_other n = rw (ne_eqb long 3 n)

  pub begins_past : length frame ≤ place → begins long place frame ≡ true
  unfolding begins
  begins_past h = go (eqb long 3)
    where
      go : (b : Bool) → (not b || leb (length frame) place || eqb (byte frame place) 0) ≡ true
      go false = refl
      go true = rw (le-leb (length frame) place h)

  pub begins_zero : byte frame place ≡ 0 → begins long place frame ≡ true
  unfolding begins
  begins_zero z = go (eqb long 3) (leb (length frame) place)
    where
      go : (b c : Bool) → (not b || c || eqb (byte frame place) 0) ≡ true
      go false c = refl
      go true true = refl
      go true false = eq-eqb (byte frame place) 0 z

  pub begins_known : begins long place frame ≡ true → long ≡ 3 → place < length frame → byte frame place ≡ 0
  unfolding begins
  begins_known e is h = eqb-true (byte frame place) 0 (simp (eq-eqb long 3 is, lt-leb (length frame) place h) at e)

-- ---- Lc and Le
module _ (frame : List ℕ) where
  pub lc_none : 0 ≡ lc_in 0 frame
  unfolding lc_in
  lc_none = go (ltb (length frame) 4)
    where
      go : (b : Bool) → ◌≡◌ {A = ℕ} 0 (when b then 0 else 0)
      go true = refl
      go false = refl

  pub lc_one : 5 ≤ length frame → byte frame 4 ≡ lc_in 1 frame
  unfolding lc_in
  lc_one h = rw (le-ltb (length frame) 5 h)

  pub lc_three : 7 ≤ length frame → pair_at frame 5 ≡ lc_in 3 frame
  unfolding lc_in
  lc_three h = rw (le-ltb (length frame) 7 h)

  module _ (place : ℕ) where
    pub le_none : 0 ≡ le_in 0 place frame
    unfolding le_in
    le_none = refl

    pub le_one : le_read 1 (byte frame place) ≡ le_in 1 place frame
    unfolding le_in
    le_one = refl

    pub le_two : le_read 2 (pair_at frame place) ≡ le_in 2 place frame
    unfolding le_in
    le_two = refl

    pub le_three : le_read 3 (pair_at frame (place + 1)) ≡ le_in 3 place frame
    unfolding le_in
    le_three = refl

-- ---- a row's tests
pub data IsLc : ℕ → Type 0 where
  lc_0 : IsLc 0
  lc_1 : IsLc 1
  lc_3 : IsLc 3

pub data IsLe : ℕ → Type 0 where
  le_0 : IsLe 0
  le_1 : IsLe 1
  le_2 : IsLe 2
  le_3 : IsLe 3

lc_known : (n : ℕ) → (eqb n 0 || eqb n 1 || eqb n 3) ≡ true → IsLc n
lc_known n e = go (either (eqb n 0 || eqb n 1) (eqb n 3) e)
  where
    first : (eqb n 0 ≡ true) ⊎ (eqb n 1 ≡ true) → IsLc n
    first (inl i) = rw (eqb-true n 0 i) lc_0
    first (inr i) = rw (eqb-true n 1 i) lc_1

    go : ((eqb n 0 || eqb n 1) ≡ true) ⊎ (eqb n 3 ≡ true) → IsLc n
    go (inl h) = first (either (eqb n 0) (eqb n 1) h)
    go (inr h) = rw (eqb-true n 3 h) lc_3

pub le_most_lem : {n : ℕ} → IsLe n → n ≤ 3
le_most_lem le_0 = omega arith
le_most_lem le_1 = omega arith
le_most_lem le_2 = omega arith
le_most_lem le_3 = omega arith

pub le_known : (n : ℕ) → n ≤ 3 → IsLe n
le_known n h = go (ℕ_discrete n 0) (ℕ_discrete n 1) (ℕ_discrete n 2)
  where
    go : Dec (n ≡ 0) → Dec (n ≡ 1) → Dec (n ≡ 2) → IsLe n
    go (yes e) b c = rw e le_0
    go (no n0) (yes e) c = rw e le_1
    go (no n0) (no n1) (yes e) = rw e le_2
    go (no n0) (no n1) (no n2) = let e : n ≡ 3 = omega arith in rw e le_3

module _ (r : Row) where
  lc_test : Bool
  lc_test = eqb r.lc_field 0 || eqb r.lc_field 1 || eqb r.lc_field 3

  pub row_lc : is_row r ≡ true → IsLc r.lc_field
  unfolding lc_test
  row_lc e = lc_known r.lc_field (both lc_test (leb r.le_field 3) e).0

  pub row_le : is_row r ≡ true → IsLe r.le_field
  unfolding lc_test
  row_le e = le_known r.le_field (leb-true r.le_field 3 (both lc_test (leb r.le_field 3) e).1)

  pub of_fields : IsLc r.lc_field → IsLe r.le_field → is_row r ≡ true
  of_fields a b = join _ _ (lc_is r.lc_field a) (le-leb r.le_field 3 (le_most_lem b))
    where
      lc_is : (n : ℕ) → IsLc n → (eqb n 0 || eqb n 1 || eqb n 3) ≡ true
      lc_is _ lc_0 = refl
      lc_is _ lc_1 = refl
      lc_is _ lc_3 = refl

-- a row that can begin as the frame does
pub record Opens (r : Row) (frame : List ℕ) : Type 0 where
  pub is_row : is_row r ≡ true
  pub begin : begins r.lc_field 4 frame ≡ true

-- a row that stands at the frame's front
pub record Stands (r : Row) (frame : List ℕ) : Type 0 where
  pub is_row : is_row r ≡ true
  pub begin : begins r.lc_field 4 frame ≡ true
  pub least : r.lc_least ≤ lc_in r.lc_field frame
  pub within : row_end r frame ≤ length frame
  pub le_begin : begins r.le_field (data_end r frame) frame ≡ true

module _ (r : Row) (frame : List ℕ) where
  pub opens_of : opens r frame ≡ true → Opens r frame
  unfolding opens
  opens_of e = let b = both (is_row r) (begins r.lc_field 4 frame) e in record { is_row = b.0; begin = b.1 }

  pub of_opens : is_row r ≡ true → begins r.lc_field 4 frame ≡ true → opens r frame ≡ true
  unfolding opens
  of_opens a b = join (is_row r) (begins r.lc_field 4 frame) a b

  pub stands_of : stands r frame ≡ true → Stands r frame
  unfolding stands
  stands_of e =
      let a = leb r.lc_least (lc_in r.lc_field frame) in
      let b = leb (row_end r frame) (length frame) in
      let t3 = both (opens r frame && a && b) (begins r.le_field (data_end r frame) frame) e in
      let t2 = both (opens r frame && a) b t3.0 in
      let t1 = both (opens r frame) a t2.0 in
      let o = opens_of t1.0 in
      record { is_row = o.is_row; begin = o.begin; least = leb-true _ _ t1.1; within = leb-true _ _ t2.1; le_begin = t3.1 }

  pub of_stands : Stands r frame → stands r frame ≡ true
  unfolding stands
  of_stands s =
      join _ _ (join _ _ (join _ _ (of_opens s.is_row s.begin) (le-leb _ _ s.least)) (le-leb _ _ s.within)) s.le_begin

  -- a row that fits
  pub fits_of : fits r frame ≡ true → Stands r frame × (row_end r frame ≡ length frame)
  fits_of e = let b = both (stands r frame) (eqb (row_end r frame) (length frame)) e in (stands_of b.0, eqb-true _ _ b.1)

  pub of_fits : Stands r frame → row_end r frame ≡ length frame → fits r frame ≡ true
  of_fits s e = join _ _ (of_stands s) (eq-eqb _ _ e)

  -- a row in which the frame ends early
  pub early_of : ends_early r frame ≡ true → Opens r frame × (length frame < data_end r frame)
  early_of e = let b = both (opens r frame) (ltb (length frame) (data_end r frame)) e in (opens_of b.0, ltb-true _ _ b.1)

  pub of_early : Opens r frame → length frame < data_end r frame → ends_early r frame ≡ true
  of_early o h = join _ _ (of_opens o.is_row o.begin) (lt-ltb _ _ h)

  -- what a row claims
  pub claimed_stands : stands r frame ≡ true → claimed r frame ≡ row_end r frame
  claimed_stands e = rw e

  pub claimed_not : stands r frame ≡ false → claimed r frame ≡ 0
  claimed_not e = rw e

  pub claimed_most : (k : ℕ) → (Stands r frame → row_end r frame ≤ k) → claimed r frame ≤ k
  claimed_most k h = go (known (stands r frame))
    where
      go : Dec (stands r frame ≡ true) → claimed r frame ≤ k
      go (yes e) = rw e (h (stands_of e))
      go (no n) = rw (is_false (stands r frame) n) (omega arith)

  -- a row that claims a whole frame fits it
  pub claimed_all : 0 < length frame → claimed r frame ≡ length frame → fits r frame ≡ true
  claimed_all some e = go (known (stands r frame))
    where
      go : Dec (stands r frame ≡ true) → fits r frame ≡ true
      go (yes s) = of_fits (stands_of s) (sym (claimed_stands s) ∙ e)
      go (no n) = let z = claimed_not (is_false (stands r frame) n) in absurd (omega arith)
