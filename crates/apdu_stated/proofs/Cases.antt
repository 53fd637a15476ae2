-- The reading's definitions, case by case, as the code meets them: the answer, from the facts that the tests showed.
-- The only file that opens these definitions; it mentions no function.
use Prim.Native.Nat.{ℕ, ◌+◌, ◌*◌, ◌<◌, ◌≤◌}
use mathlib.Core.Path.{◌≡◌, refl, sym, ◌∙◌}
use mathlib.Core.Bool.{Bool, true, false}
use mathlib.Core.List.{List}
use native.Mathlib.Omega.{arith}
use borrow.Author.Tests.{lt-ltb, le-ltb, ltb-false, eq-eqb, ne_eqb}
use lib.ListN.{length, drop}
use Rattle.outcome.specs.Outcome.{SW, Gives, missing_at, surplus_at}
use Rattle.octets.specs.Bytes.{byte, pair_at}
use Rattle.apdu_stated.specs.Words.{Case, Instruction, Le1, Lc1Data, Lc1DataLe1, Lc3Data, Lc3DataLe2, Le3, shape_no}
use Rattle.apdu_stated.specs.Table.{lc_field, le_read, le_most, le_least, by_length, least_of, lc_under}
use Rattle.apdu_stated.specs.Reading.{Entry, Ordinary, Strict, short_of, after_data, extended_of, lengths_of, header_of, say_of, read_by}
use Rattle.apdu_stated.specs.declared.Lengths.{Lengths}
use Rattle.apdu_stated.specs.declared.Lengths.TheVariants.{Found, Missing, Surplus}

module _ (long none one more : ℕ) where
  pub by_none : long ≡ 0 → none ≡ by_length long none one more
  by_none e = rw e

  pub by_one : long ≡ 1 → one ≡ by_length long none one more
  by_one e = rw e

  pub by_more : (long ≡ 0 → ⊥) → (long ≡ 1 → ⊥) → more ≡ by_length long none one more
  by_more n0 n1 = rw (ne_eqb long 0 n0, ne_eqb long 1 n1)

pub least_none : (long : ℕ) → long ≡ 0 → 0 ≡ le_least long
least_none long e = rw e

pub le_zero : (long written le : ℕ) → written ≡ 0 → le ≡ le_most long → le ≡ le_read long written
le_zero long written le z e = rw (z, e)

pub le_given : (long written : ℕ) → (written ≡ 0 → ⊥) → written ≡ le_read long written
le_given long written n = rw (ne_eqb written 0 n)

module _ (p : List ℕ) (n lc : ℕ) (is_n : n ≡ lc) (is_lc : lc ≡ byte p 0) where
  pub short_missing : length p < 1 + n → Missing ≡ short_of p
  unfolding short_of
  short_missing h = rw (lt-ltb (length p) (1 + byte p 0) (omega arith))

  pub short_data : length p ≡ 1 + n → Found Lc1Data lc 0 ≡ short_of p
  unfolding short_of
  short_data h = rw (le-ltb (length p) (1 + byte p 0) (omega arith), eq-eqb (length p) (1 + byte p 0) (omega arith), is_lc)

  pub short_le : (le : ℕ) → length p ≡ 2 + n → le ≡ le_read 1 (byte p (1 + n)) → Found Lc1DataLe1 lc le ≡ short_of p
  unfolding short_of
  short_le le h e =
      rw (le-ltb (length p) (1 + byte p 0) (omega arith), ne_eqb (length p) (1 + byte p 0) (omega arith), eq-eqb (length p) (2 + byte p 0) (omega arith), e, is_n, is_lc)

  pub short_surplus : 1 + n ≤ length p → (length p ≡ 1 + n → ⊥) → (length p ≡ 2 + n → ⊥) → Surplus (6 + n) ≡ short_of p
  unfolding short_of
  short_surplus h n1 n2 =
      rw (le-ltb (length p) (1 + byte p 0) (omega arith), ne_eqb (length p) (1 + byte p 0) (λ e. n1 (omega arith)), ne_eqb (length p) (2 + byte p 0) (λ e. n2 (omega arith)), is_n, is_lc)

module _ (p : List ℕ) (lc : ℕ) where
  pub after_missing : length p < 3 + lc → Missing ≡ after_data p lc
  unfolding after_data
  after_missing h = rw (lt-ltb (length p) (3 + lc) h)

  pub after_plain : length p ≡ 3 + lc → Found Lc3Data lc 0 ≡ after_data p lc
  unfolding after_data
  after_plain h = rw (le-ltb (length p) (3 + lc) (omega arith), eq-eqb (length p) (3 + lc) h)

  pub after_one : length p ≡ 4 + lc → Surplus (7 + lc) ≡ after_data p lc
  unfolding after_data
  after_one h = rw (le-ltb (length p) (3 + lc) (omega arith), ne_eqb (length p) (3 + lc) (omega arith), eq-eqb (length p) (4 + lc) h)

  pub after_le2 : (le field : ℕ) → length p ≡ 5 + lc → field ≡ byte p (3 + lc) * 256 + byte p (4 + lc) → le ≡ le_read 2 field → Found Lc3DataLe2 lc le ≡ after_data p lc
  unfolding after_data
  after_le2 le field h f e =
      let next : 4 + lc ≡ 3 + lc + 1 = omega arith in
      rw (le-ltb (length p) (3 + lc) (omega arith), ne_eqb (length p) (3 + lc) (omega arith), ne_eqb (length p) (4 + lc) (omega arith), eq-eqb (length p) (5 + lc) h, e, f, next)

  pub after_surplus : 3 + lc ≤ length p → (length p ≡ 3 + lc → ⊥) → (length p ≡ 4 + lc → ⊥) → (length p ≡ 5 + lc → ⊥) → Surplus (9 + lc) ≡ after_data p lc
  unfolding after_data
  after_surplus h n3 n4 n5 = rw (le-ltb (length p) (3 + lc) h, ne_eqb (length p) (3 + lc) n3, ne_eqb (length p) (4 + lc) n4, ne_eqb (length p) (5 + lc) n5)

-- an extended Lc under row 7's least: never by the ordinary table, 0 by the strict one
pub not_under : (entry : Entry) (lc : ℕ) → least_of entry Lc3DataLe2 ≤ lc → lc_under entry lc ≡ false
not_under entry lc h = le-ltb lc (least_of entry Lc3DataLe2) h

pub from_least : (entry : Entry) (lc : ℕ) → lc_under entry lc ≡ false → least_of entry Lc3DataLe2 ≤ lc
from_least entry lc e = ltb-false lc (least_of entry Lc3DataLe2) e

pub ordinary_has : (lc : ℕ) → lc_under Ordinary lc ≡ false
ordinary_has lc = not_under Ordinary lc (omega arith)

pub has_data : (entry : Entry) (lc : ℕ) → (lc ≡ 0 → ⊥) → lc_under entry lc ≡ false
has_data Ordinary lc n = ordinary_has lc
has_data Strict lc n = not_under Strict lc (omega arith)

module _ (entry : Entry) (p : List ℕ) where
  pub extended_missing : length p < 3 → Missing ≡ extended_of entry p
  unfolding extended_of
  extended_missing h = rw (lt-ltb (length p) 3 h)

  module _ (field : ℕ) (is_field : field ≡ byte p 1 * 256 + byte p 2) where
    pub extended_le3 : (le : ℕ) → length p ≡ 3 → le ≡ le_read 3 field → Found Le3 0 le ≡ extended_of entry p
    unfolding extended_of
    extended_le3 le h e = rw (le-ltb (length p) 3 (omega arith), eq-eqb (length p) 3 h, e, is_field)

    -- whether Lc is in the table
    module _ (under : Bool) (is_under : under ≡ lc_under entry field) (h : 3 ≤ length p) (n3 : length p ≡ 3 → ⊥) where
      pub extended_lc_zero : under ≡ true → Surplus 7 ≡ extended_of entry p
      unfolding extended_of
      extended_lc_zero z =
          let zero_lc : lc_under entry (pair_at p 1) ≡ true = rw (← is_field) (sym is_under ∙ z) in
          rw (le-ltb (length p) 3 h, ne_eqb (length p) 3 n3, zero_lc)

      pub extended_after : (l : Lengths) → under ≡ false → l ≡ after_data p field → l ≡ extended_of entry p
      unfolding extended_of
      extended_after l z e =
          let some : lc_under entry (pair_at p 1) ≡ false = rw (← is_field) (sym is_under ∙ z) in
          rw (le-ltb (length p) 3 h, ne_eqb (length p) 3 n3, some, e, is_field)

  pub lengths_none : length p ≡ 0 → Found Instruction 0 0 ≡ lengths_of entry p
  unfolding lengths_of
  lengths_none h = rw (eq-eqb (length p) 0 h)

  pub lengths_le1 : (le : ℕ) → length p ≡ 1 → le ≡ le_read 1 (byte p 0) → Found Le1 0 le ≡ lengths_of entry p
  unfolding lengths_of
  lengths_le1 le h e = rw (ne_eqb (length p) 0 (omega arith), eq-eqb (length p) 1 h, e)

  pub lengths_extended : (l : Lengths) → (length p ≡ 0 → ⊥) → (length p ≡ 1 → ⊥) → byte p 0 ≡ 0 → l ≡ extended_of entry p → l ≡ lengths_of entry p
  unfolding lengths_of
  lengths_extended l n0 n1 z e = rw (ne_eqb (length p) 0 n0, ne_eqb (length p) 1 n1, eq-eqb (byte p 0) 0 z, e)

  pub lengths_short : (l : Lengths) → (length p ≡ 0 → ⊥) → (length p ≡ 1 → ⊥) → (byte p 0 ≡ 0 → ⊥) → l ≡ short_of p → l ≡ lengths_of entry p
  unfolding lengths_of
  lengths_short l n0 n1 z e = rw (ne_eqb (length p) 0 n0, ne_eqb (length p) 1 n1, ne_eqb (byte p 0) 0 z, e)

pub read_under : (entry : Entry) (frame : List ℕ) → length frame < 4 → SW 0x6a80 ≡ read_by entry frame
unfolding read_by
read_under entry frame h = rw (lt-ltb (length frame) 4 h)

pub read_by_lem : (entry : Entry) (frame : List ℕ) → 4 ≤ length frame → read_by entry frame ≡ say_of frame (lengths_of entry (drop 4 frame))
unfolding read_by
read_by_lem entry frame long = rw (le-ltb (length frame) 4 long)

pub say_found : (frame : List ℕ) (s : Case) (lc le : ℕ) → say_of frame (Found s lc le) ≡ Gives (record { header = header_of frame; shape = shape_no s; data_at = 4 + lc_field s; lc = lc; le = le })
unfolding say_of
say_found frame s lc le = refl

pub say_missing : (frame : List ℕ) → say_of frame Missing ≡ missing_at (length frame)
unfolding say_of
say_missing frame = refl

pub say_surplus : (frame : List ℕ) (place : ℕ) → say_of frame (Surplus place) ≡ surplus_at place
unfolding say_of
say_surplus frame place = refl
