-- ISO's seven cases and the reading, case by case, by either table.
use Prim.Native.Nat.{ℕ, ◌+◌, ◌-◌, ◌≤◌}
use mathlib.Core.Path.{◌≡◌, refl, ap, sym, ◌∙◌}
use mathlib.Core.Bool.{Bool, true, false, not, ◌&&◌, and-eq-true_iff}
use mathlib.Core.List.{List}
use native.Mathlib.Omega.{arith}
use borrow.Author.Tests.{le-leb, leb-true, eq-eqb, ne_eqb, eqb-true, eqb-false, not-true}
use lib.Dec.{leb, eqb}
use lib.ListN.{length, drop}
use Rattle.octets.specs.Bytes.{byte, pair_at}
use Rattle.apdu_stated.specs.Words.{Case, Instruction, Le1, Lc1Data, Lc1DataLe1, Lc3Data, Lc3DataLe2, Le3, shape_no}
use Rattle.apdu_stated.specs.Table.{le_read, lc_field}
use Rattle.outcome.specs.Outcome.{Gives}
use Rattle.apdu_stated.specs.Reading.{Entry, lengths_of, say_of, read_by}
use Rattle.apdu_stated.specs.Iso.{IsoCase, Case1, Case2S, Case3S, Case4S, Case2E, Case3E, Case4E, is_case, nc_of, lc_before, ne_of, shape_for, is_tolerated}
use Rattle.apdu_stated.specs.Terms.{saying, apdu_of, IsIso, iso_header, iso_says}
use Rattle.apdu_stated.specs.Answers.{says_of}
use Rattle.apdu_stated.specs.declared.Lengths.TheVariants.{Found}
use Rattle.apdu_stated.proofs.Cases
use Rattle.apdu_stated.proofs.Ways.{Way, none, le1, short, short_le, le3, wide, wide_le2, said_by}

-- ---- a test that is a conjunction
and_1 : (a b : Bool) → a && b ≡ true → a ≡ true
and_1 a b e = ((and-eq-true_iff a b).0 e).0

and_2 : (a b : Bool) → a && b ≡ true → b ≡ true
and_2 a b e = ((and-eq-true_iff a b).0 e).1

record ShortForm (p : List ℕ) (k : ℕ) : Type 0 where
  some : 1 ≤ length p
  not_zero : byte p 0 ≡ 0 → ⊥
  long : length p ≡ k + byte p 0

record Extended (p : List ℕ) (k : ℕ) : Type 0 where
  some : 3 ≤ length p
  marker : byte p 0 ≡ 0
  not_zero : pair_at p 1 ≡ 0 → ⊥
  long : length p ≡ k + pair_at p 1

module _ (p : List ℕ) (k : ℕ) where
  short_test : leb 1 (length p) && not (eqb (byte p 0) 0) && eqb (length p) (k + byte p 0) ≡ true → ShortForm p k
  short_test e =
      let ab = and_1 (leb 1 (length p) && not (eqb (byte p 0) 0)) (eqb (length p) (k + byte p 0)) e in
      record {
        some = leb-true 1 (length p) (and_1 (leb 1 (length p)) (not (eqb (byte p 0) 0)) ab);
        not_zero = eqb-false (byte p 0) 0 (not-true (eqb (byte p 0) 0) (and_2 (leb 1 (length p)) (not (eqb (byte p 0) 0)) ab));
        long = eqb-true (length p) (k + byte p 0) (and_2 (leb 1 (length p) && not (eqb (byte p 0) 0)) (eqb (length p) (k + byte p 0)) e);
      }

  short_holds : ShortForm p k → leb 1 (length p) && not (eqb (byte p 0) 0) && eqb (length p) (k + byte p 0) ≡ true
  short_holds s = rw (le-leb 1 (length p) s.some, ne_eqb (byte p 0) 0 s.not_zero, eq-eqb (length p) (k + byte p 0) s.long)

  extended_test : leb 3 (length p) && eqb (byte p 0) 0 && not (eqb (pair_at p 1) 0) && eqb (length p) (k + pair_at p 1) ≡ true → Extended p k
  extended_test e =
      let a = leb 3 (length p) in
      let b = eqb (byte p 0) 0 in
      let c = not (eqb (pair_at p 1) 0) in
      let d = eqb (length p) (k + pair_at p 1) in
      let abc = and_1 (a && b && c) d e in
      let ab = and_1 (a && b) c abc in
      record {
        some = leb-true 3 (length p) (and_1 a b ab);
        marker = eqb-true (byte p 0) 0 (and_2 a b ab);
        not_zero = eqb-false (pair_at p 1) 0 (not-true (eqb (pair_at p 1) 0) (and_2 (a && b) c abc));
        long = eqb-true (length p) (k + pair_at p 1) (and_2 (a && b && c) d e);
      }

  extended_holds : Extended p k → leb 3 (length p) && eqb (byte p 0) 0 && not (eqb (pair_at p 1) 0) && eqb (length p) (k + pair_at p 1) ≡ true
  extended_holds s =
      rw (le-leb 3 (length p) s.some, eq-eqb (byte p 0) 0 s.marker, ne_eqb (pair_at p 1) 0 s.not_zero, eq-eqb (length p) (k + pair_at p 1) s.long)

-- ---- of a case, so read in its shape, by both tables alike
pub record ReadIn (p : List ℕ) (c : IsoCase) : Type 0 where
  pub lc : ℕ
  pub le : ℕ
  pub nc : lc ≡ nc_of c p
  pub ne : le ≡ ne_of c p
  pub is : (entry : Entry) → Found (shape_for c) lc le ≡ lengths_of entry p
  pub iso : is_tolerated (shape_no (shape_for c)) lc ≡ false

module _ (p : List ℕ) where
  two_e : byte p 0 ≡ 0 → length p ≡ 3 → ReadIn p Case2E
  two_e z e =
      record {
        lc = 0;
        le = le_read 3 (pair_at p 1);
        nc = refl;
        ne = refl;
        is = λ entry. Cases.lengths_extended entry p _ (omega arith) (omega arith) z (Cases.extended_le3 entry p (pair_at p 1) refl _ e refl);
        iso = refl;
      }

  three_s : ShortForm p 1 → ReadIn p Case3S
  three_s s =
      record {
        lc = byte p 0;
        le = 0;
        nc = refl;
        ne = refl;
        is = λ entry. Cases.lengths_short entry p _ (omega arith) (omega (arith, s.not_zero)) s.not_zero (Cases.short_data p (byte p 0) (byte p 0) refl refl s.long);
        iso = refl;
      }

  four_s : ShortForm p 2 → ReadIn p Case4S
  four_s s =
      record {
        lc = byte p 0;
        le = le_read 1 (byte p (1 + byte p 0));
        nc = refl;
        ne = let at : 1 + byte p 0 ≡ length p - 1 = omega (arith, s.long) in ap (λ (i : ℕ). le_read 1 (byte p i)) at;
        is = λ entry. Cases.lengths_short entry p _ (omega arith) (omega arith) s.not_zero (Cases.short_le p (byte p 0) (byte p 0) refl refl _ s.long refl);
        iso = refl;
      }

  three_e : Extended p 3 → ReadIn p Case3E
  three_e s =
      record {
        lc = pair_at p 1;
        le = 0;
        nc = refl;
        ne = refl;
        is = λ entry. Cases.lengths_extended entry p _ (omega arith) (omega arith) s.marker
            (Cases.extended_after entry p (pair_at p 1) refl false (sym (Cases.has_data entry (pair_at p 1) s.not_zero)) (omega arith) (omega (arith, s.not_zero)) _ refl (Cases.after_plain p (pair_at p 1) s.long));
        iso = refl;
      }

  four_e : Extended p 5 → ReadIn p Case4E
  four_e s =
      let next : 4 + pair_at p 1 ≡ 3 + pair_at p 1 + 1 = omega arith in
      record {
        lc = pair_at p 1;
        le = le_read 2 (pair_at p (3 + pair_at p 1));
        nc = refl;
        ne = let at : 3 + pair_at p 1 ≡ length p - 2 = omega (arith, s.long) in ap (λ (i : ℕ). le_read 2 (pair_at p i)) at;
        is = λ entry. Cases.lengths_extended entry p _ (omega arith) (omega arith) s.marker
            (Cases.extended_after entry p (pair_at p 1) refl false (sym (Cases.has_data entry (pair_at p 1) s.not_zero)) (omega arith) (omega arith) _ refl
            (Cases.after_le2 p (pair_at p 1) _ (pair_at p (3 + pair_at p 1)) s.long (rw next) refl));
        iso = rw (ne_eqb (pair_at p 1) 0 s.not_zero);
      }

  pub iso_read : (c : IsoCase) → is_case c p ≡ true → ReadIn p c
  iso_read Case1 e = record { lc = 0; le = 0; nc = refl; ne = refl; is = λ entry. Cases.lengths_none entry p (eqb-true (length p) 0 e); iso = refl }
  iso_read Case2S e = record { lc = 0; le = le_read 1 (byte p 0); nc = refl; ne = refl; is = λ entry. Cases.lengths_le1 entry p _ (eqb-true (length p) 1 e) refl; iso = refl }
  iso_read Case3S e = three_s (short_test p 1 e)
  iso_read Case4S e = four_s (short_test p 2 e)
  iso_read Case2E e =
      let a = leb 1 (length p) in
      let b = eqb (byte p 0) 0 in
      let c = eqb (length p) 3 in
      two_e (eqb-true (byte p 0) 0 (and_2 a b (and_1 (a && b) c e))) (eqb-true (length p) 3 (and_2 (a && b) c e))
  iso_read Case3E e = three_e (extended_test p 3 e)
  iso_read Case4E e = four_e (extended_test p 5 e)

  -- ---- read in its shape and not tolerated, so of the case
  pub iso_back : {entry : Entry} (c : IsoCase) (lc le : ℕ) → Way entry p (Found (shape_for c) lc le) → is_tolerated (shape_no (shape_for c)) lc ≡ false → is_case c p ≡ true
  iso_back Case1 _ _ (none e) t = eq-eqb (length p) 0 e
  iso_back Case2S _ _ (le1 e) t = eq-eqb (length p) 1 e
  iso_back Case3S _ _ (short nz e) t = short_holds p 1 (record { some = omega arith; not_zero = nz; long = e })
  iso_back Case4S _ _ (short_le nz e) t = short_holds p 2 (record { some = omega arith; not_zero = nz; long = e })
  iso_back Case2E _ _ (le3 z e) t = rw (le-leb 1 (length p) (omega arith), eq-eqb (byte p 0) 0 z, eq-eqb (length p) 3 e)
  iso_back Case3E _ _ (wide z nz e) t = extended_holds p 3 (record { some = omega arith; marker = z; not_zero = nz; long = e })
  iso_back Case4E _ _ (wide_le2 d z e) t = extended_holds p 5 (record { some = omega arith; marker = z; not_zero = eqb-false (pair_at p 1) 0 t; long = e })

pub iso_said : (frame : List ℕ) (c : IsoCase) → 4 ≤ length frame → (r : ReadIn (drop 4 frame) c) (entry : Entry) → read_by entry frame ≡ Gives (said_by frame (shape_for c) r.lc r.le)
iso_said frame c long r entry = Cases.read_by_lem entry frame long ∙ ap (say_of frame) (sym (r.is entry)) ∙ Cases.say_found frame (shape_for c) r.lc r.le

-- ISO's Nc and Ne are what is said
lc_before_lem : (c : IsoCase) → lc_field (shape_for c) ≡ lc_before c
lc_before_lem Case1 = refl
lc_before_lem Case2S = refl
lc_before_lem Case3S = refl
lc_before_lem Case4S = refl
lc_before_lem Case2E = refl
lc_before_lem Case3E = refl
lc_before_lem Case4E = refl

pub says_iso : (c : IsoCase) (frame : List ℕ) → says_of (apdu_of (iso_header frame) (shape_for c) (nc_of c (drop 4 frame)) (ne_of c (drop 4 frame))) ≡ iso_says c frame
says_iso c frame = ap (λ (k : ℕ). saying (iso_header frame) (shape_no (shape_for c)) (4 + k) (nc_of c (drop 4 frame)) (ne_of c (drop 4 frame))) (lc_before_lem c)

pub iso_counts : (entry : Entry) (frame : List ℕ) (c : IsoCase) → IsIso c frame → read_by entry frame ≡ Gives (iso_says c frame)
iso_counts entry frame c i =
    let r = iso_read (drop 4 frame) c i.1 in
    iso_said frame c i.0 r entry
    ∙ λ d. Gives (saying (iso_header frame) (shape_no (shape_for c)) (4 + lc_before_lem c d) (r.nc d) (r.ne d))

-- every shape but 6 is a case's
pub case_for : (s : Case) (lc : ℕ) → is_tolerated (shape_no s) lc ≡ false → (c : IsoCase) × (shape_for c ≡ s)
case_for Instruction lc t = (Case1, refl)
case_for Le1 lc t = (Case2S, refl)
case_for Lc1Data lc t = (Case3S, refl)
case_for Lc1DataLe1 lc t = (Case4S, refl)
case_for Lc3Data lc t = (Case3E, refl)
case_for Lc3DataLe2 lc t = (Case4E, refl)
case_for Le3 lc t = (Case2E, refl)
