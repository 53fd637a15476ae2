-- Where a frame goes on too long: the length of the longest part from its front that is itself in the table. One proof for every
-- entry, by the four ways to a surplus.
use Prim.Native.Nat.{ℕ, zero, suc, ◌+◌, ◌*◌, ◌<◌, ◌≤◌}
use mathlib.Core.Path.{◌≡◌, refl, ap, ap₂, sym, ◌∙◌}
use mathlib.Core.Bool.{true, false}
use mathlib.Core.List.{List, [], ◌∷◌}
use native.Mathlib.Omega.{arith}
use native.Mathlib.Decide.{ℕ_discrete}
use lib.ListN.{length, take, drop}
use lib.Seq.{length-take-le, get_or-take, take_all, take-add, drop_at}
use Rattle.octets.specs.Bytes.{byte, pair_at, AreBytes}
use Rattle.apdu_stated.specs.Words.{Case, Lc1DataLe1, Lc3Data, Lc3DataLe2, Le3}
use Rattle.apdu_stated.specs.Table.{le_read, lc_under}
use Rattle.apdu_stated.specs.Reading.{Entry, short_of, extended_of, after_data, lengths_of}
use Rattle.apdu_stated.specs.declared.Lengths.{Lengths}
use Rattle.apdu_stated.specs.declared.Lengths.TheVariants.{Found, Surplus}
use Rattle.apdu_stated.proofs.Cases
use Rattle.apdu_stated.proofs.Ways.{Way, way, none, le1, short, short_le, le3, wide, wide_le2, missing, short_surplus, le1_surplus, wide_surplus, zero_surplus}

-- ---- parts from the front

pub take_bytes : (m : ℕ) (p : List ℕ) → AreBytes p → AreBytes (take m p)
take_bytes zero p b i = omega arith
take_bytes (suc m) [] b i = omega arith
take_bytes (suc m) (x ∷ p) b zero = b 0
take_bytes (suc m) (x ∷ p) b (suc i) = take_bytes m p (λ j. b (suc j)) i

-- a front part's payload is the payload's front part
pub front_payload : (frame : List ℕ) (m : ℕ) → 4 ≤ length frame → drop 4 (take (4 + m) frame) ≡ take m (drop 4 frame)
front_payload frame m long = ap (drop 4) (take-add 4 m frame) ∙ drop_at (take 4 frame) (take m (drop 4 frame)) 4 (length-take-le 4 frame long)

-- the payload's longest front part that is found in a shape: every longer one goes on too long
pub record Front (entry : Entry) (p : List ℕ) (k : ℕ) : Type 0 where
  pub m : ℕ
  pub is : k ≡ 4 + m
  pub within : m < length p
  pub s : Case
  pub lc : ℕ
  pub le : ℕ
  pub found : Found s lc le ≡ lengths_of entry (take m p)
  pub beyond : (j : ℕ) → m < j → j ≤ length p → (place : ℕ) × (Surplus place ≡ lengths_of entry (take j p))

module _ (entry : Entry) (p : List ℕ) where
  -- what is the same in a part of m bytes
  module _ (m : ℕ) (within : m ≤ length p) where
    as_long : length (take m p) ≡ m
    as_long = length-take-le m p within

    same : (i : ℕ) → i < m → byte p i ≡ byte (take m p) i
    same i h = sym (get_or-take m p i 0 h)

    same_pair : 2 < m → pair_at p 1 ≡ byte (take m p) 1 * 256 + byte (take m p) 2
    same_pair h = ap₂ (λ (a b : ℕ). a * 256 + b) (same 1 (omega arith)) (same 2 h)

  -- a part of more than one byte of a short payload
  module _ (nz : byte p 0 ≡ 0 → ⊥) (j : ℕ) (h : 1 < j) (l : j ≤ length p) where
    first : byte p 0 ≡ byte (take j p) 0
    first = same j l 0 (omega arith)

    by_short : (x : Lengths) → x ≡ short_of (take j p) → x ≡ lengths_of entry (take j p)
    by_short x e =
        let long = as_long j l in
        Cases.lengths_short entry (take j p) x (omega arith) (omega arith) (λ z. nz (first ∙ z)) e

  short_front : (byte p 0 ≡ 0 → ⊥) → 2 + byte p 0 < length p → Front entry p (6 + byte p 0)
  short_front nz more =
      record {
        m = 2 + byte p 0;
        is = omega arith;
        within = more;
        s = Lc1DataLe1;
        lc = byte p 0;
        le = le_read 1 (byte (take (2 + byte p 0) p) (1 + byte p 0));
        found = found;
        beyond = λ j h l. (6 + byte p 0, beyond j h l);
      }
    where
      found : Found Lc1DataLe1 (byte p 0) (le_read 1 (byte (take (2 + byte p 0) p) (1 + byte p 0))) ≡ lengths_of entry (take (2 + byte p 0) p)
      found =
          by_short nz (2 + byte p 0) (omega arith) (omega arith) _
          (Cases.short_le (take (2 + byte p 0) p) (byte p 0) (byte p 0) refl (first nz (2 + byte p 0) (omega arith) (omega arith)) _ (as_long (2 + byte p 0) (omega arith)) refl)

      beyond : (j : ℕ) → 2 + byte p 0 < j → j ≤ length p → Surplus (6 + byte p 0) ≡ lengths_of entry (take j p)
      beyond j h l =
          let long = as_long j l in
          by_short nz j (omega arith) l _
          (Cases.short_surplus (take j p) (byte p 0) (byte p 0) refl (first nz j (omega arith) l) (omega arith) (omega arith) (omega arith))

  -- a part of more than three bytes of an extended payload
  module _ (z : byte p 0 ≡ 0) (j : ℕ) (l : j ≤ length p) where
    by_extended : 1 < j → (x : Lengths) → x ≡ extended_of entry (take j p) → x ≡ lengths_of entry (take j p)
    by_extended h x e =
        let long = as_long j l in
        Cases.lengths_extended entry (take j p) x (omega arith) (omega arith) (sym (same j l 0 (omega arith)) ∙ z) e

    by_after : lc_under entry (pair_at p 1) ≡ false → 3 < j → (x : Lengths) → x ≡ after_data (take j p) (pair_at p 1) → x ≡ lengths_of entry (take j p)
    by_after d h x e =
        let long = as_long j l in
        by_extended (omega arith) x (Cases.extended_after entry (take j p) (pair_at p 1) (same_pair j l (omega arith)) false (sym d) (omega arith) (omega arith) x refl e)

  wide_front : lc_under entry (pair_at p 1) ≡ false → byte p 0 ≡ 0 → 5 + pair_at p 1 < length p → Front entry p (9 + pair_at p 1)
  wide_front d z more =
      record {
        m = 5 + pair_at p 1;
        is = omega arith;
        within = more;
        s = Lc3DataLe2;
        lc = pair_at p 1;
        le = le_read 2 (byte (take (5 + pair_at p 1) p) (3 + pair_at p 1) * 256 + byte (take (5 + pair_at p 1) p) (4 + pair_at p 1));
        found =
            by_after z (5 + pair_at p 1) (omega arith) d (omega arith) _
            (Cases.after_le2 (take (5 + pair_at p 1) p) (pair_at p 1) _ _ (as_long (5 + pair_at p 1) (omega arith)) refl refl);
        beyond = λ j h l. (9 + pair_at p 1, beyond j h l);
      }
    where
      beyond : (j : ℕ) → 5 + pair_at p 1 < j → j ≤ length p → Surplus (9 + pair_at p 1) ≡ lengths_of entry (take j p)
      beyond j h l =
          let long = as_long j l in
          by_after z j l d (omega arith) _ (Cases.after_surplus (take j p) (pair_at p 1) (omega arith) (omega arith) (omega arith) (omega arith))

  -- one byte behind the data: the front part is shape 5, or shape 8 where Lc is 0
  le1_front : lc_under entry (pair_at p 1) ≡ false → byte p 0 ≡ 0 → length p ≡ 4 + pair_at p 1 → Surplus (7 + pair_at p 1) ≡ lengths_of entry p → Front entry p (7 + pair_at p 1)
  le1_front d z e is = go (ℕ_discrete (pair_at p 1) 0)
    where
      beyond : (j : ℕ) → 3 + pair_at p 1 < j → j ≤ length p → Surplus (7 + pair_at p 1) ≡ lengths_of entry (take j p)
      beyond j h l = is ∙ ap (lengths_of entry) (sym (take_all j p (omega arith)))

      front : (s : Case) (lc le : ℕ) → Found s lc le ≡ lengths_of entry (take (3 + pair_at p 1) p) → Front entry p (7 + pair_at p 1)
      front s lc le f =
          record { m = 3 + pair_at p 1; is = omega arith; within = omega arith; s = s; lc = lc; le = le; found = f; beyond = λ j h l. (7 + pair_at p 1, beyond j h l) }

      go : Dec (pair_at p 1 ≡ 0) → Front entry p (7 + pair_at p 1)
      go (yes e0) =
          let l : 3 + pair_at p 1 ≤ length p = omega arith in
          let long = as_long (3 + pair_at p 1) l in
          front Le3 0 _
          (by_extended z (3 + pair_at p 1) l (omega arith) _
          (Cases.extended_le3 entry (take (3 + pair_at p 1) p) (pair_at p 1) (same_pair (3 + pair_at p 1) l (omega arith)) _ (omega arith) refl))
      go (no some) =
          let l : 3 + pair_at p 1 ≤ length p = omega arith in
          front Lc3Data (pair_at p 1) 0
          (by_after z (3 + pair_at p 1) l d (omega arith) _ (Cases.after_plain (take (3 + pair_at p 1) p) (pair_at p 1) (as_long (3 + pair_at p 1) l)))

  -- an Lc of 0 that is in no row: the front part is shape 8, and nothing longer is in the table
  zero_front : lc_under entry (pair_at p 1) ≡ true → byte p 0 ≡ 0 → 3 < length p → Front entry p 7
  zero_front d z more =
      record {
        m = 3;
        is = refl;
        within = more;
        s = Le3;
        lc = 0;
        le = le_read 3 (pair_at p 1);
        found = by_extended z 3 (omega arith) (omega arith) _ (Cases.extended_le3 entry (take 3 p) (pair_at p 1) (same_pair 3 (omega arith) (omega arith)) _ (as_long 3 (omega arith)) refl);
        beyond = λ j h l. (7, beyond j h l);
      }
    where
      beyond : (j : ℕ) → 3 < j → j ≤ length p → Surplus 7 ≡ lengths_of entry (take j p)
      beyond j h l =
          let long = as_long j l in
          by_extended z j l (omega arith) _ (Cases.extended_lc_zero entry (take j p) (pair_at p 1) (same_pair j l (omega arith)) true (sym d) (omega arith) (omega arith) refl)

  pub surplus_front : (k : ℕ) → Surplus k ≡ lengths_of entry p → Front entry p k
  surplus_front k e = go (lengths_of entry p) (way entry p) e refl
    where
      not_found : (s : Case) (lc le : ℕ) → Surplus k ≡ Found s lc le → Front entry p k
      not_found s lc le e = let z : ◌≡◌ {A = ℕ} 0 1 = cc in absurd (omega arith)

      at : (place : ℕ) → Surplus k ≡ Surplus place → Front entry p place → Front entry p k
      at place e f = let is : k ≡ place = cc in rw is f

      go : (l : Lengths) → Way entry p l → Surplus k ≡ l → l ≡ lengths_of entry p → Front entry p k
      go _ (none h) e is = not_found _ _ _ e
      go _ (le1 h) e is = not_found _ _ _ e
      go _ (short nz h) e is = not_found _ _ _ e
      go _ (short_le nz h) e is = not_found _ _ _ e
      go _ (le3 z h) e is = not_found _ _ _ e
      go _ (wide z nz h) e is = not_found _ _ _ e
      go _ (wide_le2 d z h) e is = not_found _ _ _ e
      go _ (missing early) e is = let z : ◌≡◌ {A = ℕ} 0 1 = cc in absurd (omega arith)
      go _ (short_surplus nz h) e is = at _ e (short_front nz h)
      go _ (le1_surplus d z h) e is = at _ e (le1_front d z h is)
      go _ (wide_surplus d z h) e is = at _ e (wide_front d z h)
      go _ (zero_surplus d z h) e is = at _ e (zero_front d z h)
