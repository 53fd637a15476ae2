-- A payload that is laid out as its row says is read as that row.
use Prim.Native.Nat.{ℕ, suc, ◌+◌, ◌*◌, ◌/◌, ◌%◌, ◌<◌, ◌≤◌}
use mathlib.Core.Path.{◌≡◌, refl, ap, ap₂, sym, ◌∙◌}
use mathlib.Core.Bool.{Bool, true, false, ◌&&◌, and-false, and-eq-true_iff}
use mathlib.Core.List.{List, [], ◌∷◌, ◌++◌, append-nil}
use native.Mathlib.Omega.{arith}
use native.Mathlib.Nat.{not-suc-le-zero}
use native.Mathlib.Decide.{ℕ_discrete}
use borrow.Author.Tests.{ne_eqb, leb-true}
use lib.Dec.{leb}
use lib.ListN.{length, length-append}
use lib.Seq.{get_or-append_seam, get_or-append-add}
use Rattle.octets.specs.Bytes.{byte, bytes2}
use Rattle.apdu_stated.specs.Words.{Case, Instruction, Le1, Lc1Data, Lc1DataLe1, Lc3Data, Lc3DataLe2, Le3}
use Rattle.apdu_stated.specs.Table.{lc_field, le_field, lc_least, lc_most, le_least, le_most, lc_fits, le_fits, can_carry, le_read, lc_under, carried_by}
use Rattle.apdu_stated.specs.Reading.{Entry, Ordinary, lengths_of, after_data}
use Rattle.apdu_stated.specs.Writing.{payload_of}
use Rattle.apdu_stated.specs.declared.Lengths.{Lengths}
use Rattle.apdu_stated.specs.declared.Lengths.TheVariants.{Found}
use Rattle.apdu_stated.proofs.Cases
use Rattle.apdu_stated.proofs.Rows.{RowIn, carried_by_lem}

-- what 'can carry' says, as orders
pub record Carried (s : Case) (n le : ℕ) : Type 0 where
  pub lc_low : lc_least s ≤ n
  pub lc_high : n ≤ lc_most (lc_field s)
  pub le_low : le_least (le_field s) ≤ le
  pub le_high : le ≤ le_most (le_field s)

both : (a b : ℕ) (c d : ℕ) → leb a b && leb c d ≡ true → (a ≤ b) × (c ≤ d)
both a b c d e =
    let p = (and-eq-true_iff (leb a b) (leb c d)).0 e in
    (leb-true a b p.0, leb-true c d p.1)

pub carried : (s : Case) (n le : ℕ) → can_carry s n le ≡ true → Carried s n le
unfolding lc_fits le_fits
carried s n le e =
    let p = (and-eq-true_iff (lc_fits s n) (le_fits s le)).0 e in
    let lc = both (lc_least s) n n (lc_most (lc_field s)) p.0 in
    let l = both (le_least (le_field s)) le le (le_most (le_field s)) p.1 in
    record { lc_low = lc.0; lc_high = lc.1; le_low = l.0; le_high = l.1 }

-- the ordinary table has every row, from its own least on
pub carried_ordinary : (s : Case) (n le : ℕ) → carried_by Ordinary s n le ≡ can_carry s n le
unfolding carried_by
carried_ordinary s n le = go (can_carry s n le) refl
  where
    go : (b : Bool) → can_carry s n le ≡ b → carried_by Ordinary s n le ≡ can_carry s n le
    go true e = carried_by_lem Ordinary s n le (record { least = (carried s n le e).lc_low }) e ∙ sym e
    go false e = rw (e, and-false)

-- an Le that is written and read again
module _ (le : ℕ) (low : 1 ≤ le) where
  back : (long m : ℕ) → le_most long ≡ m → le ≤ m → 0 ≡ m % m → (le < m → le % m ≡ le) → le ≡ le_read long (le % m)
  back long m most high full under = go (ℕ_discrete le m)
    where
      go : Dec (le ≡ m) → le ≡ le_read long (le % m)
      go (yes e) = rw (ap (λ (k : ℕ). k % m) e ∙ sym full, most) e
      go (no n) =
          let same : le % m ≡ le = under (omega arith) in
          rw (same, ne_eqb le 0 (omega arith))

  pub back_1 : le ≤ 256 → le ≡ le_read 1 (le % 256)
  back_1 high = back 1 256 refl high refl (λ h. omega arith)

  pub back_2 : le ≤ 65536 → le ≡ le_read 2 (le % 65536)
  back_2 high = back 2 65536 refl high refl (λ h. omega arith)

  pub back_3 : le ≤ 65536 → le ≡ le_read 3 (le % 65536)
  back_3 high = back 3 65536 refl high refl (λ h. omega arith)

nil_is : (l : List ℕ) → length l ≤ 0 → l ≡ []
nil_is [] h = refl
nil_is (x ∷ l) h = absurd (not-suc-le-zero h)

-- the bytes behind the data, where the data stands behind three or one bytes
module _ (content : List ℕ) (a : ℕ) (rest : List ℕ) where
  behind_1 : (b : ℕ) → byte (b ∷ (content ++ a ∷ rest)) (1 + length content) ≡ a
  behind_1 b = ap (byte (b ∷ (content ++ a ∷ rest))) next ∙ get_or-append_seam content a rest 0
    where
      next : 1 + length content ≡ suc (length content)
      next = omega arith

  module _ (x y z : ℕ) where
    behind_3 : byte (x ∷ y ∷ z ∷ (content ++ a ∷ rest)) (3 + length content) ≡ a
    behind_3 = ap (byte (x ∷ y ∷ z ∷ (content ++ a ∷ rest))) next ∙ get_or-append_seam content a rest 0
      where
        next : 3 + length content ≡ suc (suc (suc (length content)))
        next = omega arith

    behind_4 : byte (x ∷ y ∷ z ∷ (content ++ a ∷ rest)) (4 + length content) ≡ byte rest 0
    behind_4 = ap (byte (x ∷ y ∷ z ∷ (content ++ a ∷ rest))) next ∙ get_or-append-add content (a ∷ rest) 1 0
      where
        next : 4 + length content ≡ suc (suc (suc (length content + 1)))
        next = omega arith

-- an extended Lc, the data, and what follows
abbrev extended_p : List ℕ → List ℕ → List ℕ
extended_p content rest = 0 ∷ length content / 256 ∷ length content % 256 ∷ (content ++ rest)

extended_row : (entry : Entry) (content rest : List ℕ) (l : Lengths) → length content ≤ 65535 → 1 ≤ length content + length rest → lc_under entry (length content) ≡ false → l ≡ after_data (extended_p content rest) (length content) → l ≡ lengths_of entry (extended_p content rest)
extended_row entry content rest l high some d e =
    let p = extended_p content rest in
    let long = length-append content rest in
    Cases.lengths_extended entry p l (omega arith) (omega arith) refl
    (Cases.extended_after entry p (length content) (omega arith) false (sym d) (omega arith) (omega arith) l refl e)

module _ (entry : Entry) (content : List ℕ) (le : ℕ) where
  row_1 : Carried Instruction (length content) le → Found Instruction (length content) le ≡ lengths_of entry (payload_of Instruction content le)
  unfolding payload_of
  row_1 k =
      let none : length content ≡ 0 = omega arith in
      let absent : le ≡ 0 = omega arith in
      ap₂ (Found Instruction) none absent ∙ Cases.lengths_none entry (content ++ []) (ap length (append-nil content) ∙ none)

  row_2 : Carried Le1 (length content) le → Found Le1 (length content) le ≡ lengths_of entry (payload_of Le1 content le)
  unfolding payload_of
  row_2 k = rw (nil_is content k.lc_high) (Cases.lengths_le1 entry (le % 256 ∷ []) le refl (back_1 le k.le_low k.le_high))

  row_8 : Carried Le3 (length content) le → Found Le3 (length content) le ≡ lengths_of entry (payload_of Le3 content le)
  unfolding payload_of
  row_8 k =
      let p : List ℕ = 0 ∷ bytes2 (le % 65536) in
      rw (nil_is content k.lc_high)
      (Cases.lengths_extended entry p (Found Le3 0 le) (omega arith) (omega arith) refl
      (Cases.extended_le3 entry p (le % 65536) (omega arith) le refl (back_3 le k.le_low k.le_high)))

  row_3 : Carried Lc1Data (length content) le → Found Lc1Data (length content) le ≡ lengths_of entry (payload_of Lc1Data content le)
  unfolding payload_of
  row_3 k =
      let p = length content ∷ (content ++ []) in
      let long : length (content ++ []) ≡ length content = ap length (append-nil content) in
      let absent : le ≡ 0 = omega arith in
      ap (Found Lc1Data (length content)) absent
      ∙ Cases.lengths_short entry p (Found Lc1Data (length content) 0) (omega arith) (omega arith) (omega arith)
      (Cases.short_data p (length content) (length content) refl refl (omega arith))

  row_4 : Carried Lc1DataLe1 (length content) le → Found Lc1DataLe1 (length content) le ≡ lengths_of entry (payload_of Lc1DataLe1 content le)
  unfolding payload_of
  row_4 k =
      let p = length content ∷ (content ++ le % 256 ∷ []) in
      let long : length (content ++ le % 256 ∷ []) ≡ length content + 1 = length-append content (le % 256 ∷ []) in
      let is_le : le ≡ le_read 1 (byte p (1 + length content)) = rw (behind_1 content (le % 256) [] (length content)) (back_1 le k.le_low k.le_high) in
      Cases.lengths_short entry p (Found Lc1DataLe1 (length content) le) (omega arith) (omega arith) (omega arith)
      (Cases.short_le p (length content) (length content) refl refl le (omega arith) is_le)

  row_5 : Carried Lc3Data (length content) le → Found Lc3Data (length content) le ≡ lengths_of entry (payload_of Lc3Data content le)
  unfolding payload_of
  row_5 k =
      let p = extended_p content [] in
      let long : length (content ++ []) ≡ length content = ap length (append-nil content) in
      let absent : le ≡ 0 = omega arith in
      ap (Found Lc3Data (length content)) absent
      ∙ extended_row entry content [] (Found Lc3Data (length content) 0) k.lc_high (omega arith) (Cases.has_data entry (length content) (omega arith)) (Cases.after_plain p (length content) (omega arith))

  row_7 : lc_under entry (length content) ≡ false → Carried Lc3DataLe2 (length content) le → Found Lc3DataLe2 (length content) le ≡ lengths_of entry (payload_of Lc3DataLe2 content le)
  unfolding payload_of
  row_7 d k =
      let p = extended_p content (bytes2 (le % 65536)) in
      let long : length (content ++ bytes2 (le % 65536)) ≡ length content + 2 = length-append content (bytes2 (le % 65536)) in
      let hi = behind_3 content (le % 65536 / 256) (le % 65536 % 256 ∷ []) 0 (length content / 256) (length content % 256) in
      let lo = behind_4 content (le % 65536 / 256) (le % 65536 % 256 ∷ []) 0 (length content / 256) (length content % 256) in
      let field : le % 65536 ≡ byte p (3 + length content) * 256 + byte p (4 + length content) = rw (hi, lo) (omega arith) in
      extended_row entry content (bytes2 (le % 65536)) (Found Lc3DataLe2 (length content) le) k.lc_high (omega arith) d
      (Cases.after_le2 p (length content) le (le % 65536) (omega arith) field (back_2 le k.le_low k.le_high))

pub row_read : (entry : Entry) (s : Case) (content : List ℕ) (le : ℕ) → RowIn entry s (length content) → Carried s (length content) le → Found s (length content) le ≡ lengths_of entry (payload_of s content le)
row_read entry Instruction content le t = row_1 entry content le
row_read entry Le1 content le t = row_2 entry content le
row_read entry Lc1Data content le t = row_3 entry content le
row_read entry Lc1DataLe1 content le t = row_4 entry content le
row_read entry Lc3Data content le t = row_5 entry content le
row_read entry Lc3DataLe2 content le t = row_7 entry content le (Cases.not_under entry (length content) t.least)
row_read entry Le3 content le t = row_8 entry content le
