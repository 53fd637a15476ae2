-- The rows of the two tables against the branching reading: a row that fits gives what is read, and what is read is of a row that fits.
use Prim.Native.Nat.{ℕ, ◌+◌, ◌-◌, ◌*◌, ◌≤◌}
use mathlib.Core.Path.{◌≡◌, refl, ap, ap₂, sym, ◌∙◌}
use mathlib.Core.Bool.{true, false}
use mathlib.Core.List.{List}
use native.Mathlib.Omega.{arith}
use lib.ListN.{length, drop, length-drop}
use lib.Seq.{get_or-drop}
use Rattle.outcome.specs.Outcome.{Gives}
use Rattle.octets.specs.Bytes.{byte, pair_at}
use Rattle.apdu_stated.specs.Table.{lc_field, le_read, least_of, lc_under}
use Rattle.apdu_stated.specs.Reading.{read_by, lengths_of, say_of, after_data}
use Rattle.apdu_stated.specs.declared.Lengths.{Lengths}
use Rattle.apdu_stated.specs.declared.Lengths.TheVariants.{Found}
use Rattle.apdu_stated.proofs.Laws as Frames
use Rattle.apdu_table_stated.specs.Words.{Case, Instruction, Le1, Lc1Data, Lc1DataLe1, Lc3Data, Lc3DataLe2, Le3, shape_no, Entry, Row}
use Rattle.apdu_table_stated.specs.Rows.{numbered}
use Rattle.apdu_table_stated.specs.Trying.{lc_in, le_in, data_end, row_end, fits}
use Rattle.apdu_table_stated.specs.Answers.{says_by}
use Rattle.apdu_table_stated.proofs.Columns.{begins_known, lc_none, lc_one, lc_three, le_none, le_one, le_two, le_three, Stands, fits_of}

-- a row of an entry's table
pub data RowIs (entry : Entry) : Row → Type 0 where
  is_1 : RowIs entry (numbered 1 0 0 0)
  is_2 : RowIs entry (numbered 2 0 0 1)
  is_3 : RowIs entry (numbered 3 1 1 0)
  is_4 : RowIs entry (numbered 4 1 1 1)
  is_5 : RowIs entry (numbered 5 3 1 0)
  is_7 : RowIs entry (numbered 7 3 (least_of entry Lc3DataLe2) 2)
  is_8 : RowIs entry (numbered 8 0 0 3)

module _ (entry : Entry) (frame : List ℕ) (long : 4 ≤ length frame) where
  pub payload_long : length (drop 4 frame) ≡ length frame - 4
  payload_long = length-drop 4 frame

  pub payload_byte : (i : ℕ) → byte (drop 4 frame) i ≡ byte frame (4 + i)
  payload_byte i = get_or-drop 4 frame i 0

  -- what is found in a row's shape is what the row says
  by_row : (r : Row) (s : Case) (lc le : ℕ) → Found s lc le ≡ lengths_of entry (drop 4 frame) → shape_no s ≡ r.number → lc_field s ≡ r.lc_field
      → lc ≡ lc_in r.lc_field frame → le ≡ le_in r.le_field (data_end r frame) frame → read_by entry frame ≡ Gives (says_by r frame)
  by_row r s lc le found n f a b = Frames.read_by_lem entry frame long ∙ ap (say_of frame) (sym found) ∙ Frames.say_found frame s lc le ∙ rw (n, f, a, b)

  pub payload_pair : pair_at (drop 4 frame) 1 ≡ pair_at frame 5
  payload_pair = ap₂ (λ (a b : ℕ). a * 256 + b) (payload_byte 1) (payload_byte 2)

  -- behind an extended Lc that the table has
  extended : byte frame 4 ≡ 0 → 8 ≤ length frame → lc_under entry (pair_at (drop 4 frame) 1) ≡ false
      → (l : Lengths) → l ≡ after_data (drop 4 frame) (pair_at (drop 4 frame) 1) → l ≡ lengths_of entry (drop 4 frame)
  extended z more u l e =
      let n = payload_long in
      Frames.lengths_extended entry (drop 4 frame) l (omega arith) (omega arith) (payload_byte 0 ∙ z)
      (Frames.extended_after entry (drop 4 frame) (pair_at (drop 4 frame) 1) refl false (sym u) (omega arith) (omega arith) l refl e)

  -- row by row: a row that fits gives what is read
  pub fit_reads : {r : Row} → RowIs entry r → fits r frame ≡ true → read_by entry frame ≡ Gives (says_by r frame)
  fit_reads {r} is e = go is (fits_of r frame e).0 (fits_of r frame e).1
    where
      n : length (drop 4 frame) ≡ length frame - 4
      n = payload_long

      p0 : byte (drop 4 frame) 0 ≡ byte frame 4
      p0 = payload_byte 0

      z : ◌≡◌ {A = ℕ} 0 (lc_in 0 frame)
      z = lc_none frame

      -- the Le byte, or the two, behind the data
      le1_at : (i d : ℕ) → 4 + i ≡ d → le_read 1 (byte (drop 4 frame) i) ≡ le_in 1 d frame
      le1_at i d h = ap (le_read 1) (payload_byte i ∙ ap (byte frame) h) ∙ le_one frame d

      le2_at : (i d : ℕ) → 4 + i ≡ d → le_read 2 (pair_at (drop 4 frame) i) ≡ le_in 2 d frame
      le2_at i d h =
          let next : 4 + (i + 1) ≡ d + 1 = omega arith in
          ap (le_read 2) (ap₂ (λ (a b : ℕ). a * 256 + b) (payload_byte i ∙ ap (byte frame) h) (payload_byte (i + 1) ∙ ap (byte frame) next)) ∙ le_two frame d

      -- the Lc of a row with one, of 00 and two
      one : 5 ≤ length frame → byte (drop 4 frame) 0 ≡ lc_in 1 frame
      one h = p0 ∙ lc_one frame h

      three : 7 ≤ length frame → pair_at (drop 4 frame) 1 ≡ lc_in 3 frame
      three h = payload_pair ∙ lc_three frame h

      go : {r : Row} → RowIs entry r → Stands r frame → row_end r frame ≡ length frame → read_by entry frame ≡ Gives (says_by r frame)
      go is_1 t e = by_row (numbered 1 0 0 0) Instruction 0 0 (Frames.lengths_none entry (drop 4 frame) (omega (arith, n, z, p0))) refl refl z (le_none frame _)
      go is_2 t e = by_row (numbered 2 0 0 1) Le1 0 _ (Frames.lengths_le1 entry (drop 4 frame) _ (omega (arith, n, z, p0)) refl) refl refl z (le1_at 0 _ (omega (arith, n, z, p0)))
      go is_3 t e =
          let l = one (omega (arith, n, z, p0)) in
          by_row (numbered 3 1 1 0) Lc1Data (byte (drop 4 frame) 0) 0
          (Frames.lengths_short entry (drop 4 frame) _ (omega (arith, n, z, p0)) (omega (arith, n, z, p0)) (omega (arith, n, z, p0))
          (Frames.payload_short (drop 4 frame) (byte (drop 4 frame) 0) _ refl refl (omega (arith, n, z, p0))))
          refl refl l (le_none frame _)
      go is_4 t e =
          let l = one (omega (arith, n, z, p0)) in
          by_row (numbered 4 1 1 1) Lc1DataLe1 (byte (drop 4 frame) 0) _
          (Frames.lengths_short entry (drop 4 frame) _ (omega (arith, n, z, p0)) (omega (arith, n, z, p0)) (omega (arith, n, z, p0))
          (Frames.payload_short_le (drop 4 frame) (byte (drop 4 frame) 0) _ refl refl _ (omega (arith, n, z, p0)) refl))
          refl refl l (le1_at (1 + byte (drop 4 frame) 0) _ (omega (arith, n, z, p0)))
      go is_5 t e =
          let l = three (omega (arith, n, z, p0)) in
          by_row (numbered 5 3 1 0) Lc3Data (pair_at (drop 4 frame) 1) 0
          (extended (begins_known 3 4 frame t.begin refl (omega (arith, n, z, p0))) (omega (arith, n, z, p0)) (Frames.has_data entry _ (omega (arith, n, z, p0))) _
          (Frames.after_plain (drop 4 frame) _ (omega (arith, n, z, p0))))
          refl refl l (le_none frame _)
      go is_7 t e =
          let l = three (omega (arith, n, z, p0)) in
          let least : least_of entry Lc3DataLe2 ≤ pair_at (drop 4 frame) 1 = rw l t.least in
          let next : 4 + pair_at (drop 4 frame) 1 ≡ 3 + pair_at (drop 4 frame) 1 + 1 = omega (arith, n, z, p0) in
          by_row (numbered 7 3 (least_of entry Lc3DataLe2) 2) Lc3DataLe2 (pair_at (drop 4 frame) 1) _
          (extended (begins_known 3 4 frame t.begin refl (omega (arith, n, z, p0))) (omega (arith, n, z, p0)) (Frames.not_under entry _ least) _
          (Frames.after_le2 (drop 4 frame) _ _ (pair_at (drop 4 frame) (3 + pair_at (drop 4 frame) 1)) (omega (arith, n, z, p0)) (rw next) refl))
          refl refl l (le2_at (3 + pair_at (drop 4 frame) 1) _ (omega (arith, n, z, p0)))
      go is_8 t e =
          let b : byte frame 4 ≡ 0 = ap (byte frame) (omega (arith, n, z, p0)) ∙ begins_known 3 (4 + 0 + lc_in 0 frame) frame t.le_begin refl (omega (arith, n, z, p0)) in
          let at : pair_at frame 5 ≡ pair_at frame (4 + 0 + lc_in 0 frame + 1) = ap (pair_at frame) (omega (arith, n, z, p0)) in
          by_row (numbered 8 0 0 3) Le3 0 _
          (Frames.lengths_extended entry (drop 4 frame) _ (omega (arith, n, z, p0)) (omega (arith, n, z, p0)) (p0 ∙ b) (Frames.extended_le3 entry (drop 4 frame) (pair_at (drop 4 frame) 1) refl _ (omega (arith, n, z, p0)) refl))
          refl refl z (ap (le_read 3) (payload_pair ∙ at) ∙ le_three frame _)
