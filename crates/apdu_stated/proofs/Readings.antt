-- Every answer of a reading, each exactly when, by either table: the theorems on both entries at once.
use Prim.Native.Nat.{ℕ, ◌+◌, ◌-◌, ◌<◌, ◌≤◌}
use mathlib.Core.Path.{◌≡◌, refl, ap, sym, subst, ◌∙◌}
use mathlib.Core.Bool.{true, false}
use mathlib.Core.List.{List}
use native.Mathlib.Omega.{arith}
use native.Mathlib.Decide.{dec_lt}
use lib.ListN.{length, take, drop, length-drop}
use lib.Seq.{take-length, length-take-le}
use Rattle.outcome.specs.Outcome.{StatusWord, Outcome, Word, SW, Gives, plain_word, missing_at, surplus_at}
use Rattle.outcome.specs.Terms.{PairsExactly, HasStatus}
use Rattle.outcome.proofs.Laws.{word_same, gives_same, word_gives}
use Rattle.octets.specs.Bytes.{AreBytes, byte, pair_at}
use Rattle.apdu_stated.specs.Words.{ApduHeader, Case, shape_no}
use Rattle.apdu_stated.specs.Answers.{Says}
use Rattle.apdu_stated.specs.Table.{lc_field, lc_least}
use Rattle.apdu_stated.specs.Reading.{Entry, Ordinary, Strict, read_by, lengths_of, say_of, data_of}
use Rattle.apdu_stated.specs.Iso.{IsoCase, is_case, shape_for, is_tolerated}
use Rattle.apdu_stated.specs.declared.Lengths.{Lengths}
use Rattle.apdu_stated.specs.declared.Lengths.TheVariants.{Found, Missing, Surplus}
use Rattle.apdu_stated.specs.Writing.{Parts}
use Rattle.apdu_stated.specs.Terms.{frame_with, saying, InTable, IsoRow, LongestFront, EndsEarly, in_lc, in_short_data, in_extended_data}
use Rattle.apdu_stated.specs.Claims
use Rattle.apdu_stated.proofs.Cases
use Rattle.apdu_stated.proofs.Ways.{TableOf, Way, way, none, le1, short, short_le, le3, wide, wide_le2, missing, short_surplus, le1_surplus, wide_surplus, zero_surplus, way_takes, said_by, FrameWay, under, found, ends, goes_on, frame_way}
use Rattle.apdu_stated.proofs.Places.{take_bytes, front_payload, Front, surplus_front}
use Rattle.apdu_stated.proofs.LaidOut.{carried}
use Rattle.apdu_stated.proofs.IsoCases.{iso_read, iso_said, iso_back, case_for}
use Rattle.apdu_stated.proofs.Frames.{Built, said, payload_bytes, in_table, table_read, table_cut}
use Rattle.apdu_stated.proofs.Entries.{built_entry, entry_built}
use Rattle.apdu_stated.proofs.Numbers.{shape_same}
use Rattle.apdu_stated.proofs.Rows.{RowIn, iso_row, row_iso}

-- ---- two status words that are one: number, kind and place
pub number_is : (v w : StatusWord) → ◌≡◌ {A = Outcome Says} (Word v) (Word w) → v.number ≡ w.number
number_is v w e = ap (λ (y : StatusWord). y.number) (word_same v w e)

pub kind_is : (v w : StatusWord) → ◌≡◌ {A = Outcome Says} (Word v) (Word w) → v.kind ≡ w.kind
kind_is v w e = ap (λ (y : StatusWord). y.kind) (word_same v w e)

pub place_is : (v w : StatusWord) → ◌≡◌ {A = Outcome Says} (Word v) (Word w) → v.place ≡ w.place
place_is v w e = ap (λ (y : StatusWord). y.place) (word_same v w e)

-- ---- reading is the table: of both entries at once
-- an entry's table is document 01's, and a row that the entry has
module _ (entry : Entry) (frame content : List ℕ) (says : Says) where
  pub table_of : TableOf entry frame says content → InTable frame says content
  table_of = go entry
    where
      go : (entry : Entry) → TableOf entry frame says content → InTable frame says content
      go Ordinary i = i
      go Strict i = i.table

  pub row_of : TableOf entry frame says content → (s : Case) → shape_no s ≡ says.shape → lc_least s ≤ says.lc → RowIn entry s says.lc
  row_of = go entry
    where
      go : (entry : Entry) → TableOf entry frame says content → (s : Case) → shape_no s ≡ says.shape → lc_least s ≤ says.lc → RowIn entry s says.lc
      go Ordinary i s e low = record { least = low }
      go Strict i s e low = row_iso s says.lc (subst (λ (n : ℕ). IsoRow n says.lc) (sym e) i.row)

  pub in_table_of : (s : Case) → says.shape ≡ shape_no s → RowIn entry s says.lc → InTable frame says content → TableOf entry frame says content
  in_table_of = go entry
    where
      go : (entry : Entry) → (s : Case) → says.shape ≡ shape_no s → RowIn entry s says.lc → InTable frame says content → TableOf entry frame says content
      go Ordinary s e h i = i
      go Strict s e h i = record { table = i; row = subst (λ (n : ℕ). IsoRow n says.lc) (sym e) (iso_row s says.lc h) }

-- what was laid out has at least its row's least data
pub low_of : (frame : List ℕ) (w : Parts) → Built frame w → lc_least w.shape ≤ length w.content
low_of frame w t = (carried w.shape (length w.content) w.le t.carried).lc_low

pub reads_entry : (entry : Entry) (frame content : List ℕ) (says : Says) → TableOf entry frame says content → read_by entry frame ≡ Gives says
reads_entry entry frame content says i =
    let f = entry_built (table_of entry frame content says i) in
    let lc : length f.parts.content ≡ says.lc = ap (λ (x : Says). x.lc) f.same in
    let low : lc_least f.parts.shape ≤ says.lc = subst (λ (n : ℕ). lc_least f.parts.shape ≤ n) lc (low_of frame f.parts f.built) in
    let row = row_of entry frame content says i f.parts.shape (ap (λ (x : Says). x.shape) f.same) low in
    table_read entry frame f.parts f.built (subst (RowIn entry f.parts.shape) (sym lc) row) ∙ ap Gives f.same

pub entry_read : (entry : Entry) (frame : List ℕ) → AreBytes (drop 4 frame) → 4 ≤ length frame → (s : Case) (lc le : ℕ) → Found s lc le ≡ lengths_of entry (drop 4 frame)
    → (content : List ℕ) × TableOf entry frame (said_by frame s lc le) content
entry_read entry frame bytes long s lc le f =
    let t = in_table entry frame bytes long s lc le f in
    let i : InTable frame (said_by frame s lc le) t.0.content = subst (λ (x : Says). InTable frame x t.0.content) (sym t.2) (built_entry frame t.0 t.1) in
    (t.0.content, in_table_of entry frame t.0.content (said_by frame s lc le) s refl (way_takes entry (drop 4 frame) (way entry (drop 4 frame)) s lc le f) i)

-- what a claim of each entry is made of
module _ (entry : Entry) where
  pub read_exactly : Claims.ReadExactly (TableOf entry) (read_by entry)
  read_exactly frame bytes says = (λ e. go (read_by entry frame) (frame_way entry frame) e, λ t. reads_entry entry frame t.0 says t.1)
    where
      go : (o : Outcome Says) → FrameWay entry frame o → o ≡ Gives says → (content : List ℕ) × TableOf entry frame says content
      go _ (under h) e = absurd (word_gives _ _ e)
      go _ (ends h f) e = absurd (word_gives _ _ e)
      go _ (goes_on h k f) e = absurd (word_gives _ _ e)
      go _ (found long s lc le f) e =
          let t = entry_read entry frame (payload_bytes frame bytes) long s lc le f in
          (t.0, subst (λ (x : Says). TableOf entry frame x t.0) (gives_same _ _ e) t.1)

  pub short_exactly : Claims.ShortExactly (read_by entry)
  short_exactly frame = (λ e. go (read_by entry frame) (frame_way entry frame) e, λ h. sym (Cases.read_under entry frame h))
    where
      go : (o : Outcome Says) → FrameWay entry frame o → o ≡ SW 0x6a80 → length frame < 4
      go _ (under h) e = h
      go _ (ends h f) e = absurd (omega (arith, number_is _ _ e))
      go _ (goes_on h k f) e = absurd (omega (arith, number_is _ _ e))
      go _ (found long s lc le f) e = absurd (word_gives _ _ (sym e))

  pub no_shape_exactly : Claims.NoShapeExactly (TableOf entry) (read_by entry)
  no_shape_exactly frame bytes = (
    λ t. (go (read_by entry frame) (frame_way entry frame) t, λ says content i. word_gives _ _ (sym t.is ∙ reads_entry entry frame content says i)),
    λ h. back (read_by entry frame) (frame_way entry frame) h,
  )
    where
      go : (o : Outcome Says) → FrameWay entry frame o → HasStatus 0x6700 o → 4 ≤ length frame
      go _ (under h) t = absurd (omega (arith, number_is _ _ t.is, t.numbered))
      go _ (ends h f) t = h
      go _ (goes_on h k f) t = h
      go _ (found long s lc le f) t = long

      back : (o : Outcome Says) → FrameWay entry frame o → (4 ≤ length frame) × ((says : Says) (content : List ℕ) → TableOf entry frame says content → ⊥) → HasStatus 0x6700 o
      back _ (under h) g = absurd (omega arith)
      back _ (ends h f) g = record { word = _; is = refl; numbered = refl }
      back _ (goes_on h k f) g = record { word = _; is = refl; numbered = refl }
      back _ (found long s lc le f) g = let t = entry_read entry frame (payload_bytes frame bytes) long s lc le f in absurd (g.1 _ t.0 t.1)

  pub pairs_exactly : PairsExactly (read_by entry)
  pairs_exactly = record { paired = λ frame w e. paired frame w (read_by entry frame) (frame_way entry frame) e; no_other = λ frame w e. other_has_none frame w (read_by entry frame) (frame_way entry frame) e }
    where
      paired : (frame : List ℕ) (w : StatusWord) (o : Outcome Says) → FrameWay entry frame o → o ≡ Word w → w.number ≡ 0x6700 → (1 ≤ w.kind) × (w.kind ≤ 3)
      paired frame w _ (under h) e n = absurd (omega (arith, number_is _ _ e, n))
      paired frame w _ (ends h f) e n = (omega (arith, kind_is _ _ e), omega (arith, kind_is _ _ e))
      paired frame w _ (goes_on h k f) e n = (omega (arith, kind_is _ _ e), omega (arith, kind_is _ _ e))
      paired frame w _ (found long s lc le f) e n = absurd (word_gives _ _ (sym e))

      other_has_none : (frame : List ℕ) (w : StatusWord) (o : Outcome Says) → FrameWay entry frame o → o ≡ Word w → (w.number ≡ 0x6700 → ⊥) → w ≡ plain_word w.number
      other_has_none frame w _ (under h) e n = sym (word_same _ _ e) ∙ ap plain_word (number_is _ _ e)
      other_has_none frame w _ (ends h f) e n = absurd (n (sym (number_is _ _ e)))
      other_has_none frame w _ (goes_on h k f) e n = absurd (n (sym (number_is _ _ e)))
      other_has_none frame w _ (found long s lc le f) e n = absurd (word_gives _ _ (sym e))

-- ---- too few bytes
pub early_missing : (entry : Entry) (p : List ℕ) → EndsEarly p → lengths_of entry p ≡ Missing
early_missing entry p (in_lc two z h) = sym (Cases.lengths_extended entry p Missing (omega arith) (omega arith) z (Cases.extended_missing entry p h))
early_missing entry p (in_short_data two nz h) = sym (Cases.lengths_short entry p Missing (omega arith) (omega arith) nz (Cases.short_missing p (byte p 0) (byte p 0) refl refl h))
early_missing entry p (in_extended_data z more h) =
    sym (Cases.lengths_extended entry p Missing (omega arith) (omega arith) z
    (Cases.extended_after entry p (pair_at p 1) refl false (sym (Cases.has_data entry (pair_at p 1) (omega arith))) (omega arith) (omega arith) Missing refl (Cases.after_missing p (pair_at p 1) h)))

pub missing_surplus : (k : ℕ) → Missing ≡ Surplus k → ⊥
missing_surplus k e = let z : ◌≡◌ {A = ℕ} 0 1 = cc in omega arith

pub missing_early : (entry : Entry) (p : List ℕ) → lengths_of entry p ≡ Missing → EndsEarly p
missing_early entry p e = go (lengths_of entry p) (way entry p) e
  where
    not_found : (s : Case) (lc le : ℕ) → Found s lc le ≡ Missing → EndsEarly p
    not_found s lc le e = absurd (let z : ◌≡◌ {A = ℕ} 0 1 = cc in omega arith)

    go : (l : Lengths) → Way entry p l → l ≡ Missing → EndsEarly p
    go _ (none h) e = not_found _ _ _ e
    go _ (le1 h) e = not_found _ _ _ e
    go _ (short nz h) e = not_found _ _ _ e
    go _ (short_le nz h) e = not_found _ _ _ e
    go _ (le3 z h) e = not_found _ _ _ e
    go _ (wide z nz h) e = not_found _ _ _ e
    go _ (wide_le2 d z h) e = not_found _ _ _ e
    go _ (missing early) e = early
    go _ (short_surplus nz h) e = absurd (missing_surplus _ (sym e))
    go _ (le1_surplus d z h) e = absurd (missing_surplus _ (sym e))
    go _ (wide_surplus d z h) e = absurd (missing_surplus _ (sym e))
    go _ (zero_surplus d z h) e = absurd (missing_surplus _ (sym e))

pub missing_exactly : (entry : Entry) → Claims.MissingExactly (read_by entry)
missing_exactly entry frame k = (λ e. go (read_by entry frame) (frame_way entry frame) e, λ t. back t.0 t.1 t.2)
  where
    go : (o : Outcome Says) → FrameWay entry frame o → o ≡ missing_at k → (4 ≤ length frame) × EndsEarly (drop 4 frame) × (k ≡ length frame)
    go _ (under h) e = absurd (omega (arith, number_is _ _ e))
    go _ (ends h f) e = (h, missing_early entry (drop 4 frame) (sym f), sym (place_is _ _ e))
    go _ (goes_on h place f) e = absurd (omega (arith, kind_is _ _ e))
    go _ (found long s lc le f) e = absurd (word_gives _ _ (sym e))

    back : 4 ≤ length frame → EndsEarly (drop 4 frame) → k ≡ length frame → read_by entry frame ≡ missing_at k
    back long early is =
        Cases.read_by_lem entry frame long ∙ ap (say_of frame) (early_missing entry (drop 4 frame) early) ∙ Cases.say_missing frame ∙ ap missing_at (sym is)

-- ---- too many bytes
pub longest_one : (Table : List ℕ → Says → List ℕ → Type 0) (frame : List ℕ) (a b : ℕ) → LongestFront Table frame a → LongestFront Table frame b → a ≡ b
longest_one Table frame a b f g = go (dec_lt a b) (dec_lt b a)
  where
    go : Dec (a < b) → Dec (b < a) → a ≡ b
    go (yes h) d = absurd (f.longest b g.in_table.0 g.in_table.1 h g.within g.in_table.2)
    go (no n) (yes h) = absurd (g.longest a f.in_table.0 f.in_table.1 h f.within f.in_table.2)
    go (no n) (no m) = omega arith

module _ (entry : Entry) (frame : List ℕ) (bytes : AreBytes (drop 4 frame)) (long : 4 ≤ length frame) where
  -- a front part of 4 + m bytes, by what its payload says
  module _ (m : ℕ) (within : 4 + m ≤ length frame) where
    pub part_long : 4 ≤ length (take (4 + m) frame)
    part_long = omega (arith, length-take-le (4 + m) frame within)

    pub part_in : (s : Case) (lc le : ℕ) → Found s lc le ≡ lengths_of entry (take m (drop 4 frame)) → (says : Says) × (content : List ℕ) × TableOf entry (take (4 + m) frame) says content
    part_in s lc le f =
        let same = front_payload frame m long in
        let t = entry_read entry (take (4 + m) frame) (subst AreBytes (sym same) (take_bytes m (drop 4 frame) bytes)) part_long s lc le (f ∙ ap (lengths_of entry) (sym same)) in
        (said_by (take (4 + m) frame) s lc le, t.0, t.1)

    pub part_out : (place : ℕ) → Surplus place ≡ lengths_of entry (take m (drop 4 frame)) → (says : Says) (content : List ℕ) → TableOf entry (take (4 + m) frame) says content → ⊥
    part_out place f says content i =
        let same = front_payload frame m long in
        word_gives _ _
        (sym (Cases.read_by_lem entry (take (4 + m) frame) part_long ∙ ap (λ (l : List ℕ). say_of (take (4 + m) frame) (lengths_of entry l)) same ∙ ap (say_of (take (4 + m) frame)) (sym f)
        ∙ Cases.say_surplus (take (4 + m) frame) place)
        ∙ reads_entry entry (take (4 + m) frame) content says i)

  pub longest_at : (k : ℕ) → Surplus k ≡ lengths_of entry (drop 4 frame) → (k < length frame) × LongestFront (TableOf entry) frame k
  longest_at k e =
      let f = surplus_front entry (drop 4 frame) k e in
      let all = length-drop 4 frame in
      let over : k < length frame = omega (arith, f.is, f.within) in
      (over, rw f.is (record { within = omega (arith, f.is); in_table = part_in f.m (omega (arith, f.is)) f.s f.lc f.le f.found; longest = longest f }))
    where
      longest : (f : Front entry (drop 4 frame) k) (j : ℕ) (says : Says) (content : List ℕ) → 4 + f.m < j → j ≤ length frame → TableOf entry (take j frame) says content → ⊥
      longest f j says content h l i =
          let is : j ≡ 4 + (j - 4) = omega arith in
          let b = f.beyond (j - 4) (omega arith) (omega (arith, length-drop 4 frame)) in
          part_out (j - 4) (omega arith) b.0 b.1 says content (subst (λ (n : ℕ). TableOf entry (take n frame) says content) is i)

  -- and back: a frame that is longer than its longest front part in the table, and does not end early
  pub too_long : (k : ℕ) (l : Lengths) → l ≡ lengths_of entry (drop 4 frame) → (EndsEarly (drop 4 frame) → ⊥) → k < length frame → LongestFront (TableOf entry) frame k → l ≡ Surplus k
  too_long k (Found s lc le) e early more f =
      let t = entry_read entry frame bytes long s lc le e in
      absurd (f.longest (length frame) (said_by frame s lc le) t.0 more (omega arith) (subst (λ (x : List ℕ). TableOf entry x (said_by frame s lc le) t.0) (sym (take-length frame)) t.1))
  too_long k Missing e early more f = absurd (early (missing_early entry (drop 4 frame) (sym e)))
  too_long k (Surplus place) e early more f = ap Surplus (longest_one (TableOf entry) frame place k (longest_at place e).1 f)

pub given_long : (entry : Entry) (frame : List ℕ) (says : Says) → read_by entry frame ≡ Gives says → 4 ≤ length frame
given_long entry frame says i = go (read_by entry frame) (frame_way entry frame) i
  where
    go : (o : Outcome Says) → FrameWay entry frame o → o ≡ Gives says → 4 ≤ length frame
    go _ (under h) e = absurd (word_gives _ _ e)
    go _ (ends h f) e = h
    go _ (goes_on h k f) e = h
    go _ (found long s lc le f) e = long

pub surplus_exactly : (entry : Entry) → Claims.SurplusExactly (TableOf entry) (read_by entry)
surplus_exactly entry frame bytes k = (λ e. go (read_by entry frame) (frame_way entry frame) e, λ t. back t.0 t.1 t.2)
  where
    not_early : (place : ℕ) → Surplus place ≡ lengths_of entry (drop 4 frame) → EndsEarly (drop 4 frame) → ⊥
    not_early place f early = missing_surplus _ (sym (early_missing entry (drop 4 frame) early) ∙ sym f)

    go : (o : Outcome Says) → FrameWay entry frame o → o ≡ surplus_at k → (EndsEarly (drop 4 frame) → ⊥) × (k < length frame) × LongestFront (TableOf entry) frame k
    go _ (under h) e = absurd (omega (arith, number_is _ _ e))
    go _ (ends h f) e = absurd (omega (arith, kind_is _ _ e))
    go _ (goes_on h place f) e =
        let at : Surplus k ≡ lengths_of entry (drop 4 frame) = ap Surplus (sym (place_is _ _ e)) ∙ f in
        let l = longest_at entry frame (payload_bytes frame bytes) h k at in
        (not_early k at, l.0, l.1)
    go _ (found long s lc le f) e = absurd (word_gives _ _ (sym e))

    back : (EndsEarly (drop 4 frame) → ⊥) → k < length frame → LongestFront (TableOf entry) frame k → read_by entry frame ≡ surplus_at k
    back early more f =
        let part = given_long entry (take k frame) _ (reads_entry entry (take k frame) f.in_table.1 f.in_table.0 f.in_table.2) in
        let long : 4 ≤ length frame = omega (arith, length-take-le k frame f.within) in
        let is = too_long entry frame (payload_bytes frame bytes) long k (lengths_of entry (drop 4 frame)) refl early more f in
        Cases.read_by_lem entry frame long ∙ ap (say_of frame) is ∙ Cases.say_surplus frame k

-- the four together
pub reading_exactly : (entry : Entry) → Claims.ReadingExactly (TableOf entry) (read_by entry)
reading_exactly entry = record { reads = read_exactly entry; short = short_exactly entry; missing = missing_exactly entry; surplus = surplus_exactly entry }

-- ---- the payload by itself
module _ (entry : Entry) (p : List ℕ) (bytes : AreBytes p) (h : ApduHeader) where
  pub shape_forth : (s : Case) (lc le : ℕ) → lengths_of entry p ≡ Found s lc le → (data_at : ℕ) × (content : List ℕ) × TableOf entry (frame_with h p) (saying h (shape_no s) data_at lc le) content
  shape_forth s lc le e =
      let t = entry_read entry (frame_with h p) bytes (omega arith) s lc le (sym e) in
      (4 + lc_field s, t.0, t.1)

  pub surplus_forth : (k : ℕ) → lengths_of entry p ≡ Surplus k → (EndsEarly p → ⊥) × (k < 4 + length p) × LongestFront (TableOf entry) (frame_with h p) k
  surplus_forth k e =
      let l = longest_at entry (frame_with h p) bytes (omega arith) k (sym e) in
      (λ early. missing_surplus _ (sym (early_missing entry p early) ∙ e), omega (arith, l.0), l.1)

  pub surplus_back : (k : ℕ) → (EndsEarly p → ⊥) → k < 4 + length p → LongestFront (TableOf entry) (frame_with h p) k → lengths_of entry p ≡ Surplus k
  surplus_back k early more f = too_long entry (frame_with h p) bytes (omega arith) k (lengths_of entry p) refl early (omega arith) f

pub found_same : (s t : Case) (a b c d : ℕ) → s ≡ t → a ≡ b → c ≡ d → Found s a c ≡ Found t b d
found_same s t a b c d p q r = cc

module _ (entry : Entry) (p : List ℕ) (h : ApduHeader) where
  pub of_frame : (says : Says) (content : List ℕ) → TableOf entry (frame_with h p) says content → say_of (frame_with h p) (lengths_of entry p) ≡ Gives says
  of_frame says content i = sym (Cases.read_by_lem entry (frame_with h p) (omega arith)) ∙ reads_entry entry (frame_with h p) content says i

  pub shape_back : (s : Case) (lc le data_at : ℕ) (content : List ℕ) → TableOf entry (frame_with h p) (saying h (shape_no s) data_at lc le) content → lengths_of entry p ≡ Found s lc le
  shape_back s lc le data_at content i = go (lengths_of entry p) (of_frame _ content i)
    where
      go : (l : Lengths) → say_of (frame_with h p) l ≡ Gives (saying h (shape_no s) data_at lc le) → l ≡ Found s lc le
      go (Found t a b) e =
          let same = gives_same _ _ (sym (Cases.say_found (frame_with h p) t a b) ∙ e) in
          found_same t s a lc b le (shape_same t s (ap (λ (x : Says). x.shape) same)) (ap (λ (x : Says). x.lc) same) (ap (λ (x : Says). x.le) same)
      go Missing e = absurd (word_gives _ _ (sym (Cases.say_missing (frame_with h p)) ∙ e))
      go (Surplus k) e = absurd (word_gives _ _ (sym (Cases.say_surplus (frame_with h p) k) ∙ e))

pub payload_exactly : (entry : Entry) → Claims.PayloadExactly (TableOf entry) (lengths_of entry)
payload_exactly entry =
    record {
      in_shape = λ p bytes h s lc le. (shape_forth entry p bytes h s lc le, λ t. shape_back entry p h s lc le t.0 t.1 t.2);
      too_few = λ p. (missing_early entry p, early_missing entry p);
      too_many = λ p bytes h k. (surplus_forth entry p bytes h k, λ t. surplus_back entry p bytes h k t.0 t.1 t.2);
    }

-- ---- the data and its place
pub of_table : (frame content : List ℕ) (says : Says) → InTable frame says content → data_of frame says ≡ content
of_table frame content says i =
    let f = entry_built i in
    ap (data_of frame) (sym f.same) ∙ table_cut frame f.parts f.built ∙ f.holds

-- ---- ISO's seven cases
pub iso_exactly : (entry : Entry) → Claims.IsoExactly (read_by entry)
iso_exactly entry frame c long = (forth, λ t. back (read_by entry frame) (frame_way entry frame) t.0 t.1 t.2 t.3)
  where
    forth : is_case c (drop 4 frame) ≡ true → (said : Says) × (read_by entry frame ≡ Gives said) × (said.shape ≡ shape_no (shape_for c)) × (is_tolerated said.shape said.lc ≡ false)
    forth e = let r = iso_read (drop 4 frame) c e in (said_by frame (shape_for c) r.lc r.le, iso_said frame c long r entry, refl, r.iso)

    of_shape : (s : Case) (lc le : ℕ) → shape_for c ≡ s → Found s lc le ≡ lengths_of entry (drop 4 frame) → is_tolerated (shape_no s) lc ≡ false → is_case c (drop 4 frame) ≡ true
    of_shape s lc le same f t =
        let w : Way entry (drop 4 frame) (Found (shape_for c) lc le) = rw (same, f) (way entry (drop 4 frame)) in
        iso_back (drop 4 frame) c lc le w (rw same t)

    back : (o : Outcome Says) → FrameWay entry frame o → (said : Says) → o ≡ Gives said → said.shape ≡ shape_no (shape_for c) → is_tolerated said.shape said.lc ≡ false → is_case c (drop 4 frame) ≡ true
    back _ (under h) said e sh t = absurd (word_gives _ _ e)
    back _ (ends h f) said e sh t = absurd (word_gives _ _ e)
    back _ (goes_on h k f) said e sh t = absurd (word_gives _ _ e)
    back _ (found l s lc le f) said e sh t =
        let same : said_by frame s lc le ≡ said = gives_same _ _ e in
        of_shape s lc le (shape_same (shape_for c) s (sym (ap (λ (x : Says). x.shape) same ∙ sh))) f (ap (λ (x : Says). is_tolerated x.shape x.lc) same ∙ t)

-- what is read and no tolerated form is of a case
pub of_case : (entry : Entry) (frame : List ℕ) (says : Says) → read_by entry frame ≡ Gives says → is_tolerated says.shape says.lc ≡ false
    → (c : IsoCase) × (is_case c (drop 4 frame) ≡ true) × (says.shape ≡ shape_no (shape_for c))
of_case entry frame says e t = go (read_by entry frame) (frame_way entry frame) e
  where
    go : (o : Outcome Says) → FrameWay entry frame o → o ≡ Gives says → (c : IsoCase) × (is_case c (drop 4 frame) ≡ true) × (says.shape ≡ shape_no (shape_for c))
    go _ (under h) x = absurd (word_gives _ _ x)
    go _ (ends h f) x = absurd (word_gives _ _ x)
    go _ (goes_on h k f) x = absurd (word_gives _ _ x)
    go _ (found l s lc le f) x =
        let same : said_by frame s lc le ≡ says = gives_same _ _ x in
        let c = case_for s lc (ap (λ (y : Says). is_tolerated y.shape y.lc) same ∙ t) in
        let shape = ap (λ (y : Says). y.shape) (sym same) ∙ ap shape_no (sym c.1) in
        (c.0, (iso_exactly entry frame c.0 (given_long entry frame says e)).1 (says, e, shape, t), shape)
