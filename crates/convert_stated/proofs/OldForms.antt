-- The old form: by its length, by its bytes, and as the row that the table has lost reads it.
use Prim.Native.Nat.{ℕ, ◌+◌, ◌-◌}
use mathlib.Core.Path.{◌≡◌, refl, ap, sym, subst, ◌∙◌}
use mathlib.Core.Bool.{true, true≢false}
use mathlib.Core.List.{List, [], ◌∷◌, ◌++◌}
use native.Mathlib.Omega.{arith}
use lib.ListN.{length, take, length-append}
use lib.Seq.{take_at}
use Rattle.outcome.specs.Outcome.{Outcome, R, Word, Gives}
use Rattle.outcome.proofs.Laws.{word_gives}
use Rattle.octets.specs.Bytes.{AreBytes, pair_at}
use Rattle.octets.proofs.Laws.{part_within}
use Rattle.apdu_stated.specs.declared.ApduHeader.{ApduHeader}
use Rattle.apdu_stated.specs.declared.Entry.TheVariants.{Ordinary}
use Rattle.apdu_stated.specs.Answers.{Says}
use Rattle.apdu_stated.specs.Reading.{data_of}
use Rattle.apdu_stated.specs.Terms.{frame_with, saying, InTable, OldForm}
use Rattle.apdu_stated.proofs.Laws.{old_at, reads_entry}
use Rattle.apdu_table_stated.specs.declared.Row.{Row}
use Rattle.apdu_table_stated.specs.Trying.{lc_in, fits}
use Rattle.apdu_table_stated.specs.Answers.{says_by}
use Rattle.apdu_table_stated.specs.Terms.{OfRow, LcField, three_lc, LeField, one_le, First, this, later}
use Rattle.apdu_table_stated.proofs.Laws.{answers_exactly, one_fits, one_reads, begins_other, begins_zero, begins_known, lc_three, fits_of, of_fits}
use Rattle.convert_stated.specs.Converting.{old_row, old_of, is_given, is_old}
use Rattle.convert_stated.specs.Terms.{Old, row6}

-- ---- by its length: the row fits
module _ (frame : List ℕ) where
  pub fits_old : fits old_row frame ≡ true → OldForm frame
  fits_old e =
      let t = fits_of old_row frame e in
      let end : 4 + 3 + lc_in 3 frame + 1 ≡ length frame = t.1 in
      let l : pair_at frame 5 ≡ lc_in 3 frame = lc_three frame (omega arith) in
      record { extended = begins_known 3 4 frame t.0.begin refl (omega arith); one_behind = omega arith }

  pub old_fits : OldForm frame → fits old_row frame ≡ true
  old_fits o =
      let e = o.one_behind in
      let l : pair_at frame 5 ≡ lc_in 3 frame = lc_three frame (omega arith) in
      of_fits old_row frame
      (record { is_row = refl; begin = begins_zero 3 4 frame o.extended; least = omega arith; within = omega arith; le_begin = begins_other 1 _ frame (omega arith) })
      (omega arith)

  pub old_given : OldForm frame → old_of frame ≡ Gives (says_by old_row frame)
  old_given o = let e = o.one_behind in one_reads old_row frame (omega arith) (old_fits o)

  pub given_old : (says : Says) → old_of frame ≡ Gives says → OldForm frame
  given_old says e = fits_old (one_fits old_row frame says e).0

-- ---- by its bytes
pub old_form : {frame : List ℕ} {h : ApduHeader} {d : List ℕ} {le : ℕ} → Old frame h d le → OldForm frame
old_form (row6 {h} {d} {hi} {lo} {b} {le} p o) = let long = length-append d (b ∷ []) in let is = p.is in record { extended = refl; one_behind = omega arith }

-- the frame as the row's
old_row_lem : {frame : List ℕ} {h : ApduHeader} {d : List ℕ} {le : ℕ} → Old frame h d le → OfRow old_row frame (saying h 6 7 (length d) le) d
old_row_lem (row6 {h} {d} {hi} {lo} {b} {le} p o) =
    record { header = h; lc_bytes = 0x00 ∷ hi ∷ lo ∷ []; le_bytes = b ∷ []; le = le; lc_field = three_lc p; least = omega arith; le_field = one_le o; frame_is = refl; says_is = refl }

pub old_says : {frame : List ℕ} {h : ApduHeader} {d : List ℕ} {le : ℕ} → AreBytes frame → Old frame h d le → old_of frame ≡ Gives (saying h 6 7 (length d) le)
old_says {frame} {h} {d} {le} bytes o =
    let r = old_row_lem o in
    (answers_exactly.reads (old_row ∷ []) frame bytes (saying h 6 7 (length d) le)).1 (old_row, d, this (saying h 6 7 (length d) le, d, r), r)

-- and back
pub record OldIs (frame : List ℕ) (says : Says) : Type 0 where
  pub h : ApduHeader
  pub d : List ℕ
  pub le : ℕ
  pub is_old : Old frame h d le
  pub said : says ≡ saying h 6 7 (length d) le

row_old : {frame : List ℕ} {says : Says} {content : List ℕ} → OfRow old_row frame says content → OldIs frame says
row_old {frame} {says} {content} r = go r.lc_field r.le_field r.frame_is
  where
    go : {lc_bytes le_bytes : List ℕ} → LcField 3 (length content) lc_bytes → LeField 1 r.le le_bytes → frame ≡ frame_with r.header (lc_bytes ++ (content ++ le_bytes)) → OldIs frame says
    go (three_lc p) (one_le o) e =
        record { h = r.header; d = content; le = r.le; is_old = subst (λ (f : List ℕ). Old f r.header content r.le) (sym e) (row6 p o); said = r.says_is }

pub says_old : (frame : List ℕ) (says : Says) → AreBytes frame → old_of frame ≡ Gives says → OldIs frame says
says_old frame says bytes e = let t = (answers_exactly.reads (old_row ∷ []) frame bytes says).0 e in row_old (own t.2 t.3)
  where
    none : {r : Row} → First [] frame r → ⊥
    none f = elim f [ ]

    own : {r : Row} {content : List ℕ} → First (old_row ∷ []) frame r → OfRow r frame says content → OfRow old_row frame says content
    own (this i) o = o
    own (later n f) o = absurd (none f)

pub form_old : (frame : List ℕ) → AreBytes frame → OldForm frame → OldIs frame (says_by old_row frame)
form_old frame bytes o = says_old frame _ bytes (old_given frame o)

-- its data stands behind the Lc field
pub old_data : {frame : List ℕ} {h : ApduHeader} {d : List ℕ} {le : ℕ} → Old frame h d le → data_of frame (saying h 6 7 (length d) le) ≡ d
unfolding data_of
old_data (row6 {h} {d} {hi} {lo} {b} {le} p o) =
    let frame = frame_with h (0x00 ∷ hi ∷ lo ∷ (d ++ b ∷ [])) in
    let long = length-append d (b ∷ []) in
    let count : 7 + length d - 7 ≡ length d = omega arith in
    sym (part_within frame 7 (7 + length d) (omega arith) (omega arith)) ∙ ap (λ (n : ℕ). take n (d ++ b ∷ [])) count ∙ take_at d (b ∷ []) (length d) refl

-- ---- beside the table: a frame of the table is not of the old form
pub not_both : (frame d : List ℕ) (says : Says) → InTable frame says d → OldForm frame → ⊥
not_both frame d says i o = word_gives _ _ (sym (old_at frame Ordinary o) ∙ reads_entry Ordinary frame d says i)

-- whether it is, is a test
pub known : (frame : List ℕ) (o : Outcome Says) → old_of frame ≡ o → is_given o ≡ true → OldForm frame
known frame (Gives says) e t = given_old frame says e
known frame (Word w) e t = absurd (true≢false (sym t))
known frame (R n) e t = absurd (true≢false (sym t))

pub old_exactly : (frame : List ℕ) → OldForm frame → is_old frame ≡ true
old_exactly frame o = ap is_given (old_given frame o)
