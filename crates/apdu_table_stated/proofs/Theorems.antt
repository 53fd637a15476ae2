-- The second reader meets what is claimed of it (specs/Claims.antt).
use Prim.Native.Nat.{ℕ, ◌≤◌}
use mathlib.Core.Path.{◌≡◌, refl, ap, sym, subst, ◌∙◌}
use mathlib.Core.List.{List, [], ◌∷◌, map}
use mathlib.Core.Logic.{◌↔◌}
use lib.ListN.{length, drop}
use lib.Dec.{eqb}
use Rattle.outcome.specs.Notation.{when◌then◌else◌}
use Rattle.outcome.specs.Outcome.{Gives}
use Rattle.outcome.proofs.Laws.{gives_same}
use Rattle.octets.specs.Bytes.{AreBytes}
use Rattle.apdu_stated.specs.Terms.{EndsEarly}
use Rattle.apdu_stated.proofs.Laws.{TableOf, reading_exactly}
use Rattle.apdu_table_stated.specs.Terms.{IsOf, OfTable, EarlyIn, Has}
use Rattle.apdu_table_stated.specs.Words.{Says, Entry, Ordinary, Strict, Row}
use Rattle.apdu_table_stated.specs.Rows.{numbered, table_of, row_from, rows_of, columns_of}
use Rattle.apdu_table_stated.specs.Trying.{begins, lc_in, le_in, opens, stands, tried_of}
use Rattle.apdu_table_stated.specs.Answers.{table_reading_of, read_by_rows}
use Rattle.apdu_table_stated.specs.Claims
use Rattle.apdu_table_stated.proofs.Fitting.{RowIs, is_1, is_2, is_3, is_4, is_5, is_7, is_8, fit_reads}
use Rattle.apdu_table_stated.proofs.FramesOfRows.{fit_of, said_of, front_four}
use Rattle.apdu_table_stated.proofs.Agreement.{has_is, same}
use Rattle.apdu_table_stated.proofs.AnyTable.{tries_exactly, answers_exactly, first_has}
use Rattle.apdu_table_stated.proofs.Numbers.{table_reading_same}

-- ---- the two tables
-- small runs first: a wrong definition speaks here
pub ExamplesRead : Claims.ExamplesRead table_of read_by_rows
unfolding read_by_rows tried_of stands opens begins lc_in le_in
ExamplesRead = refl

pub TablesExactly : Claims.TablesExactly table_of
TablesExactly Ordinary = refl
TablesExactly Strict = refl

pub SameReading : Claims.SameReading table_of read_by_rows
SameReading entry frame = same entry frame

-- a row of a table by its number
row_numbered : List Row → ℕ → Row
row_numbered [] n = numbered 0 0 0 0
row_numbered (r ∷ rows) n = when eqb r.number n then r else row_numbered rows n

by_number : (entry : Entry) {r : Row} → RowIs entry r → r ≡ row_numbered (table_of entry) r.number
unfolding row_numbered
by_number Ordinary is_1 = refl
by_number Ordinary is_2 = refl
by_number Ordinary is_3 = refl
by_number Ordinary is_4 = refl
by_number Ordinary is_5 = refl
by_number Ordinary is_7 = refl
by_number Ordinary is_8 = refl
by_number Strict is_1 = refl
by_number Strict is_2 = refl
by_number Strict is_3 = refl
by_number Strict is_4 = refl
by_number Strict is_5 = refl
by_number Strict is_7 = refl
by_number Strict is_8 = refl

pub OneRowFits : Claims.OneRowFits table_of
OneRowFits entry frame a b (ha, oa) (hb, ob) =
    let long = front_four a frame oa.1 oa.0 oa.2 in
    let ia = has_is entry ha in
    let ib = has_is entry hb in
    let same_says = gives_same _ _ (sym (fit_reads entry frame long ia (fit_of a frame oa)) ∙ fit_reads entry frame long ib (fit_of b frame ob)) in
    by_number entry ia ∙ ap (λ (s : Says). row_numbered (table_of entry) s.shape) same_says ∙ sym (by_number entry ib)

-- ---- any table
pub TriesExactly : Claims.TriesExactly tried_of
TriesExactly = tries_exactly

pub AnswersExactly : Claims.AnswersExactly read_by_rows
AnswersExactly = answers_exactly

-- the rows and apdu_stated's tables, said once for both
of_table : (entry : Entry) (frame : List ℕ) → AreBytes frame → (says : Says) → ((content : List ℕ) × OfTable (table_of entry) frame says content) ↔ ((content : List ℕ) × TableOf entry frame says content)
of_table entry frame bytes says = (forth, back)
  where
    forth : ((content : List ℕ) × OfTable (table_of entry) frame says content) → (content : List ℕ) × TableOf entry frame says content
    forth (content, (r, h, o)) =
        let long = front_four r frame content says o in
        let read = fit_reads entry frame long (has_is entry h) (fit_of r frame (says, content, o)) in
        ((reading_exactly entry).reads frame bytes says).0 (read ∙ ap Gives (said_of r frame content says o))

    back : ((content : List ℕ) × TableOf entry frame says content) → (content : List ℕ) × OfTable (table_of entry) frame says content
    back t =
        let x = (answers_exactly.reads (table_of entry) frame bytes says).0 (same entry frame ∙ ((reading_exactly entry).reads frame bytes says).1 t) in
        (x.1, (x.0, first_has x.2, x.3))

early_in_table : (entry : Entry) (frame : List ℕ) → AreBytes frame → 4 ≤ length frame → ((r : Row) → Has (table_of entry) r → IsOf r frame → ⊥)
    → ((r : Row) × Has (table_of entry) r × EarlyIn r frame) ↔ EndsEarly (drop 4 frame)
early_in_table entry frame bytes long no_row = (
  λ x. (((reading_exactly entry).missing frame (length frame)).0 (sym (same entry frame) ∙ (answers_exactly.missing (table_of entry) frame bytes (length frame)).1 (long, no_row, x, refl))).1,
  λ e. ((answers_exactly.missing (table_of entry) frame bytes (length frame)).0 (same entry frame ∙ ((reading_exactly entry).missing frame (length frame)).1 (long, e, refl))).2,
)

pub RowsAsTheTable : Claims.RowsAsTheTable table_of
RowsAsTheTable = record { ordinary = of_table Ordinary; strict = of_table Strict; early = early_in_table }

-- ---- what the code holds
pub ColumnsExactly : Claims.ColumnsExactly row_from columns_of
ColumnsExactly = record { forth = λ number lc_long least le_long. refl; back = λ number lc_long least le_long. refl }

pub SaidExactly : Claims.SaidExactly table_reading_of
SaidExactly = record { frame = λ h number start lc le. refl; status = λ s. refl }

pub AnswersOneToOne : Claims.AnswersOneToOne table_reading_of
AnswersOneToOne = table_reading_same

-- ---- contracts
-- rows that are written out are the rows
pub written_out : (rows : List Row) → rows_of (map columns_of rows) ≡ rows
written_out [] = refl
written_out (r ∷ rows) = ap (λ (more : List Row). r ∷ more) (written_out rows)

pub ContractsAsClaimed : Claims.ContractsAsClaimed
ContractsAsClaimed =
    record {
      ordinary = λ t is. ap rows_of is ∙ written_out (table_of Ordinary) ∙ TablesExactly Ordinary;
      strict = λ t is. ap rows_of is ∙ written_out (table_of Strict) ∙ TablesExactly Strict;
      try_rows = λ f is. subst Claims.TriesExactly (λ d rows frame. sym (is (map columns_of rows) frame ∙ ap (λ (x : List Row). tried_of x frame) (written_out rows)) d) TriesExactly;
      read_rows = λ f is. subst Claims.AnswersExactly (λ d rows frame. sym (is (map columns_of rows) frame ∙ ap (λ (x : List Row). read_by_rows x frame) (written_out rows)) d) AnswersExactly;
    }

pub ReadersAgree : Claims.ReadersAgree
ReadersAgree =
    record {
      read = λ f g p q frame. p frame ∙ same Ordinary frame ∙ sym (q frame);
      read_strict = λ f g p q frame. p frame ∙ same Strict frame ∙ sym (q frame);
    }

pub ResultsDetermined : Claims.ResultsDetermined
ResultsDetermined =
    record {
      ordinary = λ a b p q. p ∙ sym q;
      strict = λ a b p q. p ∙ sym q;
      try_rows = λ table frame a b p q. p ∙ sym q;
      read_rows = λ table frame a b p q. table_reading_same a b (p ∙ sym q);
      read = λ frame a b p q. table_reading_same a b (p ∙ sym q);
      read_strict = λ frame a b p q. table_reading_same a b (p ∙ sym q);
    }
