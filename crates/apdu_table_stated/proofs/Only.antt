-- Only the definitions meet the claims: two programs that meet one agree, on every table and every frame of bytes; and two pairs of tables are one.
use Prim.Native.Nat.{ℕ}
use mathlib.Core.Path.{◌≡◌, sym, ◌∙◌}
use mathlib.Core.List.{List, [], ◌∷◌}
use Rattle.outcome.specs.Notation.{Determines}
use Rattle.outcome.specs.Outcome.{Outcome}
use Rattle.octets.specs.Bytes.{AreBytes}
use Rattle.apdu_table_stated.specs.Words.{Ok, Err, Says, Entry, Row, Tried}
use Rattle.apdu_table_stated.specs.Rows.{table_of}
use Rattle.apdu_table_stated.specs.Claims
use Rattle.apdu_table_stated.proofs.AnyTable.{same_tries, same_answers}

pub TablesExactly : Determines Claims.TablesExactly
TablesExactly f g p q entry = p entry ∙ sym (q entry)

-- by the two tables, on every frame
pub SameReading : (f g : List Row → List ℕ → Outcome Says) → Claims.SameReading table_of f → Claims.SameReading table_of g → (entry : Entry) (frame : List ℕ) → f (table_of entry) frame ≡ g (table_of entry) frame
SameReading f g p q entry frame = p entry frame ∙ sym (q entry frame)

pub TriesExactly : (f g : List Row → List ℕ → Tried) → Claims.TriesExactly f → Claims.TriesExactly g → (rows : List Row) (frame : List ℕ) → AreBytes frame → f rows frame ≡ g rows frame
TriesExactly f g p q rows frame bytes = same_tries f p rows frame bytes ∙ sym (same_tries g q rows frame bytes)

pub AnswersExactly : (f g : List Row → List ℕ → Outcome Says) → Claims.AnswersExactly f → Claims.AnswersExactly g → (rows : List Row) (frame : List ℕ) → AreBytes frame → f rows frame ≡ g rows frame
AnswersExactly f g p q rows frame bytes = same_answers f p rows frame bytes ∙ sym (same_answers g q rows frame bytes)

-- of four numbers, and of a row
pub ColumnsExactly : (f g : List ℕ → Row) (k l : Row → List ℕ) → Claims.ColumnsExactly f k → Claims.ColumnsExactly g l
    → ((number lc_long least le_long : ℕ) → f (number ∷ lc_long ∷ least ∷ le_long ∷ []) ≡ g (number ∷ lc_long ∷ least ∷ le_long ∷ [])) × ((r : Row) → k r ≡ l r)
ColumnsExactly f g k l p q = (
  λ number lc_long least le_long. p.forth number lc_long least le_long ∙ sym (q.forth number lc_long least le_long),
  λ r. p.back r.number r.lc_field r.lc_least r.le_field ∙ sym (q.back r.number r.lc_field r.lc_least r.le_field),
)

pub SaidExactly : Determines Claims.SaidExactly
SaidExactly f g p q (Ok s) = p.frame s.header s.number s.start s.lc s.le ∙ sym (q.frame s.header s.number s.start s.lc s.le)
SaidExactly f g p q (Err s) = p.status s ∙ sym (q.status s)
