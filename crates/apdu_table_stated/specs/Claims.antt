-- What is promised of the second reader: open this file first. Claims take the program, or the tables, as their argument; the definitions
-- (`table_of` of Rows.antt, `tried_of` of Trying.antt, `read_by_rows` of Answers.antt) meet them by proofs/Theorems.antt, and the programs and tables of
-- Wrong.antt do not by proofs/Refuted.antt. By proofs/Only.antt nothing else meets `TablesExactly` and `SaidExactly`, on frames of bytes `TriesExactly` and
-- `AnswersExactly`, on rows of four numbers `ColumnsExactly`, and no other answer by these two tables `SameReading`; `OneRowFits`, `ExamplesRead` and
-- `RowsAsTheTable` stand beside them. Words: Terms.antt.
use Rattle.std.specs.Prelude.{◌↔◌, ◌≤◌, ◌<◌, ◌≡◌, ◌∷◌}
use Rattle.apdu_table_stated.specs.Words.{ℕ, List, [], map, length, drop, AtMostOne, Outcome, Word, Gives, SW, word_of, wrong_length, AreBytes, Says, saying, Reading, reading_of, ApduStatusCode, Entry, Ordinary, Strict, ApduHeader, Case, Instruction, Le1, Lc1Data, Lc1DataLe1, Lc3Data, Lc3DataLe2, Le3, shape_no, Row, Tried, Ok, Err, UnderFour, Early, Beyond}
use Rattle.apdu_stated.specs.Promises.{Read, ReadStrict}
use Rattle.apdu_stated.specs.Table.{lc_field, le_field, least_of}
use Rattle.apdu_stated.specs.Reading.{read_by}
use Rattle.apdu_stated.specs.Examples.{Example, examples}
use Rattle.apdu_stated.specs.Terms.{InTable, InStrictTable, EndsEarly}
use Rattle.apdu_table_stated.specs.Rows.{numbered, columns_of, rows_of}
use Rattle.apdu_table_stated.specs.Terms.{OfRow, IsOf, OfTable, EarlyIn, Has, First, MostClaimed}
use Rattle.apdu_table_stated.specs.Promises.{OrdinaryRows, StrictRows, TryRows, ReadRows, ReadByTable, ReadStrictByTable}
use Rattle.apdu_table_stated.specs.Answers.{TableReading, table_reading_of}

-- ---- the two tables

-- 02, E9: "Prove it equal to the branching reader on every frame, E1's pairs included. .. state the agreement once for both tables.": by each
-- table, on every frame, the table's reader and the branching reader of apdu_stated's Reading.antt give the same: what the frame says, 6a80, or
-- 6700 with its pair. Rejects a least Lc of 0 in row 5 (`row5_from_lc0`), rows 5 and 7 with each other's Le (`le_swapped`), rows numbered by their place
-- (`numbered_by_place`), the retired row 6 in the ordinary table or in the strict one (`row6_kept`, `row6_in_strict`), a reader that takes the first row that
-- is too short (`first_too_short`), or says surplus where that one ends (`place_of_first`). Bites at 00 03 00 00 | 00 00 00, of row 6 at 00 03 00 00 |
-- 00 00 01 AA 05, of the place at 00 03 00 00 | 01 AA 00 00.
abbrev pub SameReading : (Entry → List Row) → (List Row → List ℕ → Outcome Says) → Type 0
SameReading table read = (entry : Entry) (frame : List ℕ) → read (table entry) frame ≡ read_by entry frame

-- At most one row of a table fits a frame, in both tables: two that do are equal, so "the row that fits" is one, in whatever order they are tried.
-- Rejects a least Lc of 0 in row 5 (`row5_from_lc0`), which then fits an extended Le of 65536 beside row 8. Bites at 00 03 00 00 | 00 00 00.
abbrev pub OneRowFits : (Entry → List Row) → Type 0
OneRowFits table = (entry : Entry) (frame : List ℕ) → AtMostOne (λ (r : Row). Has (table entry) r × IsOf r frame)

-- document 01's shapes, in the order of its table, without the retired sixth
abbrev pub shapes : List Case
shapes = Instruction ∷ Le1 ∷ Lc1Data ∷ Lc1DataLe1 ∷ Lc3Data ∷ Lc3DataLe2 ∷ Le3 ∷ []

-- each with its number, its fields and the table's least Lc
abbrev pub rows_in : Entry → List Case → List Row
rows_in entry listed = map (λ (s : Case). numbered (shape_no s) (lc_field s) (least_of entry s) (le_field s)) listed

-- The rows are those of apdu_stated's table, and of its strict one: "The strict reading is the same table with other least Lc". Each carries its
-- shape's number; it is not its place. Rejects tables whose rows are numbered from 1 to 7 (`numbered_by_place`), and one that keeps row 6 (`row6_kept`).
-- Bites at the last two rows, and at the row count.
abbrev pub TablesExactly : (Entry → List Row) → Type 0
TablesExactly table = (entry : Entry) → table entry ≡ rows_in entry shapes

-- 01, 'Frames and moments to try': the frames marked P, "proved together, as a single statement over a list", by its table. Rejects a least Lc
-- of 0 in row 5 (`row5_from_lc0`). Bites at 00 03 00 00 | 00 00 00.
abbrev pub ExamplesRead : (Entry → List Row) → (List Row → List ℕ → Outcome Says) → Type 0
ExamplesRead table read = map (λ (e : Example). read (table Ordinary) e.frame) examples ≡ map (λ (e : Example). e.answer) examples

-- ---- any table: nothing in the reader knows a shape by name

-- What comes of trying the rows of any table. Short exactly when the frame is under four bytes; the row r exactly when r is the first row that the
-- frame is of; Early exactly when it is of no row and ends early in at least one; Beyond k exactly when it is of no row, ends early in none, and k bytes
-- is the most that a row claims from its front. Rejects a reader that knows the ordinary rows whatever it is given (`knows_its_rows`), one that takes the last row that
-- fits (`last_that_fits`), and one that looks for missing bytes before it tries the rows (`early_first`). Bites at an empty table, at two rows of equal
-- columns and different numbers, and at 00 03 00 00 | 00 FF FF.
pub record TriesExactly (try : List Row → List ℕ → Tried) : Type 0 where
  pub short : (rows : List Row) (frame : List ℕ) → (try rows frame ≡ Err UnderFour) ↔ (length frame < 4)
  pub by_row : (rows : List Row) (frame : List ℕ) → AreBytes frame → (r : Row) → (try rows frame ≡ Ok r) ↔ First rows frame r
  pub early : (rows : List Row) (frame : List ℕ) → AreBytes frame
      → (try rows frame ≡ Err Early)
      ↔ ((4 ≤ length frame) × ((r : Row) → Has rows r → IsOf r frame → ⊥) × ((r : Row) × Has rows r × EarlyIn r frame))
  pub beyond : (rows : List Row) (frame : List ℕ) → AreBytes frame → (k : ℕ)
      → (try rows frame ≡ Err (Beyond k))
      ↔ ((4 ≤ length frame) × ((r : Row) → Has rows r → EarlyIn r frame → ⊥) × (k < length frame) × MostClaimed rows frame k)

-- What is answered by any table: what the frame says by its first row, 01's 6a80, 02's E1 kinds 1 and 2 with their places, each exactly when. Rejects
-- a reader that asks which of the two tables it holds, by their row 7, and then reads by the shapes (`asks_which_table`; it meets `SameReading`),
-- missing bytes placed where the payload begins (`missing_at_the_payload`), and a row's least said for the frame's Lc (`least_for_lc`). Bites at an empty
-- table, at 00 03 00 00 | 02 AA, and at 00 03 00 00 | 02 AA BB.
pub record AnswersExactly (read : List Row → List ℕ → Outcome Says) : Type 0 where
  pub reads : (rows : List Row) (frame : List ℕ) → AreBytes frame → (says : Says)
      → (read rows frame ≡ Gives says) ↔ ((r : Row) × (content : List ℕ) × First rows frame r × OfRow r frame says content)
  pub short : (rows : List Row) (frame : List ℕ) → (read rows frame ≡ SW 0x6a80) ↔ (length frame < 4)
  pub missing : (rows : List Row) (frame : List ℕ) → AreBytes frame → (k : ℕ)
      → (read rows frame ≡ wrong_length 1 k)
      ↔ ((4 ≤ length frame) × ((r : Row) → Has rows r → IsOf r frame → ⊥) × ((r : Row) × Has rows r × EarlyIn r frame) × (k ≡ length frame))
  pub surplus : (rows : List Row) (frame : List ℕ) → AreBytes frame → (k : ℕ)
      → (read rows frame ≡ wrong_length 2 k)
      ↔ ((4 ≤ length frame) × ((r : Row) → Has rows r → EarlyIn r frame → ⊥) × (k < length frame) × MostClaimed rows frame k)

-- The rows of these words and the tables of apdu_stated's claims are one, on frames of bytes: a frame is of a row of the table exactly when it is in `InTable`, strictly
-- in `InStrictTable`; and where it is of none, it ends early in a row exactly when its payload does (`EndsEarly`). Rejects a row 6 in the ordinary table
-- (`row6_kept`). Bites at 00 03 00 00 | 00 00 01 AA 05.
pub record RowsAsTheTable (table : Entry → List Row) : Type 0 where
  pub ordinary : (frame : List ℕ) → AreBytes frame → (says : Says)
      → ((content : List ℕ) × OfTable (table Ordinary) frame says content) ↔ ((content : List ℕ) × InTable frame says content)
  pub strict : (frame : List ℕ) → AreBytes frame → (says : Says)
      → ((content : List ℕ) × OfTable (table Strict) frame says content) ↔ ((content : List ℕ) × InStrictTable frame says content)
  pub early : (entry : Entry) (frame : List ℕ) → AreBytes frame → 4 ≤ length frame → ((r : Row) → Has (table entry) r → IsOf r frame → ⊥)
      → ((r : Row) × Has (table entry) r × EarlyIn r frame) ↔ EndsEarly (drop 4 frame)

-- ---- what the code holds

-- A row of four numbers, in E9's order behind the shape's number: "(length of Lc field, least Lc, length of Le field)"; and back. Rejects
-- the least Lc and the length of Le exchanged (`least_last`). Bites at row 7.
pub record ColumnsExactly (from : List ℕ → Row) (to : Row → List ℕ) : Type 0 where
  pub forth : (number lc_long least le_long : ℕ)
      → from (number ∷ lc_long ∷ least ∷ le_long ∷ []) ≡ record { number = number; lc_field = lc_long; lc_least = least; le_field = le_long }
  pub back : (number lc_long least le_long : ℕ)
      → to (record { number = number; lc_field = lc_long; lc_least = least; le_field = le_long }) ≡ number ∷ lc_long ∷ least ∷ le_long ∷ []

-- What an answer that the code holds says, in the documents' numbers: of a frame each number as it is, of a status word its number and pair. Rejects data
-- that starts one byte on (`start_one_on`), and a status word without its pair (`pair_unsaid`). Bites at every frame, and at 6700.
pub record SaidExactly (said : TableReading → Outcome Says) : Type 0 where
  pub frame : (h : ApduHeader) (number start lc le : ℕ)
      → said (Ok (record { header = h; number = number; start = start; lc = lc; le = le })) ≡ Gives (saying h number start lc le)
  pub status : (s : ApduStatusCode) → said (Err s) ≡ Word (word_of s)

-- Two answers that say the same are one: so a contract that fixes what is said fixes the answer. Rejects a view that drops the pair of a 6700
-- (`pair_unsaid`). Bites at two places of surplus bytes.
abbrev pub AnswersOneToOne : (TableReading → Outcome Says) → Type 0
AnswersOneToOne said = (a b : TableReading) → said a ≡ said b → a ≡ b

-- ---- the contracts, and the two readers

-- Whatever meets a contract of `apdu_table` meets the claim on it, by rows written out as four numbers each. A contract of `strict` that names the other table
-- fails it, with code to match. Bites at row 7.
pub record ContractsAsClaimed : Type 0 where
  pub ordinary : (t : List (List ℕ)) → OrdinaryRows t → rows_of t ≡ rows_in Ordinary shapes
  pub strict : (t : List (List ℕ)) → StrictRows t → rows_of t ≡ rows_in Strict shapes
  pub try_rows : (f : List (List ℕ) → List ℕ → Tried) → ((table : List (List ℕ)) (frame : List ℕ) → TryRows table frame (f table frame))
      → TriesExactly (λ (rows : List Row) (frame : List ℕ). f (map columns_of rows) frame)
  pub read_rows : (f : List (List ℕ) → List ℕ → TableReading) → ((table : List (List ℕ)) (frame : List ℕ) → ReadRows table frame (f table frame))
      → AnswersExactly (λ (rows : List Row) (frame : List ℕ). table_reading_of (f (map columns_of rows) frame))

-- E9 of the two programs: whatever meets the contract of `apdu_table`'s reader, and whatever meets that of apdu's, give the same on every frame; strictly too. A
-- contract of the strict one that names the other table fails it, with code to match. Bites at 00 03 00 00 | 00 00 00 00 05.
pub record ReadersAgree : Type 0 where
  pub read : (f : List ℕ → TableReading) (g : List ℕ → Reading) → ((frame : List ℕ) → ReadByTable frame (f frame)) → ((frame : List ℕ) → Read frame (g frame))
      → (frame : List ℕ) → table_reading_of (f frame) ≡ reading_of (g frame)
  pub read_strict : (f : List ℕ → TableReading) (g : List ℕ → Reading) → ((frame : List ℕ) → ReadStrictByTable frame (f frame)) → ((frame : List ℕ) → ReadStrict frame (g frame))
      → (frame : List ℕ) → table_reading_of (f frame) ≡ reading_of (g frame)

-- ---- two results that satisfy a contract are equal
pub record ResultsDetermined : Type 0 where
  pub ordinary : AtMostOne OrdinaryRows
  pub strict : AtMostOne StrictRows
  pub try_rows : (table : List (List ℕ)) (frame : List ℕ) → AtMostOne (TryRows table frame)
  pub read_rows : (table : List (List ℕ)) (frame : List ℕ) → AtMostOne (ReadRows table frame)
  pub read : (frame : List ℕ) → AtMostOne (ReadByTable frame)
  pub read_strict : (frame : List ℕ) → AtMostOne (ReadStrictByTable frame)
