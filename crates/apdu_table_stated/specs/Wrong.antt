-- Tables and readers that are wrong: each fails a claim of Claims.antt, by proofs/Refuted.antt.
use Rattle.std.specs.Prelude.{reverse, ◌+◌, ◌&&◌, ◌||◌, ◌∷◌}
use Rattle.apdu_table_stated.specs.Words.{ℕ, Bool, false, List, [], length, eqb, ltb, when◌then◌else◌, byte, Outcome, Word, SW, Gives, word_of, surplus_at, missing_at, Says, Entry, Ordinary, Strict, Row, Tried, Ok, Err, UnderFour, Early, Beyond}
use Rattle.apdu_stated.specs.Reading.{read_by}
use Rattle.apdu_table_stated.specs.Rows.{numbered, table_of}
use Rattle.apdu_table_stated.specs.Trying.{stands, row_end, ends_early, tried_of}
use Rattle.apdu_table_stated.specs.Answers.{TableReading, says_by, answer_of, row_says_of}

-- ---- tables

-- row 5, "Lc 1..65535": here from Lc 0 on
abbrev pub row5_from_lc0 : Entry → List Row
row5_from_lc0 Ordinary = numbered 1 0 0 0 ∷ numbered 2 0 0 1 ∷ numbered 3 1 1 0 ∷ numbered 4 1 1 1 ∷ numbered 5 3 0 0 ∷ numbered 7 3 0 2 ∷ numbered 8 0 0 3 ∷ []
row5_from_lc0 Strict = table_of Strict

-- "E9's ordinary table loses its row 6": here it keeps it, as document 01 has it
abbrev pub row6_kept : Entry → List Row
row6_kept Ordinary = numbered 1 0 0 0 ∷ numbered 2 0 0 1 ∷ numbered 3 1 1 0 ∷ numbered 4 1 1 1 ∷ numbered 5 3 1 0 ∷ numbered 6 3 0 1 ∷ numbered 7 3 0 2 ∷ numbered 8 0 0 3 ∷ []
row6_kept Strict = table_of Strict

-- and here the strict one has it, with ISO's least Lc
abbrev pub row6_in_strict : Entry → List Row
row6_in_strict Ordinary = table_of Ordinary
row6_in_strict Strict = numbered 1 0 0 0 ∷ numbered 2 0 0 1 ∷ numbered 3 1 1 0 ∷ numbered 4 1 1 1 ∷ numbered 5 3 1 0 ∷ numbered 6 3 1 1 ∷ numbered 7 3 1 2 ∷ numbered 8 0 0 3 ∷ []

-- rows 5 and 7, each with the other's Le
abbrev pub le_swapped : Entry → List Row
le_swapped Ordinary = numbered 1 0 0 0 ∷ numbered 2 0 0 1 ∷ numbered 3 1 1 0 ∷ numbered 4 1 1 1 ∷ numbered 5 3 1 2 ∷ numbered 7 3 0 0 ∷ numbered 8 0 0 3 ∷ []
le_swapped Strict = numbered 1 0 0 0 ∷ numbered 2 0 0 1 ∷ numbered 3 1 1 0 ∷ numbered 4 1 1 1 ∷ numbered 5 3 1 2 ∷ numbered 7 3 1 0 ∷ numbered 8 0 0 3 ∷ []

-- a row's number is its shape's: here its place in the table
abbrev pub numbered_by_place : Entry → List Row
numbered_by_place Ordinary = numbered 1 0 0 0 ∷ numbered 2 0 0 1 ∷ numbered 3 1 1 0 ∷ numbered 4 1 1 1 ∷ numbered 5 3 1 0 ∷ numbered 6 3 0 2 ∷ numbered 7 0 0 3 ∷ []
numbered_by_place Strict = numbered 1 0 0 0 ∷ numbered 2 0 0 1 ∷ numbered 3 1 1 0 ∷ numbered 4 1 1 1 ∷ numbered 5 3 1 0 ∷ numbered 6 3 1 2 ∷ numbered 7 0 0 3 ∷ []

-- ---- readers of any table

-- "answers by the row that fits": here by the first that stands at the frame's front, also where it is too short
abbrev first_standing : List Row → List ℕ → Tried
first_standing [] frame = Err Early
first_standing (r ∷ rows) frame = when stands r frame then Ok r else first_standing rows frame

abbrev pub first_too_short : List Row → List ℕ → Outcome Says
first_too_short rows frame = when ltb (length frame) 4 then SW 0x6a80 else answer_of frame (first_standing rows frame)

-- "the first byte that no field can claim": here where the first row that is too short ends
abbrev first_end : List Row → List ℕ → ℕ
first_end [] frame = 0
first_end (r ∷ rows) frame = when stands r frame then row_end r frame else first_end rows frame

abbrev placed_by : List Row → List ℕ → Tried → Tried
placed_by rows frame (Err UnderFour) = Err UnderFour
placed_by rows frame (Ok r) = Ok r
placed_by rows frame (Err Early) = Err Early
placed_by rows frame (Err (Beyond k)) = Err (Beyond (first_end rows frame))

abbrev pub place_of_first : List Row → List ℕ → Outcome Says
place_of_first rows frame = answer_of frame (placed_by rows frame (tried_of rows frame))

-- ours: it tries the rows of whatever table it is lent. Here the ordinary ones
abbrev pub knows_its_rows : List Row → List ℕ → Tried
knows_its_rows rows frame = tried_of (table_of Ordinary) frame

-- and here its shapes, once it is known by the least Lc of row 7 which of the two tables it is
abbrev seven_from0 : List Row → Bool
seven_from0 [] = false
seven_from0 (r ∷ rows) = (eqb r.number 7 && eqb r.lc_least 0) || seven_from0 rows

abbrev pub asks_which_table : List Row → List ℕ → Outcome Says
asks_which_table rows frame = when seven_from0 rows then read_by Ordinary frame else read_by Strict frame

-- the rows are tried from the last to the first
abbrev pub last_that_fits : List Row → List ℕ → Tried
last_that_fits rows frame = tried_of (reverse rows) frame

-- missing bytes are looked for before a row is tried: an extended Le is taken for an Lc
abbrev any_early : List Row → List ℕ → Bool
any_early [] frame = false
any_early (r ∷ rows) frame = ends_early r frame || any_early rows frame

abbrev pub early_first : List Row → List ℕ → Tried
early_first rows frame =
    when ltb (length frame) 4 then Err UnderFour
    else when any_early rows frame then Err Early
    else tried_of rows frame

-- "for missing bytes the frame's length": here 4, where the payload begins
abbrev missing_at4 : List ℕ → Tried → Outcome Says
missing_at4 frame (Err UnderFour) = SW 0x6a80
missing_at4 frame (Ok r) = Gives (says_by r frame)
missing_at4 frame (Err Early) = missing_at 4
missing_at4 frame (Err (Beyond k)) = surplus_at k

abbrev pub missing_at_the_payload : List Row → List ℕ → Outcome Says
missing_at_the_payload rows frame = missing_at4 frame (tried_of rows frame)

-- a frame says its Lc: here its row's least
abbrev least_said : List ℕ → Tried → Outcome Says
least_said frame (Err UnderFour) = SW 0x6a80
least_said frame (Ok r) =
    let s = says_by r frame in
    Gives (record { header = s.header; shape = s.shape; data_at = s.data_at; lc = r.lc_least; le = s.le })
least_said frame (Err Early) = missing_at (length frame)
least_said frame (Err (Beyond k)) = surplus_at k

abbrev pub least_for_lc : List Row → List ℕ → Outcome Says
least_for_lc rows frame = least_said frame (tried_of rows frame)

-- ---- what the code holds

-- "(length of Lc field, least Lc, length of Le field)": here the least comes last
abbrev pub least_last : List ℕ → Row
least_last columns = numbered (byte columns 0) (byte columns 1) (byte columns 3) (byte columns 2)

-- where the data starts: here one byte on
abbrev pub start_one_on : TableReading → Outcome Says
start_one_on (Ok s) = Gives (record { header = s.header; shape = s.number; data_at = s.start + 1; lc = s.lc; le = s.le })
start_one_on (Err s) = Word (word_of s)

-- the number of a status word alone
abbrev pub pair_unsaid : TableReading → Outcome Says
pair_unsaid (Ok s) = Gives (row_says_of s)
pair_unsaid (Err s) = SW (word_of s).number
