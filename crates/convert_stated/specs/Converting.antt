-- Document 02, E13: "Bench recordings still hold such frames, so a converter reads the old form and writes the same header, data and Le as shape
-- 7, or as shape 8 when Lc is 0. A frame of another shape comes back unchanged." "Refusals: the converter gives the reader's status for a frame in no
-- shape, R2 when the buffer is shorter than the result."
use Rattle.std.specs.Prelude.{◌∷◌}
use Rattle.convert_stated.specs.Words.{ℕ, Bool, true, false, List, [], length, ltb, eqb, when◌then◌else◌, Outcome, R, Word, Gives, laid, Says, read_of, data_of, Case, Lc3DataLe2, Le3, Parts, parts_of, writing_of, Row, numbered, read_by_rows}

-- the row that the table has lost. 01: 6 | Lc3DataLe1 | 00, Lc (2), data, Le (1) | Lc 0..65535
abbrev pub old_row : Row
old_row = numbered 6 3 0 1

-- what a frame says by that row alone: apdu_table_stated's reader, over a table of one row
abbrev pub old_of : List ℕ → Outcome Says
old_of frame = read_by_rows (old_row ∷ []) frame

-- whether an outcome gives something
abbrev pub is_given : Outcome Says → Bool
is_given (R n) = false
is_given (Word s) = false
is_given (Gives said) = true

-- whether a frame is of the old form
abbrev pub is_old : List ℕ → Bool
is_old frame = is_given (old_of frame)

-- "as shape 7, or as shape 8 when Lc is 0"
abbrev pub new_shape : ℕ → Case
new_shape lc = when eqb lc 0 then Le3 else Lc3DataLe2

-- "the same header, data and Le": Le goes over as a value, so that 256, which the old form says as 00, is written 01 00
abbrev pub new_parts : List ℕ → Says → Parts
new_parts frame said = parts_of said.header (new_shape said.lc) (data_of frame said) said.le

-- "A frame of another shape comes back unchanged": it is written to the buffer too
abbrev pub copied : List ℕ → List ℕ → Outcome ℕ × List ℕ
copied frame before =
    when ltb (length before) (length frame) then (R 2, before)
    else (Gives (length frame), laid frame before)

-- "the reader's status for a frame in no shape": asked where the frame is not of the old form. The reader refuses nothing: no R comes of it
abbrev pub kept_by : List ℕ → Outcome Says → List ℕ → Outcome ℕ × List ℕ
kept_by frame (R n) before = (R n, before)
kept_by frame (Word s) before = (Word s, before)
kept_by frame (Gives said) before = copied frame before

-- by what the old row says; the new form is written by apdu_stated's writer, which gives R2 when the buffer is shorter
abbrev pub convert_by : List ℕ → Outcome Says → List ℕ → Outcome ℕ × List ℕ
convert_by frame (R n) before = kept_by frame (read_of frame) before
convert_by frame (Word s) before = kept_by frame (read_of frame) before
convert_by frame (Gives said) before = writing_of (new_parts frame said) before

-- the answer, and what the buffer holds afterwards
unfoldable pub convert_of : List ℕ → List ℕ → Outcome ℕ × List ℕ
convert_of frame before = convert_by frame (old_of frame) before
