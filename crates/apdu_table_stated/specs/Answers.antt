-- What each answer says, in the documents' numbers: of a frame by its row, and of a reading.
use Rattle.std.specs.Prelude.{◌+◌}
use Rattle.apdu_table_stated.specs.Words.{ℕ, List, length, Outcome, Word, SW, Gives, word_of, missing_at, surplus_at, Says, ApduStatusCode, Row, Tried, Result, Ok, Err, UnderFour, Early, Beyond}
use Rattle.apdu_stated.specs.Reading.{header_of}
use Rattle.apdu_table_stated.specs.Trying.{lc_in, le_in, data_end, tried_of}
pub use Rattle.apdu_table_stated.specs.declared.RowSays.{RowSays}

-- what a frame says by a row that fits it: the row's number, and what its fields say
abbrev pub says_by : Row → List ℕ → Says
says_by r frame =
    record {
      header = header_of frame;
      shape = r.number;
      data_at = 4 + r.lc_field;
      lc = lc_in r.lc_field frame;
      le = le_in r.le_field (data_end r frame) frame;
    }

-- 01: "A frame under 4 bytes gives 6a80. A frame of 4 or more in no shape gives 6700"; 02, E1: "for missing bytes the frame's length; for
-- surplus the first byte that no field can claim"
abbrev pub answer_of : List ℕ → Tried → Outcome Says
answer_of frame (Err UnderFour) = SW 0x6a80
answer_of frame (Ok r) = Gives (says_by r frame)
answer_of frame (Err Early) = missing_at (length frame)
answer_of frame (Err (Beyond place)) = surplus_at place

-- the second reader, over the rows of whatever table it is given
unfoldable pub read_by_rows : List Row → List ℕ → Outcome Says
read_by_rows rows frame = answer_of frame (tried_of rows frame)

-- what the code holds of an answer
abbrev pub row_says_of : RowSays → Says
row_says_of s = record { header = s.header; shape = s.number; data_at = s.start; lc = s.lc; le = s.le }

-- what a reading by a table answers: what the frame says, or a status word
abbrev pub TableReading : Type 0
TableReading = Result RowSays ApduStatusCode

abbrev pub table_reading_of : TableReading → Outcome Says
table_reading_of (Ok s) = Gives (row_says_of s)
table_reading_of (Err s) = Word (word_of s)
