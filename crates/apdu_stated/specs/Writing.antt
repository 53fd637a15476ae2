-- Document 01, 'Eight frame shapes': the writer. "It refuses (R5) exactly when data length or Le is not one that the shape
-- can carry .., else R2 exactly when the buffer is shorter than the frame; else it writes the frame at the front and leaves the rest."
-- Document 02, E4: "a strict writer is added that refuses .. Lc 0 in shape 7, with R5 and is otherwise the writer": one writer
-- by two tables, as the reading is. E13: no shape has number 6 here; over plain numbers it gets R5.
use Rattle.std.specs.Prelude.{ℕ, not, List, [], ◌∷◌, ◌++◌, length, ltb}
use Rattle.outcome.specs.Notation.{when◌then◌else◌}
use Rattle.outcome.specs.Outcome.{Outcome, R, Word, Gives}
use Rattle.octets.specs.Bytes.{laid}
use Rattle.apdu_stated.specs.Words.{Case, ApduHeader}
use Rattle.apdu_stated.specs.Table.{Entry, Ordinary, Strict, lc_field, le_field, carried_by, lc_bytes, le_bytes}

-- the four parts of a frame
pub record Parts : Type 0 where
  pub header : ApduHeader
  pub shape : Case
  pub content : List ℕ  -- the data
  pub le : ℕ

abbrev pub parts_of : ApduHeader → Case → List ℕ → ℕ → Parts
parts_of header shape content le = record { header = header; shape = shape; content = content; le = le }

abbrev pub header_bytes : ApduHeader → List ℕ
header_bytes h = h.cla ∷ h.ins ∷ h.p1 ∷ h.p2 ∷ []

-- the payload's fields in the table's order. "Data is exactly Lc bytes"
unfoldable pub payload_of : Case → List ℕ → ℕ → List ℕ
payload_of shape content le = lc_bytes (lc_field shape) (length content) ++ (content ++ le_bytes (le_field shape) le)

-- "A frame is CLA INS P1 P2 and a payload"
unfoldable pub frame_of : Parts → List ℕ
frame_of w = header_bytes w.header ++ payload_of w.shape w.content w.le

-- what a writer answers, by its table: the frame's length, for a buffer of so many bytes (room)
unfoldable pub write_by : Entry → Parts → ℕ → Outcome ℕ
write_by entry w room =
    when not (carried_by entry w.shape (length w.content) w.le) then R 5
    else when ltb room (length (frame_of w)) then R 2
    else Gives (length (frame_of w))

-- what the buffer holds afterwards: the frame at its front; after a refusal, what it held before
abbrev pub left_by : Outcome ℕ → List ℕ → List ℕ → List ℕ
left_by (R n) frame old = old
left_by (Word s) frame old = old
left_by (Gives n) frame old = laid frame old

unfoldable pub buffer_by : Entry → Parts → List ℕ → List ℕ
buffer_by entry w old = left_by (write_by entry w (length old)) (frame_of w) old

-- both: the answer, and what the buffer holds afterwards
abbrev pub writing_by : Entry → Parts → List ℕ → Outcome ℕ × List ℕ
writing_by entry w old = (write_by entry w (length old), buffer_by entry w old)

abbrev pub writing_of : Parts → List ℕ → Outcome ℕ × List ℕ
writing_of w old = writing_by Ordinary w old

abbrev pub strict_writing_of : Parts → List ℕ → Outcome ℕ × List ℕ
strict_writing_of w old = writing_by Strict w old
