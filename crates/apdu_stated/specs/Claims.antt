-- What is promised of frames, beyond the claims of InTable.antt and Iso.antt, which are read first. Each claim takes the program as its
-- argument; the definitions (`read_of`, `strict_of`, `data_of` of Reading.antt, `writing_of`, `strict_writing_of` of Writing.antt) meet it by
-- proofs/Theorems.antt, nothing else does by proofs/Only.antt, and the programs of Wrong.antt do not by proofs/Refuted.antt. The words
-- `LongestFront`, `Carries`, `CarriesStrictly`, `OldForm`, `Differ`: Terms.antt. A claim that takes a table is made of both: of `read_of` and `writing_of` with `InTable`,
-- of `strict_of` and `strict_writing_of` with `InStrictTable`.
use Rattle.std.specs.Prelude.{◌↔◌, ◌+◌, ◌≤◌, ◌<◌, ◌≡◌, ◌∷◌, ◌++◌, Ok, Err}
use Rattle.outcome.specs.Notation.{AtMostOne}
use Rattle.outcome.specs.Outcome.{Outcome, R, Word, Gives, wrong_length, word_of, refusal_no}
use Rattle.outcome.specs.declared.Refusal.{Refusal}
use Rattle.outcome.specs.declared.ApduStatusCode.{ApduStatusCode}
use Rattle.outcome.specs.Terms.{PairsExactly}
use Rattle.octets.specs.Bytes.{AreBytes, byte, pair_at}
use Rattle.apdu_stated.specs.Words.{ℕ, Bool, true, false, List, [], map, length, take, drop, ApduHeader, Case, Instruction, Le1, Lc1Data, Lc1DataLe1, Lc3Data, Lc3DataLe2, Le3, shape_no}
use Rattle.apdu_stated.specs.Answers.{Apdu, Place, Reading, Written, Says, says_of, reading_of, written_of}
use Rattle.apdu_stated.specs.Table.{TableRow, columns}
use Rattle.apdu_stated.specs.Reading.{Entry, Ordinary, Strict}
use Rattle.apdu_stated.specs.Writing.{Parts, parts_of}
use Rattle.apdu_stated.specs.Iso.{IsoCase, is_case, shape_for, ne_of, is_tolerated}
pub use Rattle.apdu_stated.specs.InTable.{ReadExactly, ShortExactly, NoShapeExactly}
pub use Rattle.apdu_stated.specs.Iso.{IsoCounts, StrictIsIso}
use Rattle.apdu_stated.specs.Examples.{Example, examples}
use Rattle.apdu_stated.specs.Promises.{Row, Fits, StrictHas, Payload, ShapeNumber, Read, ReadStrict, DataPlace, Data, Write, WriteStrict}
use Rattle.apdu_stated.specs.declared.Lengths.{Lengths}
use Rattle.apdu_stated.specs.declared.Lengths.TheVariants.{Found, Missing, Surplus}
use Rattle.apdu_stated.specs.Terms.{TwoByteLe, frame_with, saying, InTable, IsoRow, InStrictTable, LcZero, OldForm, Differ, EndsEarly, LongestFront, IsFrameOf, Carries, CarriesStrictly, AreParts, apdu_of, span, IsIso, iso_header, iso_data}

-- ---- where the length went wrong: 02, E1

-- Kind 1, "for missing bytes the frame's length": a frame of 4 bytes or more misses bytes exactly when it ends before its Lc field or its data
-- does. "A short payload of `00 x` counts as missing". Rejects a place one byte short, `00 x` as surplus, and the old form told as one that misses its second
-- byte of Le. Bites at 00 03 00 00 | 00 01, and at 00 03 00 00 | 00 00 00 05.
abbrev pub MissingExactly : (List ℕ → Outcome Says) → Type 0
MissingExactly read = (frame : List ℕ) (k : ℕ) → (read frame ≡ wrong_length 1 k) ↔ ((4 ≤ length frame) × EndsEarly (drop 4 frame) × (k ≡ length frame))

-- Kind 2, "for surplus the first byte that no field can claim": a frame has bytes too many exactly when it does not end early and is longer
-- than the longest part from its front that is itself in the table; and the place is that part's length. So a frame that is cut at its
-- place is read. One law for every table.
-- Rejects a place one byte late, and the frame's length. Bites at 00 03 00 00 | 01 AA 00 00 00.
abbrev pub SurplusExactly : (List ℕ → Says → List ℕ → Type 0) → (List ℕ → Outcome Says) → Type 0
SurplusExactly Table read =
    (frame : List ℕ) → AreBytes frame → (k : ℕ)
    → (read frame ≡ wrong_length 2 k) ↔ ((EndsEarly (drop 4 frame) → ⊥) × (k < length frame) × LongestFront Table frame k)

-- The same in the document's numbers: "6 + Lc from the frame's start in the short form, 9 + Lc in the extended"; E13: "E1's kind for the old
-- form is surplus at its Le byte", 7 + Lc, in both readings; E4: "every strict frame longer than 7 bytes with an extended Lc of 0 is surplus, at
-- byte 7". Rejects a reading that still takes the old form, or says 8 + Lc or 9 + Lc there. Bites at 00 03 00 00 | 00 00 00 05, and at an extended
-- Lc of 0 with ten bytes.
pub record PlacesExactly (read strict : List ℕ → Outcome Says) : Type 0 where
  pub short_form : (frame : List ℕ) → (byte frame 4 ≡ 0x00 → ⊥) → 6 + byte frame 4 < length frame
      → (read frame ≡ wrong_length 2 (6 + byte frame 4)) × (strict frame ≡ wrong_length 2 (6 + byte frame 4))
  pub extended_form : (frame : List ℕ) → byte frame 4 ≡ 0x00 → 9 + pair_at frame 5 < length frame → read frame ≡ wrong_length 2 (9 + pair_at frame 5)
  pub strict_extended : (frame : List ℕ) → byte frame 4 ≡ 0x00 → 1 ≤ pair_at frame 5 → 9 + pair_at frame 5 < length frame
      → strict frame ≡ wrong_length 2 (9 + pair_at frame 5)
  pub old_form : (frame : List ℕ) → OldForm frame
      → (read frame ≡ wrong_length 2 (7 + pair_at frame 5)) × (strict frame ≡ wrong_length 2 (7 + pair_at frame 5))
  pub strict_lc_zero : (frame : List ℕ) → LcZero frame → strict frame ≡ wrong_length 2 7

-- In both readings a 6700 has a pair, and no other status word has one. Rejects a reader that drops the pair. Bites at 00 03 00 00 | 00 01.
abbrev pub ReadPairsExactly : (read strict : List ℕ → Outcome Says) → Type 0
ReadPairsExactly read strict = PairsExactly read × PairsExactly strict

-- The four together: every answer of a reading, each exactly when. They determine it on every frame of bytes.
pub record ReadingExactly (Table : List ℕ → Says → List ℕ → Type 0) (read : List ℕ → Outcome Says) : Type 0 where
  pub reads : ReadExactly Table read
  pub short : ShortExactly read
  pub missing : MissingExactly read
  pub surplus : SurplusExactly Table read

-- The payload by itself, behind any header: its shape, Lc and Le; and of a payload in no shape, whether it ends early, or from where on
-- it goes on too long. Rejects a reader that takes too few bytes for too many. Bites at 02 AA.
pub record PayloadExactly (Table : List ℕ → Says → List ℕ → Type 0) (payload : List ℕ → Lengths) : Type 0 where
  pub in_shape : (p : List ℕ) → AreBytes p → (h : ApduHeader) (s : Case) (lc le : ℕ)
      → (payload p ≡ Found s lc le) ↔ ((data_at : ℕ) × (content : List ℕ) × Table (frame_with h p) (saying h (shape_no s) data_at lc le) content)
  pub too_few : (p : List ℕ) → (payload p ≡ Missing) ↔ EndsEarly p
  pub too_many : (p : List ℕ) → AreBytes p → (h : ApduHeader) (k : ℕ)
      → (payload p ≡ Surplus k) ↔ ((EndsEarly p → ⊥) × (k < 4 + length p) × LongestFront Table (frame_with h p) k)

-- 01: "Each frame has at most one shape", and says one thing and holds one data. Bites at 00 03 00 00 | 00 00 01 AA 00 00.
abbrev pub AtMostOneShape : Type 0
AtMostOneShape = (frame : List ℕ) → AtMostOne (λ (e : Says × List ℕ). InTable frame e.0 e.1)

-- Document 01's frames marked P, "proved together, as a single statement over a list": each is read as the list says.
abbrev pub ExamplesRead : (List ℕ → Outcome Says) → Type 0
ExamplesRead read = map (λ (e : Example). read e.frame) examples ≡ map (λ (e : Example). e.answer) examples

-- ---- the data and its place

-- 01: "data comes back as a part of the caller's frame, not a copy": it is the row's data; on any frame, Lc bytes from where the
-- data is said to start, byte by byte, and none where they pass the frame's end (ours).
-- Rejects data that is one byte off, or always empty. Bites at 00 03 00 00 | 01 AA 00.
pub record DataExactly (cut : List ℕ → Says → List ℕ) : Type 0 where
  pub of_table : (frame content : List ℕ) (says : Says) → InTable frame says content → cut frame says ≡ content
  pub as_long : (frame : List ℕ) (says : Says) → says.data_at + says.lc ≤ length frame → length (cut frame says) ≡ says.lc
  pub each : (frame : List ℕ) (says : Says) (i : ℕ) → says.data_at + says.lc ≤ length frame → i < says.lc
      → byte (cut frame says) i ≡ byte frame (says.data_at + i)
  pub past : (frame : List ℕ) (says : Says) → length frame < says.data_at + says.lc → cut frame says ≡ []

-- Where the data stands, shape by shape: after the header alone, after one byte of Lc, after three. Rejects a place that begins one
-- byte late, and one that takes the Le along. Bites at every shape.
pub record PlaceExactly (place : Apdu → Place) : Type 0 where
  pub instruction : (h : ApduHeader) (lc le : ℕ) → place (apdu_of h Instruction lc le) ≡ span 4 (4 + lc)
  pub le1 : (h : ApduHeader) (lc le : ℕ) → place (apdu_of h Le1 lc le) ≡ span 4 (4 + lc)
  pub lc1_data : (h : ApduHeader) (lc le : ℕ) → place (apdu_of h Lc1Data lc le) ≡ span 5 (5 + lc)
  pub lc1_data_le1 : (h : ApduHeader) (lc le : ℕ) → place (apdu_of h Lc1DataLe1 lc le) ≡ span 5 (5 + lc)
  pub lc3_data : (h : ApduHeader) (lc le : ℕ) → place (apdu_of h Lc3Data lc le) ≡ span 7 (7 + lc)
  pub lc3_data_le2 : (h : ApduHeader) (lc le : ℕ) → place (apdu_of h Lc3DataLe2 lc le) ≡ span 7 (7 + lc)
  pub le3 : (h : ApduHeader) (lc le : ℕ) → place (apdu_of h Le3 lc le) ≡ span 4 (4 + lc)

-- 01, the table's column "no"; 02, E13: number 6 is no shape's. Rejects two shapes with one number, numbers from 0, and shapes 7 and 8 moved up
-- to 6 and 7. Bites at every shape.
pub record ShapeNumberExactly (number : Case → ℕ) : Type 0 where
  pub instruction : number Instruction ≡ 1
  pub le1 : number Le1 ≡ 2
  pub lc1_data : number Lc1Data ≡ 3
  pub lc1_data_le1 : number Lc1DataLe1 ≡ 4
  pub lc3_data : number Lc3Data ≡ 5
  pub lc3_data_le2 : number Lc3DataLe2 ≡ 7
  pub le3 : number Le3 ≡ 8

-- 01, the table, as the lengths of its fields: how many bytes the Lc field has, the least Lc, how many bytes the Le field has. Rejects
-- shape 7 from Lc 1 on, and shape 8 with an Le field of two bytes. Bites at every shape.
pub record RowExactly (row : Case → TableRow) : Type 0 where
  pub instruction : row Instruction ≡ columns 0 0 0
  pub le1 : row Le1 ≡ columns 0 0 1
  pub lc1_data : row Lc1Data ≡ columns 1 1 0
  pub lc1_data_le1 : row Lc1DataLe1 ≡ columns 1 1 1
  pub lc3_data : row Lc3Data ≡ columns 3 1 0
  pub lc3_data_le2 : row Lc3DataLe2 ≡ columns 3 0 2
  pub le3 : row Le3 ≡ columns 0 0 3

-- 01: "data length or Le is not one that the shape can carry". Rejects Le 257 in one byte, and Lc 0 in shape 3. Bites at Le 257.
abbrev pub FitsExactly : (Case → ℕ → ℕ → Type 0) → (Case → ℕ → ℕ → Bool) → Type 0
FitsExactly Carry fits = (s : Case) (count le : ℕ) → (fits s count le ≡ true) ↔ Carry s count le

-- 02, E4: "refuses .. Lc 0 in shape 7": the strict table's rows, and what the strict writer can carry by them. Rejects Lc 0 in shape 7.
-- Bites at shape 7 without data.
abbrev pub StrictRowExactly : (Case → ℕ → Bool) → Type 0
StrictRowExactly has = (s : Case) (count : ℕ) → (has s count ≡ true) ↔ IsoRow (shape_no s) count

abbrev pub StrictFitsExactly : (Case → ℕ → ℕ → Bool) → Type 0
StrictFitsExactly fits = FitsExactly CarriesStrictly fits

-- What the code holds of a frame, in these numbers: shape by shape its number and where its data starts; header, Lc and Le as they
-- are. Rejects an extended Lc of two bytes. Bites at shape 5.
pub record SaysExactly (view : Apdu → Says) : Type 0 where
  pub instruction : (h : ApduHeader) (lc le : ℕ) → view (apdu_of h Instruction lc le) ≡ saying h 1 4 lc le
  pub le1 : (h : ApduHeader) (lc le : ℕ) → view (apdu_of h Le1 lc le) ≡ saying h 2 4 lc le
  pub lc1_data : (h : ApduHeader) (lc le : ℕ) → view (apdu_of h Lc1Data lc le) ≡ saying h 3 5 lc le
  pub lc1_data_le1 : (h : ApduHeader) (lc le : ℕ) → view (apdu_of h Lc1DataLe1 lc le) ≡ saying h 4 5 lc le
  pub lc3_data : (h : ApduHeader) (lc le : ℕ) → view (apdu_of h Lc3Data lc le) ≡ saying h 5 7 lc le
  pub lc3_data_le2 : (h : ApduHeader) (lc le : ℕ) → view (apdu_of h Lc3DataLe2 lc le) ≡ saying h 7 7 lc le
  pub le3 : (h : ApduHeader) (lc le : ℕ) → view (apdu_of h Le3 lc le) ≡ saying h 8 4 lc le

-- ---- the table is ISO's seven cases and the tolerated form

-- A body is of an ISO case exactly when its frame is read in that case's shape and is no tolerated form.
-- ISO 7816-3, 12.1.3. Rejects a table without one of ISO's rows. Bites at 00 03 00 00 | 00 00 01 AA.
abbrev pub IsoExactly : (List ℕ → Outcome Says) → Type 0
IsoExactly read =
    (frame : List ℕ) (c : IsoCase) → 4 ≤ length frame
    → (is_case c (drop 4 frame) ≡ true)
    ↔ ((says : Says) × (read frame ≡ Gives says) × (says.shape ≡ shape_no (shape_for c)) × (is_tolerated says.shape says.lc ≡ false))

-- What is read and is of no ISO case is the tolerated form, shape 7 with an Lc of 0, and it is of none; and every frame of that form is read.
-- Rejects a table with a row that ISO lacks, one numbered 9 or the retired sixth, and a reading without the tolerated form. Bites at 00 03 00 00 | 00 01, at
-- 00 03 00 00 | 00 00 00 05, and at 00 03 00 00 | 00 00 00 00 05.
pub record ToleratedExactly (read : List ℕ → Outcome Says) : Type 0 where
  pub of_no_case : (frame : List ℕ) (says : Says) → read frame ≡ Gives says
      → (is_tolerated says.shape says.lc ≡ true) ↔ ((c : IsoCase) → is_case c (drop 4 frame) ≡ false)
  pub is_read : (frame : List ℕ) → LcZero frame → length frame ≡ 9
      → (says : Says) × (read frame ≡ Gives says) × (is_tolerated says.shape says.lc ≡ true)

-- ---- the strict entry

-- 01: "It accepts the ISO cases, that is the shapes above without shape 6, and gives 6700 for shape 6"; 02, E4: "with Lc 0 it is 6700":
-- every answer, each exactly when, by the strict table and the same law as the ordinary reading. Rejects a strict entry that takes shape 6,
-- or Lc 0, one that says surplus at 9 there, and one that refuses everything. Bites at 00 03 00 00 | 00 00 00 05, at 00 03 00 00 | 00 00 00 00 05, at an
-- extended Lc of 0 with ten bytes, and at the header alone.
abbrev pub StrictExactly : (List ℕ → Outcome Says) → Type 0
StrictExactly strict = ReadingExactly InStrictTable strict

-- 01: "gives 6700 for shape 6", 02, E4: "with Lc 0 it is 6700", and for what is in no shape, by the number. Rejects a strict entry that takes shape 6.
abbrev pub StrictNoShapeExactly : (List ℕ → Outcome Says) → Type 0
StrictNoShapeExactly strict = NoShapeExactly InStrictTable strict

-- The payload by itself, behind any header, by the strict table.
abbrev pub StrictPayloadExactly : (List ℕ → Lengths) → Type 0
StrictPayloadExactly payload = PayloadExactly InStrictTable payload

-- 01: "It accepts the ISO cases ..; otherwise it equals the first", amended by 02, E4. Beside any first reading: an extended Lc of 0 in more than 7 bytes is
-- surplus at 7; to every other frame, the old form with data among them, the strict entry answers as the first does.
-- Rejects a strict entry with a status of its own. Bites at 00 03 00.
pub record StrictOtherwise (read strict : List ℕ → Outcome Says) : Type 0 where
  pub lc_zero : (frame : List ℕ) → LcZero frame → strict frame ≡ wrong_length 2 7
  pub other : (frame : List ℕ) → (LcZero frame → ⊥) → strict frame ≡ read frame

-- Where the two readings agree and differ, both answers said, pairs included. Every frame that ISO has, they read alike. They differ
-- exactly at an extended Lc of 0 in nine bytes or more: with nine "The ordinary reading still takes it, as the Rust does", with ten or more it is
-- surplus at 9 and at 7. With eight, the old form without data, both say surplus at 7 (02, E13). `at_nine` spells the nine bytes out: header, 00 00 00, two
-- bytes of Le.
-- Rejects an ordinary reading that refuses an Lc of 0, or still takes the old form, and a strict one that takes an Lc of 0. Bites at 00 03 00 00 |
-- 00 00 00 00 05, and at 00 03 00 00 | 00 00 00 05.
pub record DifferExactly (read strict : List ℕ → Outcome Says) : Type 0 where
  pub on_iso : (frame : List ℕ) (c : IsoCase) → 4 ≤ length frame → is_case c (drop 4 frame) ≡ true → strict frame ≡ read frame
  pub agree : (frame : List ℕ) → (Differ frame → ⊥) → strict frame ≡ read frame
  pub differ : (frame : List ℕ) → Differ frame → strict frame ≡ read frame → ⊥
  pub at_eight : (frame : List ℕ) → LcZero frame → length frame ≡ 8 → (read frame ≡ wrong_length 2 7) × (strict frame ≡ wrong_length 2 7)
  pub at_nine : (h : ApduHeader) (a b le : ℕ) → TwoByteLe a b le
      → let frame = frame_with h (0x00 ∷ 0x00 ∷ 0x00 ∷ a ∷ b ∷ []) in
      (read frame ≡ Gives (saying h 7 7 0 le)) × (strict frame ≡ wrong_length 2 7)
  pub from_ten : (frame : List ℕ) → LcZero frame → 10 ≤ length frame → (read frame ≡ wrong_length 2 9) × (strict frame ≡ wrong_length 2 7)

-- ---- writing

-- 01: "It refuses (R5) exactly when data length or Le is not one that the shape can carry .., else R2 exactly when the buffer is
-- shorter than the frame; else it writes the frame at the front and leaves the rest." Of a writer's answer (.0) and of what the
-- buffer holds afterwards (.1), for any parts and any buffer.
-- Rejects Le 257 in one byte, R2 one byte early or late, R2 before R5, a rest that is cleared, a refusal that writes, an invented length.
-- Bites at shape 2 with Le 257, in a buffer of none. What a writer can carry and the table of its frames belong together: `Carries` and `InTable`,
-- of the strict one `CarriesStrictly` and `InStrictTable`.
pub record WriteExactly (Carry : Case → ℕ → ℕ → Type 0) (Table : List ℕ → Says → List ℕ → Type 0) (write : Parts → List ℕ → Outcome ℕ × List ℕ) : Type 0 where
  pub r5 : (w : Parts) (old : List ℕ) → ((write w old).0 ≡ R 5) ↔ (Carry w.shape (length w.content) w.le → ⊥)
  pub r2 : (w : Parts) (old : List ℕ) → ((write w old).0 ≡ R 2) ↔ ((frame : List ℕ) × IsFrameOf Table w frame × (length old < length frame))
  pub writes : (w : Parts) (old frame : List ℕ) → IsFrameOf Table w frame → length frame ≤ length old
      → write w old ≡ (Gives (length frame), frame ++ drop (length frame) old)
  pub refused : (w : Parts) (old : List ℕ) (n : ℕ) → (write w old).0 ≡ R n → (write w old).1 ≡ old

-- 02, E4: "a strict writer is added that refuses .. Lc 0 in shape 7, with R5 and is otherwise the writer": R5, R2, the frame and the buffer, by
-- the strict table. Rejects a writer of shape 7 without data, and R2 before R5. Bites at shape 7 without data, in a buffer of none.
abbrev pub StrictWriteExactly : (Parts → List ℕ → Outcome ℕ × List ℕ) → Type 0
StrictWriteExactly write = WriteExactly CarriesStrictly InStrictTable write

-- The strict writer against ISO's cases, with no table and no reading between: whatever it writes is of the case that its shape is, with that header, that data
-- and that Ne; and every frame of a case, taken apart and written, is that frame again, the buffer's rest kept. Rejects a writer of shape 7 without data
-- (`strict_writes_no_data`), and one that wants data in every shape (`strict_wants_data`). Bites at shape 7 without data, and at the header alone.
pub record WritesIso (write : Parts → List ℕ → Outcome ℕ × List ℕ) : Type 0 where
  pub of_case : (w : Parts) (old : List ℕ) (n : ℕ) → (write w old).0 ≡ Gives n
      → let frame = take n (write w old).1 in
      (c : IsoCase) × IsIso c frame × (w.shape ≡ shape_for c) × (w.header ≡ iso_header frame) × (w.content ≡ iso_data c frame) × (w.le ≡ ne_of c (drop 4 frame))
  pub each_case : (frame old : List ℕ) (c : IsoCase) → AreBytes frame → IsIso c frame → length frame ≤ length old
      → write (parts_of (iso_header frame) (shape_for c) (iso_data c frame) (ne_of c (drop 4 frame))) old ≡ (Gives (length frame), frame ++ drop (length frame) old)

-- The same sentence, beside any writer, with any parts and buffer. Rejects a strict writer that refuses every shape without data. Bites at shape 1.
pub record StrictWriteOtherwise (write strict : Parts → List ℕ → Outcome ℕ × List ℕ) : Type 0 where
  pub seven : (w : Parts) (old : List ℕ) → shape_no w.shape ≡ 7 → length w.content ≡ 0 → strict w old ≡ (R 5, old)
  pub other : (w : Parts) (old : List ℕ) → (shape_no w.shape ≡ 7 → 1 ≤ length w.content) → strict w old ≡ write w old

-- ---- there and back

-- A frame that is read and, given room, written again is the same frame, and the buffer's rest is kept.
-- Rejects a writer that writes Le 256 as 01. Bites at 00 03 00 00 | 00 in a buffer of 6.
abbrev pub ReadThenWritten : (List ℕ → Outcome Says) → (List ℕ → Says → List ℕ) → (Parts → List ℕ → Outcome ℕ × List ℕ) → Type 0
ReadThenWritten read cut write =
    (frame old : List ℕ) (a : Apdu) → AreBytes frame → read frame ≡ Gives (says_of a) → length frame ≤ length old
    → write (parts_of a.header a.shape (cut frame (says_of a)) a.le) old ≡ (Gives (length frame), frame ++ drop (length frame) old)

-- Fields that the writer accepts read back as themselves: header, shape, data and Le.
-- Rejects a writer that accepts Le 257 for one byte. Bites at shape 2 with Le 257.
abbrev pub WrittenThenRead : (List ℕ → Outcome Says) → (List ℕ → Says → List ℕ) → (Parts → List ℕ → Outcome ℕ × List ℕ) → Type 0
WrittenThenRead read cut write =
    (w : Parts) (old : List ℕ) (n : ℕ) → (write w old).0 ≡ Gives n
    → let says = says_of (apdu_of w.header w.shape (length w.content) w.le) in
    (read (take n (write w old).1) ≡ Gives says) × (cut (take n (write w old).1) says ≡ w.content)

-- A writer accepts exactly what a reader reads, and has room for: parts that are bytes are written in n bytes exactly when there is a frame of n
-- bytes, no longer than the buffer, that is read as these parts. Rejects a strict writer that takes shape 7 without data, beside the strict reading,
-- which has none. Bites there.
abbrev pub AcceptsWhatIsRead : (List ℕ → Outcome Says) → (List ℕ → Says → List ℕ) → (Parts → List ℕ → Outcome ℕ × List ℕ) → Type 0
AcceptsWhatIsRead read cut write =
    (w : Parts) (old : List ℕ) (n : ℕ) → AreParts w
    → let says = says_of (apdu_of w.header w.shape (length w.content) w.le) in
    ((write w old).0 ≡ Gives n)
    ↔ ((frame : List ℕ) × AreBytes frame × (length frame ≡ n) × (n ≤ length old) × (read frame ≡ Gives says) × (cut frame says ≡ w.content))

-- The strict pair, there and back, each by the law above. Ours: what is written strictly is read strictly as itself, and back; given room, the
-- strict writer takes exactly what the strict reader reads. Rejects a strict writer that takes shape 7 without data: it is not read back. Bites there.
pub record StrictThereAndBack (strict : List ℕ → Outcome Says) (cut : List ℕ → Says → List ℕ) (write : Parts → List ℕ → Outcome ℕ × List ℕ) : Type 0 where
  pub read_then_written : ReadThenWritten strict cut write
  pub written_then_read : WrittenThenRead strict cut write
  pub accepts : AcceptsWhatIsRead strict cut write

-- ---- what the answers say

-- Of a reading what its frame says, in the numbers of `SaysExactly`, or a status word with its pair; of a writing the frame's length, or a refusal: each case has its
-- words, and no other has them. Rejects a view that gives 6a80 for every status word (`always6a80`), one that says Lc for Le (`lc_for_le`), and one that counts the header twice
-- (`header_counted_twice`).
pub record ReadingSaidExactly (said : Reading → Outcome Says) : Type 0 where
  pub frame : (r : Reading) (a : Apdu) → (said r ≡ Gives (says_of a)) ↔ (r ≡ Ok a)
  pub status : (r : Reading) (s : ApduStatusCode) → (said r ≡ Word (word_of s)) ↔ (r ≡ Err s)

pub record WrittenSaidExactly (said : Written → Outcome ℕ) : Type 0 where
  pub refused : (r : Written) (why : Refusal) → (said r ≡ R (refusal_no why)) ↔ (r ≡ Err why)
  pub frame : (r : Written) (n : ℕ) → (said r ≡ Gives n) ↔ (r ≡ Ok n)

-- ---- the numbers tell the cases apart

abbrev pub ShapeOneToOne : Type 0
ShapeOneToOne = (a b : Case) → shape_no a ≡ shape_no b → a ≡ b

abbrev pub SaysOneToOne : Type 0
SaysOneToOne = (a b : Apdu) → says_of a ≡ says_of b → a ≡ b

abbrev pub ReadingOneToOne : Type 0
ReadingOneToOne = (a b : Reading) → reading_of a ≡ reading_of b → a ≡ b

abbrev pub WrittenOneToOne : Type 0
WrittenOneToOne = (a b : Written) → written_of a ≡ written_of b → a ≡ b

-- ---- the contracts and the claims

-- Whatever meets a contract of reading or writing meets the claim on it: the contracts say what is claimed. A contract of the strict writer that names the
-- other table fails it, with code to match. `data` takes what a frame says as the code holds it, and gives what whatever meets the claim gives of the numbers.
pub record ContractsAsClaimed : Type 0 where
  pub row : (f : Case → TableRow) → ((s : Case) → Row s (f s)) → RowExactly f
  pub payload : (f : Entry → List ℕ → Lengths) → ((entry : Entry) (p : List ℕ) → Payload entry p (f entry p))
      → PayloadExactly InTable (f Ordinary) × StrictPayloadExactly (f Strict)
  pub shape_number : (f : Case → ℕ) → ((s : Case) → ShapeNumber s (f s)) → ShapeNumberExactly f
  pub data_place : (f : Apdu → Place) → ((a : Apdu) → DataPlace a (f a)) → PlaceExactly f
  pub cut_data : (f : List ℕ → Apdu → List ℕ) → ((frame : List ℕ) (a : Apdu) → Data frame a (f frame a))
      → (g : List ℕ → Says → List ℕ) → DataExactly g → (frame : List ℕ) (a : Apdu) → f frame a ≡ g frame (says_of a)
  pub fits : (f : Case → ℕ → ℕ → Bool) → ((s : Case) (count le : ℕ) → Fits s count le (f s count le)) → FitsExactly Carries f
  pub strict_has : (f : Case → ℕ → Bool) → ((s : Case) (count : ℕ) → StrictHas s count (f s count)) → StrictRowExactly f
  pub read : (f : List ℕ → Reading) → ((frame : List ℕ) → Read frame (f frame)) → ReadingExactly InTable (λ frame. reading_of (f frame))
  pub read_strict : (f : List ℕ → Reading) → ((frame : List ℕ) → ReadStrict frame (f frame)) → StrictExactly (λ frame. reading_of (f frame))
  pub write : (f : Parts → List ℕ → Written × List ℕ) → ((w : Parts) (old : List ℕ) → Write w old (f w old).0 (f w old).1)
      → WriteExactly Carries InTable (λ w old. (written_of (f w old).0, (f w old).1))
  pub write_strict : (f : Parts → List ℕ → Written × List ℕ) → ((w : Parts) (old : List ℕ) → WriteStrict w old (f w old).0 (f w old).1)
      → StrictWriteExactly (λ w old. (written_of (f w old).0, (f w old).1))

-- ---- two results that satisfy a contract are equal, for each public function; of the writers, the answer and the buffer

pub record ResultsDetermined : Type 0 where
  pub row : (s : Case) → AtMostOne (Row s)
  pub fits : (s : Case) (count le : ℕ) → AtMostOne (Fits s count le)
  pub strict_has : (s : Case) (count : ℕ) → AtMostOne (StrictHas s count)
  pub payload : (entry : Entry) (p : List ℕ) → AtMostOne (Payload entry p)
  pub shape_number : (s : Case) → AtMostOne (ShapeNumber s)
  pub read : (frame : List ℕ) → AtMostOne (Read frame)
  pub read_strict : (frame : List ℕ) → AtMostOne (ReadStrict frame)
  pub data_place : (a : Apdu) → AtMostOne (DataPlace a)
  pub cut_data : (frame : List ℕ) (a : Apdu) → AtMostOne (Data frame a)
  pub write : (w : Parts) (old : List ℕ) → AtMostOne (λ (o : Written × List ℕ). Write w old o.0 o.1)
  pub write_strict : (w : Parts) (old : List ℕ) → AtMostOne (λ (o : Written × List ℕ). WriteStrict w old o.0 o.1)
