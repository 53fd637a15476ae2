-- Words that only the claims use: those of InTable.antt; where the two readings differ; when a payload ends early, and how much of a frame's
-- front is in a table; which data length and Le a shape can carry, once more, and what the strict writer takes of it.
use Rattle.std.specs.Prelude.{ℕ, ◌+◌, ◌*◌, ◌≤◌, ◌<◌, ◌≡◌}
use Rattle.octets.specs.Bytes.{AreBytes, byte, pair_at, part_of}
use Rattle.apdu_stated.specs.Words.{List, length, take, drop, ApduHeader, Case, Instruction, Le1, Lc1Data, Lc1DataLe1, Lc3Data, Lc3DataLe2, Le3, shape_no}
use Rattle.apdu_stated.specs.Answers.{Says, Apdu, Place}
use Rattle.apdu_stated.specs.Writing.{Parts}
use Rattle.apdu_stated.specs.Iso.{IsoCase, nc_of, lc_before}
pub use Rattle.apdu_stated.specs.Iso.{IsIso, iso_header, iso_says}
pub use Rattle.apdu_stated.specs.InTable.{IsPair, OneByteLe, full, plain, TwoByteLe, whole, pair, frame_with, saying, InTable, row1, row2, row3, row4, row5, row7, row8, IsoRow, InStrictTable}

-- `EndsEarly p`: a payload that ends before its Lc field or its data does. 02, E1: "A short payload of `00 x` counts as missing"
pub data EndsEarly (p : List ℕ) : Type 0 where
  in_lc : 2 ≤ length p → byte p 0 ≡ 0x00 → length p < 3 → EndsEarly p
  in_short_data : 2 ≤ length p → (byte p 0 ≡ 0x00 → ⊥) → length p < 1 + byte p 0 → EndsEarly p
  in_extended_data : byte p 0 ≡ 0x00 → 3 < length p → length p < 3 + (byte p 1 * 256 + byte p 2) → EndsEarly p

-- 02, E4: a "frame longer than 7 bytes with an extended Lc of 0"
pub record LcZero (frame : List ℕ) : Type 0 where
  pub longer : 7 < length frame
  pub extended : byte frame 4 ≡ 0x00
  pub zero_lc : pair_at frame 5 ≡ 0

-- `OldForm frame`: 02, E13, "an extended Lc with a one-byte Le", by its own length: shape 6, while there was one
pub record OldForm (frame : List ℕ) : Type 0 where
  pub extended : byte frame 4 ≡ 0x00
  pub one_behind : length frame ≡ 8 + pair_at frame 5

-- `Differ frame`: what the two readings differ on since E13: an extended Lc of 0, in nine bytes or more
pub record Differ (frame : List ℕ) : Type 0 where
  pub lc_zero : LcZero frame
  pub nine : 9 ≤ length frame

-- `LongestFront Table frame k`: of the parts that begin at the frame's front and are themselves in the table, the longest has k bytes
pub record LongestFront (Table : List ℕ → Says → List ℕ → Type 0) (frame : List ℕ) (k : ℕ) : Type 0 where
  pub within : k ≤ length frame
  pub in_table : (says : Says) × (content : List ℕ) × Table (take k frame) says content
  pub longest : (j : ℕ) (says : Says) (content : List ℕ) → k < j → j ≤ length frame → Table (take j frame) says content → ⊥

-- the frame of a table that has these parts
pub record IsFrameOf (Table : List ℕ → Says → List ℕ → Type 0) (w : Parts) (frame : List ℕ) : Type 0 where
  pub says : Says
  pub table : Table frame says w.content
  pub header : says.header ≡ w.header
  pub shape : says.shape ≡ shape_no w.shape
  pub le : says.le ≡ w.le

-- `Carries shape count le`: "data as long as the shape's Lc allows, empty where there is no Lc; Le 0 where absent, else 1..256 or 1..65536"
pub data Carries : Case → ℕ → ℕ → Type 0 where
  shape1 : Carries Instruction 0 0
  shape2 : {le : ℕ} → 1 ≤ le → le ≤ 256 → Carries Le1 0 le
  shape3 : {n : ℕ} → 1 ≤ n → n ≤ 255 → Carries Lc1Data n 0
  shape4 : {n le : ℕ} → 1 ≤ n → n ≤ 255 → 1 ≤ le → le ≤ 256 → Carries Lc1DataLe1 n le
  shape5 : {n : ℕ} → 1 ≤ n → n ≤ 65535 → Carries Lc3Data n 0
  shape7 : {n le : ℕ} → n ≤ 65535 → 1 ≤ le → le ≤ 65536 → Carries Lc3DataLe2 n le
  shape8 : {le : ℕ} → 1 ≤ le → le ≤ 65536 → Carries Le3 0 le

-- 02, E4: the strict writer "refuses .. Lc 0 in shape 7 .. and is otherwise the writer"
pub record CarriesStrictly (s : Case) (count le : ℕ) : Type 0 where
  pub carries : Carries s count le
  pub row : IsoRow (shape_no s) count

-- parts that are bytes
pub record AreParts (w : Parts) : Type 0 where
  pub cla : w.header.cla < 256
  pub ins : w.header.ins < 256
  pub p1 : w.header.p1 < 256
  pub p2 : w.header.p2 < 256
  pub content : AreBytes w.content

-- what a frame was read to say, as the code holds it
abbrev pub apdu_of : ApduHeader → Case → ℕ → ℕ → Apdu
apdu_of h shape lc le = record { header = h; shape = shape; lc = lc; le = le }

-- from, and up to and without
abbrev pub span : ℕ → ℕ → Place
span start end = record { start = start; end = end }

-- ---- ISO's cases
-- the data of a frame of a case
abbrev pub iso_data : IsoCase → List ℕ → List ℕ
iso_data c frame = part_of frame (4 + lc_before c) (4 + lc_before c + nc_of c (drop 4 frame))
