-- What a frame is and what reading one says: document 01, 'Eight frame shapes'; document 02, E13 and E4. Terms first, the claims last.
mod Words
use Words.*

-- what a frame says: its header (cla, ins, p1, p2); its shape's number; where its data starts, counted from 0, and how many bytes it has, Lc;
-- how many bytes it expects back, Le
pub record Says : Type 0 where
  pub header : ApduHeader
  pub shape : ℕ
  pub data_at : ℕ
  pub lc : ℕ
  pub le : ℕ

-- `IsPair hi lo n`: these two bytes are n. "Numbers of two bytes are big-endian"
pub record IsPair (hi lo n : ℕ) : Type 0 where
  pub high : hi ≤ 255
  pub low : lo ≤ 255
  pub is : n ≡ hi * 256 + lo

-- "A written Le of 0 means 256 in one byte and 65536 in two": `OneByteLe b le`, the byte b stands for le; `TwoByteLe hi lo le`, the two do
pub data OneByteLe : ℕ → ℕ → Type 0 where
  full : OneByteLe 0x00 256
  plain : {b : ℕ} → 1 ≤ b → b ≤ 255 → OneByteLe b b

pub data TwoByteLe : ℕ → ℕ → ℕ → Type 0 where
  whole : TwoByteLe 0x00 0x00 65536
  pair : {hi lo le : ℕ} → IsPair hi lo le → 1 ≤ le → TwoByteLe hi lo le

-- "A frame is CLA INS P1 P2 and a payload"
abbrev pub frame_with : ApduHeader → List ℕ → List ℕ
frame_with h payload = h.cla ∷ h.ins ∷ h.p1 ∷ h.p2 ∷ payload

-- the header, the shape's number, where the data starts (4 where there is none: ours), Lc, Le
abbrev pub saying : ApduHeader → ℕ → ℕ → ℕ → ℕ → Says
saying h shape data_at lc le = record { header = h; shape = shape; data_at = data_at; lc = lc; le = le }

-- `InTable frame says content`: the frame is in the table, says this, and holds these bytes of data. "Data is exactly Lc bytes";
-- "an absent Le reads as 0".
pub data InTable : List ℕ → Says → List ℕ → Type 0 where
  -- 1 | Instruction | empty |
  row1 : {h : ApduHeader} → InTable (frame_with h []) (saying h 1 4 0 0) []
  -- 2 | Le1 | Le (1 byte) |
  row2 : {h : ApduHeader} {b le : ℕ} → OneByteLe b le → InTable (frame_with h (b ∷ [])) (saying h 2 4 0 le) []
  -- 3 | Lc1Data | Lc, data | Lc 1..255
  row3 : {h : ApduHeader} {d : List ℕ} → 1 ≤ length d → length d ≤ 255 → InTable (frame_with h (length d ∷ d)) (saying h 3 5 (length d) 0) d
  -- 4 | Lc1DataLe1 | Lc, data, Le (1) | Lc 1..255
  row4 : {h : ApduHeader} {d : List ℕ} {b le : ℕ} → 1 ≤ length d → length d ≤ 255 → OneByteLe b le
      → InTable (frame_with h (length d ∷ (d ++ b ∷ []))) (saying h 4 5 (length d) le) d
  -- 5 | Lc3Data | 00, Lc (2), data | Lc 1..65535
  row5 : {h : ApduHeader} {d : List ℕ} {hi lo : ℕ} → 1 ≤ length d → IsPair hi lo (length d)
      → InTable (frame_with h (0x00 ∷ hi ∷ lo ∷ d)) (saying h 5 7 (length d) 0) d
  -- no row 6: 02, E13, "Shape 6 is retired"
  -- 7 | Lc3DataLe2 | 00, Lc (2), data, Le (2) | Lc 0..65535
  row7 : {h : ApduHeader} {d : List ℕ} {hi lo a b le : ℕ} → IsPair hi lo (length d) → TwoByteLe a b le
      → InTable (frame_with h (0x00 ∷ hi ∷ lo ∷ (d ++ a ∷ b ∷ []))) (saying h 7 7 (length d) le) d
  -- 8 | Le3 | 00, Le (2) |
  row8 : {h : ApduHeader} {a b le : ℕ} → TwoByteLe a b le → InTable (frame_with h (0x00 ∷ a ∷ b ∷ [])) (saying h 8 4 0 le) []

-- the strict table: the rows above that are ISO's. 02, E4: "In ISO 7816-3 a case with an Lc field carries at least one byte of data", and
-- that is shapes 3, 4, 5 and 7: "Strict shape 7 needs Lc 1..65535"
pub record IsoRow (shape lc : ℕ) : Type 0 where
  pub some_data : 3 ≤ shape → shape ≤ 7 → 1 ≤ lc

pub record InStrictTable (frame : List ℕ) (says : Says) (content : List ℕ) : Type 0 where
  pub table : InTable frame says content
  pub row : IsoRow says.shape says.lc

-- ---- Reading is the table: `InTable` for the definition `read_of`, `InStrictTable` for the strict one, `strict_of`

-- A frame is read exactly when it is in the table, and then as its row says.
abbrev pub ReadExactly : (List ℕ → Says → List ℕ → Type 0) → (List ℕ → Outcome Says) → Type 0
ReadExactly Table read =
    (frame : List ℕ) → AreBytes frame → (says : Says)
    → (read frame ≡ Gives says) ↔ ((content : List ℕ) × Table frame says content)

-- "A frame under 4 bytes gives 6a80", and no other does.
abbrev pub ShortExactly : (List ℕ → Outcome Says) → Type 0
ShortExactly read = (frame : List ℕ) → (read frame ≡ SW 0x6a80) ↔ (length frame < 4)

-- "A frame of 4 or more in no shape gives 6700", and no other does. (Its pair: Claims.antt.)
abbrev pub NoShapeExactly : (List ℕ → Says → List ℕ → Type 0) → (List ℕ → Outcome Says) → Type 0
NoShapeExactly Table read =
    (frame : List ℕ) → AreBytes frame
    → HasStatus 0x6700 (read frame) ↔ ((4 ≤ length frame) × ((says : Says) (content : List ℕ) → Table frame says content → ⊥))
