-- ISO/IEC 7816-3:2006, section 12.1.3: the seven cases of a command, by its body b of L bytes B1 .. BL; of each Nc, the number of its data bytes, and Ne,
-- the most bytes that may come back; and the one form beyond them that is tolerated. Written from the public table, apart from document 01's. The claims last.
mod Words
use Words.*

pub data IsoCase : Type 0 where
  Case1 Case2S Case3S Case4S Case2E Case3E Case4E : IsoCase

-- the column "the body": B1 is `byte b 0`, B2B3 `pair_at b 1`. A length test stands before each byte that is looked at
abbrev pub is_case : IsoCase → List ℕ → Bool
is_case Case1 b = eqb (length b) 0  -- 1 | L = 0
is_case Case2S b = eqb (length b) 1  -- 2S | L = 1
is_case Case3S b = leb 1 (length b) && not (eqb (byte b 0) 0) && eqb (length b) (1 + byte b 0)  -- 3S | B1 not 0, L = 1 + B1
is_case Case4S b = leb 1 (length b) && not (eqb (byte b 0) 0) && eqb (length b) (2 + byte b 0)  -- 4S | B1 not 0, L = 2 + B1
is_case Case2E b = leb 1 (length b) && eqb (byte b 0) 0 && eqb (length b) 3  -- 2E | B1 = 00, L = 3
is_case Case3E b = leb 3 (length b) && eqb (byte b 0) 0 && not (eqb (pair_at b 1) 0) && eqb (length b) (3 + pair_at b 1)  -- 3E | B1 = 00, B2B3 not 0, L = 3 + B2B3
is_case Case4E b = leb 3 (length b) && eqb (byte b 0) 0 && not (eqb (pair_at b 1) 0) && eqb (length b) (5 + pair_at b 1)  -- 4E | B1 = 00, B2B3 not 0, L = 5 + B2B3

-- Nc: what the Lc field says, B1 or B2B3; 0 without one
abbrev pub nc_of : IsoCase → List ℕ → ℕ
nc_of Case1 b = 0
nc_of Case2S b = 0
nc_of Case3S b = byte b 0
nc_of Case4S b = byte b 0
nc_of Case2E b = 0
nc_of Case3E b = pair_at b 1
nc_of Case4E b = pair_at b 1

-- how many bytes of Lc field stand before the data
abbrev pub lc_before : IsoCase → ℕ
lc_before Case1 = 0
lc_before Case2S = 0
lc_before Case3S = 1
lc_before Case4S = 1
lc_before Case2E = 0
lc_before Case3E = 3
lc_before Case4E = 3

-- a short Le field of 00 stands for 256, an extended one of 0000 for 65536
abbrev pub short_ne : ℕ → ℕ
short_ne le = when eqb le 0 then 256 else le

abbrev pub extended_ne : ℕ → ℕ
extended_ne le = when eqb le 0 then 65536 else le

-- Ne: the Le field is the body's end, BL in a short case, the two bytes before and at BL in an extended one; 0 without one
abbrev pub ne_of : IsoCase → List ℕ → ℕ
ne_of Case1 b = 0
ne_of Case2S b = short_ne (byte b 0)
ne_of Case3S b = 0
ne_of Case4S b = short_ne (byte b (length b - 1))
ne_of Case2E b = extended_ne (pair_at b 1)
ne_of Case3E b = 0
ne_of Case4E b = extended_ne (pair_at b (length b - 2))

-- which of document 01's shapes (`Case`) each case is, by the names of its table; `shape_no` is the table's number of a name
abbrev pub shape_for : IsoCase → Case
shape_for Case1 = Instruction
shape_for Case2S = Le1
shape_for Case3S = Lc1Data
shape_for Case4S = Lc1DataLe1
shape_for Case2E = Le3
shape_for Case3E = Lc3Data
shape_for Case4E = Lc3DataLe2

-- ours: what the ordinary reading, as the Rust does, takes beyond ISO's table: an extended Lc of 0 before an Le
abbrev pub is_tolerated : ℕ → ℕ → Bool
is_tolerated shape lc = eqb shape 7 && eqb lc 0

-- `IsIso c frame`: four bytes of header, and behind them a body of the case
abbrev pub IsIso : IsoCase → List ℕ → Type 0
IsIso c frame = (4 ≤ length frame) × (is_case c (drop 4 frame) ≡ true)

-- the header, and what a frame of a case says, by ISO's Nc and Ne
abbrev pub iso_header : List ℕ → ApduHeader
iso_header frame = record { cla = byte frame 0; ins = byte frame 1; p1 = byte frame 2; p2 = byte frame 3 }

abbrev pub iso_says : IsoCase → List ℕ → Says
iso_says c frame = saying (iso_header frame) (shape_no (shape_for c)) (4 + lc_before c) (nc_of c (drop 4 frame)) (ne_of c (drop 4 frame))

-- ISO's Nc and Ne: a frame of a case is read with its header, in the case's shape, its Lc is Nc, its Le is Ne, and its data starts behind the Lc field. Of
-- both readings
abbrev pub IsoCounts : (List ℕ → Outcome Says) → Type 0
IsoCounts read = (frame : List ℕ) (c : IsoCase) → IsIso c frame → read frame ≡ Gives (iso_says c frame)

-- 02, E4: "The strict frames are then ISO's seven cases": a body is of an ISO case exactly when its frame is read strictly in that case's
-- shape; and what is read strictly is of a case. (That the ordinary reading is these and the tolerated form: Claims.antt.)
pub record StrictIsIso (strict : List ℕ → Outcome Says) : Type 0 where
  pub each_case : (frame : List ℕ) (c : IsoCase) → 4 ≤ length frame
      → (is_case c (drop 4 frame) ≡ true) ↔ ((says : Says) × (strict frame ≡ Gives says) × (says.shape ≡ shape_no (shape_for c)))
  pub no_other : (frame : List ℕ) (says : Says) → strict frame ≡ Gives says
      → (4 ≤ length frame) × ((c : IsoCase) × (is_case c (drop 4 frame) ≡ true) × (says.shape ≡ shape_no (shape_for c)))
  pub counts : IsoCounts strict
