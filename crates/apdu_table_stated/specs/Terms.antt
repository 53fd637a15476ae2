-- Words that only the claims use: a frame of a row, built from its fields as document 01's table spells them; a frame that ends early in a
-- row; the rows of a table. They know a row by its columns alone.
use Rattle.std.specs.Prelude.{◌+◌, ◌≤◌, ◌<◌, ◌≡◌, ◌∷◌, ◌++◌}
use Rattle.apdu_table_stated.specs.Words.{ℕ, List, [], length, take, byte, pair_at, ApduHeader, Says, Row}
use Rattle.apdu_stated.specs.Terms.{IsPair, OneByteLe, TwoByteLe, frame_with, saying, LongestFront}

-- `LcField long lc bytes`: the bytes of an Lc field of this length that says lc. 01: "Lc", "00, Lc (2)", or none
pub data LcField : (long : ℕ) → (lc : ℕ) → List ℕ → Type 0 where
  no_lc : LcField 0 0 []
  one_lc : {lc : ℕ} → lc ≤ 255 → LcField 1 lc (lc ∷ [])
  three_lc : {hi lo lc : ℕ} → IsPair hi lo lc → LcField 3 lc (0x00 ∷ hi ∷ lo ∷ [])

-- `LeField long le bytes`: the same of an Le field. 01: "Le (1)", "Le (2)", "00, Le (2)", or none; "an absent Le reads as 0"
pub data LeField : (long : ℕ) → (le : ℕ) → List ℕ → Type 0 where
  no_le : LeField 0 0 []
  one_le : {b le : ℕ} → OneByteLe b le → LeField 1 le (b ∷ [])
  two_le : {a b le : ℕ} → TwoByteLe a b le → LeField 2 le (a ∷ b ∷ [])
  three_le : {a b le : ℕ} → TwoByteLe a b le → LeField 3 le (0x00 ∷ a ∷ b ∷ [])

-- `OfRow r frame says content`: the frame is of the row, says this, and holds these bytes of data: header, Lc field, data, Le field. "Data
-- is exactly Lc bytes", and no fewer than the row's least
pub record OfRow (r : Row) (frame : List ℕ) (says : Says) (content : List ℕ) : Type 0 where
  pub header : ApduHeader
  pub lc_bytes : List ℕ
  pub le_bytes : List ℕ
  pub le : ℕ
  pub lc_field : LcField r.lc_field (length content) lc_bytes
  pub least : r.lc_least ≤ length content
  pub le_field : LeField r.le_field le le_bytes
  pub frame_is : frame ≡ frame_with header (lc_bytes ++ (content ++ le_bytes))
  pub says_is : says ≡ saying header r.number (4 + r.lc_field) (length content) le

-- the frame is of the row, whatever it says
abbrev pub IsOf : Row → List ℕ → Type 0
IsOf r frame = (says : Says) × (content : List ℕ) × OfRow r frame says content

-- `EndsIn frame long`: a frame that can begin with an Lc field of so many bytes, and ends before this field or its data does. That it has four bytes or
-- more is asked beside it
pub data EndsIn (frame : List ℕ) : ℕ → Type 0 where
  in_one : length frame < 5 → EndsIn frame 1
  in_one_data : 5 ≤ length frame → length frame < 5 + byte frame 4 → EndsIn frame 1
  in_three : length frame < 7 → (4 < length frame → byte frame 4 ≡ 0x00) → EndsIn frame 3
  in_three_data : 7 ≤ length frame → byte frame 4 ≡ 0x00 → length frame < 7 + pair_at frame 5 → EndsIn frame 3

-- the frame ends early in the row; the least Lc is not asked. Ours: it does not where the row's Le field has more than three bytes
pub record EarlyIn (r : Row) (frame : List ℕ) : Type 0 where
  pub le_field : r.le_field ≤ 3
  pub ends : EndsIn frame r.lc_field

-- `Has rows r`: a row of the table
pub data Has : List Row → Row → Type 0 where
  here : {r : Row} {rows : List Row} → Has (r ∷ rows) r
  behind : {r x : Row} {rows : List Row} → Has rows r → Has (x ∷ rows) r

-- `First rows frame r`: the first row of the table that the frame is of
pub data First : List Row → List ℕ → Row → Type 0 where
  this : {r : Row} {rows : List Row} {frame : List ℕ} → IsOf r frame → First (r ∷ rows) frame r
  later : {r x : Row} {rows : List Row} {frame : List ℕ} → (IsOf x frame → ⊥) → First rows frame r → First (x ∷ rows) frame r

-- the frame is of a row of the table
abbrev pub OfTable : List Row → List ℕ → Says → List ℕ → Type 0
OfTable rows frame says content = (r : Row) × Has rows r × OfRow r frame says content

-- "the first byte that no field can claim", over any table: apdu_stated's longest part from the frame's front that is in the table; 0 where no
-- part is (ours). Both tables have row 1, the header alone, so there it is at least 4
pub data MostClaimed (rows : List Row) (frame : List ℕ) (k : ℕ) : Type 0 where
  a_part : LongestFront (OfTable rows) frame k → MostClaimed rows frame k
  no_part : k ≡ 0 → ((j : ℕ) (says : Says) (content : List ℕ) → j ≤ length frame → OfTable rows (take j frame) says content → ⊥) → MostClaimed rows frame k
