-- Words that only the claims use: a frame of the old form by its bytes, a frame of any of document 01's eight shapes, and what each becomes.
use Rattle.std.specs.Prelude.{◌≤◌, ◌≡◌, ◌∷◌, ◌++◌}
use Rattle.convert_stated.specs.Words.{ℕ, List, [], length, ApduHeader, Lc3DataLe2, Le3, Says, read_of, Gives, parts_of, IsPair, OneByteLe, frame_with, InTable, IsFrameOf}

-- `Old frame h d le`: a frame of the old form, with this header, data and Le. 01: 6 | Lc3DataLe1 | 00, Lc (2), data, Le (1) | Lc 0..65535
pub data Old : List ℕ → ApduHeader → List ℕ → ℕ → Type 0 where
  row6 : {h : ApduHeader} {d : List ℕ} {hi lo b le : ℕ} → IsPair hi lo (length d) → OneByteLe b le → Old (frame_with h (0x00 ∷ hi ∷ lo ∷ (d ++ b ∷ []))) h d le

-- `Holds frame h d le`: a frame of one of document 01's eight shapes: one that the table has, or the old form; with this header, data and Le
pub data Holds (frame : List ℕ) : ApduHeader → List ℕ → ℕ → Type 0 where
  by_table : {says : Says} {d : List ℕ} → InTable frame says d → Holds frame says.header d says.le
  by_old : {h : ApduHeader} {d : List ℕ} {le : ℕ} → Old frame h d le → Holds frame h d le

-- `Becomes frame result`: what a frame is converted to. Its rows are E13's sentence: "the same header, data and Le as shape 7, or as shape 8 when Lc is
-- 0. A frame of another shape comes back unchanged."
pub data Becomes : List ℕ → List ℕ → Type 0 where
  as_shape_7 : {frame result : List ℕ} {h : ApduHeader} {d : List ℕ} {le : ℕ}
      → Old frame h d le → 1 ≤ length d → IsFrameOf InTable (parts_of h Lc3DataLe2 d le) result → Becomes frame result
  as_shape_8 : {frame result : List ℕ} {h : ApduHeader} {le : ℕ} → Old frame h [] le → IsFrameOf InTable (parts_of h Le3 [] le) result → Becomes frame result
  unchanged : {frame : List ℕ} {says : Says} {d : List ℕ} → InTable frame says d → Becomes frame frame

-- a frame of shape 7 without data, which the strict reading does not take
pub record EmptySeven (frame : List ℕ) : Type 0 where
  pub says : Says
  pub is_read : read_of frame ≡ Gives says
  pub seven : says.shape ≡ 7
  pub empty : says.lc ≡ 0
