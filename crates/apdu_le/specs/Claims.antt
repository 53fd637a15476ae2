-- What is promised of an Le field, of any function. Proved in proofs/Theorems.antt; proofs/Only.antt shows that nothing else meets the
-- claims, proofs/Refuted.antt that the programs of specs/Wrong.antt do not.
use Rattle.std.specs.Prelude.{ℕ, ◌+◌, ◌*◌, ◌<◌, ◌≤◌, ◌≡◌, Bool, true, List, [], ◌∷◌, ◌↔◌}
use Rattle.outcome.specs.Notation.{AtMostOne}
use Rattle.octets.specs.Bytes.{laid}
use Rattle.apdu_le.specs.Promises.{Fits, Read, Put}

-- 01: "A written Le of 0 means 256 in one byte and 65536 in two; an absent Le reads as 0", and any other number is itself. A first
-- byte before two is not looked at (in shape 8 it is 00), nor what comes behind them (ours: no shape has a longer field).
-- Rejects 0 read as 0, and a field of two bytes with the most of one. Bites at 00, and at 00 00.
pub record ReadExactly (said : List ℕ → ℕ) : Type 0 where
  pub absent : said [] ≡ 0
  pub one_zero : said (0x00 ∷ []) ≡ 256
  pub one : (b : ℕ) → (b ≡ 0 → ⊥) → said (b ∷ []) ≡ b
  pub two_zero : said (0x00 ∷ 0x00 ∷ []) ≡ 65536
  pub two : (hi lo : ℕ) → (hi * 256 + lo ≡ 0 → ⊥) → said (hi ∷ lo ∷ []) ≡ hi * 256 + lo
  pub three : (x hi lo : ℕ) (more : List ℕ) → said (x ∷ hi ∷ lo ∷ more) ≡ said (hi ∷ lo ∷ [])

-- The table's "Le (1)", "Le (2)" and "00, Le (2)", at the front of a buffer, and nothing without a field. So 256 is written 00 and 65536 00 00: what is
-- written is left of Le when the most is taken off as often as it goes; oftener than once is ours, since `fits` is asked first. Rejects 00 forgotten in
-- shape 8, and the low byte first. Bites at 1 in two bytes.
pub record PutExactly (put : ℕ → ℕ → List ℕ → List ℕ) : Type 0 where
  pub none : (le : ℕ) (old : List ℕ) → put 0 le old ≡ old
  pub one : (times b : ℕ) (old : List ℕ) → b < 256 → put 1 (times * 256 + b) old ≡ laid (b ∷ []) old
  pub two : (times hi lo : ℕ) (old : List ℕ) → hi < 256 → lo < 256 → put 2 (times * 65536 + (hi * 256 + lo)) old ≡ laid (hi ∷ lo ∷ []) old
  pub more : (width times hi lo : ℕ) (old : List ℕ) → 3 ≤ width → hi < 256 → lo < 256
      → put width (times * 65536 + (hi * 256 + lo)) old ≡ laid (0x00 ∷ hi ∷ lo ∷ []) old

-- The same rule in both directions: an Le that its field can say is read back as itself, and the bytes of a field are those that are
-- written for what it says. Rejects a writer that keeps 255 for 256, and a reader that knows only one of the two zeros.
-- Bites at 256 in one byte, and at 65536.
pub record BothWays (said : List ℕ → ℕ) (bytes : ℕ → ℕ → List ℕ) : Type 0 where
  pub back_one : (le : ℕ) → 1 ≤ le → le ≤ 256 → said (bytes 1 le) ≡ le
  pub back_two : (le : ℕ) → 1 ≤ le → le ≤ 65536 → said (bytes 2 le) ≡ le
  pub back_three : (le : ℕ) → 1 ≤ le → le ≤ 65536 → said (bytes 3 le) ≡ le
  pub again_one : (b : ℕ) → b < 256 → bytes 1 (said (b ∷ [])) ≡ b ∷ []
  pub again_two : (hi lo : ℕ) → hi < 256 → lo < 256 → bytes 2 (said (hi ∷ lo ∷ [])) ≡ hi ∷ lo ∷ []
  pub again_three : (hi lo : ℕ) → hi < 256 → lo < 256 → bytes 3 (said (0x00 ∷ hi ∷ lo ∷ [])) ≡ 0x00 ∷ hi ∷ lo ∷ []

-- 01: "Le 0 where absent, else 1..256 or 1..65536". Rejects 257 in one byte, and 0 in a field. Bites at both.
pub record FitsExactly (fits : ℕ → ℕ → Bool) : Type 0 where
  pub none : (le : ℕ) → (fits 0 le ≡ true) ↔ (le ≡ 0)
  pub one : (le : ℕ) → (fits 1 le ≡ true) ↔ ((1 ≤ le) × (le ≤ 256))
  pub more : (width le : ℕ) → 2 ≤ width → (fits width le ≡ true) ↔ ((1 ≤ le) × (le ≤ 65536))

-- 01: "Show that two results satisfying it are equal".
pub record ResultsDetermined : Type 0 where
  pub read : (field : List ℕ) → AtMostOne (Read field)
  pub put : (width le : ℕ) (old : List ℕ) → AtMostOne (Put width le old)
  pub fits : (width le : ℕ) → AtMostOne (Fits width le)
