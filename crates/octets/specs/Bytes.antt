-- Bytes in lists: numbers of several bytes (01, 'Eight frame shapes': "Numbers of two bytes are big-endian"), a field
-- written into a buffer (01, 'The decision': "Each field is written into the rest of the buffer after the field before";
-- 'Refusal numbers': "fills the front of the buffer; the rest stays"), and the zero tail of an order.
use Rattle.std.specs.Prelude.{ℕ, ◌+◌, ◌*◌, ◌/◌, ◌%◌, ◌<◌, ◌-◌, Bool, true, ◌&&◌, List, [], ◌∷◌, get_or, length, take, drop, eqb, ltb}
use Rattle.outcome.specs.Notation.{when◌then◌else◌}

-- the byte at place i, counted from 0. Past the end it would be 0: a length test stands beside each use
abbrev pub byte : List ℕ → ℕ → ℕ
byte s i = get_or s i 0

-- every number of the list is a byte's
abbrev pub AreBytes : List ℕ → Type 0
AreBytes s = (i : ℕ) → byte s i < 256

-- a number of two bytes: high, low
abbrev pub pair_at : List ℕ → ℕ → ℕ
pair_at s i = byte s i * 256 + byte s (i + 1)

-- n below 2^16 as two bytes, and n below 2^32 as four: big-endian
abbrev pub bytes2 : ℕ → List ℕ
bytes2 n = n / 256 ∷ n % 256 ∷ []

abbrev pub bytes4 : ℕ → List ℕ
bytes4 n = n / 0x1000000 ∷ n / 0x10000 % 256 ∷ n / 256 % 256 ∷ n % 256 ∷ []

-- `laid s old`: the bytes s at the front of the buffer old, the rest of old as it was. What does not fit is left out
abbrev pub laid : List ℕ → List ℕ → List ℕ
laid [] old = old
laid (x ∷ s) [] = []
laid (x ∷ s) (y ∷ old) = x ∷ laid s old

abbrev pub all_zero : List ℕ → Bool
all_zero [] = true
all_zero (x ∷ s) = eqb x 0 && all_zero s

-- the bytes from place start up to and without place end; none where end is before start or past the list's end.
-- `end - start` stands behind the test that start ≤ end
unfoldable pub part_of : List ℕ → ℕ → ℕ → List ℕ
part_of s start end =
    when ltb end start then []
    else when ltb (length s) end then []
    else take (end - start) (drop start s)
