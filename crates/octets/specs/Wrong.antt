-- Wrong programs, one fault each. proofs/Refuted.antt shows the claim that is false of each.
use Rattle.std.specs.Prelude.{ℕ, ◌+◌, ◌*◌, ◌/◌, ◌%◌, ◌-◌, Bool, true, List, [], ◌∷◌, ◌++◌, eqb, leb, length, take, drop, replicate}
use Rattle.outcome.specs.Notation.{when◌then◌else◌}
use Rattle.octets.specs.Bytes.{byte, laid, part_of}

-- "the rest stays": here it becomes 0. Where s is longer than old, `length old - length s` is 0
abbrev pub clears_the_rest : List ℕ → List ℕ → List ℕ
clears_the_rest s old = s ++ replicate (length old - length s) 0

-- nothing is written
abbrev pub writes_nothing : List ℕ → List ℕ → List ℕ
writes_nothing s old = old

-- the first byte is written to every place
abbrev pub repeats_the_first : List ℕ → List ℕ → List ℕ
repeats_the_first s old = laid (replicate (length s) (byte s 0)) old

-- a buffer of one byte is left as it was
abbrev pub spares_the_last : List ℕ → List ℕ → List ℕ
spares_the_last s old = when leb (length old) 1 then old else laid s old

-- "big-endian": here the low byte comes first
abbrev pub low_byte_first : ℕ → List ℕ
low_byte_first n = n % 256 ∷ n / 256 ∷ []

abbrev pub pair_low_first : ℕ → ℕ → ℕ
pair_low_first hi lo = lo * 256 + hi

-- "(4, big-endian)": here the lowest byte comes first too
abbrev pub little_endian : ℕ → List ℕ
little_endian n = n % 256 ∷ n / 256 % 256 ∷ n / 0x10000 % 256 ∷ n / 0x1000000 ∷ []

-- the third byte of four is written twice
abbrev pub second_byte_lost : ℕ → List ℕ
second_byte_lost n = n / 0x1000000 ∷ n / 256 % 256 ∷ n / 256 % 256 ∷ n % 256 ∷ []

-- a length of 128 or more is read as another
abbrev pub drops_the_top_bit : ℕ → ℕ
drops_the_top_bit b = b % 128

-- "zero after their end": here the first byte alone is looked at
abbrev pub first_byte_only : List ℕ → Bool
first_byte_only s = eqb (byte s 0) 0

-- a part that ends where the list ends comes back empty
abbrev pub empty_to_the_end : List ℕ → ℕ → ℕ → List ℕ
empty_to_the_end s start end = when leb (length s) end then [] else take (end - start) (drop start s)

-- a second wrong answer of each kind: one too many, a high byte that is lost, a test that always or never passes, a part that
-- begins one byte late
abbrev pub one_too_many : ℕ → ℕ
one_too_many b = b + 1

abbrev pub high_byte_lost : ℕ → ℕ → ℕ
high_byte_lost hi lo = lo

abbrev pub high_byte_zero : ℕ → List ℕ
high_byte_zero n = 0 ∷ n % 256 ∷ []

abbrev pub always_zero : List ℕ → Bool
always_zero s = true

abbrev pub one_byte_late : List ℕ → ℕ → ℕ → List ℕ
one_byte_late s start end = part_of s (start + 1) end
