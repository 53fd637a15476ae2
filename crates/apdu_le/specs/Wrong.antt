-- Wrong programs of an Le field, each with one fault.
use Rattle.std.specs.Prelude.{ℕ, ◌/◌, ◌%◌, Bool, ◌&&◌, List, [], ◌∷◌, length, leb, eqb}
use Rattle.outcome.specs.Notation.{when◌then◌else◌}
use Rattle.octets.specs.Bytes.{bytes2, laid}
use Rattle.apdu_stated.specs.Table.{by_length, le_read, le_least, le_most}
use Rattle.apdu_le.specs.Field.{written_in}

-- a written 0 is 0
abbrev pub zero_is_zero : List ℕ → ℕ
zero_is_zero field = written_in field

-- two bytes, with the most of one
abbrev pub two_as_one : List ℕ → ℕ
two_as_one field = le_read 1 (written_in field)

-- the zero rule for one byte alone
abbrev pub one_alone : List ℕ → ℕ
one_alone field = when eqb (length field) 1 then le_read 1 (written_in field) else written_in field

-- 256 in one byte goes out as ff
abbrev pub most_cut_short : ℕ → ℕ → List ℕ
most_cut_short width le =
    by_length width [] ((when leb le 255 then le else 255) ∷ [])
    (when eqb width 2 then bytes2 (le % 65536) else 0x00 ∷ bytes2 (le % 65536))

-- one byte is let say what two can
abbrev pub one_as_two : ℕ → ℕ → Bool
one_as_two width le = leb (le_least width) le && leb le (by_length width 0 65536 65536)

-- Le 0 is let into a field
abbrev pub zero_fits : ℕ → ℕ → Bool
zero_fits width le = leb le (le_most width)

-- two bytes, the low one first
abbrev pub low_half_first : ℕ → ℕ → List ℕ → List ℕ
low_half_first width le old =
    laid
    (by_length width [] (le % 256 ∷ [])
    (when eqb width 2 then le % 256 ∷ le % 65536 / 256 ∷ [] else 0x00 ∷ le % 256 ∷ le % 65536 / 256 ∷ []))
    old

-- three bytes as two: 00 forgotten in shape 8
abbrev pub without_the00 : ℕ → ℕ → List ℕ → List ℕ
without_the00 width le old = laid (by_length width [] (le % 256 ∷ []) (bytes2 (le % 65536))) old
