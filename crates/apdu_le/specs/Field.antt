-- Document 01, 'Eight frame shapes': an Le field by itself. "A written Le of 0 means 256 in one byte and 65536 in two; an absent Le
-- reads as 0". Its bytes as the table has them: none, Le (1), Le (2), and 00 before Le (2) in shape 8. What is written for an Le
-- is `le_bytes` of apdu_stated's Table.antt: 256 is written 00, and 65536 is written 00 00.
use Rattle.std.specs.Prelude.{ℕ, Bool, ◌&&◌, List, length, eqb, leb}
use Rattle.outcome.specs.Notation.{when◌then◌else◌}
use Rattle.octets.specs.Bytes.{byte, pair_at, laid}
use Rattle.apdu_stated.specs.Table.{by_length, le_least, le_most, le_read, le_bytes}

-- the number that stands in a field: its only byte, its two, or the two behind a first one
abbrev pub written_in : List ℕ → ℕ
written_in field = by_length (length field) 0 (byte field 0) (when eqb (length field) 2 then pair_at field 0 else pair_at field 1)

-- what the field says: the zero rule over its length
abbrev pub said_of : List ℕ → ℕ
said_of field = le_read (length field) (written_in field)

-- "Le 0 where absent, else 1..256 or 1..65536", of a field of so many bytes
abbrev pub can_say : ℕ → ℕ → Bool
can_say width le = leb (le_least width) le && leb le (le_most width)

-- a buffer with a field of so many bytes at its front, the rest of it as it was
abbrev pub put_of : ℕ → ℕ → List ℕ → List ℕ
put_of width le old = laid (le_bytes width le) old
