-- Document 01, 'Eight frame shapes': the table, its columns, and what follows from them; document 02, E13: "Shape 6 is retired", so there is no row 6.
-- Covered: the payload and condition of each row; "Data is exactly Lc bytes"; "A written Le of 0 means 256 in one byte and
-- 65536 in two; an absent Le reads as 0"; which data length and Le a shape can carry. Document 02, E4: what of it the strict table has.
use Rattle.std.specs.Prelude.{ℕ, ◌%◌, Bool, ◌&&◌, List, [], ◌∷◌, leb, ltb, eqb}
use Rattle.outcome.specs.Notation.{when◌then◌else◌}
use Rattle.octets.specs.Bytes.{bytes2}
pub use Rattle.apdu_stated.specs.declared.TableRow.{TableRow}
pub use Rattle.apdu_stated.specs.declared.Entry.{Entry}
pub use Rattle.apdu_stated.specs.declared.Entry.TheVariants.{Ordinary, Strict}
use Rattle.apdu_stated.specs.Words.{Case, Instruction, Le1, Lc1Data, Lc1DataLe1, Lc3Data, Lc3DataLe2, Le3}

-- a row: the Lc field's bytes, the least Lc, the Le field's bytes
abbrev pub columns : ℕ → ℕ → ℕ → TableRow
columns lc_long least le_long = record { lc_field = lc_long; lc_least = least; le_field = le_long }

abbrev pub row_of : Case → TableRow
row_of Instruction = columns 0 0 0  -- 1 | empty |
row_of Le1 = columns 0 0 1  -- 2 | Le (1 byte) |
row_of Lc1Data = columns 1 1 0  -- 3 | Lc, data | Lc 1..255
row_of Lc1DataLe1 = columns 1 1 1  -- 4 | Lc, data, Le (1) | Lc 1..255
row_of Lc3Data = columns 3 1 0  -- 5 | 00, Lc (2), data | Lc 1..65535
row_of Lc3DataLe2 = columns 3 0 2  -- 7 | 00, Lc (2), data, Le (2) | Lc 0..65535
row_of Le3 = columns 0 0 3  -- 8 | 00, Le (2) |

abbrev pub lc_field : Case → ℕ
lc_field s = (row_of s).lc_field

abbrev pub lc_least : Case → ℕ
lc_least s = (row_of s).lc_least

abbrev pub le_field : Case → ℕ
le_field s = (row_of s).le_field

-- by a field's length: no field, one byte, or more (the extended form)
abbrev pub by_length : {A : Type 0} → ℕ → A → A → A → A
by_length long none one more = when eqb long 0 then none else when eqb long 1 then one else more

-- the most that a field can say: an Lc field of one byte 255, of three (00, then two) 65535
abbrev pub lc_most : ℕ → ℕ
lc_most long = by_length long 0 255 65535

-- an Le field of one byte 256, of two, or three (00, then two), 65536
abbrev pub le_most : ℕ → ℕ
le_most long = by_length long 0 256 65536

-- where there is an Le field, it says at least 1
abbrev pub le_least : ℕ → ℕ
le_least long = when eqb long 0 then 0 else 1

-- "data as long as the shape's Lc allows, empty where there is no Lc"
unfoldable pub lc_fits : Case → ℕ → Bool
lc_fits s lc = leb (lc_least s) lc && leb lc (lc_most (lc_field s))

-- "Le 0 where absent, else 1..256 or 1..65536"
unfoldable pub le_fits : Case → ℕ → Bool
le_fits s le = leb (le_least (le_field s)) le && leb le (le_most (le_field s))

-- "data length or Le is not one that the shape can carry"
abbrev pub can_carry : Case → ℕ → ℕ → Bool
can_carry s data_length le = lc_fits s data_length && le_fits s le

-- ---- the two tables. 02, E9: "The strict reading is the same table with other least Lc"; its "without row 6" is true of both since E13.
-- 02, E4: "In ISO 7816-3 a case with an Lc field carries at least one byte of data": so row 7 begins at Lc 1, as rows 3, 4 and 5 do in both
abbrev pub least_of : Entry → Case → ℕ
least_of Ordinary s = lc_least s
least_of Strict s = when eqb (lc_field s) 0 then 0 else 1

-- whether a table has its row for so much data: from the row's least on
abbrev pub in_row : Entry → Case → ℕ → Bool
in_row entry s lc = leb (least_of entry s) lc

-- what each table can carry
unfoldable pub carried_by : Entry → Case → ℕ → ℕ → Bool
carried_by entry s data_length le = in_row entry s data_length && can_carry s data_length le

-- an extended Lc under row 7's least, which is in no row of the table
abbrev pub lc_under : Entry → ℕ → Bool
lc_under entry lc = ltb lc (least_of entry Lc3DataLe2)

-- "A written Le of 0 means 256 in one byte and 65536 in two": the rule once, over the number of bytes
abbrev pub le_read : ℕ → ℕ → ℕ
le_read long written = when eqb written 0 then le_most long else written

-- the bytes of an Lc field of so many bytes, and of an Le field: 256 is written 00, and 65536 is written 00 00
abbrev pub lc_bytes : ℕ → ℕ → List ℕ
lc_bytes long lc = by_length long [] (lc ∷ []) (0x00 ∷ bytes2 lc)

abbrev pub le_bytes : ℕ → ℕ → List ℕ
le_bytes long le =
    by_length long [] (le % 256 ∷ [])
    (when eqb long 2 then bytes2 (le % 65536) else 0x00 ∷ bytes2 (le % 65536))
