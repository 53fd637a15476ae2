-- Document 02, E9: the shapes of document 01, 'Eight frame shapes', "as rows (length of Lc field, least Lc, length of Le field)"; E13: "E9's
-- ordinary table loses its row 6"; E9 again: "The strict reading is the same table with other least Lc" (its "without row 6" is true of both now). The two tables, one under the other. A row's
-- number is its shape's in document 01, and not its place: none has number 6.
use Rattle.std.specs.Prelude.{◌∷◌}
use Rattle.apdu_table_stated.specs.Words.{ℕ, List, [], map, byte, Entry, Ordinary, Strict, Row}

-- a row: its shape's number, the length of its Lc field, the least Lc, the length of its Le field
abbrev pub numbered : (number : ℕ) → (lc_long : ℕ) → (least : ℕ) → (le_long : ℕ) → Row
numbered number lc_long least le_long = record { number = number; lc_field = lc_long; lc_least = least; le_field = le_long }

abbrev pub table_of : Entry → List Row
-- the ordinary table, document 01's without its row 6. Number, length of Lc field, least Lc, length of Le field
table_of Ordinary =
    numbered 1 0 0 0  -- 1 | Instruction | empty |
    ∷ numbered 2 0 0 1  -- 2 | Le1 | Le (1 byte) |
    ∷ numbered 3 1 1 0  -- 3 | Lc1Data | Lc, data | Lc 1..255
    ∷ numbered 4 1 1 1  -- 4 | Lc1DataLe1 | Lc, data, Le (1) | Lc 1..255
    ∷ numbered 5 3 1 0  -- 5 | Lc3Data | 00, Lc (2), data | Lc 1..65535
    ∷ numbered 7 3 0 2  -- 7 | Lc3DataLe2 | 00, Lc (2), data, Le (2) | Lc 0..65535
    ∷ numbered 8 0 0 3  -- 8 | Le3 | 00, Le (2) |
    ∷ []
-- ISO's, by which a frame is read strictly. 02, E4: "Strict shape 7 needs Lc 1..65535"
table_of Strict =
    numbered 1 0 0 0  -- 1 | Instruction | empty |
    ∷ numbered 2 0 0 1  -- 2 | Le1 | Le (1 byte) |
    ∷ numbered 3 1 1 0  -- 3 | Lc1Data | Lc, data | Lc 1..255
    ∷ numbered 4 1 1 1  -- 4 | Lc1DataLe1 | Lc, data, Le (1) | Lc 1..255
    ∷ numbered 5 3 1 0  -- 5 | Lc3Data | 00, Lc (2), data | Lc 1..65535
    ∷ numbered 7 3 1 2  -- 7 | Lc3DataLe2 | 00, Lc (2), data, Le (2) | Lc 1..65535
    ∷ numbered 8 0 0 3  -- 8 | Le3 | 00, Le (2) |
    ∷ []

-- ours: a table as the code holds it, four numbers a row in this order. That they are four is the code's type
abbrev pub row_from : List ℕ → Row
row_from columns = numbered (byte columns 0) (byte columns 1) (byte columns 2) (byte columns 3)

abbrev pub rows_of : List (List ℕ) → List Row
rows_of table = map row_from table

-- and back
abbrev pub columns_of : Row → List ℕ
columns_of r = r.number ∷ r.lc_field ∷ r.lc_least ∷ r.le_field ∷ []
