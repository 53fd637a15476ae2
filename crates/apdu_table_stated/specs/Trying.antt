-- Document 02, E9: a reader "that answers by the row that fits", over the rows of whatever table it is given. What a row makes of a frame by
-- its three columns alone, and what comes of trying the rows in turn. Document 01, 'Eight frame shapes': "A frame is CLA INS P1 P2 and a
-- payload", of an Lc field, data and an Le field. Document 02, E1: where the length of a frame that no row fits went wrong.
use Rattle.std.specs.Prelude.{◌+◌, ◌&&◌, ◌||◌, ◌∷◌}
use Rattle.apdu_table_stated.specs.Words.{ℕ, Bool, false, not, List, [], length, leb, ltb, eqb, when◌then◌else◌, byte, pair_at, le_read, Row, Tried, Ok, Err, UnderFour, Early, Beyond}

-- the lengths that fields have: Lc in 0, 1 or 3 bytes, Le in 0 to 3. Ours: a row of other lengths fits no frame, claims no byte, and no frame ends
-- early in it; any two of these lengths make a row
abbrev pub is_row : Row → Bool
is_row r = (eqb r.lc_field 0 || eqb r.lc_field 1 || eqb r.lc_field 3) && leb r.le_field 3

-- "00, Lc (2)", "00, Le (2)": a field of three bytes that stands at this place begins with 00, as far as the frame goes
unfoldable pub begins : (long : ℕ) → (place : ℕ) → List ℕ → Bool
begins long place frame = not (eqb long 3) || leb (length frame) place || eqb (byte frame place) 0x00

-- what an Lc field of so many bytes says, behind the header: the byte, or the two behind 00. 0 where the frame ends before the field does
unfoldable pub lc_in : (long : ℕ) → List ℕ → ℕ
lc_in long frame =
    when ltb (length frame) (4 + long) then 0
    else when eqb long 1 then byte frame 4
    else when eqb long 3 then pair_at frame 5
    else 0

-- what an Le field of so many bytes says, at its place: document 01's rule of the written 0, over the number of bytes. Asked only of a row that
-- fits, so that the field stands in the frame
unfoldable pub le_in : (long : ℕ) → (place : ℕ) → List ℕ → ℕ
le_in long place frame =
    when eqb long 1 then le_read 1 (byte frame place)
    else when eqb long 2 then le_read 2 (pair_at frame place)
    else when eqb long 3 then le_read 3 (pair_at frame (place + 1))
    else 0

-- "Data is exactly Lc bytes": where a row's data ends, and where the row does
abbrev pub data_end : Row → List ℕ → ℕ
data_end r frame = 4 + r.lc_field + lc_in r.lc_field frame

abbrev pub row_end : Row → List ℕ → ℕ
row_end r frame = data_end r frame + r.le_field

-- the payload can begin as the row does
unfoldable pub opens : Row → List ℕ → Bool
opens r frame = is_row r && begins r.lc_field 4 frame

-- the row stands at the frame's front, in this order: its Lc field, its "least Lc", no byte of it behind the frame's end, its Le field
unfoldable pub stands : Row → List ℕ → Bool
stands r frame =
    opens r frame
    && leb r.lc_least (lc_in r.lc_field frame)
    && leb (row_end r frame) (length frame)
    && begins r.le_field (data_end r frame) frame

-- the row fits: it is the whole frame
abbrev pub fits : Row → List ℕ → Bool
fits r frame = stands r frame && eqb (row_end r frame) (length frame)

-- 02, E1, "bytes are missing": the frame ends before the row's Lc field or its data does. The least Lc is not asked here: `00 x` misses bytes strictly too
abbrev pub ends_early : Row → List ℕ → Bool
ends_early r frame = opens r frame && ltb (length frame) (data_end r frame)

-- how many bytes from the frame's start, header included, the row claims; 0 where it does not stand there. 02, E1: "the first byte that no field
-- can claim" comes behind them
abbrev pub claimed : Row → List ℕ → ℕ
claimed r frame = when stands r frame then row_end r frame else 0

-- ours: the greater of two
abbrev pub greater : (a : ℕ) → (b : ℕ) → ℕ
greater a b = when ltb a b then b else a

-- The rows in turn: the first that fits. Where none does: whether the frame ends early in one of them, which outweighs the rest, else the
-- most that one claims. `early` and `most` are what the rows before came to.
abbrev pub in_turn : List Row → List ℕ → (early : Bool) → (most : ℕ) → Tried
in_turn [] frame early most = when early then Err Early else Err (Beyond most)
in_turn (r ∷ rows) frame early most =
    when fits r frame then Ok r
    else in_turn rows frame (early || ends_early r frame) (greater most (claimed r frame))

-- "A frame under 4 bytes gives 6a80"
unfoldable pub tried_of : List Row → List ℕ → Tried
tried_of rows frame = when ltb (length frame) 4 then Err UnderFour else in_turn rows frame false 0
