-- Document 01, 'Eight frame shapes': reading. "A frame under 4 bytes gives 6a80. A frame of 4 or more in no shape gives
-- 6700"; the payload from byte 4 on; where the data stands; "The strict reading is a second entry". Document 02, E1: where the
-- length of a frame in no shape went wrong; E4: the strict entry reads ISO's seven cases; E13: shape 6 is retired. That this is the table, and nothing else, is
-- claimed in Claims.antt.
use Rattle.std.specs.Prelude.{ℕ, ◌+◌, List, length, drop, ltb, eqb}
use Rattle.outcome.specs.Notation.{when◌then◌else◌}
use Rattle.outcome.specs.Outcome.{Outcome, SW, Gives, missing_at, surplus_at}
use Rattle.octets.specs.Bytes.{byte, pair_at, part_of}
use Rattle.apdu_stated.specs.Words.{Instruction, Le1, Lc1Data, Lc1DataLe1, Lc3Data, Lc3DataLe2, Le3, shape_no, ApduHeader}
use Rattle.apdu_stated.specs.Answers.{Says, Place}
use Rattle.apdu_stated.specs.Table.{lc_field, le_read, lc_under}
pub use Rattle.apdu_stated.specs.Table.{Entry, Ordinary, Strict}
use Rattle.apdu_stated.specs.declared.Lengths.{Lengths}
use Rattle.apdu_stated.specs.declared.Lengths.TheVariants.{Found, Missing, Surplus}

-- rows 3 and 4, of a payload p whose first byte is not 0: Lc, data, and perhaps one byte of Le. "the first byte that no field can
-- claim, 6 + Lc from the frame's start in the short form"
unfoldable pub short_of : List ℕ → Lengths
short_of p =
    when ltb (length p) (1 + byte p 0) then Missing
    else when eqb (length p) (1 + byte p 0) then Found Lc1Data (byte p 0) 0
    else when eqb (length p) (2 + byte p 0) then Found Lc1DataLe1 (byte p 0) (le_read 1 (byte p (1 + byte p 0)))
    else Surplus (6 + byte p 0)

-- rows 5 and 7, of a payload p of more than three bytes that begins with 00 and Lc: data, and perhaps Le; "9 + Lc in the extended". A lone
-- byte behind the data was shape 6's Le; 02, E13: "E1's kind for the old form is surplus at its Le byte", 7 + Lc from the frame's start
unfoldable pub after_data : List ℕ → ℕ → Lengths
after_data p lc =
    when ltb (length p) (3 + lc) then Missing
    else when eqb (length p) (3 + lc) then Found Lc3Data lc 0
    else when eqb (length p) (4 + lc) then Surplus (7 + lc)
    else when eqb (length p) (5 + lc) then Found Lc3DataLe2 lc (le_read 2 (pair_at p (3 + lc)))
    else Surplus (9 + lc)

-- row 8, and rows 5 and 7, of a payload p of two bytes or more whose first byte is 00; 02, E4: "every strict frame longer than 7 bytes with
-- an extended Lc of 0 is surplus, at byte 7"
unfoldable pub extended_of : Entry → List ℕ → Lengths
extended_of entry p =
    when ltb (length p) 3 then Missing
    else when eqb (length p) 3 then Found Le3 0 (le_read 3 (pair_at p 1))
    else when lc_under entry (pair_at p 1) then Surplus 7
    else after_data p (pair_at p 1)

-- the payload: the bytes after the header
unfoldable pub lengths_of : Entry → List ℕ → Lengths
lengths_of entry p =
    when eqb (length p) 0 then Found Instruction 0 0
    else when eqb (length p) 1 then Found Le1 0 (le_read 1 (byte p 0))
    else when eqb (byte p 0) 0x00 then extended_of entry p
    else short_of p

-- "A frame is CLA INS P1 P2 and a payload"
abbrev pub header_of : List ℕ → ApduHeader
header_of frame = record { cla = byte frame 0; ins = byte frame 1; p1 = byte frame 2; p2 = byte frame 3 }

-- what a frame of 4 bytes or more says, by what its payload says: 6700 where the payload is in no shape, with "for missing bytes
-- the frame's length", and for surplus the place that was found
unfoldable pub say_of : List ℕ → Lengths → Outcome Says
say_of frame (Found s lc le) = Gives (record { header = header_of frame; shape = shape_no s; data_at = 4 + lc_field s; lc = lc; le = le })
say_of frame Missing = missing_at (length frame)
say_of frame (Surplus place) = surplus_at place

-- "The payload is handed on as the part of the frame from byte 4"
unfoldable pub read_by : Entry → List ℕ → Outcome Says
read_by entry frame =
    when ltb (length frame) 4 then SW 0x6a80
    else say_of frame (lengths_of entry (drop 4 frame))

abbrev pub read_of : List ℕ → Outcome Says
read_of frame = read_by Ordinary frame

abbrev pub strict_of : List ℕ → Outcome Says
strict_of frame = read_by Strict frame

-- "data comes back as a part of the caller's frame": Lc bytes from where the frame says that its data starts
abbrev pub place_of : Says → Place
place_of said = record { start = said.data_at; end = said.data_at + said.lc }

-- the data of a frame that says this; none where the place passes the frame's end
unfoldable pub data_of : List ℕ → Says → List ℕ
data_of frame said = part_of frame (place_of said).start (place_of said).end
