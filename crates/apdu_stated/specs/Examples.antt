-- Document 01, 'Frames and moments to try': the frames marked P, "proved together, as a single statement over a list"; its 6700s with
-- their pairs, document 02, E1: kind (1 missing, 2 surplus) and place.
use Rattle.std.specs.Prelude.{ℕ, List, [], ◌∷◌}
use Rattle.outcome.specs.Outcome.{Outcome, SW, Gives, wrong_length}
use Rattle.apdu_stated.specs.Answers.{Says}

pub record Example : Type 0 where
  pub frame : List ℕ
  pub answer : Outcome Says

-- "Header 00 03 00 00, payload:"
abbrev pub with_payload : List ℕ → List ℕ
with_payload payload = 0x00 ∷ 0x03 ∷ 0x00 ∷ 0x00 ∷ payload

-- the shape's number, where the data starts, Lc, Le
abbrev pub shape : ℕ → ℕ → ℕ → ℕ → Outcome Says
shape number data_at lc le = Gives (record { header = record { cla = 0x00; ins = 0x03; p1 = 0x00; p2 = 0x00 }; shape = number; data_at = data_at; lc = lc; le = le })

abbrev pub payload : List ℕ → Outcome Says → Example
payload bytes answer = record { frame = with_payload bytes; answer = answer }

abbrev pub examples : List Example
examples =
    payload [] (shape 1 4 0 0)  -- P empty: shape 1
    ∷ payload (0x00 ∷ []) (shape 2 4 0 256)  -- P `00`: Le 256
    ∷ payload (0x01 ∷ []) (shape 2 4 0 1)  -- P `01`: Le 1
    ∷ payload (0x00 ∷ 0x01 ∷ []) (wrong_length 1 6)  -- P `00 01`: 6700; 02, E1: "A short payload of `00 x` counts as missing"
    ∷ payload (0x01 ∷ 0xAA ∷ []) (shape 3 5 1 0)  -- P `01 AA`: shape 3
    ∷ payload (0x01 ∷ 0xAA ∷ 0x00 ∷ []) (shape 4 5 1 256)  -- P `01 AA 00`: shape 4, Le 256
    ∷ payload (0x02 ∷ 0xAA ∷ []) (wrong_length 1 6)  -- P `02 AA`: 6700; missing, at the frame's length
    ∷ payload (0x00 ∷ 0x00 ∷ 0x00 ∷ []) (shape 8 4 0 65536)  -- P `00 00 00`: shape 8, Le 65536
    ∷ payload (0x00 ∷ 0x00 ∷ 0x00 ∷ 0x05 ∷ []) (wrong_length 2 7)  -- P `00 00 00 05`: 02, E13: "01's case `00 00 00 05` becomes 6700"; surplus at its Le byte
    ∷ payload (0x00 ∷ 0x00 ∷ 0x01 ∷ 0xAA ∷ []) (shape 5 7 1 0)  -- P `00 00 01 AA`: shape 5
    ∷ payload (0x00 ∷ 0x00 ∷ 0x01 ∷ 0xAA ∷ 0x00 ∷ 0x00 ∷ []) (shape 7 7 1 65536)  -- P `00 00 01 AA 00 00`: shape 7, Le 65536
    ∷ payload (0x00 ∷ 0x00 ∷ 0x01 ∷ 0xAA ∷ 0x00 ∷ 0x00 ∷ 0x00 ∷ []) (wrong_length 2 10)  -- P `00 00 01 AA 00 00 00`: 6700; surplus, at 9 + Lc
    ∷ record { frame = 0x00 ∷ 0x03 ∷ 0x00 ∷ []; answer = SW 0x6a80 }  -- P three-byte frame: 6a80
    ∷ []
