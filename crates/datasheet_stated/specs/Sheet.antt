-- Document 02, E10: "For every reply buffer of n bytes, n at least 394, I want a proved line: with a certificate of at most n - 394 bytes (630 for our
-- 1,024) and a handle of at most 255, the decision and the finish of its order never give Register or Authenticate R2 for the reply buffer, and no body
-- is longer than n." The line as a row of the data sheet, with the longest responses and the longest command beside it.
use Rattle.std.specs.Prelude.{◌+◌, ◌-◌}
use Rattle.datasheet_stated.specs.Words.{ℕ, ltb, when◌then◌else◌, Figures, Sheet, Ok, Err, TooShort, TooLong, RoomNeeded, Some, None}

-- ours: the longest buffer with a row, 2^64 - 3: a response that takes all of it and two status bytes has a length of 64 bits
abbrev pub longest_room : ℕ
longest_room = 0xfffffffffffffffd

-- n is 394 or more
abbrev pub figures_of : ℕ → Figures
figures_of n =
    record {
      room = n;
      certificate = n - 394;  -- "a certificate of at most n - 394 bytes"
      handle = 255;  -- "a handle of at most 255"
      body = n;  -- "no body is longer than n"
      short = 258;  -- 02, E2: "Le (256 where absent)", and the status
      extended = n + 2;  -- 02, E2: "Extended shapes get the whole body", and the status
      command = 329;  -- an Authenticate in shape 7 with a handle of 255: 4 + 3 + 320 + 2
    }

abbrev pub sheet_of : ℕ → Sheet
sheet_of n =
    when ltb n 394 then Err TooShort  -- "n at least 394"
    else when ltb longest_room n then Err TooLong
    else Ok (figures_of n)

-- the least buffer for a certificate of c bytes
abbrev pub needed_of : ℕ → RoomNeeded
needed_of c = when ltb longest_room (c + 394) then None else Some (c + 394)
