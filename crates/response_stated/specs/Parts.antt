-- Document 02, E2: a body that is cut, and its parts. Covered: how much a frame takes at a time, the next part of what remains, its status
-- word, and what remains after it.
use Rattle.std.specs.Prelude.{◌+◌, ◌-◌}
use Rattle.response_stated.specs.Words.{ℕ, List, ltb, leb, eqb, when◌then◌else◌, take, drop, Outcome, R, Word, Gives, laid, Says, Remainder, rest, Sent}
use Rattle.response_stated.specs.Responses.{response_of}

-- "For shapes 1 to 4, a body longer than Le (256 where absent) is cut"; "Extended shapes get the whole body as now": no limit, which is said
-- as 0. An absent Le is read as 0
unfoldable pub limit_of : Says → ℕ
limit_of said =
    when leb said.shape 4 then (when eqb said.le 0 then 256 else said.le)
    else 0

-- how many of `count` bytes go out: no more than the limit, and all of them where there is none
unfoldable pub part_length : (limit count : ℕ) → ℕ
part_length limit count =
    when eqb limit 0 then count
    else when ltb limit count then limit
    else count

-- "61 XX, XX the rest's length, or 00 for 256 and more"; 9000 with the last part
unfoldable pub left_status : (left : ℕ) → ℕ
left_status left =
    when eqb left 0 then 0x9000
    else when ltb left 256 then 0x6100 + left
    else 0x6100

-- what remains after the next part
abbrev pub rest_after : Remainder → (limit : ℕ) → Remainder
rest_after r limit = rest (r.place + part_length limit r.count) (r.count - part_length limit r.count)

-- "R2 when the lent body is too short for its remainder or the buffer for part and status"; else the part's response and what remains.
-- `body_room` and `room` are the lengths of the lent body and of the buffer
unfoldable pub next_part_of : (body_room : ℕ) → Remainder → (limit room : ℕ) → Outcome Sent
next_part_of body_room r limit room =
    when ltb body_room (r.place + r.count) then R 2
    else when ltb room (part_length limit r.count + 2) then R 2
    else Gives (record { length = part_length limit r.count + 2; remainder = rest_after r limit })

-- the part's bytes, and its response
abbrev pub part_bytes : (body : List ℕ) → Remainder → (limit : ℕ) → List ℕ
part_bytes body r limit = take (part_length limit r.count) (drop r.place body)

abbrev pub part_response : (body : List ℕ) → Remainder → (limit : ℕ) → List ℕ
part_response body r limit = response_of (part_bytes body r limit) (left_status (rest_after r limit).count)

-- what the buffer for part and status holds afterwards: a refusal leaves it
abbrev pub part_laid : Outcome Sent → (response old : List ℕ) → List ℕ
part_laid (R n) response old = old
part_laid (Word s) response old = old
part_laid (Gives sent) response old = laid response old

-- ours: how many bytes the first part of a body takes with its status, where no body is longer than `longest`; R2 where that is 2^64 or more, which no length
-- can say
unfoldable pub response_room_of : (limit longest : ℕ) → Outcome ℕ
response_room_of limit longest =
    when ltb (part_length limit longest) 0xfffffffffffffffe then Gives (part_length limit longest + 2)
    else R 2
