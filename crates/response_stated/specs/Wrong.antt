-- Wrong programs, one fault each. proofs/Refuted.antt shows the claim that is false of each.
use Rattle.std.specs.Prelude.{◌&&◌, replicate, ◌+◌, ◌-◌, ◌*◌, ◌/◌, ◌%◌, ◌∷◌, ◌++◌}
use Rattle.response_stated.specs.Words.{ℕ, List, [], ltb, leb, eqb, when◌then◌else◌, length, take, drop, Outcome, R, Gives, byte, bytes2, pair_at, laid, refusal_no, Says, Remainder, rest, ReadResponse, WroteResponse, NextPart, ResponseRoom, Response, Sent}
use Rattle.std.specs.Prelude.{Ok, Err}
use Rattle.response_stated.specs.Responses.{response_of}
use Rattle.response_stated.specs.Parts.{limit_of, part_length, left_status, rest_after, part_bytes, part_response}
use Rattle.response_stated.specs.Terms.{Writer, Sender, reading, sending, sending_of}

-- ---- writers

-- "body then two status bytes": here the status comes first
abbrev pub status_first : Writer
status_first body status old =
    when ltb (length old) (length body + 2) then (R 2, old)
    else (Gives (length body + 2), laid (bytes2 status ++ body) old)

-- SW2, then SW1
abbrev pub low_byte_first : Writer
low_byte_first body status old =
    when ltb (length old) (length body + 2) then (R 2, old)
    else (Gives (length body + 2), laid (body ++ (status % 256 ∷ status / 256 ∷ [])) old)

-- the response stands at the front. Here it begins one byte on
abbrev pub one_byte_on : Writer
one_byte_on body status old =
    when ltb (length old) (length body + 2) then (R 2, old)
    else (Gives (length body + 2), take 1 old ++ laid (response_of body status) (drop 1 old))

-- the rest of the buffer stays. Here it becomes 0. Behind the test the response is not longer than the buffer
abbrev pub clears_the_rest : Writer
clears_the_rest body status old =
    when ltb (length old) (length body + 2) then (R 2, old)
    else (Gives (length body + 2), response_of body status ++ replicate (length old - (length body + 2)) 0)

-- room is asked for the body alone
abbrev pub no_room_for_status : Writer
no_room_for_status body status old =
    when ltb (length old) (length body) then (R 2, old)
    else (Gives (length body + 2), laid (response_of body status) old)

-- ---- readers. Behind each test the response has as many bytes as are taken off

-- SW2, then SW1
abbrev pub read_low_first : List ℕ → Outcome Response
read_low_first bytes =
    when ltb (length bytes) 2 then R 2
    else Gives (reading (length bytes - 2) (byte bytes (length bytes - 1) * 256 + byte bytes (length bytes - 2)))

-- the body's length with the status in it
abbrev pub body_with_status : List ℕ → Outcome Response
body_with_status bytes =
    when ltb (length bytes) 2 then R 2
    else Gives (reading (length bytes) (pair_at bytes (length bytes - 2)))

-- a status alone is refused
abbrev pub wants_a_body : List ℕ → Outcome Response
wants_a_body bytes =
    when ltb (length bytes) 3 then R 2
    else Gives (reading (length bytes - 2) (pair_at bytes (length bytes - 2)))

abbrev pub cut_with_status : List ℕ → List ℕ
cut_with_status bytes = bytes

-- under three bytes nothing is left, since `length bytes - 3` is 0 there
abbrev pub cut_one_short : List ℕ → List ℕ
cut_one_short bytes = take (length bytes - 3) bytes

-- ---- limits

-- "Extended shapes get the whole body": here they get 256 bytes
abbrev pub extended_cut : Says → ℕ
extended_cut said = when leb said.shape 4 then limit_of said else 256

-- "Extended shapes get the whole body": here one whose Le a single byte could say is taken for a short one
abbrev pub small_le_is_short : Says → ℕ
small_le_is_short said = when leb 5 said.shape && leb 1 said.le && leb said.le 256 then said.le else limit_of said

-- "256 where absent": here an absent Le is no limit
abbrev pub absent_is_none : Says → ℕ
absent_is_none said = when leb said.shape 4 then said.le else 0

-- ---- nothing left
abbrev pub one_byte_left : Remainder
one_byte_left = rest 0 1

abbrev pub nothing_at1 : Remainder
nothing_at1 = rest 1 0

-- ---- senders

-- a sender with this part, this status and this remainder, that asks for room as it should
abbrev pub sends : (part : List ℕ) (status : ℕ) → Remainder → (old : List ℕ) → Outcome Sent × List ℕ
sends part status after old =
    when ltb (length old) (length part + 2) then (R 2, old)
    else (Gives (sending (length part + 2) after), laid (response_of part status) old)

-- the first check as it should be
abbrev pub checked : (body : List ℕ) → Remainder → (old : List ℕ) → Outcome Sent × List ℕ → Outcome Sent × List ℕ
checked body r old else_it = when ltb (length body) (r.place + r.count) then (R 2, old) else else_it

-- "XX the rest's length": here what was there before the part
abbrev pub counts_before : Sender
counts_before body r limit old = checked body r old (sends (part_bytes body r limit) (left_status r.count) (rest_after r limit) old)

-- "00 for 256 and more": here FF
abbrev pub says_ff : Sender
says_ff body r limit old =
    checked body r old
    (sends (part_bytes body r limit) (when ltb (rest_after r limit).count 256 then left_status (rest_after r limit).count else 0x61ff) (rest_after r limit) old)

-- 9000 with every part
abbrev pub always9000 : Sender
always9000 body r limit old = checked body r old (sends (part_bytes body r limit) 0x9000 (rest_after r limit) old)

-- the part is taken from the body's start each time
abbrev pub from_the_start : Sender
from_the_start body r limit old =
    checked body r old (sends (take (part_length limit r.count) body) (left_status (rest_after r limit).count) (rest_after r limit) old)

-- one byte less than the limit allows, at a limit of 2 or more
abbrev pub one_byte_short : Sender
one_byte_short body r limit old = sending_of body r (when ltb limit 2 then limit else limit - 1) old

-- one byte more than the limit allows
abbrev pub one_byte_long : Sender
one_byte_long body r limit old = sending_of body r (when eqb limit 0 then 0 else limit + 1) old

-- 256 does not fit into a byte, and becomes 255
abbrev pub at_most255 : Sender
at_most255 body r limit old = sending_of body r (when eqb limit 256 then 255 else limit) old

-- whatever the limit, one byte
abbrev pub one_at_a_time : Sender
one_at_a_time body r limit old = sending_of body r 1 old

-- the remainder that is handed back is the one that was handed in
abbrev pub does_not_move : Sender
does_not_move body r limit old = checked body r old (sends (part_bytes body r limit) (left_status (rest_after r limit).count) r old)

-- place + count is a sum of whole numbers. Here it wraps at 2^64
abbrev pub wraps_the_sum : Sender
wraps_the_sum body r limit old =
    when ltb (length body) ((r.place + r.count) % 0x10000000000000000) then (R 2, old)
    else sends (part_bytes body r limit) (left_status (rest_after r limit).count) (rest_after r limit) old

-- "An R refusal changes no buffer": here as much of the part as fits is written before the room is looked at
abbrev pub refusal_writes : Sender
refusal_writes body r limit old =
    when ltb (length body) (r.place + r.count) then (R 2, old)
    else when ltb (length old) (part_length limit r.count + 2) then (R 2, laid (part_response body r limit) old)
    else sending_of body r limit old

-- the status before the part
abbrev pub sends_status_first : Sender
sends_status_first body r limit old =
    checked body r old
    (when ltb (length old) (part_length limit r.count + 2) then (R 2, old)
    else (Gives (sending (part_length limit r.count + 2) (rest_after r limit)), laid (bytes2 (left_status (rest_after r limit).count) ++ part_bytes body r limit) old))

-- ---- rooms

-- so many bytes, or R2 where no length can say them, as it should be
abbrev pub as_long : (n : ℕ) → Outcome ℕ
as_long n = when ltb n 0x10000000000000000 then Gives n else R 2

-- no room for the status
abbrev pub room_for_part_alone : (limit longest : ℕ) → Outcome ℕ
room_for_part_alone limit longest = as_long (part_length limit longest)

-- all of the body goes out, whatever the limit
abbrev pub room_for_body : (limit longest : ℕ) → Outcome ℕ
room_for_body limit longest = as_long (longest + 2)

-- as much goes out as the limit allows, whatever the body
abbrev pub room_for_limit : (limit longest : ℕ) → Outcome ℕ
room_for_limit limit longest = as_long ((when eqb limit 0 then longest else limit) + 2)

-- the sum wraps at 2^64
abbrev pub wraps_the_room : (limit longest : ℕ) → Outcome ℕ
wraps_the_room limit longest = Gives ((part_length limit longest + 2) % 0x10000000000000000)

-- ---- views: the length of the body for the status; a response counted without its status; the part's length for what is left; a refusal's number for a room
abbrev pub length_for_status : ReadResponse → Outcome Response
length_for_status (Err why) = R (refusal_no why)
length_for_status (Ok read) = Gives (reading read.status read.length)

abbrev pub without_status_bytes : WroteResponse → Outcome ℕ
without_status_bytes (Err why) = R (refusal_no why)
without_status_bytes (Ok n) = Gives (n - 2)

abbrev pub length_for_left : NextPart → Outcome Sent
length_for_left (Err why) = R (refusal_no why)
length_for_left (Ok sent) = Gives (sending sent.length (rest sent.remainder.place sent.length))

abbrev pub refusal_for_room : ResponseRoom → Outcome ℕ
refusal_for_room (Err why) = Gives (refusal_no why)
refusal_for_room (Ok n) = Gives n
