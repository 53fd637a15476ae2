-- Words that only the claims use: what a writer and a sender are, and once more, apart from the definitions and with every number spelled
-- out, what a response is, how much of a remainder goes out, and what its status tells.
use Rattle.std.specs.Prelude.{◌+◌, ◌*◌, ◌/◌, ◌%◌, ◌<◌, ◌≤◌, ◌≡◌, ◌∷◌, ◌++◌}
use Rattle.response_stated.specs.Words.{ℕ, List, [], length, Outcome, Gives, Remainder, Response, Sent}
use Rattle.response_stated.specs.Responses.{response_of, write_response_of, response_laid}
use Rattle.response_stated.specs.Parts.{next_part_of, part_response, part_laid}

-- a program that writes a response, of body, status, and what the buffer holds: its answer, and what the buffer holds afterwards
abbrev pub Writer : Type 0
Writer = (body : List ℕ) (status : ℕ) (old : List ℕ) → Outcome ℕ × List ℕ

-- a program that sends the next part of a remainder of a body under a limit: its answer, and what the buffer holds afterwards
abbrev pub Sender : Type 0
Sender = (body : List ℕ) → Remainder → (limit : ℕ) (old : List ℕ) → Outcome Sent × List ℕ

-- the two as they are defined
abbrev pub writing_of : Writer
writing_of body status old = (write_response_of body (length old), response_laid (write_response_of body (length old)) (response_of body status) old)

abbrev pub sending_of : Sender
sending_of body r limit old =
    (next_part_of (length body) r limit (length old), part_laid (next_part_of (length body) r limit (length old)) (part_response body r limit) old)

abbrev pub reading : (length status : ℕ) → Response
reading length status = record { length = length; status = status }

abbrev pub sending : (length : ℕ) → Remainder → Sent
sending length after = record { length = length; remainder = after }

-- ISO 7816-4: body, then SW1 and SW2
abbrev pub spelled : (body : List ℕ) (status : ℕ) → List ℕ
spelled body status = body ++ (status / 256 ∷ status % 256 ∷ [])

-- `IsResponse bytes body status`: they are this body and behind it two bytes, SW1 and SW2, that are this status
pub record IsResponse (bytes body : List ℕ) (status : ℕ) : Type 0 where
  pub sw1 : ℕ
  pub sw2 : ℕ
  pub are : bytes ≡ body ++ (sw1 ∷ sw2 ∷ [])
  pub is : status ≡ sw1 * 256 + sw2

-- `Goes limit count n`: of `count` bytes n go out. "a body longer than Le .. is cut"; a limit of 0 is none (ours)
pub data Goes : (limit count n : ℕ) → Type 0 where
  whole : {count : ℕ} → Goes 0 count count
  cut : {limit count : ℕ} → 1 ≤ limit → limit < count → Goes limit count limit
  last : {limit count : ℕ} → 1 ≤ limit → count ≤ limit → Goes limit count count

-- `Tells left status`: "61 XX, XX the rest's length, or 00 for 256 and more"; 9000 with nothing left
pub data Tells : (left status : ℕ) → Type 0 where
  nothing_left : Tells 0 0x9000
  some_left : {left : ℕ} → 1 ≤ left → left ≤ 255 → Tells left (0x6100 + left)
  more_left : {left : ℕ} → 256 ≤ left → Tells left 0x6100

-- `Sends call part status after`: the call gave this part with this status at the buffer's front, and this remainder
pub record Sends (call : Outcome Sent × List ℕ) (part : List ℕ) (status : ℕ) (after : Remainder) : Type 0 where
  pub says : call.0 ≡ Gives (sending (length part + 2) after)
  pub behind : List ℕ
  pub holds : call.1 ≡ spelled part status ++ behind
