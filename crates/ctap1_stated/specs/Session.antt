-- Document 02, E2: what the session with a reader goes on with after a decision: what is left to fetch, and what the buffer for part and
-- status holds. How much the frame takes at a time is `frame_limit` (specs/Path.antt), whatever it is answered.
use Rattle.ctap1_stated.specs.Words.{ℕ, Bool, false, List, eqb, when◌then◌else◌, Outcome, R, Word, Gives, Remainder, rest, Inputs, DecisionGives, Body, Ordered, Part, DecisionResult}
use Rattle.ctap1_stated.specs.Path.{frame_limit}
use Rattle.octets.specs.Bytes.{laid}
use Rattle.apdu_stated.specs.Answers.{Says}
use Rattle.apdu_stated.specs.Reading.{read_of}
use Rattle.response_stated.specs.Parts.{part_response}

-- a shaped frame with INS C0, whatever else it says
abbrev pub is_get_response : Outcome Says → Bool
is_get_response (R n) = false
is_get_response (Word s) = false
is_get_response (Gives said) = eqb said.header.ins 0xC0

-- "A frame with another INS or in no shape drops the remainder; a refused C0 or any R refusal keeps it." A body and an order come of
-- another INS. After a part it is what that part left
abbrev pub remainder_after : Outcome DecisionGives → (is_c0 : Bool) → Remainder → Remainder
remainder_after (R n) is_c0 r = r
remainder_after (Word s) is_c0 r = when is_c0 then r else rest 0 0
remainder_after (Gives (Body n)) is_c0 r = rest 0 0
remainder_after (Gives Ordered) is_c0 r = rest 0 0
remainder_after (Gives (Part n after)) is_c0 r = after

abbrev pub remainder_left : Inputs → DecisionResult → Remainder
remainder_left a r = remainder_after r.answer (is_get_response (read_of a.frame)) a.remainder

-- 02, E2: "the first part goes out with 61 XX"; ours: a part stands at the front of the buffer for part and status, its status behind it; every other answer
-- leaves that buffer
abbrev pub part_after : Outcome DecisionGives → (response old : List ℕ) → List ℕ
part_after (R n) response old = old
part_after (Word s) response old = old
part_after (Gives (Body n)) response old = old
part_after (Gives Ordered) response old = old
part_after (Gives (Part n after)) response old = laid response old

-- of the body that the reply buffer holds at the call
abbrev pub part_left : Inputs → DecisionResult → (body old : List ℕ) → List ℕ
part_left a r body old = part_after r.answer (part_response body a.remainder (frame_limit a.frame)) old
