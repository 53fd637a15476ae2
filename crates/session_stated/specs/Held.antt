-- Document 02, E2: what a transport holds between its frames, and goes on with after a decision; and how much room a response to a frame can take.
use Rattle.std.specs.Prelude.{ℕ, List}
use Rattle.outcome.specs.Outcome.{Outcome, R, Word, Gives}
use Rattle.apdu_stated.specs.Answers.{Says}
use Rattle.apdu_stated.specs.Reading.{read_of}
use Rattle.response_stated.specs.Words.{rest}
use Rattle.response_stated.specs.Parts.{limit_of, response_room_of}
use Rattle.response_stated.specs.declared.Remainder.{Remainder}
use Rattle.ctap1_stated.specs.Words.{DecisionGives}
use Rattle.ctap1_stated.specs.Path.{limit_on}
use Rattle.ctap1_stated.specs.Session.{is_get_response, remainder_after}
pub use Rattle.session_stated.specs.declared.Session.{Session}
pub use Rattle.session_stated.specs.declared.SessionRecord.{SessionRecord}

-- ours: what a session's three numbers, as they are lent, stand for
abbrev pub remainder_in : SessionRecord → Remainder
remainder_in s = rest s.place s.count

abbrev pub session_in : SessionRecord → Session
session_in s = record { remainder = remainder_in s; limit = s.limit }

-- what remains by the decision's rule (ctap1_stated's Session.antt), and the limit of the frame that was answered, by which its body goes out; ours: "any R
-- refusal keeps" both. `read` is what the frame is read as
abbrev pub session_after : Outcome DecisionGives → (read : Outcome Says) → Session → Session
session_after (R n) read s = s
session_after (Word w) read s = record { remainder = remainder_after (Word w) (is_get_response read) s.remainder; limit = limit_on read }
session_after (Gives g) read s = record { remainder = remainder_after (Gives g) (is_get_response read) s.remainder; limit = limit_on read }

-- ours: how many bytes a response to a frame can take, where no body to it is longer than `longest`: its first part by the frame's limit, and two; for bytes in no
-- shape two
abbrev pub room_on : Outcome Says → (longest : ℕ) → Outcome ℕ
room_on (R n) longest = Gives 2
room_on (Word s) longest = Gives 2
room_on (Gives said) longest = response_room_of (limit_of said) longest

unfoldable pub frame_room_of : (frame : List ℕ) (longest : ℕ) → Outcome ℕ
frame_room_of frame longest = room_on (read_of frame) longest
