-- Wrong programs, each with one fault. proofs/Refuted.antt shows of each that a claim is false of it.
use Rattle.std.specs.Prelude.{ℕ, ◌+◌, ◌-◌, ◌%◌, List, eqb}
use Rattle.outcome.specs.Notation.{when◌then◌else◌}
use Rattle.outcome.specs.Outcome.{Outcome, R, Word, Gives}
use Rattle.octets.specs.Bytes.{laid}
use Rattle.response_stated.specs.declared.Remainder.{Remainder}
use Rattle.response_stated.specs.Words.{rest}
use Rattle.response_stated.specs.Parts.{limit_of, part_length, rest_after, part_response, response_room_of}
use Rattle.apdu_stated.specs.Answers.{Says}
use Rattle.apdu_stated.specs.Reading.{read_of}
use Rattle.ctap1_stated.specs.declared.Hardware.{Hardware}
use Rattle.ctap1_stated.specs.Words.{Inputs, DecisionGives, Body, Ordered, Part}
use Rattle.ctap1_stated.specs.Path.{limit_on, frame_limit}
use Rattle.ctap1_stated.specs.Decision.{decision_of, status_result}
use Rattle.ctap1_stated.specs.Terms.{Decider}
use Rattle.session_stated.specs.Held.{Session, SessionRecord, remainder_in, session_after}
use Rattle.session_stated.specs.Promises.{ToDecide, inputs_in}
use Rattle.session_stated.specs.Terms.{FrameRoom}
use Rattle.session_stated.specs.Sessions.{PartWriter}

-- another part in the decision's place
abbrev part_as : (ℕ → Remainder → DecisionGives) → Outcome DecisionGives → Outcome DecisionGives
part_as part (R n) = R n
part_as part (Word w) = Word w
part_as part (Gives (Body n)) = Gives (Body n)
part_as part (Gives Ordered) = Gives Ordered
part_as part (Gives (Part n after)) = Gives (part n after)

abbrev decides : (Inputs → ℕ → Remainder → DecisionGives) → Decider
decides part p t a =
    let r = decision_of p t a in
    record { answer = part_as (part a) r.answer; presence = r.presence; order = r.order; taken = r.taken }

-- a byte is left out behind each part
abbrev pub skips : Decider
skips = decides (λ a n after. Part n (rest (after.place + 1) (after.count - 1)))

-- what remained before the part is handed back
abbrev pub forgets : Decider
forgets = decides (λ a n after. Part n a.remainder)

-- a part has at most Le bytes. Here 256, whatever Le says
abbrev pub takes256 : Decider
takes256 = decides (λ a n after. Part (part_length 256 a.remainder.count + 2) (rest_after a.remainder 256))

-- the part is taken from the body's start again
abbrev part_by : (List ℕ → List ℕ) → Outcome DecisionGives → List ℕ → List ℕ
part_by part (R n) old = old
part_by part (Word w) old = old
part_by part (Gives (Body n)) old = old
part_by part (Gives Ordered) old = old
part_by part (Gives (Part n after)) old = part old

abbrev pub again : PartWriter
again a r body old = part_by (laid (part_response body (rest 0 a.remainder.count) (frame_limit a.frame))) r.answer old

-- no C0 gets its part
abbrev pub refuses_c0 : Decider
refuses_c0 p t a = status_result 0x6985 p

-- ---- what is lent by name: count and place in each other's place; a limit of 8 bits; 'good' where 'stored' is
abbrev pub count_first : SessionRecord → Remainder
count_first s = rest s.count s.place

abbrev pub limit_of_8_bits : SessionRecord → Session
limit_of_8_bits s = record { remainder = remainder_in s; limit = s.limit % 256 }

abbrev pub good_for_stored : ToDecide → Hardware
good_for_stored i = let h = i.hardware in (inputs_in (record i { hardware = record h { stored = h.good; good = h.stored } })).hardware

-- ---- what a transport goes on with. "a refused C0 .. keeps it": it drops what remains
abbrev After : Type 0
After = Outcome DecisionGives → (read : Outcome Says) → Session → Session

abbrev on_word : (Outcome Says → Session → Session) → After
on_word word (R n) read s = session_after (R n) read s
on_word word (Word w) read s = word read s
on_word word (Gives g) read s = session_after (Gives g) read s

abbrev pub refused_drops : After
refused_drops = on_word (λ read s. record { remainder = rest 0 0; limit = limit_on read })

-- "A frame with another INS .. drops the remainder": it is kept
abbrev pub other_keeps : After
other_keeps = on_word (λ read s. record { remainder = s.remainder; limit = limit_on read })

-- "any R refusal keeps it": it is dropped; and the limit is the refused frame's
abbrev on_refusal : (Outcome Says → Session → Session) → After
on_refusal refusal (R n) read s = refusal read s
on_refusal refusal (Word w) read s = session_after (Word w) read s
on_refusal refusal (Gives g) read s = session_after (Gives g) read s

abbrev pub refusal_drops : After
refusal_drops = on_refusal (λ read s. record { remainder = rest 0 0; limit = s.limit })

abbrev pub refusal_takes_limit : After
refusal_takes_limit = on_refusal (λ read s. record { remainder = s.remainder; limit = limit_on read })

-- the earlier frame's limit is kept
abbrev pub limit_kept : After
limit_kept answer read s = record { remainder = (session_after answer read s).remainder; limit = s.limit }

-- ---- the room for a response, by the frame's reading: without the status
abbrev room_by : (Says → ℕ → Outcome ℕ) → (ℕ → Outcome ℕ) → Outcome Says → ℕ → Outcome ℕ
room_by shaped none (R n) longest = none longest
room_by shaped none (Word w) longest = none longest
room_by shaped none (Gives said) longest = shaped said longest

abbrev pub without_status : FrameRoom
without_status frame longest = room_by (λ said b. Gives (part_length (limit_of said) b)) (λ b. Gives 2) (read_of frame) longest

-- an extended shape is taken for one that is cut at its Le
abbrev pub extended_by_le : FrameRoom
extended_by_le frame longest = room_by (λ said b. response_room_of (when eqb said.le 0 then 256 else said.le) b) (λ b. Gives 2) (read_of frame) longest

-- the limit, however short the body
abbrev pub limit_alone : FrameRoom
limit_alone frame longest = room_by (λ said b. response_room_of 0 (when eqb (limit_of said) 0 then b else limit_of said)) (λ b. Gives 2) (read_of frame) longest

-- room for a body where no shape is
abbrev pub no_shape_body : FrameRoom
no_shape_body frame longest = room_by (λ said b. response_room_of (limit_of said) b) (λ b. response_room_of 0 b) (read_of frame) longest
