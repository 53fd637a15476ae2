-- What the decision is lent and what it answers (Inputs.antt) beside the source's types; the names that the other files here are written with.
pub use Rattle.std.specs.Prelude.{ℕ, ◌+◌, ◌*◌, ◌<◌, ◌≤◌, ◌≡◌, Bool, true, false, not, List, [], ◌∷◌, ◌++◌, ltb, eqb, length, drop}
pub use Rattle.outcome.specs.Notation.{when◌then◌else◌, AtMostOne}
pub use Rattle.outcome.specs.declared.Refusal.{Refusal}
pub use Rattle.outcome.specs.declared.ApduStatusCode.{ApduStatusCode}
pub use Rattle.outcome.specs.Outcome.{StatusWord, Outcome, R, Word, SW, Gives, plain_word, wrong_length, word_of, refusal_no}
pub use Rattle.u2f_up_stated.specs.declared.Presence.{Presence}
pub use Rattle.signing_stated.specs.declared.Head.{Head}
pub use Rattle.signing_stated.specs.Words.{Order, head_of}
pub use Rattle.response_stated.specs.declared.Remainder.{Remainder}
pub use Rattle.response_stated.specs.Words.{rest}
pub use Rattle.ctap1_stated.specs.declared.Allowed.{Allowed}
pub use Rattle.ctap1_stated.specs.declared.Attestation.{Attestation}
use Rattle.ctap1_stated.specs.declared.Attestation.TheVariants as Attestation'
use Rattle.ctap1_stated.specs.declared.NewKey.{NewKey}
pub use Rattle.ctap1_stated.specs.declared.Hardware.{Hardware}
pub use Rattle.ctap1_stated.specs.declared.HardwareSaid.{HardwareSaid}
pub use Rattle.ctap1_stated.specs.declared.DecisionAnswer.{DecisionAnswer}
use Rattle.ctap1_stated.specs.declared.DecisionAnswer.TheVariants as DecisionAnswer'
pub use Rattle.ctap1_stated.specs.declared.Decision.{Decision}
pub use Rattle.ctap1_stated.specs.Inputs.{Inputs, DecisionGives, Body, Ordered, Part, DecisionResult, Decider}
use Rattle.std.specs.Prelude.{Option}

-- the counter that an Authenticate would carry; `None` where its reading failed
abbrev pub Counter : Type 0
Counter = Option ℕ

-- what of this goes into the order of a Register
pub record Enrolment : Type 0 where
  pub new_handle : List ℕ
  pub certificate : List ℕ
  pub x : List ℕ
  pub y : List ℕ

abbrev pub enrolment_of : (new_handle certificate x y : List ℕ) → Enrolment
enrolment_of new_handle certificate x y = record { new_handle = new_handle; certificate = certificate; x = x; y = y }

-- of a new key as it is lent
abbrev pub enrolment_in : NewKey → Enrolment
enrolment_in k = enrolment_of k.handle.now k.certificate.now k.x.now k.y.now

-- what is lent, piece by piece: `room` and `part_room` are the lengths of the two buffers
abbrev pub inputs_from : (side : ℕ) (frame : List ℕ) → Hardware → Enrolment → (room : ℕ) → Remainder → (part_room : ℕ) → Inputs
inputs_from side frame hardware e room remainder part_room =
    record {
      side = side;
      frame = frame;
      hardware = hardware;
      new_handle = e.new_handle;
      certificate = e.certificate;
      x = e.x;
      y = e.y;
      room = room;
      remainder = remainder;
      part_room = part_room;
    }

-- where nothing is left to fetch
abbrev pub unfetched : (side : ℕ) (frame : List ℕ) → Hardware → Enrolment → (room : ℕ) → Inputs
unfetched side frame hardware e room = inputs_from side frame hardware e room (rest 0 0) 0

-- 01, The decision, 5: "the attestation is missing or failed"
abbrev pub is_present : Attestation → Bool
is_present Attestation'.Present = true
is_present Attestation'.Missing = false
is_present Attestation'.Failed = false

-- 01: the answer's numbers, one line a case
abbrev pub decision_answer_of : DecisionAnswer → Outcome DecisionGives
decision_answer_of (DecisionAnswer'.Refused why) = R (refusal_no why)
decision_answer_of (DecisionAnswer'.Status number kind place) = Word (record { number = number; kind = kind; place = place })
decision_answer_of (DecisionAnswer'.Body n) = Gives (Body n)
decision_answer_of DecisionAnswer'.Order = Gives Ordered
decision_answer_of (DecisionAnswer'.Part n after) = Gives (Part n after)

-- a decision by itself, as a function hands it back: of the order its head, since the block is lent, as the record is
pub record DecisionAlone : Type 0 where
  pub answer : Outcome DecisionGives
  pub head : Head
  pub taken : Bool

abbrev pub alone_from : Decision → DecisionAlone
alone_from d = record { answer = decision_answer_of d.answer; head = d.order; taken = d.taken }

-- with the record beside it
pub record DecisionHanded : Type 0 where
  pub answer : Outcome DecisionGives
  pub presence : Presence
  pub head : Head
  pub taken : Bool

abbrev pub handed_of : DecisionResult → DecisionHanded
handed_of r = record { answer = r.answer; presence = r.presence; head = head_of r.order; taken = r.taken }

abbrev pub handed_from : Decision → Presence → DecisionHanded
handed_from d p = record { answer = decision_answer_of d.answer; presence = p; head = d.order; taken = d.taken }

-- and with what the lent block then holds
pub record DecisionLeft : Type 0 where
  pub said : DecisionHanded
  pub block : List ℕ

abbrev pub left_from : Decision → Presence → (block : List ℕ) → DecisionLeft
left_from d p block = record { said = handed_from d p; block = block }
