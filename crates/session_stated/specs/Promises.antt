-- What the public functions promise: of what is lent in and the buffers at entry, of the result and of the record, the session and the buffers at exit.
use Rattle.std.specs.Prelude.{ℕ, ◌≡◌, Bool, List, length}
use Rattle.outcome.specs.Notation.{when◌then◌else◌}
use Rattle.apdu_stated.specs.Reading.{read_of}
use Rattle.command_stated.specs.Command.{command_of}
use Rattle.u2f_up_stated.specs.Numbers.{presence_in}
use Rattle.u2f_up_stated.specs.declared.PresenceRecord.{PresenceRecord}
use Rattle.response_stated.specs.declared.Remainder.{Remainder}
use Rattle.response_stated.specs.Words.{ResponseRoom}
use Rattle.response_stated.specs.Words.{rest, room_said}
use Rattle.ctap1_stated.specs.Words.{Inputs, DecisionResult, inputs_from, enrolment_of, left_from}
use Rattle.ctap1_stated.specs.declared.Call.{Call}
use Rattle.ctap1_stated.specs.declared.Decision.{Decision}
use Rattle.ctap1_stated.specs.declared.HardwareSaid.{HardwareSaid}
use Rattle.ctap1_stated.specs.declared.NewKey.{NewKey}
use Rattle.ctap1_stated.specs.Numbers.{hardware_of}
use Rattle.ctap1_stated.specs.Path.{frame_limit, command_path}
use Rattle.ctap1_stated.specs.Decision.{decision_of, reply_left, left_of}
use Rattle.ctap1_stated.specs.Promises.{along_in}
use Rattle.ctap1_stated.specs.Session.{is_get_response, part_left}
use Rattle.session_stated.specs.Held.{SessionRecord, session_in, remainder_in, frame_room_of}
use Rattle.session_stated.specs.declared.SessionDecision.{SessionDecision}

-- all that a decision is lent, the record's and the session's numbers and the hardware's answers by name
pub record ToDecide : Type 0 where
  pub presence : PresenceRecord
  pub session : SessionRecord
  pub frame : List ℕ
  pub side : ℕ
  pub moment : ℕ
  pub hardware : HardwareSaid
  pub new_handle : List ℕ
  pub certificate : List ℕ
  pub x : List ℕ
  pub y : List ℕ
  pub reply : List ℕ
  pub block : List ℕ
  pub part : List ℕ

-- of a call and a new key as they are lent, beside the rest
abbrev pub to_decide : (presence : PresenceRecord) (session : SessionRecord) → Call → HardwareSaid → NewKey → (reply block part : List ℕ) → ToDecide
to_decide presence session call hardware key reply block part =
    record {
      presence = presence;
      session = session;
      frame = call.frame.now;
      side = call.side;
      moment = call.t;
      hardware = hardware;
      new_handle = key.handle.now;
      certificate = key.certificate.now;
      x = key.x.now;
      y = key.y.now;
      reply = reply;
      block = block;
      part = part;
    }

-- the same with another record, session and reply buffer
abbrev pub lending : (presence : PresenceRecord) (session : SessionRecord) (reply : List ℕ) → ToDecide → ToDecide
lending presence session reply i =
    record {
      presence = presence;
      session = session;
      frame = i.frame;
      side = i.side;
      moment = i.moment;
      hardware = i.hardware;
      new_handle = i.new_handle;
      certificate = i.certificate;
      x = i.x;
      y = i.y;
      reply = reply;
      block = i.block;
      part = i.part;
    }

abbrev pub inputs_in : ToDecide → Inputs
inputs_in i =
    inputs_from i.side i.frame (hardware_of i.hardware) (enrolment_of i.new_handle i.certificate i.x i.y) (length i.reply) (remainder_in i.session) (length i.part)

-- what a decision leaves by this result: the record, the order's block, the reply buffer for Version's body, the buffer for part and status
abbrev pub Leaves : ToDecide → DecisionResult → Decision → (presence : PresenceRecord) (reply block part : List ℕ) → Type 0
Leaves i d r presence reply block part =
    (left_from r (presence_in presence) block ≡ left_of d i.block) × (reply ≡ reply_left d i.reply) × (part ≡ part_left (inputs_in i) d i.reply i.part)

-- the decision as a whole (ctap1_stated's Decision.antt, `decision_of`), and what its frame says to the session
abbrev pub Decide : ToDecide → SessionDecision → (presence : PresenceRecord) (reply block part : List ℕ) → Type 0
Decide i r presence reply block part =
    Leaves i (decision_of (presence_in i.presence) i.moment (inputs_in i)) r.decision presence reply block part
    × (r.limit ≡ frame_limit i.frame)
    × (r.fetches ≡ is_get_response (read_of i.frame))

-- by the command, once the moment is settled and CTAP1 is allowed
abbrev pub Commanded : ToDecide → Decision → (presence : PresenceRecord) (reply block part : List ℕ) → Type 0
Commanded i r presence reply block part =
    Leaves i (along_in (command_path (inputs_in i) (command_of i.frame)) i.presence i.side i.moment) r presence reply block part

-- ---- the session's numbers
abbrev pub RemainderLent : (entry : SessionRecord) → Remainder → Type 0
RemainderLent entry r = r ≡ remainder_in entry

-- 02, E2: "A frame with another INS or in no shape drops the remainder; a refused C0 .. keeps it": after a status word
abbrev pub Stated : (fetches : Bool) (limit : ℕ) (entry exit : SessionRecord) → Type 0
Stated fetches limit entry exit = session_in exit ≡ record { remainder = when fetches then remainder_in entry else rest 0 0; limit = limit }

-- after a body or an order
abbrev pub Dropped : (limit : ℕ) (exit : SessionRecord) → Type 0
Dropped limit exit = session_in exit ≡ record { remainder = rest 0 0; limit = limit }

-- after a part
abbrev pub Left : Remainder → (limit : ℕ) (exit : SessionRecord) → Type 0
Left remainder limit exit = session_in exit ≡ record { remainder = remainder; limit = limit }

abbrev pub RoomForResponse : (frame : List ℕ) (longest : ℕ) → ResponseRoom → Type 0
RoomForResponse frame longest r = room_said r ≡ frame_room_of frame longest
