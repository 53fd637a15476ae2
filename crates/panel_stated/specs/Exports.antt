-- What each export answers and leaves, in plain numbers, by the outcome that the definitions of the other crates give for its call.
-- A number that an answer has no use for is 0.
use Rattle.std.specs.Prelude.{◌+◌}
use Rattle.panel_stated.specs.Words.{ℕ, Bool, false, List, length, StatusWord, Outcome, R, Word, Gives, plain_word, ApduHeader, Presence, PresenceRecord, Session, SessionRecord, Kind, Head, Order, head_of}
use Rattle.panel_stated.specs.Words.{OrderNumbers, FrameSaid, CommandSaid, Wrote, Asked, DecisionSaid, ResponseSaid, RoomSaid, Shaped, Kinded}
use Rattle.panel_stated.specs.Words.{Says, read_of, place_of, Entry, Strict, in_row, read_by, parts_of, write_by, buffer_by, Command, Register, Authenticate, Version, GetResponse, handle_place_of, Told, new_of, touch_of, check_of, ask_of}
use Rattle.panel_stated.specs.Words.{kind_no, finish_of, DecisionGives, Body, Ordered, Part, DecisionResult, decision_of, Response, Sent, part_left, reply_left, block_left, presence_in, session_in, session_after, frame_room_of, inputs_in}
pub use Rattle.panel_stated.specs.Words.{ToDecide}
use Rattle.panel_stated.specs.Numbers.{answer_no, decided_no, fault_no, place_no, presence_numbers, session_numbers, is_yes, shape_of, kind_of, no_order}
use Rattle.response_stated.specs.Terms.{writing_of, sending_of}
use Rattle.std.specs.Prelude.{Some, None}

-- ---- frames
-- what a frame says, and where its data stands: "data comes back as a part of the caller's frame"
abbrev pub said_numbers : Says → FrameSaid
said_numbers said =
    record {
      answer = 0x9000;
      fault = 0;
      cla = said.header.cla;
      ins = said.header.ins;
      p1 = said.header.p1;
      p2 = said.header.p2;
      shape = said.shape;
      lc = said.lc;
      le = said.le;
      start = (place_of said).start;
      end = (place_of said).end;
      place = 0;
    }

-- a status word alone, with what it says of the length
abbrev pub no_frame : StatusWord → FrameSaid
no_frame s = record { answer = s.number; fault = s.kind; cla = 0; ins = 0; p1 = 0; p2 = 0; shape = 0; lc = 0; le = 0; start = 0; end = 0; place = s.place }

abbrev pub frame_numbers : Outcome Says → FrameSaid
frame_numbers (R n) = no_frame (plain_word n)
frame_numbers (Word s) = no_frame s
frame_numbers (Gives said) = said_numbers said

-- a length: of a frame that was written, of a reply's body
abbrev pub length_in : Outcome ℕ → ℕ
length_in (R n) = 0
length_in (Word s) = 0
length_in (Gives n) = n

abbrev pub length_numbers : Outcome ℕ → Wrote
length_numbers o = record { answer = answer_no o; length = length_in o }

-- what a writer of frames is lent, the shape as a number
pub record ToWrite : Type 0 where
  pub header : ApduHeader
  pub shape : ℕ
  pub content : List ℕ  -- the data
  pub le : ℕ
  pub out : List ℕ  -- the buffer before the call

-- 01: "It refuses (R5) exactly when data length or Le is not one that the shape can carry": where there is no shape, nothing is
abbrev pub write_as : Entry → Shaped → ToWrite → Outcome ℕ
write_as entry (Some s) w = write_by entry (parts_of w.header s w.content w.le) (length w.out)
write_as entry None w = R 5

abbrev pub buffer_as : Entry → Shaped → ToWrite → List ℕ
buffer_as entry (Some s) w = buffer_by entry (parts_of w.header s w.content w.le) w.out
buffer_as entry None w = w.out

-- whether the strict table has a row for so many bytes of data in a shape: 02, E4, "refuses .. Lc 0 in shape 7"
abbrev pub strict_as : Shaped → ℕ → Bool
strict_as (Some s) count = in_row Strict s count
strict_as None count = false

-- by either table: "and is otherwise the writer"
abbrev pub write_numbered : Entry → ToWrite → Outcome ℕ
write_numbered entry w = write_as entry (shape_of w.shape) w

-- ---- commands
-- a command without parts, or a status word alone
abbrev pub bare_command : StatusWord → (command : ℕ) → CommandSaid
bare_command s c = record { answer = s.number; fault = s.kind; command = c; p1 = 0; challenge = 0; application = 0; handle = 0; handle_end = 0; place = s.place }

-- 01, From frame to command: "Data: challenge 32, application 32." "The key handle is handed back as the part of the frame"
abbrev pub command_given : Command → CommandSaid
command_given Version = bare_command (plain_word 0x9000) 0x03
command_given GetResponse = bare_command (plain_word 0x9000) 0xC0
command_given (Register said) =
    record {
      answer = 0x9000;
      fault = 0;
      command = 0x01;
      p1 = 0;
      challenge = said.data_at;
      application = said.data_at + 32;
      handle = 0;
      handle_end = 0;
      place = 0;
    }
command_given (Authenticate p1 said) =
    record {
      answer = 0x9000;
      fault = 0;
      command = 0x02;
      p1 = p1;
      challenge = said.data_at;
      application = said.data_at + 32;
      handle = (handle_place_of said).start;
      handle_end = (handle_place_of said).end;
      place = 0;
    }

abbrev pub command_numbers : Outcome Command → CommandSaid
command_numbers (R n) = bare_command (plain_word n) 0
command_numbers (Word s) = bare_command s 0
command_numbers (Gives c) = command_given c

-- ---- presence: over the record's five numbers as they are lent, and as they are then
-- 01: "a refused making hands back no record": the one that is lent stays
abbrev pub made_over : Outcome Presence → Presence → Presence
made_over (R n) lent = lent
made_over (Word s) lent = lent
made_over (Gives p) lent = p

-- what making a record leaves: its answer, and the record
pub record AfterMaking : Type 0 where
  pub said : ℕ
  pub presence : PresenceRecord

abbrev pub makes_of : (presence : PresenceRecord) (w : ℕ) → AfterMaking
makes_of lent w = record { said = answer_no (new_of w); presence = presence_numbers (made_over (new_of w) (presence_in lent)) }

-- a touch was accepted, a check found a touch, a prompt is live
abbrev pub yes_in : Outcome Bool → Bool
yes_in (R n) = false
yes_in (Word s) = false
yes_in (Gives b) = b

abbrev pub asked_numbers : Outcome Bool → Asked
asked_numbers o = record { answer = answer_no o; yes = yes_in o }

-- what a touch and a check leave: their answer, and the record
pub record AfterStep : Type 0 where
  pub said : Asked
  pub presence : PresenceRecord

abbrev pub step_numbers : Told → AfterStep
step_numbers told = record { said = asked_numbers told.outcome; presence = presence_numbers told.presence }

abbrev pub touches_of : (presence : PresenceRecord) (t : ℕ) → AfterStep
touches_of lent t = step_numbers (touch_of (presence_in lent) t)

abbrev pub checks_of : (presence : PresenceRecord) (side t : ℕ) → AfterStep
checks_of lent s t = step_numbers (check_of (presence_in lent) s t)

abbrev pub asks_of : (presence : PresenceRecord) (t : ℕ) → Asked
asks_of lent t = asked_numbers (ask_of (presence_in lent) t).outcome

-- ---- responses and parts
-- of a response that is read, the status and the body as a part of the caller's slice (ours): the body's length, counted from the front
abbrev pub response_numbers : Outcome Response → ResponseSaid
response_numbers (R n) = record { answer = n; status = 0; length = 0 }
response_numbers (Word s) = record { answer = s.number; status = 0; length = 0 }
response_numbers (Gives r) = record { answer = 0x9000; status = r.status; length = r.length }

-- a part's response, by its length
abbrev pub sent_numbers : Outcome Sent → Wrote
sent_numbers (R n) = record { answer = n; length = 0 }
sent_numbers (Word s) = record { answer = s.number; length = 0 }
sent_numbers (Gives sent) = record { answer = 0x9000; length = sent.length }

-- 02, E2: "any R refusal keeps it"; after a part what it left, and the same limit
abbrev pub sent_over : Outcome Sent → Session → Session
sent_over (R n) lent = lent
sent_over (Word s) lent = lent
sent_over (Gives sent) lent = record { remainder = sent.remainder; limit = lent.limit }

-- how many bytes a response can take
abbrev pub room_numbers : Outcome ℕ → RoomSaid
room_numbers (R n) = record { answer = n; length = 0 }
room_numbers (Word s) = record { answer = s.number; length = 0 }
room_numbers (Gives n) = record { answer = 0x9000; length = n }

abbrev pub rooms_of : (frame : List ℕ) (longest : ℕ) → RoomSaid
rooms_of frame longest = room_numbers (frame_room_of frame longest)

-- what a call that writes leaves: its answer, and the buffer
pub record AfterWriting : Type 0 where
  pub said : Wrote
  pub buffer : List ℕ

-- what a part leaves: its answer, the session, and the buffer for part and status
pub record AfterPart : Type 0 where
  pub said : Wrote
  pub session : SessionRecord
  pub part : List ℕ

-- the exported readings
abbrev pub reads_of : Entry → List ℕ → FrameSaid
reads_of entry frame = frame_numbers (read_by entry frame)

-- the exported writers of frames, of responses, and the exported next part
abbrev pub writes_of : Entry → ToWrite → AfterWriting
writes_of entry w = record { said = length_numbers (write_numbered entry w); buffer = buffer_as entry (shape_of w.shape) w }

abbrev pub responds_of : (body : List ℕ) (status : ℕ) (old : List ℕ) → AfterWriting
responds_of body status old = record { said = length_numbers (writing_of body status old).0; buffer = (writing_of body status old).1 }

abbrev pub nexts_of : (session : SessionRecord) (body part : List ℕ) → AfterPart
nexts_of session body old =
    let sent = sending_of body (session_in session).remainder (session_in session).limit old in
    record { said = sent_numbers sent.0; session = session_numbers (sent_over sent.0 (session_in session)); part = sent.1 }

-- ---- decision
-- a body's length; of a part its response's
abbrev pub body_length : Outcome DecisionGives → ℕ
body_length (R n) = 0
body_length (Word s) = 0
body_length (Gives (Body n)) = n
body_length (Gives Ordered) = 0
body_length (Gives (Part n after)) = n

-- an order's kind, number of bytes to sign, and certificate length
abbrev pub head_after : Outcome DecisionGives → Head → OrderNumbers
head_after (R n) head = no_order
head_after (Word s) head = no_order
head_after (Gives (Body n)) head = no_order
head_after (Gives Ordered) head =
    record { kind = kind_no head.kind; to_sign = head.to_sign; certificate_length = head.certificate_length }
head_after (Gives (Part n after)) head = no_order

abbrev pub order_after : Outcome DecisionGives → Order → OrderNumbers
order_after o order = head_after o (head_of order)

-- a decision's numbers; the block goes out beside these: `block_left`
abbrev pub decided_numbers : Outcome DecisionGives → OrderNumbers → (taken : Bool) → DecisionSaid
decided_numbers answer order taken =
    record { answer = decided_no answer; fault = fault_no answer; taken = taken; length = body_length answer; order = order; place = place_no answer }

abbrev pub decision_numbers : DecisionResult → DecisionSaid
decision_numbers r = decided_numbers r.answer (order_after r.answer r.order) r.taken

-- the decision on what is lent, and what the transport goes on with
abbrev pub decided_by : ToDecide → DecisionResult
decided_by i = decision_of (presence_in i.presence) i.moment (inputs_in i)

abbrev pub session_by : ToDecide → Session
session_by i = session_after (decided_by i).answer (read_of i.frame) (session_in i.session)

-- all that a call leaves: its answer, the record, the session, the reply buffer, the block and the buffer for part and status
pub record AfterDeciding : Type 0 where
  pub said : DecisionSaid
  pub presence : PresenceRecord
  pub session : SessionRecord
  pub reply : List ℕ
  pub block : List ℕ
  pub part : List ℕ

abbrev pub decides_of : ToDecide → AfterDeciding
decides_of i =
    record {
      said = decision_numbers (decided_by i);
      presence = presence_numbers (decided_by i).presence;
      session = session_numbers (session_by i);
      reply = reply_left (decided_by i) i.reply;
      block = block_left (decided_by i) i.block;
      part = part_left (inputs_in i) (decided_by i) i.reply i.part;
    }

-- ---- finishing
-- what finishing is lent, the order as numbers and a block
pub record ToFinish : Type 0 where
  pub order : OrderNumbers
  pub block : List ℕ
  pub certificate : List ℕ
  pub signed : ℕ  -- 1 where the signer did not fail
  pub signature : List ℕ
  pub reply : List ℕ  -- the reply buffer before the call

-- the order that its numbers and block stand for
abbrev pub order_from : Kind → OrderNumbers → List ℕ → Order
order_from kind n block =
    record { kind = kind; to_sign = n.to_sign; certificate_length = n.certificate_length; bytes = block }

-- ours: over plain numbers any other kind is R7
abbrev pub finish_as : Kinded → ToFinish → Outcome (List ℕ)
finish_as None i = R 7
finish_as (Some kind) i =
    finish_of
    (record {
      order = order_from kind i.order i.block;
      certificate = i.certificate;
      signed = is_yes i.signed;
      signature = i.signature;
      reply = i.reply;
    })

abbrev pub finish_numbered : ToFinish → Outcome (List ℕ)
finish_numbered i = finish_as (kind_of i.order.kind) i
