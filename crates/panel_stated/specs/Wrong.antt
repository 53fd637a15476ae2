-- Wrong programs, one fault each, said as what they do otherwise than the definition. proofs/Refuted.antt has that each fails
-- its claim.
use Rattle.panel_stated.specs.Words.{ℕ, Bool, true, false, eqb, List, when◌then◌else◌, Outcome, R, Word, Gives, last_refusal, Order, Instruction, Lc3DataLe2}
use Rattle.panel_stated.specs.Words.{DecisionSaid, OrderNumbers, FrameSaid, CommandSaid, Wrote, Asked, ResponseSaid, RoomSaid, Shaped, Kinded}
use Rattle.panel_stated.specs.Words.{Says, Command, Register, Authenticate, Version, GetResponse, touch_of, DecisionResult, DecisionGives, Body, Ordered, Part, to_sign, certificate_length, rest, Response, Sent, PresenceRecord, SessionRecord, presence_in, remainder_in, session_in, inputs_in}
use Rattle.panel_stated.specs.Numbers.{presence_numbers, session_numbers, shape_of, kind_of}
use Rattle.panel_stated.specs.Exports.{ToFinish, finish_numbered, frame_numbers, command_numbers, length_numbers, makes_of, asked_numbers, order_after, decision_numbers, step_numbers, touches_of, checks_of, response_numbers, sent_numbers, room_numbers}
use Rattle.panel_stated.specs.Words.{Entry, Ordinary, Strict}
use Rattle.panel_stated.specs.Exports.{ToWrite, write_numbered, reads_of, writes_of, ToDecide, decided_by, decides_of, nexts_of, responds_of, AfterMaking, AfterStep, AfterWriting, AfterPart, AfterDeciding}
use Rattle.u2f_up_stated.specs.Moments.{moved_to}
use Rattle.ctap1_stated.specs.Decision.{block_after}
use Rattle.ctap1_stated.specs.Session.{part_left}
use Rattle.signing_stated.specs.declared.Kind.TheVariants as Kind'
use Rattle.std.specs.Prelude.{Some}
use Rattle.std.specs.Prelude.{◌%◌, leb, length, replicate, ◌+◌, ◌-◌}

-- ---- answers
-- one answer number: a status word under what was asked for
abbrev pub status_as9000 : Outcome Bool → ℕ
status_as9000 (R n) = n
status_as9000 (Word s) = 0x9000
status_as9000 (Gives b) = 0x9000

-- one answer number: an order under R2's
abbrev pub order_numbered2 : Outcome DecisionGives → ℕ
order_numbered2 (R n) = n
order_numbered2 (Word s) = s.number
order_numbered2 (Gives (Body n)) = 0x9000
order_numbered2 (Gives Ordered) = 2
order_numbered2 (Gives (Part n after)) = 0x0200

-- C0's part is not told from a body that is still to be cut
abbrev pub part_as_body : Outcome DecisionGives → ℕ
part_as_body (R n) = n
part_as_body (Word s) = s.number
part_as_body (Gives (Body n)) = 0x9000
part_as_body (Gives Ordered) = 0x0100
part_as_body (Gives (Part n after)) = 0x9000

-- one answer number: an order under the number of memory that nothing has written
abbrev pub order_is0 : Outcome DecisionGives → ℕ
order_is0 (R n) = n
order_is0 (Word s) = s.number
order_is0 (Gives (Body n)) = 0x9000
order_is0 (Gives Ordered) = 0
order_is0 (Gives (Part n after)) = 0x0200

-- ---- records
-- "a refused making hands back no record": the one that was lent is gone
abbrev no_record : PresenceRecord
no_record = record { w = 0; prompt = 0; touch = 0; last = 0; asker = 0 }

abbrev pub clears_at_r6 : (presence : PresenceRecord) (w : ℕ) → AfterMaking
clears_at_r6 n w = let a = makes_of n w in record { said = a.said; presence = when eqb a.said 6 then no_record else a.presence }

-- W has 64 bits. Here 16 of them are looked at
abbrev pub made_from16_bits : (presence : PresenceRecord) (w : ℕ) → AfterMaking
made_from16_bits n w = makes_of n (w % 0x10000)

-- "An R refusal changes no buffer and no record": the last moment moves all the same; and a decision forgets the session
abbrev pub refused_moves : (presence : PresenceRecord) (t : ℕ) → AfterStep
refused_moves n t =
    let a = touches_of n t in
    record { said = a.said; presence = when leb a.said.answer last_refusal then presence_numbers (moved_to (presence_in n) t) else a.presence }

abbrev no_session : SessionRecord
no_session = record { place = 0; count = 0; limit = 0 }

abbrev pub refused_forgets : ToDecide → AfterDeciding
refused_forgets i =
    let a = decides_of i in
    record { said = a.said; presence = a.presence; session = when leb a.said.answer last_refusal then no_session else a.session; reply = a.reply; block = a.block; part = a.part }

-- ours: a side has 64 bits, so that 256, 2^32 or -1 in C is not cut down to one. Here 8 bits of it are looked at, in a check, in a decision; and, "named or in the
-- record", a touch takes any record
abbrev pub touch_any_side : (presence : PresenceRecord) (t : ℕ) → AfterStep
touch_any_side n t = let p = presence_in n in step_numbers (touch_of (record { w = p.w; prompt = p.prompt; touch = p.touch; last = p.last; asker = 0 }) t)

abbrev pub side_cut_in_check : (presence : PresenceRecord) (side t : ℕ) → AfterStep
side_cut_in_check n s t = checks_of n (s % 256) t

abbrev lent_with : ToDecide → (side : ℕ) (x y reply part : List ℕ) → ToDecide
lent_with i side x y reply part =
    record {
      presence = i.presence;
      session = i.session;
      frame = i.frame;
      side = side;
      moment = i.moment;
      hardware = i.hardware;
      new_handle = i.new_handle;
      certificate = i.certificate;
      x = x;
      y = y;
      reply = reply;
      block = i.block;
      part = part;
    }

abbrev pub side_cut_in_decide : ToDecide → AfterDeciding
side_cut_in_decide i = decides_of (lent_with i (i.side % 256) i.x i.y i.reply i.part)

-- ---- numbers that stand for cases
-- a shape number outside 1..8 is R5. Here 0 is taken for Instruction
abbrev pub shape0_accepted : ℕ → Shaped
shape0_accepted n = when eqb n 0 then Some Instruction else shape_of n

-- 02, E13, for shape 6 "the writer R5": 6 taken for shape 7
abbrev pub shape6_accepted : ℕ → Shaped
shape6_accepted n = when eqb n 6 then Some Lc3DataLe2 else shape_of n

abbrev six_as7 : ToWrite → ToWrite
six_as7 w = record { header = w.header; shape = when eqb w.shape 6 then 7 else w.shape; content = w.content; le = w.le; out = w.out }

abbrev pub six_answered : Entry → ToWrite → Outcome ℕ
six_answered entry w = write_numbered entry (six_as7 w)

-- an Authenticate order finished as a Register
abbrev pub kinds_alike : ℕ → Kinded
kinds_alike n = when eqb n 2 then Some Kind'.Register else kind_of n

-- over plain numbers any other kind is R7. Here 3 and above are taken for an Authenticate
abbrev pub unknown_is_authenticate : ℕ → Kinded
unknown_is_authenticate n = when leb 3 n then Some Kind'.Authenticate else kind_of n

-- an order's certificate length goes out as the number of bytes to sign
abbrev pub certificate_length_as_to_sign : Outcome DecisionGives → Order → OrderNumbers
certificate_length_as_to_sign o order =
    let n = order_after o order in
    record { kind = n.kind; to_sign = n.certificate_length; certificate_length = n.certificate_length }

-- ---- what is not said is 0
-- shape 1 beside a status word
abbrev pub shape1_beside_status : Outcome Says → FrameSaid
shape1_beside_status (R n) = frame_numbers (R n)
shape1_beside_status (Word s) = record { answer = s.number; fault = s.kind; cla = 0; ins = 0; p1 = 0; p2 = 0; shape = 1; lc = 0; le = 0; start = 0; end = 0; place = s.place }
shape1_beside_status (Gives s) = frame_numbers (Gives s)

-- "P1 is not looked at": a Register's P1 goes out
abbrev pub register_with_p1 : Outcome Command → CommandSaid
register_with_p1 (R n) = command_numbers (R n)
register_with_p1 (Word s) = command_numbers (Word s)
register_with_p1 (Gives Version) = command_numbers (Gives Version)
register_with_p1 (Gives GetResponse) = command_numbers (Gives GetResponse)
register_with_p1 (Gives (Register s)) =
    record {
      answer = 0x9000;
      fault = 0;
      command = 1;
      p1 = s.header.p1;
      challenge = s.data_at;
      application = s.data_at + 32;
      handle = 0;
      handle_end = 0;
      place = 0;
    }
register_with_p1 (Gives (Authenticate p1 s)) = command_numbers (Gives (Authenticate p1 s))

-- a length beside a refusal
abbrev pub length_beside_refusal : Outcome ℕ → Wrote
length_beside_refusal (R n) = record { answer = n; length = 1 }
length_beside_refusal (Word s) = length_numbers (Word s)
length_beside_refusal (Gives n) = length_numbers (Gives n)

-- what was written has no length
abbrev pub length_unsaid : Outcome ℕ → Wrote
length_unsaid o = record { answer = (length_numbers o).answer; length = 0 }

-- yes beside a refusal
abbrev pub yes_beside_refusal : Outcome Bool → Asked
yes_beside_refusal (R n) = record { answer = n; yes = true }
yes_beside_refusal (Word s) = asked_numbers (Word s)
yes_beside_refusal (Gives b) = asked_numbers (Gives b)

-- every answer is no
abbrev pub always_no : Outcome Bool → Asked
always_no o = record { answer = (asked_numbers o).answer; yes = false }

-- every order numbered as a Register
abbrev pub orders_alike : Outcome DecisionGives → Order → OrderNumbers
orders_alike (R n) o = order_after (R n) o
orders_alike (Word s) o = order_after (Word s) o
orders_alike (Gives (Body n)) o = order_after (Gives (Body n)) o
orders_alike (Gives (Part n after)) o = order_after (Gives (Part n after)) o
orders_alike (Gives Ordered) o = record { kind = 1; to_sign = to_sign o; certificate_length = certificate_length o }

-- "the bytes to sign in a block of 385 bytes": the lent block written after a status word, and after a refusal
abbrev pub block_after_status : Outcome DecisionGives → (bytes old : List ℕ) → List ℕ
block_after_status (R n) bytes old = old
block_after_status (Word s) bytes old = bytes
block_after_status (Gives g) bytes old = block_after (Gives g) bytes old

abbrev pub block_after_refusal : Outcome DecisionGives → (bytes old : List ℕ) → List ℕ
block_after_refusal (R n) bytes old = bytes
block_after_refusal (Word s) bytes old = old
block_after_refusal (Gives g) bytes old = block_after (Gives g) bytes old

-- ---- places
-- "data comes back as a part of the caller's frame": each place one byte on
abbrev pub places_one_on : Outcome Says → FrameSaid
places_one_on (R n) = frame_numbers (R n)
places_one_on (Word s) = frame_numbers (Word s)
places_one_on (Gives s) =
    let n = frame_numbers (Gives s) in
    record { answer = n.answer; fault = n.fault; cla = n.cla; ins = n.ins; p1 = n.p1; p2 = n.p2; shape = n.shape; lc = n.lc; le = n.le; start = n.start + 1; end = n.end + 1; place = n.place }

-- ---- decisions and runs
-- "the offered counter is reported as taken": it is not
abbrev pub taken_unsaid : DecisionResult → DecisionSaid
taken_unsaid r =
    let n = decision_numbers r in
    record { answer = n.answer; fault = n.fault; taken = false; length = n.length; order = n.order; place = n.place }

-- 02, E1: "carry the pair upward"; ours: out to C too. Here the pair stays behind, beside a frame's status, a command's and a decision's
abbrev pub frame_fault_unsaid : Outcome Says → FrameSaid
frame_fault_unsaid o =
    let n = frame_numbers o in
    record { answer = n.answer; fault = 0; cla = n.cla; ins = n.ins; p1 = n.p1; p2 = n.p2; shape = n.shape; lc = n.lc; le = n.le; start = n.start; end = n.end; place = 0 }

abbrev pub command_fault_unsaid : Outcome Command → CommandSaid
command_fault_unsaid o =
    let n = command_numbers o in
    record {
      answer = n.answer;
      fault = 0;
      command = n.command;
      p1 = n.p1;
      challenge = n.challenge;
      application = n.application;
      handle = n.handle;
      handle_end = n.handle_end;
      place = 0;
    }

abbrev pub decision_fault_unsaid : DecisionResult → DecisionSaid
decision_fault_unsaid r =
    let n = decision_numbers r in
    record { answer = n.answer; fault = 0; taken = n.taken; length = n.length; order = n.order; place = 0 }

-- a response that is read: no status; and the status counted in with the body
abbrev pub response_status_unsaid : Outcome Response → ResponseSaid
response_status_unsaid o = let n = response_numbers o in record { answer = n.answer; status = 0; length = n.length }

abbrev pub response_with_status : Outcome Response → ResponseSaid
response_with_status o = let n = response_numbers o in record { answer = n.answer; status = n.status; length = n.length + 2 }

-- a part's response without its status
abbrev pub sent_without_status : Outcome Sent → Wrote
sent_without_status (R n) = sent_numbers (R n)
sent_without_status (Word s) = sent_numbers (Word s)
sent_without_status (Gives sent) = record { answer = 0x9000; length = sent.length - 2 }

-- a length beside a refusal
abbrev pub room_beside_refusal : Outcome ℕ → RoomSaid
room_beside_refusal (R n) = record { answer = n; length = 258 }
room_beside_refusal (Word s) = room_numbers (Word s)
room_beside_refusal (Gives n) = room_numbers (Gives n)

-- kind and place change places
abbrev pub kind_for_place : Outcome Says → FrameSaid
kind_for_place o =
    let n = frame_numbers o in
    record {
      answer = n.answer;
      fault = n.place;
      cla = n.cla;
      ins = n.ins;
      p1 = n.p1;
      p2 = n.p2;
      shape = n.shape;
      lc = n.lc;
      le = n.le;
      start = n.start;
      end = n.end;
      place = n.fault;
    }

-- over plain numbers any other kind is R7. Here it is refused for its room
abbrev pub no_kind_is_r2 : ToFinish → Outcome (List ℕ)
no_kind_is_r2 i = when leb 3 i.order.kind then R 2 else finish_numbered i

-- ---- the exported decision, next part and response: all as they are to be, but for one thing
abbrev leaves_session : AfterDeciding → SessionRecord → AfterDeciding
leaves_session a session = record { said = a.said; presence = a.presence; session = session; reply = a.reply; block = a.block; part = a.part }

-- the limit comes with every answer but a refusal. Here with a body alone
abbrev pub limit_of_bodies_alone : ToDecide → AfterDeciding
limit_of_bodies_alone i =
    let a = decides_of i in
    leaves_session a (session_numbers (record { remainder = remainder_in a.session; limit = when eqb a.said.answer 0x9000 then (session_in a.session).limit else (session_in i.session).limit }))

-- body and part are lent apart. Here each is taken for the other
abbrev pub rooms_swapped : ToDecide → AfterDeciding
rooms_swapped i =
    let a = decides_of (lent_with i i.side i.x i.y i.part i.reply) in
    record { said = a.said; presence = a.presence; session = a.session; reply = a.part; block = a.block; part = a.reply }

-- "a refused C0 .. keeps it": a status word drops it
abbrev pub drops_at_c0 : ToDecide → AfterDeciding
drops_at_c0 i =
    let a = decides_of i in
    leaves_session a (session_numbers (record { remainder = when leb 0x6000 a.said.answer then rest 0 0 else remainder_in a.session; limit = (session_in a.session).limit }))

-- a touch is spent. Here the record stays as it was lent
abbrev pub record_forgotten : ToDecide → AfterDeciding
record_forgotten i = let a = decides_of i in record { said = a.said; presence = i.presence; session = a.session; reply = a.reply; block = a.block; part = a.part }

-- a part is cut out of the uncut body. Here out of the buffer for part and status
abbrev pub part_of_itself : ToDecide → AfterDeciding
part_of_itself i =
    let a = decides_of i in
    record { said = a.said; presence = a.presence; session = a.session; reply = a.reply; block = a.block; part = part_left (inputs_in i) (decided_by i) i.part i.part }

-- and written to another buffer. Here to the uncut body's
abbrev pub part_over_the_body : ToDecide → AfterDeciding
part_over_the_body i =
    let a = decides_of i in
    record { said = a.said; presence = a.presence; session = a.session; reply = part_left (inputs_in i) (decided_by i) i.reply a.reply; block = a.block; part = i.part }

-- "x, y" of the new key's point: y, x
abbrev pub point_swapped : ToDecide → AfterDeciding
point_swapped i = decides_of (lent_with i i.side i.y i.x i.reply i.part)

-- 02, E2: "any R refusal keeps it". Here nothing is left after it
abbrev pub next_forgets : (session : SessionRecord) (body part : List ℕ) → AfterPart
next_forgets session body old =
    let a = nexts_of session body old in
    record { said = a.said; session = when eqb a.said.answer 2 then no_session else a.session; part = a.part }

-- 02, E2: "a body longer than Le (256 where absent) is cut". Here it goes out as a whole
abbrev pub next_whole : (session : SessionRecord) (body part : List ℕ) → AfterPart
next_whole session body old = nexts_of (session_numbers (record { remainder = remainder_in session; limit = 0 })) body old

-- in the short shapes the first part is cut. Here the room is the whole body's
abbrev pub room_uncut : (frame : List ℕ) (longest : ℕ) → RoomSaid
room_uncut frame longest = record { answer = 0x9000; length = longest + 2 }

-- the status is any number of 16 bits. Here it is 9000
abbrev pub responds9000 : (body : List ℕ) (status : ℕ) (old : List ℕ) → AfterWriting
responds9000 body status old = responds_of body 0x9000 old

-- ---- the exported readings
-- "The strict frames are then ISO's seven cases": the strict export is the other one
abbrev pub strict_export_reads : List ℕ → FrameSaid
strict_export_reads frame = reads_of Ordinary frame

-- "a place": it is 0
abbrev pub place_unsaid : List ℕ → FrameSaid
place_unsaid frame =
    let a = reads_of Ordinary frame in
    record { answer = a.answer; fault = a.fault; cla = a.cla; ins = a.ins; p1 = a.p1; p2 = a.p2; shape = a.shape; lc = a.lc; le = a.le; start = a.start; end = a.end; place = 0 }

-- "Data is exactly Lc bytes": it ends one byte late
abbrev pub data_with_le : List ℕ → FrameSaid
data_with_le frame =
    let a = reads_of Strict frame in
    record { answer = a.answer; fault = a.fault; cla = a.cla; ins = a.ins; p1 = a.p1; p2 = a.p2; shape = a.shape; lc = a.lc; le = a.le; start = a.start; end = a.end + 1; place = a.place }

-- ---- the exported writers of frames
-- "refuses .. Lc 0 in shape 7": the strict export is the other one
abbrev pub strict_export_writes : ToWrite → AfterWriting
strict_export_writes w = writes_of Ordinary w

-- "An R refusal changes no buffer": a number that is no shape's sets every byte of it to 0
abbrev pub no_shape_clears : ToWrite → AfterWriting
no_shape_clears w = let a = writes_of Ordinary w in record { said = a.said; buffer = when leb 9 w.shape then replicate (length w.out) 0 else a.buffer }

-- for shape 6 "the writer R5": it writes shape 7, and strictly too
abbrev pub six_written : ToWrite → AfterWriting
six_written w = writes_of Ordinary (six_as7 w)

abbrev pub six_written_strictly : ToWrite → AfterWriting
six_written_strictly w = writes_of Strict (six_as7 w)

-- "CLA INS P1 P2": P2 for P1
abbrev pub parameters_swapped : ToWrite → AfterWriting
parameters_swapped w =
    let h = w.header in
    writes_of Strict (record { header = record { cla = h.cla; ins = h.ins; p1 = h.p2; p2 = h.p1 }; shape = w.shape; content = w.content; le = w.le; out = w.out })
