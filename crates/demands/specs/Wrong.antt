-- The panel of the definitions, and wrong ones, each with one fault. proofs/Refuted.antt shows that the first meets every contract, and of each other that it
-- does not meet the demands.
use Rattle.std.specs.Prelude.{ℕ, ◌+◌, ◌-◌, ◌%◌, List, ◌++◌, Bool, false, not, eqb, ltb, length, take, drop, replicate}
use Rattle.outcome.specs.Notation.{when◌then◌else◌}
use Rattle.outcome.specs.Outcome.{R, SW}
use Rattle.octets.specs.Bytes.{laid}
use Rattle.apdu_stated.specs.declared.Entry.TheVariants.{Ordinary, Strict}
use Rattle.command_stated.specs.Command.{command_of}
use Rattle.response_stated.specs.declared.Remainder.{Remainder}
use Rattle.response_stated.specs.Words.{rest}
use Rattle.response_stated.specs.Responses.{read_response_of}
use Rattle.ctap1_stated.specs.Path.{frame_limit}
use Rattle.session_stated.specs.Held.{remainder_in, session_in}
use Rattle.session_stated.specs.declared.SessionRecord.{SessionRecord}
use Rattle.session_stated.specs.Promises.{lending}
use Rattle.u2f_up_stated.specs.declared.Presence.{Presence}
use Rattle.std.specs.Prelude.{Some}
use Rattle.u2f_up_stated.specs.Numbers.{presence_in}
use Rattle.u2f_up_stated.specs.Moments.{ask_of}
use Rattle.u2f_up_stated.specs.declared.PresenceRecord.{PresenceRecord}
use Rattle.signing_stated.specs.Finishing.{length_of, reply_of}
use Rattle.panel_stated.specs.declared.FrameSaid.{FrameSaid}
use Rattle.panel_stated.specs.declared.CommandSaid.{CommandSaid}
use Rattle.panel_stated.specs.declared.ResponseSaid.{ResponseSaid}
use Rattle.panel_stated.specs.declared.RoomSaid.{RoomSaid}
use Rattle.panel_stated.specs.declared.Asked.{Asked}
use Rattle.panel_stated.specs.Numbers.{presence_numbers, session_numbers}
use Rattle.panel_stated.specs.Exports.{ToWrite, ToDecide, ToFinish, AfterMaking, AfterStep, AfterDeciding, AfterWriting, AfterPart, makes_of, step_numbers, touches_of, checks_of, asks_of, decides_of, finish_numbered, length_numbers, reads_of, writes_of, command_numbers, responds_of, response_numbers, nexts_of, rooms_of}
use Rattle.panel_stated.specs.Wrong as Exports
use Rattle.datasheet_stated.specs.Words.{Sheet}
use Rattle.std.specs.Prelude.{Ok}
use Rattle.datasheet_stated.specs.Sheet.{figures_of, sheet_of}
use Rattle.demands.specs.Panel.{Panel}

abbrev pub right_command : List ℕ → CommandSaid
right_command frame = command_numbers (command_of frame)

abbrev pub right_response : List ℕ → ResponseSaid
right_response response = response_numbers (read_response_of response)

-- any functions on the record, any decision and finishing, any functions on frames and responses, and any room, so that wrong ones can be tried
abbrev MakeCall : Type 0
MakeCall = (presence : PresenceRecord) (w : ℕ) → AfterMaking

abbrev TouchCall : Type 0
TouchCall = (presence : PresenceRecord) (t : ℕ) → AfterStep

abbrev CheckCall : Type 0
CheckCall = (presence : PresenceRecord) (side t : ℕ) → AfterStep

abbrev AskCall : Type 0
AskCall = (presence : PresenceRecord) (t : ℕ) → Asked

abbrev RespondCall : Type 0
RespondCall = (body : List ℕ) (status : ℕ) (old : List ℕ) → AfterWriting

abbrev PartCall : Type 0
PartCall = (session : SessionRecord) (body part : List ℕ) → AfterPart

abbrev RoomCall : Type 0
RoomCall = (frame : List ℕ) (longest : ℕ) → RoomSaid

abbrev panel_of : MakeCall → TouchCall → CheckCall → AskCall → (ToDecide → AfterDeciding) → (ToFinish → AfterWriting) → (read read_table read_strict read_strict_table : List ℕ → FrameSaid)
    → (write write_strict : ToWrite → AfterWriting) → (List ℕ → CommandSaid) → RespondCall → (List ℕ → ResponseSaid) → PartCall → RoomCall → Panel
panel_of new touch check ask decide finish read read_table read_strict read_strict_table write write_strict command respond response next room =
    record {
      new = new;
      grant_up = touch;
      consume_up = check;
      is_up_needed = ask;
      decide = decide;
      finish = finish;
      read = read;
      read_strict = read_strict;
      read_by_table = read_table;
      read_strict_by_table = read_strict_table;
      write = write;
      write_strict = write_strict;
      read_command = command;
      write_response = respond;
      read_response = response;
      next_part = next;
      response_room = room;
    }

abbrev pub right_finish : ToFinish → AfterWriting
right_finish i = record { said = length_numbers (length_of (finish_numbered i)); buffer = reply_of (finish_numbered i) i.reply }

abbrev pub panel_with : MakeCall → TouchCall → CheckCall → AskCall → (ToDecide → AfterDeciding) → (ToFinish → AfterWriting) → Panel
panel_with new touch check ask decide finish =
    panel_of new touch check ask decide finish (reads_of Ordinary) (reads_of Ordinary) (reads_of Strict) (reads_of Strict) (writes_of Ordinary) (writes_of Strict) right_command responds_of right_response nexts_of rooms_of

abbrev pub frames_with : (read read_table read_strict read_strict_table : List ℕ → FrameSaid) (write write_strict : ToWrite → AfterWriting) → (List ℕ → CommandSaid) → RespondCall → (List ℕ → ResponseSaid) → PartCall → Panel
frames_with read read_table read_strict read_strict_table write write_strict command respond response next =
    panel_of makes_of touches_of checks_of asks_of decides_of right_finish read read_table read_strict read_strict_table write write_strict command respond response next rooms_of

abbrev rooms_with : RoomCall → Panel
rooms_with room =
    panel_of makes_of touches_of checks_of asks_of decides_of right_finish (reads_of Ordinary) (reads_of Ordinary) (reads_of Strict) (reads_of Strict) (writes_of Ordinary) (writes_of Strict) right_command responds_of right_response nexts_of room

abbrev pub defined : Panel
defined = panel_with makes_of touches_of checks_of asks_of decides_of right_finish

-- the room is the whole body's, whatever the frame; and, in any shape, no more than a short frame's 258
abbrev pub room_uncut : Panel
room_uncut = rooms_with Exports.room_uncut

abbrev pub room258 : Panel
room258 = rooms_with (λ frame longest. record { answer = 0x9000; length = 258 })

-- ---- frames and responses: panel_stated's wrong functions, one at a time
abbrev pub read_placeless : Panel
read_placeless =
    frames_with Exports.place_unsaid (reads_of Ordinary) (reads_of Strict) (reads_of Strict) (writes_of Ordinary) (writes_of Strict) right_command responds_of right_response nexts_of

abbrev pub table_placeless : Panel
table_placeless =
    frames_with (reads_of Ordinary) Exports.place_unsaid (reads_of Strict) (reads_of Strict) (writes_of Ordinary) (writes_of Strict) right_command responds_of right_response nexts_of

abbrev pub strict_is_ordinary : Panel
strict_is_ordinary =
    frames_with (reads_of Ordinary) (reads_of Ordinary) Exports.strict_export_reads (reads_of Strict) (writes_of Ordinary) (writes_of Strict) right_command responds_of right_response nexts_of

abbrev pub strict_table_is_ordinary : Panel
strict_table_is_ordinary =
    frames_with (reads_of Ordinary) (reads_of Ordinary) (reads_of Strict) Exports.strict_export_reads (writes_of Ordinary) (writes_of Strict) right_command responds_of right_response nexts_of

abbrev pub write_clears : Panel
write_clears =
    frames_with (reads_of Ordinary) (reads_of Ordinary) (reads_of Strict) (reads_of Strict) Exports.no_shape_clears (writes_of Strict) right_command responds_of right_response nexts_of

abbrev pub strict_write_is_ordinary : Panel
strict_write_is_ordinary =
    frames_with (reads_of Ordinary) (reads_of Ordinary) (reads_of Strict) (reads_of Strict) (writes_of Ordinary) Exports.strict_export_writes right_command responds_of right_response nexts_of

-- every frame is 6d00 as a command
abbrev pub knows_no_command : Panel
knows_no_command =
    frames_with (reads_of Ordinary) (reads_of Ordinary) (reads_of Strict) (reads_of Strict) (writes_of Ordinary) (writes_of Strict) (λ frame. command_numbers (SW 0x6d00)) responds_of right_response nexts_of

abbrev pub responds9000 : Panel
responds9000 =
    frames_with (reads_of Ordinary) (reads_of Ordinary) (reads_of Strict) (reads_of Strict) (writes_of Ordinary) (writes_of Strict) right_command Exports.responds9000 right_response nexts_of

-- every response is said to be too short
abbrev pub reads_no_response : Panel
reads_no_response =
    frames_with (reads_of Ordinary) (reads_of Ordinary) (reads_of Strict) (reads_of Strict) (writes_of Ordinary) (writes_of Strict) right_command responds_of (λ response. response_numbers (R 2)) nexts_of

abbrev pub next_forgets : Panel
next_forgets =
    frames_with (reads_of Ordinary) (reads_of Ordinary) (reads_of Strict) (reads_of Strict) (writes_of Ordinary) (writes_of Strict) right_command responds_of right_response Exports.next_forgets

-- a part is answered as it should be, and no byte of it goes out
abbrev pub sends_nothing : Panel
sends_nothing =
    frames_with (reads_of Ordinary) (reads_of Ordinary) (reads_of Strict) (reads_of Strict) (writes_of Ordinary) (writes_of Strict) right_command responds_of right_response
    (λ session body part. record { said = record { answer = (nexts_of session body part).said.answer; length = 0 }; session = session; part = part })

-- ---- presence, decision and finishing
-- W is cut to 16 bits
abbrev pub new_cut : Panel
new_cut = panel_with (λ n w. makes_of n (w % 65536)) touches_of checks_of asks_of decides_of right_finish

-- a touch is answered as an ask is, and nothing opens
abbrev pub touch_asks : Panel
touch_asks = panel_with makes_of (λ n t. step_numbers (ask_of (presence_in n) t)) checks_of asks_of decides_of right_finish

-- every check is side 0's
abbrev pub check_is0 : Panel
check_is0 = panel_with makes_of touches_of (λ n s t. checks_of n 0 t) asks_of decides_of right_finish

-- a side is cut to its lowest bit
abbrev pub side_cut : Panel
side_cut = panel_with makes_of touches_of (λ n s t. checks_of n (s % 2) t) asks_of decides_of right_finish

-- yes and no are exchanged in an ask's answer
abbrev pub ask_swapped : Panel
ask_swapped = panel_with makes_of touches_of checks_of (λ n t. record { answer = (asks_of n t).answer; yes = not (asks_of n t).yes }) decides_of right_finish

-- a check gives R6, whatever the record
abbrev pub refuses_window : Panel
refuses_window = panel_with makes_of touches_of (λ n s t. record { said = record { answer = 6; yes = false }; presence = n }) asks_of decides_of right_finish

-- a check that finds a touch keeps it
abbrev kept_if : Bool → (presence : PresenceRecord) → AfterStep → AfterStep
kept_if found n r = when found then record { said = r.said; presence = n } else r

abbrev pub touch_kept : Panel
touch_kept = panel_with makes_of touches_of (λ n s t. kept_if (checks_of n s t).said.yes n (checks_of n s t)) asks_of decides_of right_finish

-- what a call left, with another record
abbrev with : AfterStep → Presence → AfterStep
with r p = record { said = r.said; presence = presence_numbers p }

-- a touch leaves its moment and two more: the window that it opened is said to be later than it was
abbrev pub touch_late : Panel
touch_late =
    panel_with makes_of
    (λ n t.
    let r = touches_of n t in
    let p = presence_in r.presence in
    with r (record { w = p.w; prompt = p.prompt; touch = Some (t + 1); last = p.last; asker = p.asker }))
    checks_of asks_of decides_of right_finish

-- a check leaves the asker that it was lent
abbrev pub asker_kept : Panel
asker_kept =
    panel_with makes_of touches_of
    (λ n s t.
    let r = checks_of n s t in
    let p = presence_in r.presence in
    with r (record { w = p.w; prompt = p.prompt; touch = p.touch; last = p.last; asker = (presence_in n).asker }))
    asks_of decides_of right_finish

-- a refused call moves the record, a decision's side is cut, and what is left is dropped at a refused C0: panel_stated's
abbrev pub refused_moves : Panel
refused_moves = panel_with makes_of Exports.refused_moves checks_of asks_of decides_of right_finish

abbrev pub side_cut_in_decide : Panel
side_cut_in_decide = panel_with makes_of touches_of checks_of asks_of Exports.side_cut_in_decide right_finish

abbrev pub drops_at_c0 : Panel
drops_at_c0 = panel_with makes_of touches_of checks_of asks_of Exports.drops_at_c0 right_finish

-- finishing gives R2, whatever the room
abbrev pub finish_refuses : Panel
finish_refuses = panel_with makes_of touches_of checks_of asks_of decides_of (λ i. record { said = record { answer = 2; length = 0 }; buffer = i.reply })

-- finishing says 9000 and writes nothing
abbrev pub finish_claims : Panel
finish_claims = panel_with makes_of touches_of checks_of asks_of decides_of (λ i. record { said = record { answer = 0x9000; length = 0 }; buffer = i.reply })

-- what is lent, with another record and another remainder
abbrev changed : (presence : PresenceRecord) → Remainder → ToDecide → ToDecide
changed n k i = lending n (session_numbers (record { remainder = k; limit = (session_in i.session).limit })) i.reply i

-- what a decision left, with another remainder
abbrev keeping : Remainder → AfterDeciding → AfterDeciding
keeping k d =
    record { said = d.said; presence = d.presence; session = session_numbers (record { remainder = k; limit = (session_in d.session).limit }); reply = d.reply; block = d.block; part = d.part }

-- wherever the place is no multiple of the limit, a frame is answered as if nothing were left, and all of it is kept
abbrev pub stalls : Panel
stalls =
    panel_with makes_of touches_of checks_of asks_of
    (λ i. when eqb ((remainder_in i.session).place % frame_limit i.frame) 0 then decides_of i else keeping (remainder_in i.session) (decides_of (changed i.presence (rest 0 0) i))) right_finish

-- a part leaves a byte more behind it than it took: that byte never goes out
abbrev pub skips : Panel
skips =
    panel_with makes_of touches_of checks_of asks_of
    (λ i. let d = decides_of i in keeping (rest ((remainder_in d.session).place + 1) ((remainder_in d.session).count - 1)) d) right_finish

-- a decision leaves the record as it was lent
abbrev pub record_kept : Panel
record_kept = panel_with makes_of touches_of checks_of asks_of Exports.record_forgotten right_finish

-- a decision is made as if its side had just been touched for
abbrev pub untouched : Panel
untouched =
    panel_with makes_of touches_of checks_of asks_of
    (λ i.
    let p = presence_in i.presence in
    decides_of (changed (presence_numbers (record { w = p.w; prompt = p.prompt; touch = Some i.moment; last = p.last; asker = i.side })) (remainder_in i.session) i))
    right_finish

-- ---- 02, E11: an order of this kind, with other bytes to sign, and zeros behind them
abbrev signing : (kind : ℕ) (change : List ℕ → List ℕ) → AfterDeciding → AfterDeciding
signing kind change d =
    let order = d.said.order in
    let s = change (take order.to_sign d.block) in
    when eqb order.kind kind
    then record {
      said = record {
        answer = d.said.answer;
        fault = d.said.fault;
        taken = d.said.taken;
        length = d.said.length;
        order = record { kind = kind; to_sign = length s; certificate_length = order.certificate_length };
        place = d.said.place;
      };
      presence = d.presence;
      session = d.session;
      reply = d.reply;
      block = laid s (replicate 385 0);
      part = d.part;
    }
    else d

-- the public key is left out of a Register's bytes
abbrev pub key_left_out : Panel
key_left_out = panel_with makes_of touches_of checks_of asks_of (λ i. signing 1 (λ s. take (length s - 65) s) (decides_of i)) right_finish

-- its handle's last byte is left out
abbrev pub handle_cut : Panel
handle_cut =
    panel_with makes_of touches_of checks_of asks_of (λ i. signing 1 (λ s. when eqb (length s) 130 then s else take (length s - 66) s ++ drop (length s - 65) s) (decides_of i)) right_finish

-- the presence byte is left out of an Authenticate's
abbrev pub presence_left_out : Panel
presence_left_out = panel_with makes_of touches_of checks_of asks_of (λ i. signing 2 (λ s. take 32 s ++ drop 33 s) (decides_of i)) right_finish

-- its counter's first byte is left out
abbrev pub counter_cut : Panel
counter_cut = panel_with makes_of touches_of checks_of asks_of (λ i. signing 2 (λ s. take 33 s ++ drop 34 s) (decides_of i)) right_finish

-- the whole block is signed, with the zeros behind a Register's bytes
abbrev pub block_signed : Panel
block_signed = panel_with makes_of touches_of checks_of asks_of (λ i. signing 1 (λ s. laid s (replicate 385 0)) (decides_of i)) right_finish

-- application and challenge change places in a Register's bytes
abbrev pub fields_exchanged : Panel
fields_exchanged =
    panel_with makes_of touches_of checks_of asks_of (λ i. signing 1 (λ s. take 1 s ++ take 32 (drop 33 s) ++ take 32 (drop 1 s) ++ drop 65 s) (decides_of i)) right_finish

-- and in an Authenticate's
abbrev pub login_exchanged : Panel
login_exchanged = panel_with makes_of touches_of checks_of asks_of (λ i. signing 2 (λ s. drop 37 s ++ take 5 (drop 32 s) ++ take 32 s) (decides_of i)) right_finish

-- ---- 02, E10: a decision by another length of the reply buffer
abbrev roomed : (change : List ℕ → List ℕ) → ToDecide → AfterDeciding
roomed change i =
    let d = decides_of (lending i.presence i.session (change i.reply) i) in
    record { said = d.said; presence = d.presence; session = d.session; reply = i.reply; block = d.block; part = d.part }

-- what a decision left, with another answer and another length
abbrev saying : (answer length : ℕ) → AfterDeciding → AfterDeciding
saying answer length d =
    record {
      said = record { answer = answer; fault = d.said.fault; taken = d.said.taken; length = length; order = d.said.order; place = d.said.place };
      presence = d.presence;
      session = d.session;
      reply = d.reply;
      block = d.block;
      part = d.part;
    }

-- room is asked for without the signature's 72; and for a byte more than it takes
abbrev pub signature_forgotten : Panel
signature_forgotten = panel_with makes_of touches_of checks_of asks_of (roomed (λ l. l ++ replicate 72 0)) right_finish

abbrev pub asks_one_more : Panel
asks_one_more = panel_with makes_of touches_of checks_of asks_of (roomed (drop 1)) right_finish

-- a guessed length: less than 1,024 bytes are never enough
abbrev pub guesses1024 : Panel
guesses1024 = panel_with makes_of touches_of checks_of asks_of (λ i. when ltb (length i.reply) 1024 then saying 2 0 (decides_of i) else decides_of i) right_finish

-- finishing says a byte more than it wrote; and every body of a decision is said to have 1,024
abbrev pub finish_one_more : Panel
finish_one_more =
    panel_with makes_of touches_of checks_of asks_of decides_of
    (λ i. record { said = record { answer = (right_finish i).said.answer; length = (right_finish i).said.length + 1 }; buffer = (right_finish i).buffer })

abbrev pub says1024 : Panel
says1024 = panel_with makes_of touches_of checks_of asks_of (λ i. saying (decides_of i).said.answer 1024 (decides_of i)) right_finish

-- a part is refused where the whole body would not go; a part, and a response, want a byte more than they take
abbrev pub part_wants_body : Panel
part_wants_body =
    panel_with makes_of touches_of checks_of asks_of (λ i. when ltb (length i.part) (length i.reply + 2) then saying 2 0 (decides_of i) else decides_of i) right_finish

abbrev pub part_wants3 : Panel
part_wants3 =
    frames_with (reads_of Ordinary) (reads_of Ordinary) (reads_of Strict) (reads_of Strict) (writes_of Ordinary) (writes_of Strict) right_command responds_of right_response (λ session body part. nexts_of session body (drop 1 part))

abbrev pub response_wants3 : Panel
response_wants3 =
    frames_with (reads_of Ordinary) (reads_of Ordinary) (reads_of Strict) (reads_of Strict) (writes_of Ordinary) (writes_of Strict) right_command (λ body status old. responds_of body status (drop 1 old)) right_response nexts_of

-- a decision leaves no limit
abbrev pub limit_forgotten : Panel
limit_forgotten =
    panel_with makes_of touches_of checks_of asks_of
    (λ i.
    let d = decides_of i in
    record { said = d.said; presence = d.presence; session = record { place = (remainder_in d.session).place; count = (remainder_in d.session).count; limit = 0 }; reply = d.reply; block = d.block; part = d.part })
    right_finish

-- every frame is said to be in shape 4, with an Le of 300
abbrev pub reads_shape4 : Panel
reads_shape4 =
    frames_with
    (λ frame.
    let said = reads_of Ordinary frame in
    record { answer = 0x9000; fault = 0; cla = said.cla; ins = said.ins; p1 = said.p1; p2 = said.p2; shape = 4; lc = said.lc; le = 300; start = said.start; end = said.end; place = 0 })
    (reads_of Ordinary) (reads_of Strict) (reads_of Strict) (writes_of Ordinary) (writes_of Strict) right_command responds_of right_response nexts_of

-- ---- rows of the data sheet: for every buffer, however short; and of a buffer that is one byte longer
abbrev pub row_for_any : ℕ → Sheet
row_for_any n = Ok (figures_of n)

abbrev pub row_of_another : ℕ → Sheet
row_of_another n = sheet_of (n + 1)
