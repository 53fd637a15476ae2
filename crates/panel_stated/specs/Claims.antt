-- What is promised of the numbers that cross to C, of any function: proofs/Theorems.antt has that the definitions meet it,
-- proofs/Only.antt that no others meet those that it names, proofs/Refuted.antt that the wrong programs of specs/Wrong.antt do not.
use Rattle.std.specs.Prelude.{◌↔◌, ◌⊎◌, ◌∷◌, drop, ◌≡◌, ◌≤◌, ◌<◌, ◌+◌}
use Rattle.panel_stated.specs.Words.{ℕ, Bool, List, AtMostOne, StatusWord, Outcome, R, Word, Gives, HasStatus, last_refusal, None, Presence, Order, Head}
use Rattle.panel_stated.specs.Words.{Instruction, Le1, Lc1Data, Lc1DataLe1, Lc3Data, Lc3DataLe2, Le3}
use Rattle.panel_stated.specs.Words.{PresenceRecord, SessionRecord, OrderNumbers, Shaped, Kinded, presence_in, remainder_in, session_in, frame_room_of}
use Rattle.panel_stated.specs.Words.{FrameSaid, CommandSaid, Wrote, Asked, DecisionSaid, ResponseSaid, RoomSaid}
use Rattle.panel_stated.specs.Words.{Says, Entry, Case, Parts, parts_of, shape_no, Command, Register, Authenticate, Version, GetResponse, length, Remainder, Response, Sent, write_response_of, read_response_of, next_part_of, false, read_of, strict_of, command_of, new_of, touch_of, check_of, ask_of, DecisionGives, Body, Ordered, Part, DecisionResult, finish_of}
use Rattle.panel_stated.specs.Exports.{order_after, ToWrite, ToDecide, ToFinish, decided_by, write_numbered, finish_numbered}
use Rattle.panel_stated.specs.Promises.{ShapeNumbered, FramePlain, FrameStatusPlain, StrictPlain, WritePlain, CommandPlain, RefusedAsked, FoundAsked, AskedPlain, FreshKept, KindNumbered, RefusedPlain, StatusPlain, BodyPlain, PartPlain, OrderPlain, FinishedPlain, ResponsePlain, WroteResponsePlain, RefusedPart, SentPart, RoomPlain}
use Rattle.panel_stated.specs.Promises.{BrinecandleRead, BrinecandleReadStrict, BrinecandleReadByTable, BrinecandleReadStrictByTable, BrinecandleWrite, BrinecandleWriteStrict, BrinecandleReadCommand, BrinecandleNew, BrinecandleGrantUp, BrinecandleConsumeUp, BrinecandleIsUpNeeded, BrinecandleDecide, BrinecandleFinish, BrinecandleWriteResponse, BrinecandleReadResponse, BrinecandleNextPart, BrinecandleResponseRoom}
use Rattle.octets.specs.Bytes.{AreBytes, part_of}
use Rattle.apdu_stated.specs.Reading.{data_of}
use Rattle.apdu_stated.specs.Claims as Frames
use Rattle.apdu_stated.specs.Terms.{InTable, Carries as Carried}
use Rattle.command_stated.specs.Command.{challenge_of, application_of, handle_of}
use Rattle.panel_stated.specs.Numbers.{hardware_of, is_yes}
use Rattle.ctap1_stated.specs.Claims as Decision
use Rattle.ctap1_stated.specs.Table.{Answers}
use Rattle.response_stated.specs.Claims as Responses
use Rattle.response_stated.specs.Parts.{limit_of}
use Rattle.response_stated.specs.Terms.{Sender, Writer, sending}
use Rattle.u2f_up_stated.specs.Terms.{BadWindow, BadSide}
use Rattle.panel_stated.specs.Terms.{SameNumbers, NoShape, IsNumbered, HasData, AfterMaking, AfterStep, AfterWriting, AfterDeciding, AfterPart, Reports}
use Rattle.outcome.specs.declared.ApduStatusCode.{ApduStatusCode}
use Rattle.outcome.specs.declared.Refusal.{Refusal}
use Rattle.apdu_stated.specs.declared.Apdu.{Apdu}
use Rattle.command_stated.specs.Command.{CommandReading}
use Rattle.u2f_up_stated.specs.Words.{Answer}
use Rattle.signing_stated.specs.Words.{Finished}
use Rattle.response_stated.specs.Words.{ReadResponse}
use Rattle.response_stated.specs.Words.{WroteResponse}
use Rattle.response_stated.specs.Words.{ResponseRoom}
use Rattle.signing_stated.specs.declared.Kind.TheVariants as Kind'
use Rattle.std.specs.Prelude.{Some}

-- ---- one answer number says which answer it is

-- Every outcome behind an export has a number of its own kind: a refusal one of the refusals', a status word one from 6000 up to
-- 9000. A status word 7, which C could not tell from R7, fails it.
pub record EveryOutcomeNumbered : Type 0 where
  pub read : (frame : List ℕ) → IsNumbered (read_of frame)
  pub read_strict : (frame : List ℕ) → IsNumbered (strict_of frame)
  pub read_command : (frame : List ℕ) → IsNumbered (command_of frame)
  pub write : (entry : Entry) (w : ToWrite) → IsNumbered (write_numbered entry w)
  pub new : (w : ℕ) → IsNumbered (new_of w)
  pub grant_up : (p : Presence) (t : ℕ) → IsNumbered (touch_of p t).outcome
  pub consume_up : (p : Presence) (s t : ℕ) → IsNumbered (check_of p s t).outcome
  pub is_up_needed : (p : Presence) (t : ℕ) → IsNumbered (ask_of p t).outcome
  pub decide : (i : ToDecide) → IsNumbered (decided_by i).answer
  pub finish : (i : ToFinish) → IsNumbered (finish_numbered i)
  pub write_response : (body : List ℕ) (room : ℕ) → IsNumbered (write_response_of body room)
  pub read_response : (response : List ℕ) → IsNumbered (read_response_of response)
  pub next_part : (body_room : ℕ) (r : Remainder) (limit room : ℕ) → IsNumbered (next_part_of body_room r limit room)
  pub response_room : (frame : List ℕ) (longest : ℕ) → IsNumbered (frame_room_of frame longest)

-- So the number 9000 is exactly what was asked for, a refusal's number exactly that refusal, and a status word's exactly that
-- status word, whatever its pair. 01: "a definition gives this paper's number and values for each of its cases". A table that gives 9000 for a
-- status word (`status_as9000`) fails it, at a frame of three bytes.
pub record AnswerTells (number : Outcome Bool → ℕ) : Type 0 where
  pub given : (o : Outcome Bool) → IsNumbered o → (number o ≡ 0x9000) ↔ ((a : Bool) × (o ≡ Gives a))
  pub refused : (o : Outcome Bool) → IsNumbered o → (n : ℕ) → n ≤ last_refusal → (number o ≡ n) ↔ (o ≡ R n)
  pub status : (o : Outcome Bool) → IsNumbered o → (n : ℕ) → 0x6000 ≤ n → n < 0x9000 → (number o ≡ n) ↔ HasStatus n o

-- Of a decision, 0100 is exactly an order, 9000 exactly a body, 0200 exactly a part, a refusal's number exactly that refusal, a status word's
-- exactly that. A table that numbers an order as R2 (`order_numbered2`) fails it: the firmware would take the order for a refusal; and
-- one that numbers a part as a body (`part_as_body`): it would be cut again, its status with it.
pub record DecisionTells (number : Outcome DecisionGives → ℕ) : Type 0 where
  pub ordered : (o : Outcome DecisionGives) → IsNumbered o → (number o ≡ 0x0100) ↔ (o ≡ Gives Ordered)
  pub body : (o : Outcome DecisionGives) → IsNumbered o → (number o ≡ 0x9000) ↔ ((n : ℕ) × (o ≡ Gives (Body n)))
  pub part : (o : Outcome DecisionGives) → IsNumbered o → (number o ≡ 0x0200) ↔ ((n : ℕ) × (after : Remainder) × (o ≡ Gives (Part n after)))
  pub refused : (o : Outcome DecisionGives) → IsNumbered o → (n : ℕ) → 1 ≤ n → n ≤ last_refusal → (number o ≡ n) ↔ (o ≡ R n)
  pub status : (o : Outcome DecisionGives) → IsNumbered o → (n : ℕ) → 0x6000 ≤ n → n < 0x9000 → (number o ≡ n) ↔ HasStatus n o

-- 0 is no answer's number: memory of zeros is neither an order nor anything else that a call has answered. Ours; DECISIONS, one answer
-- number. A table that numbers an order 0 (`order_is0`) fails it: a decision that was never asked for would be signed.
pub record NoAnswerIs0 (answer : Outcome Bool → ℕ) (decided : Outcome DecisionGives → ℕ) : Type 0 where
  pub answered : (o : Outcome Bool) → IsNumbered o → answer o ≡ 0 → ⊥
  pub decision : (o : Outcome DecisionGives) → IsNumbered o → decided o ≡ 0 → ⊥

-- ---- records

-- A record is made in the numbers that are lent: W from 1 to 60,000, both windows closed, last moment 0, side 0; R6 for any other W leaves them. 01: "A fresh
-- record is made with a touch window W of 1..60,000, both windows closed and last moment 0; a refused making hands back no record." A making that clears the
-- record with R6 (`clears_at_r6`) fails it, and one that looks at 16 bits of W (`made_from16_bits`).
pub record MakeExported (make : (presence : PresenceRecord) (w : ℕ) → AfterMaking) : Type 0 where
  pub made : (n : PresenceRecord) (w : ℕ) → 1 ≤ w → w ≤ 60000
      → ((make n w).said ≡ 0x9000) × (presence_in (make n w).presence ≡ record { w = w; prompt = None; touch = None; last = 0; asker = 0 })
  pub refused : (n : PresenceRecord) (w : ℕ) → (w ≡ 0) ⊎ (60000 < w) → ((make n w).said ≡ 6) × SameNumbers (make n w).presence n

-- "An R refusal changes no buffer and no record", said of the numbers: after a refusal the record that was lent is as it was, number by number, and after a
-- decision the session too (02, E2: "any R refusal keeps it"). A touch that moves the last moment all the same (`refused_moves`) fails it, before the last
-- moment, and a decision that forgets the session (`refused_forgets`).
pub record RefusalKeeps (touch : (presence : PresenceRecord) (t : ℕ) → AfterStep) (check : (presence : PresenceRecord) (side t : ℕ) → AfterStep) (decide : ToDecide → AfterDeciding) : Type 0 where
  pub grant_up : (n : PresenceRecord) (t : ℕ) → (touch n t).said.answer ≤ last_refusal → SameNumbers (touch n t).presence n
  pub consume_up : (n : PresenceRecord) (s t : ℕ) → (check n s t).said.answer ≤ last_refusal → SameNumbers (check n s t).presence n
  pub decided : (i : ToDecide) → (decide i).said.answer ≤ last_refusal → SameNumbers (decide i).presence i.presence × SameNumbers (decide i).session i.session

-- 02, E7: "R8 for a side other than 0 or 1, named or in the record"; ours: the side crosses with 64 bits, and so does the record's, so that 256, 2^32 or -1 in C
-- is not cut down to a side. So a check and a decision answer 8 exactly for such a number, as it was lent, once W is right; touch and ask, which name
-- none, exactly for the record's. An export that looks at 8 bits of the side (`side_cut_in_check`, `side_cut_in_decide`) fails it, at 256, and a touch that does
-- not look at the record's (`touch_any_side`).
pub record SideCrosses (touch : (presence : PresenceRecord) (t : ℕ) → AfterStep) (ask : (presence : PresenceRecord) (t : ℕ) → Asked) (check : (presence : PresenceRecord) (side t : ℕ) → AfterStep) (decide : ToDecide → AfterDeciding) : Type 0 where
  pub touched : (n : PresenceRecord) (t : ℕ) → ((touch n t).said.answer ≡ 8) ↔ ((BadWindow (presence_in n).w → ⊥) × (1 < (presence_in n).asker))
  pub asked : (n : PresenceRecord) (t : ℕ) → ((ask n t).answer ≡ 8) ↔ ((BadWindow (presence_in n).w → ⊥) × (1 < (presence_in n).asker))
  pub checked : (n : PresenceRecord) (s t : ℕ) → ((check n s t).said.answer ≡ 8) ↔ ((BadWindow (presence_in n).w → ⊥) × BadSide s (presence_in n).asker)
  pub decided : (i : ToDecide) → ((decide i).said.answer ≡ 8) ↔ ((BadWindow (presence_in i.presence).w → ⊥) × BadSide i.side (presence_in i.presence).asker)

-- ---- numbers that stand for cases

-- 01, 'Eight frame shapes', the column "no"; ours: a shape number outside 1..8 is R5; 02, E13: number 6 is no shape's, the
-- others keep theirs. A table that takes 0 for Instruction (`shape0_accepted`) fails it, and one that takes the retired 6 for shape 7 (`shape6_accepted`).
pub record ShapeNumbers (shape : ℕ → Shaped) : Type 0 where
  pub instruction : shape 1 ≡ Some Instruction
  pub le1 : shape 2 ≡ Some Le1
  pub lc1_data : shape 3 ≡ Some Lc1Data
  pub lc1_data_le1 : shape 4 ≡ Some Lc1DataLe1
  pub lc3_data : shape 5 ≡ Some Lc3Data
  pub lc3_data_le2 : shape 7 ≡ Some Lc3DataLe2
  pub le3 : shape 8 ≡ Some Le3
  pub none : (n : ℕ) → NoShape n → shape n ≡ None

-- Ours: over plain numbers any other kind is R7. A table that takes 2 for a Register (`kinds_alike`) fails it, and
-- one that takes 3 and above for an Authenticate (`unknown_is_authenticate`).
pub record KindNumbers (kind : ℕ → Kinded) : Type 0 where
  pub register : kind 1 ≡ Some Kind'.Register
  pub authenticate : kind 2 ≡ Some Kind'.Authenticate
  pub none : (n : ℕ) → (n ≡ 0) ⊎ (3 ≤ n) → kind n ≡ None

-- Ours: a shape number outside 1..8 is R5, a kind other than 1 and 2 R7; 02, E13: for shape 6 "the writer R5". A writer that takes number 6 for
-- shape 7 (`six_answered`) fails it, and a finisher that refuses an order of no kind for its room (`no_kind_is_r2`).
pub record OthersRefused (write : Entry → ToWrite → Outcome ℕ) (finish : ToFinish → Outcome (List ℕ)) : Type 0 where
  pub shape : (entry : Entry) (w : ToWrite) → NoShape w.shape → write entry w ≡ R 5
  pub kind : (i : ToFinish) → (i.order.kind ≡ 0) ⊎ (3 ≤ i.order.kind) → finish i ≡ R 7

-- An order that went out as numbers and block is finished as that order, its signer's answer by `YesNumbers`. A certificate length that goes out as the number of
-- bytes to sign (`certificate_length_as_to_sign`) fails it.
abbrev pub OrderBack : (Outcome DecisionGives → Order → OrderNumbers) → Type 0
OrderBack plain =
    (order : Order) (certificate : List ℕ) (signed : ℕ) (signature reply : List ℕ)
    → finish_numbered (record { order = plain (Gives Ordered) order; block = order.bytes; certificate = certificate; signed = signed; signature = signature; reply = reply })
    ≡ finish_of (record { order = order; certificate = certificate; signed = is_yes signed; signature = signature; reply = reply })

-- ---- what is not said is 0

-- A frame's numbers, or a status word beside zeros. 01: "data comes back as a part of the caller's frame". A table that says shape 1
-- beside a status word (`shape1_beside_status`) fails it, one that keeps a 6700's pair to itself (`frame_fault_unsaid`), and one that tells
-- its place as its kind (`kind_for_place`).
pub record FrameNumbers (plain : Outcome Says → FrameSaid) : Type 0 where
  pub refused : (n : ℕ) → plain (R n) ≡ record { answer = n; fault = 0; cla = 0; ins = 0; p1 = 0; p2 = 0; shape = 0; lc = 0; le = 0; start = 0; end = 0; place = 0 }
  pub status : (s : StatusWord) → plain (Word s)
      ≡ record { answer = s.number; fault = s.kind; cla = 0; ins = 0; p1 = 0; p2 = 0; shape = 0; lc = 0; le = 0; start = 0; end = 0; place = s.place }
  pub given : (s : Says) → plain (Gives s)
      ≡ record {
        answer = 0x9000;
        fault = 0;
        cla = s.header.cla;
        ins = s.header.ins;
        p1 = s.header.p1;
        p2 = s.header.p2;
        shape = s.shape;
        lc = s.lc;
        le = s.le;
        start = s.data_at;
        end = s.data_at + s.lc;
        place = 0;
      }

-- A command's numbers, or a status word beside zeros. 01: "Data: challenge 32, application 32", "The key handle is handed back as
-- the part of the frame after data[64], up to the data's end and without the Le". A table that says a Register's P1
-- (`register_with_p1`) fails it, and one that keeps a 6700's pair to itself (`command_fault_unsaid`).
pub record CommandNumbers (plain : Outcome Command → CommandSaid) : Type 0 where
  pub refused : (n : ℕ) → plain (R n)
      ≡ record { answer = n; fault = 0; command = 0; p1 = 0; challenge = 0; application = 0; handle = 0; handle_end = 0; place = 0 }
  pub status : (s : StatusWord) → plain (Word s)
      ≡ record {
        answer = s.number;
        fault = s.kind;
        command = 0;
        p1 = 0;
        challenge = 0;
        application = 0;
        handle = 0;
        handle_end = 0;
        place = s.place;
      }
  pub version : plain (Gives Version) ≡ record { answer = 0x9000; fault = 0; command = 3; p1 = 0; challenge = 0; application = 0; handle = 0; handle_end = 0; place = 0 }
  pub get_response : plain (Gives GetResponse) ≡ record { answer = 0x9000; fault = 0; command = 0xC0; p1 = 0; challenge = 0; application = 0; handle = 0; handle_end = 0; place = 0 }
  pub register : (s : Says) → plain (Gives (Register s))
      ≡ record { answer = 0x9000; fault = 0; command = 1; p1 = 0; challenge = s.data_at; application = s.data_at + 32; handle = 0; handle_end = 0; place = 0 }
  pub authenticate : (p1 : ℕ) (s : Says) → plain (Gives (Authenticate p1 s))
      ≡ record {
        answer = 0x9000;
        fault = 0;
        command = 2;
        p1 = p1;
        challenge = s.data_at;
        application = s.data_at + 32;
        handle = s.data_at + 65;
        handle_end = s.data_at + s.lc;
        place = 0;
      }

-- A written length, or 0 beside a refusal or a status word. A table that says a length beside a refusal (`length_beside_refusal`), or
-- never one (`length_unsaid`), fails it.
pub record LengthNumbers (plain : Outcome ℕ → Wrote) : Type 0 where
  pub refused : (n : ℕ) → plain (R n) ≡ record { answer = n; length = 0 }
  pub status : (s : StatusWord) → plain (Word s) ≡ record { answer = s.number; length = 0 }
  pub given : (n : ℕ) → plain (Gives n) ≡ record { answer = 0x9000; length = n }

-- A response's status and its body's length, or zeros beside a refusal. A table that never says the status (`response_status_unsaid`) fails it, and
-- one that counts the status in (`response_with_status`).
pub record ResponseNumbers (plain : Outcome Response → ResponseSaid) : Type 0 where
  pub refused : (n : ℕ) → plain (R n) ≡ record { answer = n; status = 0; length = 0 }
  pub status : (s : StatusWord) → plain (Word s) ≡ record { answer = s.number; status = 0; length = 0 }
  pub given : (r : Response) → plain (Gives r) ≡ record { answer = 0x9000; status = r.status; length = r.length }

-- A part's response, by its length, or 0 beside a refusal. A table that counts it without its status (`sent_without_status`) fails it.
pub record SentNumbers (plain : Outcome Sent → Wrote) : Type 0 where
  pub refused : (n : ℕ) → plain (R n) ≡ record { answer = n; length = 0 }
  pub status : (s : StatusWord) → plain (Word s) ≡ record { answer = s.number; length = 0 }
  pub given : (sent : Sent) → plain (Gives sent) ≡ record { answer = 0x9000; length = sent.length }

-- How many bytes a response can take, or 0 beside a refusal. A table that says a length beside R2 (`room_beside_refusal`) fails it.
pub record RoomNumbers (plain : Outcome ℕ → RoomSaid) : Type 0 where
  pub refused : (n : ℕ) → plain (R n) ≡ record { answer = n; length = 0 }
  pub status : (s : StatusWord) → plain (Word s) ≡ record { answer = s.number; length = 0 }
  pub given : (n : ℕ) → plain (Gives n) ≡ record { answer = 0x9000; length = n }

-- What a touch, a check or an ask says: `yes` beside 9000 alone. A table that says yes beside a refusal (`yes_beside_refusal`) fails it:
-- the firmware would take a refused touch for an accepted one. So does one that never says yes (`always_no`).
pub record AskedNumbers (plain : Outcome Bool → Asked) : Type 0 where
  pub refused : (n : ℕ) → plain (R n) ≡ record { answer = n; yes = false }
  pub status : (s : StatusWord) → plain (Word s) ≡ record { answer = s.number; yes = false }
  pub given : (b : Bool) → plain (Gives b) ≡ record { answer = 0x9000; yes = b }

-- The numbers of a decision's order: kind 1 or 2, the number of bytes to sign, the certificate length; zeros where there is none.
-- A table that numbers an Authenticate order 1 (`orders_alike`) fails it.
pub record OrderNumbersExactly (plain : Outcome DecisionGives → Order → OrderNumbers) : Type 0 where
  pub refused : (n : ℕ) (o : Order) → plain (R n) o ≡ record { kind = 0; to_sign = 0; certificate_length = 0 }
  pub status : (s : StatusWord) (o : Order) → plain (Word s) o ≡ record { kind = 0; to_sign = 0; certificate_length = 0 }
  pub body : (n : ℕ) (o : Order) → plain (Gives (Body n)) o ≡ record { kind = 0; to_sign = 0; certificate_length = 0 }
  pub part : (n : ℕ) (after : Remainder) (o : Order) → plain (Gives (Part n after)) o ≡ record { kind = 0; to_sign = 0; certificate_length = 0 }
  pub register : (o : Order) → o.kind ≡ Kind'.Register
      → plain (Gives Ordered) o ≡ record { kind = 1; to_sign = o.to_sign; certificate_length = o.certificate_length }
  pub authenticate : (o : Order) → o.kind ≡ Kind'.Authenticate
      → plain (Gives Ordered) o ≡ record { kind = 2; to_sign = o.to_sign; certificate_length = o.certificate_length }

-- A decision's numbers. A decision whose counter was taken and goes out as not taken (`taken_unsaid`) fails it: the counter would not
-- grow; and one that keeps the pair of a 6700 to itself (`decision_fault_unsaid`).
pub record DecisionNumbers (plain : DecisionResult → DecisionSaid) : Type 0 where
  pub refused : (r : DecisionResult) (n : ℕ) → r.answer ≡ R n → ((plain r).answer ≡ n) × ((plain r).fault ≡ 0) × ((plain r).place ≡ 0) × ((plain r).length ≡ 0)
  pub status : (r : DecisionResult) (s : StatusWord) → r.answer ≡ Word s
      → ((plain r).answer ≡ s.number) × ((plain r).fault ≡ s.kind) × ((plain r).place ≡ s.place) × ((plain r).length ≡ 0)
  pub body : (r : DecisionResult) (n : ℕ) → r.answer ≡ Gives (Body n) → ((plain r).answer ≡ 0x9000) × ((plain r).fault ≡ 0) × ((plain r).place ≡ 0) × ((plain r).length ≡ n)
  pub part : (r : DecisionResult) (n : ℕ) (after : Remainder) → r.answer ≡ Gives (Part n after)
      → ((plain r).answer ≡ 0x0200) × ((plain r).fault ≡ 0) × ((plain r).place ≡ 0) × ((plain r).length ≡ n)
  pub ordered : (r : DecisionResult) → r.answer ≡ Gives Ordered → ((plain r).answer ≡ 0x0100) × ((plain r).fault ≡ 0) × ((plain r).place ≡ 0) × ((plain r).length ≡ 0)
  pub taken : (r : DecisionResult) → (plain r).taken ≡ r.taken
  pub order : (r : DecisionResult) → (plain r).order ≡ order_after r.answer r.order  -- by `OrderNumbersExactly`

-- The exported decision as a whole, of what C lends under each name: a row of document 01's table and E2's (`row`), on what is lent, its numbers, and
-- what the call leaves. 02, E2: "a refused C0 or any R refusal keeps it"; "A frame with another INS or in no shape drops the remainder". Ours: after every answer
-- but a refusal the frame's limit is the session's, with an order too; 6, 139 + h + c and 77 are asked of the uncut body's buffer; a part is cut out of
-- that one and written to another. An export that leaves the limit with a body alone (`limit_of_bodies_alone`) fails it, one that asks the other buffer for room
-- (`rooms_swapped`), leaves the record as it was lent (`record_forgotten`), drops the remainder at a refused C0 (`drops_at_c0`), cuts the part out of the buffer for it
-- (`part_of_itself`), writes it over the body (`part_over_the_body`), or takes x for y (`point_swapped`).
pub record DecideExported (decide : ToDecide → AfterDeciding) : Type 0 where
  pub row : (i : ToDecide)
      → (r : DecisionResult)
      × Answers (presence_in i.presence) i.moment
      (record { side = i.side; frame = i.frame; hardware = hardware_of i.hardware; new_handle = i.new_handle; certificate = i.certificate; x = i.x; y = i.y; room = length i.reply; remainder = remainder_in i.session; part_room = length i.part }) r
      × Reports (decide i).said r
      × (presence_in (decide i).presence ≡ r.presence)
      × ((decide i).said.answer ≡ 0x0100 → (decide i).block ≡ r.order.bytes)
  pub limit : (i : ToDecide) (limit : List ℕ → ℕ) → Decision.LimitsExactly limit → last_refusal < (decide i).said.answer → (session_in (decide i).session).limit ≡ limit i.frame
  pub refused : (i : ToDecide) → (decide i).said.answer ≤ last_refusal → session_in (decide i).session ≡ session_in i.session
  pub keeps : (i : ToDecide) (said : Says) → read_of i.frame ≡ Gives said → said.header.ins ≡ 0xC0 → 0x6000 ≤ (decide i).said.answer → (decide i).said.answer < 0x9000
      → remainder_in (decide i).session ≡ remainder_in i.session
  pub drops : (i : ToDecide) → ((said : Says) → read_of i.frame ≡ Gives said → said.header.ins ≡ 0xC0 → ⊥) → last_refusal < (decide i).said.answer
      → remainder_in (decide i).session ≡ record { place = 0; count = 0 }
  pub version : (i : ToDecide) → (decide i).said.answer ≡ 0x9000 → (decide i).reply ≡ 0x55 ∷ 0x32 ∷ 0x46 ∷ 0x5F ∷ 0x56 ∷ 0x32 ∷ drop 6 i.reply
  pub reply : (i : ToDecide) → ((decide i).said.answer ≡ 0x9000 → ⊥) → (decide i).reply ≡ i.reply
  pub block : (i : ToDecide) → ((decide i).said.answer ≡ 0x0100 → ⊥) → (decide i).block ≡ i.block
  pub part : (i : ToDecide) (next : Sender) → Responses.NextExactly next → (decide i).said.answer ≡ 0x0200
      → next i.reply (remainder_in i.session) (session_in (decide i).session).limit i.part ≡ (Gives (sending (decide i).said.length (remainder_in (decide i).session)), (decide i).part)
  pub no_part : (i : ToDecide) → ((decide i).said.answer ≡ 0x0200 → ⊥) → (decide i).part ≡ i.part

-- The exported next part, by whatever sender meets response_stated's `NextExactly`: its answer in numbers, and its buffer; what remains and the limit are the
-- session's. 02, E2: "any R refusal keeps it". An export that forgets what remains with R2 (`next_forgets`) fails it, and one that looks at no limit (`next_whole`).
pub record NextPartExported (next : (session : SessionRecord) (body part : List ℕ) → AfterPart) : Type 0 where
  pub given : (sender : Sender) → Responses.NextExactly sender → (session : SessionRecord) (body old : List ℕ) (n : ℕ) (left : Remainder)
      → (sender body (remainder_in session) (session_in session).limit old).0 ≡ Gives (sending n left)
      → ((next session body old).said ≡ record { answer = 0x9000; length = n })
      × (session_in (next session body old).session ≡ record { remainder = left; limit = (session_in session).limit })
      × ((next session body old).part ≡ (sender body (remainder_in session) (session_in session).limit old).1)
  pub refused : (sender : Sender) → Responses.NextExactly sender → (session : SessionRecord) (body old : List ℕ) (m : ℕ)
      → (sender body (remainder_in session) (session_in session).limit old).0 ≡ R m
      → ((next session body old).said ≡ record { answer = m; length = 0 }) × (session_in (next session body old).session ≡ session_in session) × ((next session body old).part ≡ old)

-- The exported room, by whatever room meets response_stated's `RoomExactly`: of a frame that is read by its limit, of bytes in no shape two. An export that
-- takes every frame for an extended one (`room_uncut`) fails it.
pub record RoomExported (rooms : (frame : List ℕ) (longest : ℕ) → RoomSaid) : Type 0 where
  pub given : (room : (limit longest : ℕ) → Outcome ℕ) → Responses.RoomExactly room → (frame : List ℕ) (longest : ℕ) (said : Says) (n : ℕ) → read_of frame ≡ Gives said
      → room (limit_of said) longest ≡ Gives n → rooms frame longest ≡ record { answer = 0x9000; length = n }
  pub refused : (room : (limit longest : ℕ) → Outcome ℕ) → Responses.RoomExactly room → (frame : List ℕ) (longest : ℕ) (said : Says) (m : ℕ) → read_of frame ≡ Gives said
      → room (limit_of said) longest ≡ R m → rooms frame longest ≡ record { answer = m; length = 0 }
  pub no_shape : (frame : List ℕ) (longest : ℕ) (w : StatusWord) → read_of frame ≡ Word w → rooms frame longest ≡ record { answer = 0x9000; length = 2 }

-- The exported response, by whatever writer meets response_stated's `WritesExactly`: its answer in numbers, and its buffer. An export that writes 9000 whatever it
-- is lent (`responds9000`) fails it.
pub record ResponseExported (respond : (body : List ℕ) (status : ℕ) (old : List ℕ) → AfterWriting) : Type 0 where
  pub given : (writer : Writer) → Responses.WritesExactly writer → (body : List ℕ) (status : ℕ) (old : List ℕ) (n : ℕ) → (writer body status old).0 ≡ Gives n
      → ((respond body status old).said ≡ record { answer = 0x9000; length = n }) × ((respond body status old).buffer ≡ (writer body status old).1)
  pub refused : (writer : Writer) → Responses.WritesExactly writer → (body : List ℕ) (status : ℕ) (old : List ℕ) (m : ℕ) → (writer body status old).0 ≡ R m
      → ((respond body status old).said ≡ record { answer = m; length = 0 }) × ((respond body status old).buffer ≡ old)

-- The exported readings as a whole, by whatever reading meets apdu_stated's `ReadingExactly`, of the strict one `StrictExactly`, on every frame of bytes: what the
-- frame says in numbers, the data as a place in it, or the status word with its pair. 02, E4: "The strict frames are then ISO's seven cases". A strict export
-- that is the other one (`strict_export_reads`) fails it, one that keeps the place to itself (`place_unsaid`), and one that hands the data on with the Le (`data_with_le`).
pub record ReaderExported (Reads : (List ℕ → Outcome Says) → Type 0) (read : List ℕ → FrameSaid) : Type 0 where
  pub given : (reader : List ℕ → Outcome Says) → Reads reader → (frame : List ℕ) → AreBytes frame → (s : Says) → reader frame ≡ Gives s
      → read frame
      ≡ record { answer = 0x9000; fault = 0; cla = s.header.cla; ins = s.header.ins; p1 = s.header.p1; p2 = s.header.p2; shape = s.shape; lc = s.lc; le = s.le; start = s.data_at; end = s.data_at + s.lc; place = 0 }
  pub status : (reader : List ℕ → Outcome Says) → Reads reader → (frame : List ℕ) → AreBytes frame → (w : StatusWord) → reader frame ≡ Word w
      → read frame ≡ record { answer = w.number; fault = w.kind; cla = 0; ins = 0; p1 = 0; p2 = 0; shape = 0; lc = 0; le = 0; start = 0; end = 0; place = w.place }

abbrev pub ReadExported : (List ℕ → FrameSaid) → Type 0
ReadExported read = ReaderExported (Frames.ReadingExactly InTable) read

abbrev pub ReadStrictExported : (List ℕ → FrameSaid) → Type 0
ReadStrictExported read = ReaderExported Frames.StrictExactly read

-- The exported writers of frames as a whole, by whatever writer meets apdu_stated's `WriteExactly`, of the strict one `StrictWriteExactly`: of a shape's
-- number that writer's answer in numbers and its buffer, on the header, data and Le that are lent under these names; of any other number R5, of the retired 6 too (02, E13). E4: the strict
-- writer "refuses .. Lc 0 in shape 7, with R5 and is otherwise the writer". A strict export that is the other one (`strict_export_writes`) fails it, one
-- that gives R5 for no shape a written buffer (`no_shape_clears`), one that still writes for number 6 (`six_written`, `six_written_strictly`), and one that takes P2 for P1
-- (`parameters_swapped`).
pub record WriterExported (Writes : (Parts → List ℕ → Outcome ℕ × List ℕ) → Type 0) (write : ToWrite → AfterWriting) : Type 0 where
  pub given : (writer : Parts → List ℕ → Outcome ℕ × List ℕ) → Writes writer → (w : ToWrite) (s : Case) (n : ℕ) → w.shape ≡ shape_no s
      → (writer (parts_of w.header s w.content w.le) w.out).0 ≡ Gives n
      → ((write w).said ≡ record { answer = 0x9000; length = n }) × ((write w).buffer ≡ (writer (parts_of w.header s w.content w.le) w.out).1)
  pub refused : (writer : Parts → List ℕ → Outcome ℕ × List ℕ) → Writes writer → (w : ToWrite) (s : Case) (m : ℕ) → w.shape ≡ shape_no s
      → (writer (parts_of w.header s w.content w.le) w.out).0 ≡ R m
      → ((write w).said ≡ record { answer = m; length = 0 }) × ((write w).buffer ≡ w.out)
  pub no_shape : (w : ToWrite) → NoShape w.shape → ((write w).said ≡ record { answer = 5; length = 0 }) × ((write w).buffer ≡ w.out)

abbrev pub WriteExported : (ToWrite → AfterWriting) → Type 0
WriteExported write = WriterExported (Frames.WriteExactly Carried InTable) write

abbrev pub WriteStrictExported : (ToWrite → AfterWriting) → Type 0
WriteStrictExported write = WriterExported Frames.StrictWriteExactly write

-- 01: "the bytes to sign in a block of 385 bytes": the lent block is written for an order alone. One that is written after a status
-- word (`block_after_status`) or a refusal (`block_after_refusal`) fails it: an order that waits for its signature is lost.
pub record BlockExactly (after : Outcome DecisionGives → (bytes old : List ℕ) → List ℕ) : Type 0 where
  pub refused : (n : ℕ) (bytes old : List ℕ) → after (R n) bytes old ≡ old
  pub status : (s : StatusWord) (bytes old : List ℕ) → after (Word s) bytes old ≡ old
  pub body : (n : ℕ) (bytes old : List ℕ) → after (Gives (Body n)) bytes old ≡ old
  pub part : (n : ℕ) (rest : Remainder) (bytes old : List ℕ) → after (Gives (Part n rest)) bytes old ≡ old
  pub ordered : (bytes old : List ℕ) → after (Gives Ordered) bytes old ≡ bytes

-- ---- places

-- The parts cut at the exported numbers are the definitions' parts, and stand within the frame. 01: "data comes back as a part of the
-- caller's frame, not a copy", "The key handle is handed back as the part of the frame". Places one byte on (`places_one_on`) fail it.
pub record PlacesCut (frames : Outcome Says → FrameSaid) (commands : Outcome Command → CommandSaid) : Type 0 where
  pub «data» : (frame : List ℕ) (s : Says) → read_of frame ≡ Gives s
      → ((frames (Gives s)).end ≤ length frame) × (part_of frame (frames (Gives s)).start (frames (Gives s)).end ≡ data_of frame s)
  pub challenge : (frame : List ℕ) (c : Command) (s : Says) → command_of frame ≡ Gives c → HasData c s
      → ((commands (Gives c)).challenge + 32 ≤ length frame)
      × (part_of frame (commands (Gives c)).challenge ((commands (Gives c)).challenge + 32) ≡ challenge_of frame s)
  pub application : (frame : List ℕ) (c : Command) (s : Says) → command_of frame ≡ Gives c → HasData c s
      → ((commands (Gives c)).application + 32 ≤ length frame)
      × (part_of frame (commands (Gives c)).application ((commands (Gives c)).application + 32) ≡ application_of frame s)
  pub handle : (frame : List ℕ) (p1 : ℕ) (s : Says) → command_of frame ≡ Gives (Authenticate p1 s)
      → ((commands (Gives (Authenticate p1 s))).handle_end ≤ length frame)
      × (part_of frame (commands (Gives (Authenticate p1 s))).handle (commands (Gives (Authenticate p1 s))).handle_end ≡ handle_of frame s)

-- ---- the contracts and the claims on a call as a whole

-- Whatever meets the contract of an export meets the claim on it: the contracts say what is claimed, and of the same call. A contract of the strict writer that
-- names the other writer fails it, with code to match.
pub record ContractsAsClaimed : Type 0 where
  pub read : (f : List ℕ → FrameSaid) → ((frame : List ℕ) → BrinecandleRead frame (f frame)) → ReadExported f
  pub read_strict : (f : List ℕ → FrameSaid) → ((frame : List ℕ) → BrinecandleReadStrict frame (f frame)) → ReadStrictExported f
  pub read_by_table : (f : List ℕ → FrameSaid) → ((frame : List ℕ) → BrinecandleReadByTable frame (f frame)) → ReadExported f
  pub read_strict_by_table : (f : List ℕ → FrameSaid) → ((frame : List ℕ) → BrinecandleReadStrictByTable frame (f frame)) → ReadStrictExported f
  pub write : (f : ToWrite → AfterWriting) → ((w : ToWrite) → BrinecandleWrite w (f w).said (f w).buffer) → WriteExported f
  pub write_strict : (f : ToWrite → AfterWriting) → ((w : ToWrite) → BrinecandleWriteStrict w (f w).said (f w).buffer) → WriteStrictExported f
  pub new : (f : (presence : PresenceRecord) (w : ℕ) → AfterMaking) → ((n : PresenceRecord) (w : ℕ) → BrinecandleNew n w (f n w).said (f n w).presence) → MakeExported f
  pub decide : (f : ToDecide → AfterDeciding)
      → ((i : ToDecide) → BrinecandleDecide i (f i).said (f i).presence (f i).session (f i).reply (f i).block (f i).part) → DecideExported f
  pub next_part : (f : (session : SessionRecord) (body part : List ℕ) → AfterPart)
      → ((session : SessionRecord) (body part : List ℕ) → BrinecandleNextPart session body part (f session body part).said (f session body part).session (f session body part).part) → NextPartExported f
  pub response_room : (f : (frame : List ℕ) (longest : ℕ) → RoomSaid) → ((frame : List ℕ) (longest : ℕ) → BrinecandleResponseRoom frame longest (f frame longest)) → RoomExported f
  pub write_response : (f : (body : List ℕ) (status : ℕ) (old : List ℕ) → AfterWriting)
      → ((body : List ℕ) (status : ℕ) (old : List ℕ) → BrinecandleWriteResponse body status old (f body status old).said (f body status old).buffer) → ResponseExported f

-- ---- two results that satisfy a contract are equal, and so are the contents of what was lent
pub record ResultsDetermined : Type 0 where
  pub shape_numbered : (n : ℕ) → AtMostOne (ShapeNumbered n)
  pub frame_numbers : (says : Apdu) → AtMostOne (FramePlain says)
  pub frame_status : (s : ApduStatusCode) → AtMostOne (FrameStatusPlain s)
  pub strict_plain : (n count : ℕ) → AtMostOne (StrictPlain n count)
  pub write_plain : (w : ToWrite) → AtMostOne (λ (r : AfterWriting). WritePlain w r.said r.buffer)
  pub command_plain : (read : CommandReading) → AtMostOne (CommandPlain read)
  pub refused_asked : (why : Refusal) → AtMostOne (RefusedAsked why)
  pub found_asked : (yes : Bool) → AtMostOne (FoundAsked yes)
  pub fresh_kept : (w : ℕ) → AtMostOne (FreshKept w)
  pub asked_plain : (answer : Answer) → AtMostOne (AskedPlain answer)
  pub kind_numbered : (n : ℕ) → AtMostOne (KindNumbered n)
  pub refused_numbers : (why : Refusal) (taken : Bool) → AtMostOne (RefusedPlain why taken)
  pub status_numbers : (number kind place : ℕ) (taken : Bool) → AtMostOne (StatusPlain number kind place taken)
  pub body_numbers : (n : ℕ) (taken : Bool) → AtMostOne (BodyPlain n taken)
  pub part_numbers : (n : ℕ) (k : Remainder) (taken : Bool) → AtMostOne (PartPlain n k taken)
  pub order_numbers : (head : Head) (taken : Bool) → AtMostOne (OrderPlain head taken)
  pub finished_plain : (finished : Finished) → AtMostOne (FinishedPlain finished)
  pub brinecandle_read : (frame : List ℕ) → AtMostOne (BrinecandleRead frame)
  pub brinecandle_read_strict : (frame : List ℕ) → AtMostOne (BrinecandleReadStrict frame)
  pub brinecandle_read_by_table : (frame : List ℕ) → AtMostOne (BrinecandleReadByTable frame)
  pub brinecandle_read_strict_by_table : (frame : List ℕ) → AtMostOne (BrinecandleReadStrictByTable frame)
  pub brinecandle_write : (w : ToWrite) → AtMostOne (λ (r : AfterWriting). BrinecandleWrite w r.said r.buffer)
  pub brinecandle_write_strict : (w : ToWrite) → AtMostOne (λ (r : AfterWriting). BrinecandleWriteStrict w r.said r.buffer)
  pub brinecandle_read_command : (frame : List ℕ) → AtMostOne (BrinecandleReadCommand frame)
  pub brinecandle_new : (n : PresenceRecord) (w : ℕ) → AtMostOne (λ (r : AfterMaking). BrinecandleNew n w r.said r.presence)
  pub brinecandle_grant_up : (n : PresenceRecord) (t : ℕ) → AtMostOne (λ (r : AfterStep). BrinecandleGrantUp n t r.said r.presence)
  pub brinecandle_consume_up : (n : PresenceRecord) (s t : ℕ) → AtMostOne (λ (r : AfterStep). BrinecandleConsumeUp n s t r.said r.presence)
  pub brinecandle_is_up_needed : (n : PresenceRecord) (t : ℕ) → AtMostOne (BrinecandleIsUpNeeded n t)
  pub brinecandle_decide : (i : ToDecide)
      → AtMostOne (λ (r : AfterDeciding). BrinecandleDecide i r.said r.presence r.session r.reply r.block r.part)
  pub brinecandle_finish : (i : ToFinish) → AtMostOne (λ (r : AfterWriting). BrinecandleFinish i r.said r.buffer)
  pub response_plain : (read : ReadResponse) → AtMostOne (ResponsePlain read)
  pub wrote_response_plain : (written : WroteResponse) → AtMostOne (WroteResponsePlain written)
  pub refused_part : (why : Refusal) → AtMostOne (RefusedPart why)
  pub sent_part : (n : ℕ) → AtMostOne (SentPart n)
  pub room_plain : (room : ResponseRoom) → AtMostOne (RoomPlain room)
  pub brinecandle_write_response : (body : List ℕ) (status : ℕ) (old : List ℕ) → AtMostOne (λ (r : AfterWriting). BrinecandleWriteResponse body status old r.said r.buffer)
  pub brinecandle_read_response : (response : List ℕ) → AtMostOne (BrinecandleReadResponse response)
  pub brinecandle_next_part : (session : SessionRecord) (body part : List ℕ)
      → AtMostOne (λ (r : AfterPart). BrinecandleNextPart session body part r.said r.session r.part)
  pub brinecandle_response_room : (frame : List ℕ) (longest : ℕ) → AtMostOne (BrinecandleResponseRoom frame longest)
