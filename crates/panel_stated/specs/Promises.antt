-- What is promised of each public function of panel_frames, panel_presence, panel_orders, panel_responses and panel, over what it is lent,
-- its result, and the final contents of what it writes.
use Rattle.std.specs.Prelude.{◌≡◌}
use Rattle.panel_stated.specs.Words.{ℕ, Bool, List, PresenceRecord, SessionRecord, R, Word, Gives, Body, Ordered, Part, Head, Remainder, Ordinary, Strict, command_of, new_of, touch_of, check_of, length_of, reply_of, response_read, response_written, read_response_of, presence_in, session_in}
use Rattle.panel_stated.specs.Words.{FrameSaid, CommandSaid, Wrote, Asked, DecisionSaid, ResponseSaid, RoomSaid, Shaped, Kinded}
use Rattle.panel_stated.specs.Numbers.{shape_of, kind_of, no_order}
use Rattle.panel_stated.specs.Exports.{frame_numbers, length_numbers, ToWrite, strict_as, reads_of, writes_of, command_numbers, made_over, makes_of, asked_numbers, touches_of, checks_of, asks_of, head_after, decided_numbers, ToDecide, decided_by, session_by, decides_of, responds_of, response_numbers, nexts_of, sent_over, room_numbers, rooms_of, ToFinish, finish_numbered}
use Rattle.response_stated.specs.Terms.{sending_of}
use Rattle.apdu_stated.specs.Answers.{says_of}
use Rattle.apdu_stated.specs.declared.Apdu.{Apdu}
use Rattle.command_stated.specs.Command.{command_said}
use Rattle.command_stated.specs.Command.{CommandReading}
use Rattle.u2f_up_stated.specs.Moments.{fresh}
use Rattle.u2f_up_stated.specs.Answers.{outcome_of}
use Rattle.u2f_up_stated.specs.Words.{Answer}
use Rattle.outcome.specs.Outcome.{word_of, refusal_no}
use Rattle.outcome.specs.declared.ApduStatusCode.{ApduStatusCode}
use Rattle.outcome.specs.declared.Refusal.{Refusal}
use Rattle.signing_stated.specs.Finishing.{finished_of}
use Rattle.signing_stated.specs.Words.{Finished}
use Rattle.response_stated.specs.Words.{ReadResponse}
use Rattle.response_stated.specs.Words.{WroteResponse}
use Rattle.response_stated.specs.Words.{ResponseRoom}
use Rattle.response_stated.specs.Words.{room_said}

-- ---- panel_frames
abbrev pub ShapeNumbered : ℕ → Shaped → Type 0
ShapeNumbered number r = r ≡ shape_of number

-- a reading by its two cases
abbrev pub FramePlain : Apdu → FrameSaid → Type 0
FramePlain says r = r ≡ frame_numbers (Gives (says_of says))

abbrev pub FrameStatusPlain : ApduStatusCode → FrameSaid → Type 0
FrameStatusPlain status r = r ≡ frame_numbers (Word (word_of status))

abbrev pub StrictPlain : ℕ → ℕ → Bool → Type 0
StrictPlain number count r = r ≡ strict_as (shape_of number) count

abbrev pub WritePlain : ToWrite → Wrote → List ℕ → Type 0
WritePlain w r after = (r ≡ (writes_of Ordinary w).said) × (after ≡ (writes_of Ordinary w).buffer)

abbrev pub CommandPlain : CommandReading → CommandSaid → Type 0
CommandPlain read r = r ≡ command_numbers (command_said read)

-- ---- panel_presence
-- what is said to a touch, a check and an ask: refused, or `yes`
abbrev pub RefusedAsked : Refusal → Asked → Type 0
RefusedAsked why r = r ≡ asked_numbers (R (refusal_no why))

abbrev pub FoundAsked : Bool → Asked → Type 0
FoundAsked found r = r ≡ asked_numbers (Gives found)

abbrev pub AskedPlain : Answer → Asked → Type 0
AskedPlain answer r = r ≡ asked_numbers (outcome_of answer)

abbrev pub FreshKept : (w : ℕ) (exit : PresenceRecord) → Type 0
FreshKept w exit = presence_in exit ≡ fresh w

-- ---- panel_orders
abbrev pub KindNumbered : ℕ → Kinded → Type 0
KindNumbered number r = r ≡ kind_of number

-- a decision by its five answers: a refusal, a status word, a body, a part, an order
abbrev pub RefusedPlain : Refusal → (taken : Bool) → DecisionSaid → Type 0
RefusedPlain why taken r = r ≡ decided_numbers (R (refusal_no why)) no_order taken

abbrev pub StatusPlain : (number kind place : ℕ) (taken : Bool) → DecisionSaid → Type 0
StatusPlain number kind place taken r = r ≡ decided_numbers (Word (record { number = number; kind = kind; place = place })) no_order taken

abbrev pub BodyPlain : ℕ → (taken : Bool) → DecisionSaid → Type 0
BodyPlain length taken r = r ≡ decided_numbers (Gives (Body length)) no_order taken

abbrev pub PartPlain : ℕ → Remainder → (taken : Bool) → DecisionSaid → Type 0
PartPlain length left taken r = r ≡ decided_numbers (Gives (Part length left)) no_order taken

abbrev pub OrderPlain : Head → (taken : Bool) → DecisionSaid → Type 0
OrderPlain head taken r = r ≡ decided_numbers (Gives Ordered) (head_after (Gives Ordered) head) taken

abbrev pub FinishedPlain : Finished → Wrote → Type 0
FinishedPlain finished r = r ≡ length_numbers (finished_of finished)

-- ---- panel_responses
abbrev pub ResponsePlain : ReadResponse → ResponseSaid → Type 0
ResponsePlain read r = r ≡ response_numbers (response_read read)

abbrev pub WroteResponsePlain : WroteResponse → Wrote → Type 0
WroteResponsePlain written r = r ≡ length_numbers (response_written written)

-- a part that is refused, and one that is sent
abbrev pub RefusedPart : Refusal → Wrote → Type 0
RefusedPart why r = r ≡ record { answer = refusal_no why; length = 0 }

abbrev pub SentPart : ℕ → Wrote → Type 0
SentPart length r = r ≡ record { answer = 0x9000; length = length }

abbrev pub RoomPlain : ResponseRoom → RoomSaid → Type 0
RoomPlain room r = r ≡ room_numbers (room_said room)

-- ---- panel: what C links
abbrev pub BrinecandleRead : List ℕ → FrameSaid → Type 0
BrinecandleRead frame r = r ≡ reads_of Ordinary frame

abbrev pub BrinecandleReadStrict : List ℕ → FrameSaid → Type 0
BrinecandleReadStrict frame r = r ≡ reads_of Strict frame

-- 02, E9: the second reader gives what the first one does
abbrev pub BrinecandleReadByTable : List ℕ → FrameSaid → Type 0
BrinecandleReadByTable frame r = r ≡ reads_of Ordinary frame

abbrev pub BrinecandleReadStrictByTable : List ℕ → FrameSaid → Type 0
BrinecandleReadStrictByTable frame r = r ≡ reads_of Strict frame

abbrev pub BrinecandleWrite : ToWrite → Wrote → List ℕ → Type 0
BrinecandleWrite w r after = WritePlain w r after

abbrev pub BrinecandleWriteStrict : ToWrite → Wrote → List ℕ → Type 0
BrinecandleWriteStrict w r after = (r ≡ (writes_of Strict w).said) × (after ≡ (writes_of Strict w).buffer)

abbrev pub BrinecandleReadCommand : List ℕ → CommandSaid → Type 0
BrinecandleReadCommand frame r = r ≡ command_numbers (command_of frame)

-- the answer, and the record after the call
abbrev pub BrinecandleNew : (entry : PresenceRecord) (w : ℕ) → ℕ → (exit : PresenceRecord) → Type 0
BrinecandleNew entry w r exit = (r ≡ (makes_of entry w).said) × (presence_in exit ≡ made_over (new_of w) (presence_in entry))

abbrev pub BrinecandleGrantUp : (entry : PresenceRecord) (t : ℕ) → Asked → (exit : PresenceRecord) → Type 0
BrinecandleGrantUp entry t r exit = (r ≡ (touches_of entry t).said) × (presence_in exit ≡ (touch_of (presence_in entry) t).presence)

abbrev pub BrinecandleConsumeUp : (entry : PresenceRecord) (side t : ℕ) → Asked → (exit : PresenceRecord) → Type 0
BrinecandleConsumeUp entry s t r exit = (r ≡ (checks_of entry s t).said) × (presence_in exit ≡ (check_of (presence_in entry) s t).presence)

abbrev pub BrinecandleIsUpNeeded : (presence : PresenceRecord) (t : ℕ) → Asked → Type 0
BrinecandleIsUpNeeded presence t r = r ≡ asks_of presence t

-- the answer, and the record, the session, the reply buffer, the block and the buffer for part and status after the call
abbrev pub BrinecandleDecide : ToDecide → DecisionSaid → (presence : PresenceRecord) (session : SessionRecord) (reply block part : List ℕ) → Type 0
BrinecandleDecide i r presence session reply block part =
    (r ≡ (decides_of i).said) × (presence_in presence ≡ (decided_by i).presence) × (session_in session ≡ session_by i)
    × (reply ≡ (decides_of i).reply) × (block ≡ (decides_of i).block) × (part ≡ (decides_of i).part)

-- the answer, and the reply buffer after the call
abbrev pub BrinecandleFinish : ToFinish → Wrote → (after : List ℕ) → Type 0
BrinecandleFinish i r after = (r ≡ length_numbers (length_of (finish_numbered i))) × (after ≡ reply_of (finish_numbered i) i.reply)

-- the answer, and the buffer after the call
abbrev pub BrinecandleWriteResponse : (body : List ℕ) (status : ℕ) (entry : List ℕ) → Wrote → (exit : List ℕ) → Type 0
BrinecandleWriteResponse body status entry r exit =
    (r ≡ (responds_of body status entry).said) × (exit ≡ (responds_of body status entry).buffer)

abbrev pub BrinecandleReadResponse : List ℕ → ResponseSaid → Type 0
BrinecandleReadResponse response r = r ≡ response_numbers (read_response_of response)

-- the answer, and the session and the buffer for part and status after the call
abbrev pub BrinecandleNextPart : (session : SessionRecord) (body part : List ℕ) → Wrote → (left : SessionRecord) (exit : List ℕ) → Type 0
BrinecandleNextPart session body part r left exit =
    let sent = sending_of body (session_in session).remainder (session_in session).limit part in
    (r ≡ (nexts_of session body part).said) × (session_in left ≡ sent_over sent.0 (session_in session)) × (exit ≡ (nexts_of session body part).part)

abbrev pub BrinecandleResponseRoom : (frame : List ℕ) (longest : ℕ) → RoomSaid → Type 0
BrinecandleResponseRoom frame longest r = r ≡ rooms_of frame longest
