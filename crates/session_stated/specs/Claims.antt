-- What is promised of a session: a body that is cut by its first frame and fetched by C0, decision after decision; then what a transport holds between its
-- frames and goes on with; then the room for a response, and that no touch is lost to a length. Proved in proofs/Theorems.antt of the definitions; `decide`,
-- `left`, `write`, `limit`, `next` and the others are any functions, and proofs/Refuted.antt has that wrong ones fail. That nothing but the definitions meets
-- a claim whose name ends in 'Exactly' or 'Stands' is said in proofs/Only.antt. Of the steps of a session it is said in that file of ctap1_stated and response_stated.
use Rattle.std.specs.Prelude.{ℕ, ◌+◌, ◌≤◌, ◌<◌, ◌≡◌, ◌↔◌, Bool, true, List, [], ◌∷◌, ◌++◌, length, take}
use Rattle.outcome.specs.Notation.{AtMostOne}
use Rattle.outcome.specs.Outcome.{StatusWord, Outcome, R, Word, SW, Gives}
use Rattle.octets.specs.Bytes.{AreBytes}
use Rattle.apdu_stated.specs.Answers.{Says}
use Rattle.apdu_stated.specs.Reading.{read_of}
use Rattle.response_stated.specs.declared.Remainder.{Remainder}
use Rattle.response_stated.specs.Words.{rest, room_said}
use Rattle.response_stated.specs.declared.Sent.{Sent}
use Rattle.response_stated.specs.Responses.{response_body_of}
use Rattle.response_stated.specs.Terms.{Sender, sending, IsResponse, Tells}
use Rattle.response_stated.specs.Fetching.{got, left, remaining, RoundsUp}
use Rattle.u2f_up_stated.specs.declared.Presence.{Presence}
use Rattle.ctap1_stated.specs.Numbers.{hardware_of}
use Rattle.ctap1_stated.specs.declared.Hardware.{Hardware}
use Rattle.ctap1_stated.specs.Words.{Inputs, DecisionGives, Body, Ordered, Part, DecisionResult, handed_of, handed_from}
use Rattle.ctap1_stated.specs.Claims.{LimitsExactly, DecidesExactly, RepliesExactly, PartsExactly}
use Rattle.u2f_up_stated.specs.Numbers.{presence_in}
use Rattle.u2f_up_stated.specs.declared.PresenceRecord.{PresenceRecord}
use Rattle.response_stated.specs.Words.{ResponseRoom}
use Rattle.ctap1_stated.specs.Terms.{Decider, HasInsC0}
use Rattle.signing_stated.specs.Finishing.{Finishing, Ended}
use Rattle.session_stated.specs.declared.SessionDecision.{SessionDecision}
use Rattle.session_stated.specs.Promises.{ToDecide, inputs_in, Decide, RemainderLent, Stated, Dropped, Left, RoomForResponse}
use Rattle.session_stated.specs.Held.{Session, SessionRecord, session_in}
use Rattle.session_stated.specs.Terms.{NoShape, changed_by, TakesAtATime, CanTake, FrameRoom, RoomWasAsked, Answered}
use Rattle.session_stated.specs.Sessions.{Visit, Leaver, PartWriter, sent_in, left_in, joined_over, left_over, parts_over, Each, IsFetch, Serves}

-- 02, E2: "INS C0 .. fetches the next part under the same rule": the part that a decision sends is the one that `next` sends of the body in the reply
-- buffer, by the frame's own limit: answer, buffer and what remains. A decision that leaves out a byte between two parts (`skips`) fails it, and one
-- whose part is taken from the body's start again (`again`).
abbrev pub FetchesNext : Decider → (limit : List ℕ → ℕ) → PartWriter → Sender → Type 0
FetchesNext decide limit write next =
    (p : Presence) (t : ℕ) (a : Inputs) (body old : List ℕ) (n : ℕ) (after : Remainder) → length body ≡ a.room → length old ≡ a.part_room
    → (decide p t a).answer ≡ Gives (Part n after) → next body a.remainder (limit a.frame) old ≡ (Gives (sending n after), write a (decide p t a) body old)

-- The parts sent so far, joined, and then what remains, are the uncut body: for every body, every first frame and every sequence of C0 frames.
abbrev pub SoFarJoins : Decider → (limit : List ℕ → ℕ) → Leaver → PartWriter → Sender → Type 0
SoFarJoins decide limit leaves write next =
    (body : List ℕ) (n : ℕ) (frame buffer : List ℕ) (visits : List Visit) → n ≤ length body → Each IsFetch visits
    → response_body_of (got (next body (rest 0 n) (limit frame) buffer))
    ++ (joined_over decide leaves write body (left (rest 0 n) (next body (rest 0 n) (limit frame) buffer).0) visits
    ++ remaining body (left_over decide leaves write body (left (rest 0 n) (next body (rest 0 n) (limit frame) buffer).0) visits))
    ≡ take n body

-- What that does not say: that anything is fetched. Whatever refuses every C0 meets it, too. That something is: `done` below, and of a C0 that nothing stands
-- against `SessionParts`, which such a decision (`refuses_c0`) fails.
abbrev pub SoFarOfRefusers : (limit : List ℕ → ℕ) → Leaver → PartWriter → Sender → Type 0
SoFarOfRefusers limit leaves write next =
    (decide : Decider) → ((p : Presence) (t : ℕ) (a : Inputs) → HasInsC0 a → (decide p t a).answer ≡ SW 0x6985) → SoFarJoins decide limit leaves write next

-- For every body, every first frame and every sequence of C0 frames: the parts sent so far, joined, followed by what remains, are the
-- uncut body; with the part that carries 9000 nothing remains. So (02, E2) "Joining the parts, at any Le values, gives the uncut body". The first part is
-- sent by `next` of (0, n) under the first frame's limit; every C0 that follows may be refused or not. `skips` and `again` fail it, at three
-- bytes.
pub record SessionJoins (decide : Decider) (limit : List ℕ → ℕ) (leaves : Leaver) (write : PartWriter) (next : Sender) : Type 0 where
  pub so_far : SoFarJoins decide limit leaves write next
  pub done : (body : List ℕ) (r : Remainder) (visits : List Visit) (v : Visit) (part : List ℕ) → r.place + r.count ≤ length body → Each IsFetch visits → IsFetch v
      → IsResponse (sent_in decide leaves write body (left_over decide leaves write body r visits) v) part 0x9000
      → ((left_in decide leaves write body (left_over decide leaves write body r visits) v).count ≡ 0)
      × (joined_over decide leaves write body r visits ++ part ≡ remaining body r)

-- A part asked for in shape 1 to 4 has at most Le bytes (256 where absent), in an extended shape it is all that remains, whatever its Le; the longest
-- response to a frame in shape 1 to 4 has 258 bytes, and it is reached. The answer counts two status bytes more. A decision that takes 256
-- for every C0 (`takes256`) fails it at Le 1.
pub record SessionLimits (decide : Decider) : Type 0 where
  pub given : (p : Presence) (t : ℕ) (a : Inputs) (n : ℕ) (after : Remainder) (said : Says) → (decide p t a).answer ≡ Gives (Part n after) → read_of a.frame ≡ Gives said
      → said.shape ≤ 4 → 1 ≤ said.le → n ≤ said.le + 2
  pub absent : (p : Presence) (t : ℕ) (a : Inputs) (n : ℕ) (after : Remainder) (said : Says) → (decide p t a).answer ≡ Gives (Part n after) → read_of a.frame ≡ Gives said
      → said.shape ≤ 4 → said.le ≡ 0 → n ≤ 256 + 2
  pub extended : (p : Presence) (t : ℕ) (a : Inputs) (n : ℕ) (after : Remainder) (said : Says) → (decide p t a).answer ≡ Gives (Part n after) → read_of a.frame ≡ Gives said
      → 5 ≤ said.shape → (n ≡ a.remainder.count + 2) × (after.count ≡ 0)
  pub within : (p : Presence) (t : ℕ) (a : Inputs) (n : ℕ) (after : Remainder) (said : Says) → (decide p t a).answer ≡ Gives (Part n after) → read_of a.frame ≡ Gives said
      → AreBytes a.frame → said.shape ≤ 4 → n ≤ 258
  pub reached : (p : Presence) × (t : ℕ) × (a : Inputs)
      × (a.frame ≡ 0x00 ∷ 0xC0 ∷ 0x00 ∷ 0x00 ∷ []) × ((decide p t a).answer ≡ Gives (Part 258 (rest 256 1)))

-- 02, E2: "61 XX, XX the rest's length, or 00 for 256 and more": the status behind a part is 9000 with nothing left, 61 XX with XX left, 6100 with 256 or more.
-- A decision that hands back what remained before the part (`forgets`) fails it.
abbrev pub SessionTells : Decider → PartWriter → Type 0
SessionTells decide write =
    (p : Presence) (t : ℕ) (a : Inputs) (body old : List ℕ) (n : ℕ) (after : Remainder) (part : List ℕ) (status : ℕ)
    → length body ≡ a.room → length old ≡ a.part_room → (decide p t a).answer ≡ Gives (Part n after)
    → IsResponse (take n (write a (decide p t a) body old)) part status → Tells after.count status

-- A body of n bytes takes at most n parts (one where n is 0), and exactly n / L rounded up (one where n is 0) where every limit is L: the first
-- part, where it goes out, and those of the decisions after it; exactly, where nothing stands against them. `takes256` fails it at L 1.
pub record SessionParts (decide : Decider) (limit : List ℕ → ℕ) (leaves : Leaver) (write : PartWriter) (next : Sender) : Type 0 where
  pub at_most : (body : List ℕ) (n : ℕ) (frame buffer : List ℕ) (sent : Sent) (visits : List Visit) → n ≤ length body → 1 ≤ n → Each IsFetch visits
      → (next body (rest 0 n) (limit frame) buffer).0 ≡ Gives sent
      → 1 + parts_over decide leaves write body sent.remainder visits ≤ n
  pub of_none : (body frame buffer : List ℕ) (sent : Sent) (visits : List Visit) → Each IsFetch visits
      → (next body (rest 0 0) (limit frame) buffer).0 ≡ Gives sent
      → parts_over decide leaves write body sent.remainder visits ≡ 0
  pub exactly : (body : List ℕ) (n L k : ℕ) (frame buffer : List ℕ) (sent : Sent) (visits : List Visit) → n ≤ length body → 1 ≤ L → RoundsUp n L k
      → limit frame ≡ L → (next body (rest 0 n) (limit frame) buffer).0 ≡ Gives sent → Each (Serves limit L) visits → k ≤ 1 + length visits
      → 1 + parts_over decide leaves write body sent.remainder visits ≡ k

-- ---- what is lent by name

-- Ours: which number is what. A session's three are place and count of what remains, and the limit. Count and place in each other's place (`count_first`) fails the first,
-- and a limit cut to 8 bits (`limit_of_8_bits`) the second, at 256.
abbrev pub RemainderStands : (SessionRecord → Remainder) → Type 0
RemainderStands stands = (place count limit : ℕ) → stands (record { place = place; count = count; limit = limit }) ≡ rest place count

abbrev pub SessionStands : (SessionRecord → Session) → Type 0
SessionStands stands = (place count limit : ℕ) → stands (record { place = place; count = count; limit = limit }) ≡ record { remainder = rest place count; limit = limit }

-- The hardware's six answers are lent by name: whether CTAP1 is allowed, the attestation, whether the new handle was stored, whether the handle is good, whether a counter is
-- offered, and which. What is decided on is each under its own name. `good_for_stored` fails it.
abbrev pub HardwareStands : (ToDecide → Hardware) → Type 0
HardwareStands hardware =
    (i : ToDecide) (allowed attestation stored good counted counter : ℕ)
    → i.hardware ≡ record { allowed = allowed; attestation = attestation; stored = stored; good = good; counted = counted; counter = counter }
    → hardware i
    ≡ hardware_of (record { allowed = allowed; attestation = attestation; stored = stored; good = good; counted = counted; counter = counter })

-- ---- what a transport goes on with

-- After each answer, with what the frame was read as. 02, E2: "A frame with another INS or in no shape drops the remainder; a refused C0 or any R refusal keeps it"; after
-- a part it is what that part left. The limit is the frame's (ours): Le in shapes 1 to 4, 256 where absent, and 0, none, in an extended shape or in no shape; an R refusal
-- keeps it too. One where a refused C0 drops the remainder (`refused_drops`) fails it, one where another INS keeps it (`other_keeps`), one where an R refusal drops it
-- (`refusal_drops`), one that keeps the earlier frame's limit (`limit_kept`), and one whose R refusal takes the frame's (`refusal_takes_limit`).
pub record GoesOnExactly (after : Outcome DecisionGives → (read : Outcome Says) → Session → Session) : Type 0 where
  pub refused : (n : ℕ) (read : Outcome Says) (s : Session) → after (R n) read s ≡ s
  pub part : (n : ℕ) (left : Remainder) (read : Outcome Says) (s : Session) → (after (Gives (Part n left)) read s).remainder ≡ left
  pub body : (n : ℕ) (read : Outcome Says) (s : Session) → (after (Gives (Body n)) read s).remainder ≡ rest 0 0
  pub order : (read : Outcome Says) (s : Session) → (after (Gives Ordered) read s).remainder ≡ rest 0 0
  pub kept : (w : StatusWord) (said : Says) (s : Session) → said.header.ins ≡ 0xC0 → (after (Word w) (Gives said) s).remainder ≡ s.remainder
  pub other_ins : (w : StatusWord) (said : Says) (s : Session) → (said.header.ins ≡ 0xC0 → ⊥) → (after (Word w) (Gives said) s).remainder ≡ rest 0 0
  pub no_shape : (w : StatusWord) (read : Outcome Says) (s : Session) → NoShape read → (after (Word w) read s).remainder ≡ rest 0 0
  pub limit : (answer : Outcome DecisionGives) (said : Says) (n : ℕ) (s : Session) → ((k : ℕ) → answer ≡ R k → ⊥) → TakesAtATime said n → (after answer (Gives said) s).limit ≡ n
  pub no_limit : (answer : Outcome DecisionGives) (said : Says) (s : Session) → ((k : ℕ) → answer ≡ R k → ⊥) → 5 ≤ said.shape → (after answer (Gives said) s).limit ≡ 0
  pub none : (answer : Outcome DecisionGives) (read : Outcome Says) (s : Session) → ((k : ℕ) → answer ≡ R k → ⊥) → NoShape read → (after answer read s).limit ≡ 0

-- ---- the room for a response, before the touch

-- Ours: how many bytes a response to a frame can take, given the longest body: in shapes 1 to 4 the smaller of limit and longest body, and two; in an extended shape the
-- longest body and two; for bytes in no shape two; R2 exactly where that is 2^64 or more. One that counts no status (`without_status`) fails it, one that takes an extended
-- shape's Le for a limit (`extended_by_le`), one that takes the limit whatever the body (`limit_alone`), and one that leaves room for a body where no shape is (`no_shape_body`).
pub record FrameRoomExactly (room : FrameRoom) : Type 0 where
  pub says : (frame : List ℕ) (longest n : ℕ) → (room frame longest ≡ Gives n) ↔ (CanTake frame longest n × (n < 0x10000000000000000))
  pub r2 : (frame : List ℕ) (longest : ℕ) → (room frame longest ≡ R 2) ↔ ((n : ℕ) × CanTake frame longest n × (0x10000000000000000 ≤ n))

-- Ours: with a buffer of that length the first part of no body of at most `longest` bytes is refused, and with one byte less that of a body of `longest` bytes is. The frame
-- is one in a shape, and `limit` what it takes at a time. `without_status` fails the first sentence at a body of none, `limit_alone` the second.
pub record FrameRoomServes (room : FrameRoom) (limit : List ℕ → ℕ) (next : Sender) : Type 0 where
  pub enough : (frame : List ℕ) (said : Says) (longest m n : ℕ) (body buffer : List ℕ) → read_of frame ≡ Gives said → room frame longest ≡ Gives m
      → n ≤ longest → n ≤ length body → m ≤ length buffer → (k : ℕ) → (next body (rest 0 n) (limit frame) buffer).0 ≡ R k → ⊥
  pub needed : (frame : List ℕ) (said : Says) (longest m : ℕ) (body buffer : List ℕ) → read_of frame ≡ Gives said → room frame longest ≡ Gives m
      → longest ≤ length body → length buffer < m → (next body (rest 0 longest) (limit frame) buffer).0 ≡ R 2

-- NO TOUCH IS LOST TO A LENGTH, once there is an order (ours). Where the room for the longest body was asked for, and the decision then gave an order: finishing that order, with a certificate of
-- its length, a reply buffer no shorter than the decision's and any signature of at most 72 bytes, gives a body, or 6f00 where the signer failed; and the body's first part
-- goes out in a buffer with that room, by the frame's limit. No R refusal comes after the touch is spent. By proofs/Follows.antt it is so of
-- whatever meets the claims on deciding, finishing, the room, the limit and sending. `extended_by_le` fails it at an Authenticate in shape 7 with Le 1, and so does `without_status`.
abbrev pub NoTouchIsLost : Decider → (Finishing → Ended) → FrameRoom → (limit : List ℕ → ℕ) → Sender → Type 0
NoTouchIsLost decide finish room limit next =
    (p : Presence) (t : ℕ) (a : Inputs) (i : Finishing) (buffer : List ℕ) → RoomWasAsked decide room p t a i buffer → Answered finish next i (limit a.frame) buffer

-- ---- the contracts

-- Whatever meets a function's contract meets the claim on it. Of `stated`, `dropped` and `left` together: a transport that uses each after its answers, and leaves its numbers
-- after an R refusal, goes on as it should. Of a decision: what it hands back is what whatever meets `DecidesExactly` gives, its limit is the frame's, and `fetches` says
-- INS C0; and the reply buffer, the block and the buffer for part and status are what ctap1_stated's claims on them say, the block written for an order alone. A contract of
-- `left` that says no limit after a part fails it, with code to match, and so does one of a decision that leaves Version's body out.
pub record ContractsAsClaimed : Type 0 where
  pub remainder_lent : (f : SessionRecord → Remainder) → ((n : SessionRecord) → RemainderLent n (f n)) → RemainderStands f
  pub goes_on : (stated : Bool → (limit : ℕ) → SessionRecord → SessionRecord) (dropped : (limit : ℕ) → SessionRecord → SessionRecord) (left : Remainder → (limit : ℕ) → SessionRecord → SessionRecord)
      → ((fetches : Bool) (limit : ℕ) (n : SessionRecord) → Stated fetches limit n (stated fetches limit n)) → ((limit : ℕ) (n : SessionRecord) → Dropped limit (dropped limit n))
      → ((r : Remainder) (limit : ℕ) (n : SessionRecord) → Left r limit (left r limit n))
      → GoesOnExactly (λ answer read s. session_in (changed_by stated dropped left answer read (record { place = s.remainder.place; count = s.remainder.count; limit = s.limit })))
  pub room_for_response : (f : (frame : List ℕ) (longest : ℕ) → ResponseRoom) → ((frame : List ℕ) (longest : ℕ) → RoomForResponse frame longest (f frame longest))
      → FrameRoomExactly (λ frame longest. room_said (f frame longest))
  pub decide : (g : Decider) → DecidesExactly g → (limit : List ℕ → ℕ) → LimitsExactly limit → (i : ToDecide) (r : SessionDecision) (presence : PresenceRecord) (reply block part : List ℕ) → Decide i r presence reply block part
      → (handed_from r.decision (presence_in presence) ≡ handed_of (g (presence_in i.presence) i.moment (inputs_in i)))
      × (r.limit ≡ limit i.frame)
      × ((r.fetches ≡ true) ↔ HasInsC0 (inputs_in i))
  pub reply : (g : Decider) → DecidesExactly g → (left : DecisionResult → List ℕ → List ℕ) → RepliesExactly g left → (i : ToDecide) (r : SessionDecision) (presence : PresenceRecord) (reply block part : List ℕ) → Decide i r presence reply block part
      → reply ≡ left (g (presence_in i.presence) i.moment (inputs_in i)) i.reply
  pub block : (g : Decider) → DecidesExactly g → (i : ToDecide) (r : SessionDecision) (presence : PresenceRecord) (reply block part : List ℕ) → Decide i r presence reply block part
      → ((g (presence_in i.presence) i.moment (inputs_in i)).answer ≡ Gives Ordered → block ≡ (g (presence_in i.presence) i.moment (inputs_in i)).order.bytes)
      × (((g (presence_in i.presence) i.moment (inputs_in i)).answer ≡ Gives Ordered → ⊥) → block ≡ i.block)
  pub part : (g : Decider) → DecidesExactly g → (limit : List ℕ → ℕ) → LimitsExactly limit → (left : Inputs → DecisionResult → (body old : List ℕ) → List ℕ) → PartsExactly g limit left
      → (i : ToDecide) (r : SessionDecision) (presence : PresenceRecord) (reply block part : List ℕ) → Decide i r presence reply block part
      → part ≡ left (inputs_in i) (g (presence_in i.presence) i.moment (inputs_in i)) i.reply i.part

-- 01, What each statement has to say: "two results satisfying it are equal", on every input; what is lent for writing counts, the record and the session too.
-- A promise that is silent on the limit after a part fails it.
pub record ResultsDetermined : Type 0 where
  pub remainder_lent : (n : SessionRecord) → AtMostOne (RemainderLent n)
  pub decide : (i : ToDecide) → AtMostOne (λ (o : SessionDecision × (PresenceRecord × (List ℕ × (List ℕ × List ℕ)))). Decide i o.0 o.1.0 o.1.1.0 o.1.1.1.0 o.1.1.1.1)
  pub stated : (fetches : Bool) (limit : ℕ) (n : SessionRecord) → AtMostOne (Stated fetches limit n)
  pub dropped : (limit : ℕ) → AtMostOne (Dropped limit)
  pub left : (r : Remainder) (limit : ℕ) → AtMostOne (Left r limit)
  pub room_for_response : (frame : List ℕ) (longest : ℕ) → AtMostOne (RoomForResponse frame longest)
