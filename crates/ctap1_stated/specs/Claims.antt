-- What is promised of the decision, beyond Table.antt's `DecidesExactly`, which is read first. Proved in proofs/Theorems.antt under the same
-- names; proofs/Only.antt shows that no other decision meets them, proofs/Refuted.antt that wrong ones do not. `decide` is any function of a
-- record, a moment and all that is lent.
use Rattle.std.specs.Prelude.{◌↔◌, ◌⊎◌, ◌∷◌, ◌++◌, ◌+◌, ◌*◌, ◌<◌, ◌≤◌, ◌≡◌}
use Rattle.std.proofs.Math.Option.{some}
use Rattle.ctap1_stated.specs.Words.{AtMostOne, StatusWord, R, Word, SW, Gives, wrong_length, [], drop, ℕ, Bool, true, false, List, length, Presence, Decision, DecisionAnswer, Remainder, rest, Inputs, Enrolment, Allowed, Attestation, Hardware, HardwareSaid, DecisionGives, Body, Ordered, Part, DecisionResult, handed_of, handed_from, enrolment_of, decision_answer_of, Outcome, Refusal, ApduStatusCode, word_of, refusal_no}
use Rattle.ctap1_stated.specs.Numbers.{allowed_of, attestation_of, hardware_of}
use Rattle.ctap1_stated.specs.Calls.{PanelCall, DecideAt, calls_with}
use Rattle.ctap1_stated.specs.OneSide.{base_with, sideless_result}
use Rattle.ctap1_stated.specs.Promises as Contract
use Rattle.ctap1_stated.specs.Terms.{Decider, AreBlocks, with_contents, AsLong, HasInsC0, result, moved_at, spent_at, on_side, Comes, HandsNoOrder, BlockWritten, OrdersPresent, check_only_answer}
use Rattle.ctap1_stated.specs.Table.{Answers}
pub use Rattle.ctap1_stated.specs.Table.{DecidesExactly}
use Rattle.ctap1_stated.specs.declared.Allowed.TheVariants as Allowed'
use Rattle.ctap1_stated.specs.declared.Attestation.TheVariants as Attestation'
use Rattle.std.specs.Prelude.{Some, None}
use Rattle.ctap1_stated.specs.declared.DecisionAnswer.TheVariants as DecisionAnswer'
use Rattle.outcome.specs.Terms.{PairsExactly}
use Rattle.octets.specs.Bytes.{byte, pair_at, laid}
use Rattle.apdu_stated.specs.Answers.{Says, says_of}
use Rattle.apdu_stated.specs.declared.Apdu.{Apdu}
use Rattle.command_stated.specs.declared.Ctap1Flags.{Ctap1Flags}
use Rattle.apdu_stated.specs.Reading.{read_of}
use Rattle.apdu_stated.specs.Terms.{OldForm}
use Rattle.response_stated.specs.Parts.{part_response}
use Rattle.command_stated.specs.Command.{Register, Authenticate, Version, command_of, flags_no}
use Rattle.u2f_up_stated.specs.History.{Mark, held_at, server_of}
use Rattle.u2f_up_stated.specs.Runs.{Caller, Keeps, after, history}
use Rattle.u2f_up_stated.specs.OneSide.{OnlySide}
use Rattle.u2f_up_stated.specs.Terms.{BadWindow, BadSide, NotRefused, HasTouch}
use Rattle.u2f_up_stated.specs.Numbers.{presence_in}
use Rattle.u2f_up_stated.specs.Claims as Up
use Rattle.u2f_up_stated.specs.declared.PresenceRecord.{PresenceRecord}
use Rattle.signing_stated.specs.Orders.{kind_no, certificate_length, blank_order, is_of_layout}
use Rattle.signing_stated.specs.Finishing.{Finishing, finish_of}

-- ---- the sentence on the box

-- An order that says a person was there is made only where the record holds a live touch of the order's side, and it is spent. 01, The decision: "for P1 03
-- touch check, 6985", "presence byte (01 for P1 03, 00 for 08)", "the offered counter is reported as taken". The order's presence
-- byte is 01 exactly for P1 03 and 00 exactly for P1 08, and its counter is the offered one. A decision that goes from P1 03
-- straight to the counter (Wrong `straight`) fails it on a fresh record; one that says 01 for P1 08 (`present08`) does there; one that
-- serves the other side (`serves_other`) fails it beside a live touch that is not its own.
pub record OrdersNeedATouch (decide : Decider) : Type 0 where
  pub touch : (p : Presence) (t : ℕ) (a : Inputs) → OrdersPresent (decide p t a) → HasTouch p t × (p.asker ≡ a.side) × ((decide p t a).presence ≡ spent_at p t)
  pub present : (p : Presence) (t : ℕ) (a : Inputs) (p1 : ℕ) (said : Says) → Comes a (Authenticate p1 said) → (decide p t a).answer ≡ Gives Ordered
      → ((byte (decide p t a).order.bytes 32 ≡ 0x01) ↔ (p1 ≡ 0x03)) × ((byte (decide p t a).order.bytes 32 ≡ 0x00) ↔ (p1 ≡ 0x08))
  pub counter : (p : Presence) (t : ℕ) (a : Inputs) (p1 : ℕ) (said : Says) → Comes a (Authenticate p1 said) → (decide p t a).answer ≡ Gives Ordered
      → (n : ℕ) × (a.hardware.counter ≡ Some n) × ((decide p t a).taken ≡ true)
      × (byte (decide p t a).order.bytes 33 * 0x1000000 + byte (decide p t a).order.bytes 34 * 0x10000 + byte (decide p t a).order.bytes 35 * 256 + byte (decide p t a).order.bytes 36 ≡ n)

-- And over a history, E7's headline: a Register order, or an order whose presence byte is 01, made for a side has its own accepted touch of
-- that side, and no two orders share one. It is the latest accepted one before it, it was live, and no other was. A decision that does
-- not spend the touch (`touch_kept`) fails it: two orders within W, one touch; one that serves the other side (`serves_other`) fails it
-- where wireless asked, a finger touched, and USB gets an order, and so does one that gives USB the touch at its 6985 (`other_side_takes`).
pub record OrdersHaveTheirTouch (decide : Decider) : Type 0 where
  pub own : (w : ℕ) → 0 < w → w ≤ 60000 → (earlier : List PanelCall) (t : ℕ) (a : Inputs) → OrdersPresent (decide (after (calls_with decide) w earlier) t a)
      → (k : Mark) × (server_of w (history (calls_with decide) w earlier) ≡ some k) × (held_at w (history (calls_with decide) w earlier) t ≡ k ∷ []) × (k.side ≡ a.side)
  pub apart : (w : ℕ) → 0 < w → w ≤ 60000 → (earlier later : List PanelCall) (t u : ℕ) (a b : Inputs) (j k : Mark)
      → OrdersPresent (decide (after (calls_with decide) w earlier) t a) → server_of w (history (calls_with decide) w earlier) ≡ some j
      → OrdersPresent (decide (after (calls_with decide) w (later ++ DecideAt t a ∷ earlier)) u b) → server_of w (history (calls_with decide) w (later ++ DecideAt t a ∷ earlier)) ≡ some k
      → j.number ≡ k.number → ⊥

-- ---- the whole decision

-- 02, E7: "R8 for a side other than 0 or 1, named or in the record, after R6 and before R1"; ours: it is asked at every decision,
-- at Version, check-only and C0 too. So it comes exactly then, whatever the frame, the moment and the rest that is lent. A decision that does
-- not ask it of a Version (`version_unasked`), a check-only (`check_only_unasked`) or a C0 (`fetch_unasked`) fails it, and one that gives R1 first (`r8_after_r1`).
abbrev pub SideRefusedExactly : Decider → Type 0
SideRefusedExactly decide = (p : Presence) (t : ℕ) (a : Inputs) → ((decide p t a).answer ≡ R 8) ↔ ((BadWindow p.w → ⊥) × BadSide a.side p.asker)

-- The reply buffer. 01, Refusal numbers: "An order and a status word other than 9000 change no reply buffer", "An R refusal changes no
-- buffer", "A 9000 body fills the front of the buffer; the rest stays"; The decision, 4: "the six bytes 55 32 46 5F 56 32". A
-- Version of other bytes (`other_bytes`) fails it, and so does a buffer cleared behind the body (`clears_rest`).
abbrev pub RepliesExactly : Decider → (DecisionResult → List ℕ → List ℕ) → Type 0
RepliesExactly decide left =
    (p : Presence) (t : ℕ) (a : Inputs) (old : List ℕ) → length old ≡ a.room
    → (((decide p t a).answer ≡ Gives (Body 6)) × (6 ≤ a.room) × (left (decide p t a) old ≡ 0x55 ∷ 0x32 ∷ 0x46 ∷ 0x5F ∷ 0x56 ∷ 0x32 ∷ drop 6 old))
    ⊎ (((n : ℕ) → (decide p t a).answer ≡ Gives (Body n) → ⊥) × (left (decide p t a) old ≡ old))

-- ---- what each answer leaves

-- "An R refusal changes no buffer and no record", and takes no counter. A decision that finds R2 after the touch is spent
-- (`r2_spends`) or the counter taken (`r2_takes`) fails it: the enrolment that was lost. Bites at a Register with 502 bytes for h
-- 64, c 300.
abbrev pub RefusalChangesNothing : Decider → (DecisionResult → List ℕ → List ℕ) → Type 0
RefusalChangesNothing decide left =
    (p : Presence) (t : ℕ) (a : Inputs) (n : ℕ) (old : List ℕ) → (decide p t a).answer ≡ R n
    → ((decide p t a).presence ≡ p) × (left (decide p t a) old ≡ old) × ((decide p t a).taken ≡ false) × ((decide p t a).order ≡ blank_order)

-- "In every other answer it is not taken": the counter is taken exactly for an Authenticate order. A decision that takes it at a
-- 6985 (`takes_at6985`) fails it.
abbrev pub CounterExactly : Decider → Type 0
CounterExactly decide =
    (p : Presence) (t : ℕ) (a : Inputs) → AreBlocks a
    → ((decide p t a).taken ≡ true) ↔ (((decide p t a).answer ≡ Gives Ordered) × (kind_no (decide p t a).order.kind ≡ 0x02))

-- ---- orders

-- Every order that the decision makes is of its layout: finishing it is not R7. 01, R7: "order not of either layout". A decision that
-- takes a handle of 256 bytes (`handle256`) fails it.
abbrev pub OrdersOfLayout : Decider → Type 0
OrdersOfLayout decide = (p : Presence) (t : ℕ) (a : Inputs) → AreBlocks a → (decide p t a).answer ≡ Gives Ordered → is_of_layout (decide p t a).order ≡ true

-- What stands in an answer without an order is the blank order (ours), and finishing that is R7, whatever is lent beside it. A 6985
-- with the order beside it (`order_at6985`) fails it.
abbrev pub NoOrderIsBlank : Decider → Type 0
NoOrderIsBlank decide =
    (p : Presence) (t : ℕ) (a : Inputs) (f : Finishing) → ((decide p t a).answer ≡ Gives Ordered → ⊥) → f.order ≡ (decide p t a).order
    → ((decide p t a).order ≡ blank_order) × (finish_of f ≡ R 7)

-- A decision that says 'order' has asked for the room (ours; 01, Mistakes a quick port makes: "R2 found after the touch is spent"): finishing it with a certificate of the order's length and a buffer at
-- least as long as the decision's never gives R7, R4 or R2. A decision that asks for 138 + h + c (`room138`) fails it.
abbrev pub OrderHasRoom : Decider → Type 0
OrderHasRoom decide =
    (p : Presence) (t : ℕ) (a : Inputs) (f : Finishing) → AreBlocks a → (decide p t a).answer ≡ Gives Ordered → f.order ≡ (decide p t a).order
    → length f.certificate ≡ certificate_length (decide p t a).order → a.room ≤ length f.reply
    → (finish_of f ≡ R 7 → ⊥) × (finish_of f ≡ R 4 → ⊥) × (finish_of f ≡ R 2 → ⊥)

-- "the certificate length (0 for Authenticate)": a Register order's is the lent certificate's. One that counts a byte more
-- (`certificate_more`) fails it.
abbrev pub CertificateOfOrder : Decider → Type 0
CertificateOfOrder decide =
    (p : Presence) (t : ℕ) (a : Inputs) → AreBlocks a → (decide p t a).answer ≡ Gives Ordered
    → ((kind_no (decide p t a).order.kind ≡ 0x01) × (certificate_length (decide p t a).order ≡ length a.certificate))
    ⊎ ((kind_no (decide p t a).order.kind ≡ 0x02) × (certificate_length (decide p t a).order ≡ 0))

-- Ours: whether there is an order depends on the new handle and the certificate by their lengths alone, and so does all that is handed back with it: the answer, the
-- record, the order's head, whether the counter was taken; x and y are not looked at either. So a decision can be tried before there is a new key, with any bytes
-- of these lengths. A decision that looks at the handle's first byte (`looks_at_handle`) fails it, and one that wants a certificate that begins with 30
-- (`looks_at_certificate`).
abbrev pub ByLengthsAlone : Decider → Type 0
ByLengthsAlone decide = (p : Presence) (t : ℕ) (a : Inputs) (e : Enrolment) → AsLong e a → handed_of (decide p t (with_contents e a)) ≡ handed_of (decide p t a)

-- ---- where a length went wrong: 02, E1

-- "Command reading, strict reading and decision carry the pair upward": a decision's 6700 is its frame's, with the pair that command
-- reading found, and a frame's 6700 is the decision's where R6, R8, R1 and 'allowed' are passed. A decision that drops the pair
-- (`pair_dropped`) fails it, and one whose place is a byte on (`pair_one_on`).
abbrev pub LengthsCarried : Decider → Type 0
LengthsCarried decide =
    (p : Presence) (t : ℕ) (a : Inputs) (kind place : ℕ) → ((decide p t a).answer ≡ wrong_length kind place)
    ↔ (NotRefused p a.side t × (a.hardware.allowed ≡ Allowed'.Yes) × (command_of a.frame ≡ wrong_length kind place))

-- A 6700 has a pair, and no other status word of a decision has one. `pair_dropped` fails it.
abbrev pub DecisionPairsExactly : Decider → Type 0
DecisionPairsExactly decide = (p : Presence) (t : ℕ) → PairsExactly (λ (a : Inputs). (decide p t a).answer)

-- ---- a body in parts: 02, E2

-- How much a frame takes at a time: "For shapes 1 to 4, a body longer than Le (256 where absent) is cut"; "Extended shapes get the whole body
-- as now", which is said as 0, and so are bytes in no shape. One that knows no absent Le (`absent_is_whole`) fails it, and one that counts an
-- extended shape with a small Le as short (`small_le_short`).
pub record LimitsExactly (limit : List ℕ → ℕ) : Type 0 where
  pub given : (frame : List ℕ) (said : Says) → read_of frame ≡ Gives said → said.shape ≤ 4 → (said.le ≡ 0 → ⊥) → limit frame ≡ said.le
  pub absent : (frame : List ℕ) (said : Says) → read_of frame ≡ Gives said → said.shape ≤ 4 → said.le ≡ 0 → limit frame ≡ 256
  pub extended : (frame : List ℕ) (said : Says) → read_of frame ≡ Gives said → 4 < said.shape → limit frame ≡ 0
  pub no_shape : (frame : List ℕ) → ((said : Says) → read_of frame ≡ Gives said → ⊥) → limit frame ≡ 0

-- What is left to fetch: "A frame with another INS or in no shape drops the remainder; a refused C0 or any R refusal keeps it." Where something
-- remains and no part was sent, it is dropped exactly then. A panel whose refused C0 drops it (`refused_fetch_drops`) fails it, one
-- where another INS keeps it with a body or an order (`other_ins_keeps`) or with a status word (`other_status_keeps`), one where an R refusal drops it (`refusal_drops`) or finds R2 after it has moved
-- (`r2_after_move`), and one where bytes in no shape keep it (`damaged_keeps`).
pub record RemainderExactly (decide : Decider) (left : Inputs → DecisionResult → Remainder) : Type 0 where
  pub refused : (p : Presence) (t : ℕ) (a : Inputs) (n : ℕ) → (decide p t a).answer ≡ R n → left a (decide p t a) ≡ a.remainder
  pub fetched : (p : Presence) (t : ℕ) (a : Inputs) (n : ℕ) (after : Remainder) → (decide p t a).answer ≡ Gives (Part n after) → left a (decide p t a) ≡ after
  pub kept : (p : Presence) (t : ℕ) (a : Inputs) (w : StatusWord) → HasInsC0 a → (decide p t a).answer ≡ Word w → left a (decide p t a) ≡ a.remainder
  pub dropped : (p : Presence) (t : ℕ) (a : Inputs) → (HasInsC0 a → ⊥) → ((n : ℕ) → (decide p t a).answer ≡ R n → ⊥) → left a (decide p t a) ≡ rest 0 0
  pub exactly : (p : Presence) (t : ℕ) (a : Inputs) → 0 < a.remainder.count → ((n : ℕ) (after : Remainder) → (decide p t a).answer ≡ Gives (Part n after) → ⊥)
      → (left a (decide p t a) ≡ rest 0 0) ↔ ((HasInsC0 a → ⊥) × ((n : ℕ) → (decide p t a).answer ≡ R n → ⊥))

-- 02, E13: the old form, an extended Lc with a one-byte Le, is in no shape from now on, whatever its INS: where R6, R8, R1 and
-- 'allowed' are passed a decision gives 6700, surplus at its Le byte, and once R6, R8 and R1 are passed a remainder is dropped (02,
-- E2: "A frame with another INS or in no shape drops the remainder"). A decision that still serves it (`old_form_served`) fails it,
-- and one where a C0 in the old form keeps what remains (`old_form_keeps`). Bites at 00 C0 00 00 | 00 00 00 01.
pub record OldFormRefused (decide : Decider) (left : Inputs → DecisionResult → Remainder) : Type 0 where
  pub answer : (p : Presence) (t : ℕ) (a : Inputs) → OldForm a.frame → NotRefused p a.side t → a.hardware.allowed ≡ Allowed'.Yes
      → (decide p t a).answer ≡ wrong_length 2 (7 + pair_at a.frame 5)
  pub drops : (p : Presence) (t : ℕ) (a : Inputs) → OldForm a.frame → NotRefused p a.side t → left a (decide p t a) ≡ rest 0 0

-- The buffer for part and status: a part goes out with its 61 XX, the next one of the body that is lent, and no other answer changes it.
-- This amends 01's "a status word other than 9000 change no reply buffer": the reply buffer, which holds the uncut body, stays
-- (`RepliesExactly`). One that clears the buffer with a status (`status_clears`) fails it, and one that sends the part before (`part_again`).
pub record PartsExactly (decide : Decider) (limit : List ℕ → ℕ) (left : Inputs → DecisionResult → (body old : List ℕ) → List ℕ) : Type 0 where
  pub part : (p : Presence) (t : ℕ) (a : Inputs) (body old : List ℕ) (n : ℕ) (after : Remainder) → (decide p t a).answer ≡ Gives (Part n after)
      → left a (decide p t a) body old ≡ laid (part_response body a.remainder (limit a.frame)) old
  pub other : (p : Presence) (t : ℕ) (a : Inputs) (body old : List ℕ) → ((n : ℕ) (after : Remainder) → (decide p t a).answer ≡ Gives (Part n after) → ⊥)
      → left a (decide p t a) body old ≡ old

-- ---- check-only

-- "A check-only answer is the same whatever the touches and counter, once R6 and R1 are passed" (and R8, 02, E7): it is said from whether
-- CTAP1 is allowed and whether the handle is good. The record moves in its last moment alone. A check-only 6985 that opens a
-- prompt (`check_only_prompts`) or spends a touch (`check_only_spends`) fails it.
abbrev pub CheckOnlyLooksAtNoTouch : Decider → Type 0
CheckOnlyLooksAtNoTouch decide =
    (p : Presence) (t : ℕ) (a : Inputs) (said : Says) → NotRefused p a.side t → command_of a.frame ≡ Gives (Authenticate 0x07 said)
    → decide p t a ≡ result (SW (check_only_answer a.hardware.allowed a.hardware.good)) (moved_at p t) blank_order false

-- ---- the record

-- What a decision does to any lent record is what its role says, no more: 01, Refusal numbers: "Without an R refusal, each touch, direct
-- check and decision sets the last moment to t; beyond that a check or decision does to the record only what the touch check says."
-- A frame's status that leaves the last moment (`status_leaves`) fails it.
abbrev pub KeepsToItsRole : Decider → Type 0
KeepsToItsRole decide = Keeps (calls_with decide)

-- Demand 3 over touches, direct checks, asks and decisions. From a fresh record, each call taking the record the last one gave
-- back, for any sequence of calls. The sentences stand in u2f_up's specs/Demand.antt; what a decision is to the record is
-- `role_of`, and what is seen of it `seen`.
-- A 6985 from P1 07 that counts as a prompting refusal (`check_only_as_check`) fails it, as do one from a C0 that does (`fetch_as_check`) and a touch seen to be spent by orders
-- alone (`orders_alone_spend`), and decisions that are all taken for side 0's (`side_lost`).
abbrev pub Demand3OfThePanel : Caller PanelCall → Type 0
Demand3OfThePanel 𝒞 = Up.Demand3 𝒞

-- ---- runs with one side only

-- What stands for the decision before sides were: on a record of side 0 and with side 0 named it gives the table's row, where no row of E7's can
-- come; and it does not look at the side that is named. One that asks whose the touch is (`base_asks_whose`) fails it.
pub record BaseDecidesExactly (decide : Decider) : Type 0 where
  pub row : (p : Presence) (t : ℕ) (a : Inputs) → p.asker ≡ 0 → a.side ≡ 0 → Answers p t a (decide p t a)
  pub any_side : (p : Presence) (t : ℕ) (a : Inputs) (s : ℕ) → decide p t (on_side s a) ≡ decide p t a

-- Ours: from a fresh record, with one side throughout (0 or 1), answers and windows are those of the base. 02, E7: "demand 2 compares runs
-- with one side only". So each decision's whole result but for the record's asking side is the one that the decision without sides gives
-- (specs/OneSide.antt). A decision whose prompting refusal keeps the earlier asker (`asker_kept`) fails it, with side 1 throughout.
pub record OneSideIsBase (decide base_decide : Decider) : Type 0 where
  pub calls : Up.OneSideIsBase (calls_with decide) (base_with base_decide)
  pub decisions : (w : ℕ) → 0 < w → w ≤ 60000 → (s : ℕ) → s ≤ 1 → (earlier : List PanelCall) → OnlySide (calls_with decide) s earlier → (t : ℕ) (a : Inputs) → a.side ≡ s
      → sideless_result (decide (after (calls_with decide) w earlier) t a) ≡ base_decide (after (base_with base_decide) w earlier) t a

-- ---- the hardware's answers by their numbers

-- 01, The decision: "whether CTAP1 is allowed (yes, no, failed)": 1, 0, and every other number. A table that takes an unknown
-- number for yes (`unknown_is_allowed`) fails it.
pub record AllowedNumbers (allowed : ℕ → Allowed) : Type 0 where
  pub refused : allowed 0 ≡ Allowed'.No
  pub granted : allowed 1 ≡ Allowed'.Yes
  pub failed : (n : ℕ) → 2 ≤ n → allowed n ≡ Allowed'.Failed

-- 01, The decision, 5: "the attestation is missing or failed": 0, every number from 2 on; present is 1. A table that takes an
-- unknown number for present (`unknown_is_present`) fails it.
pub record AttestationNumbers (attestation : ℕ → Attestation) : Type 0 where
  pub missing : attestation 0 ≡ Attestation'.Missing
  pub present : attestation 1 ≡ Attestation'.Present
  pub failed : (n : ℕ) → 2 ≤ n → attestation n ≡ Attestation'.Failed

-- Of a question with yes or no 1 is yes and every other number no, the cautious answer: not stored, not good, a counter or a signer
-- that failed. Ours; DECISIONS, unknown numbers are the cautious answer. A table that takes whatever is not 0 for yes
-- (`unknown_is_yes`) fails it, at 2, and one that looks at the lowest bit (`lowest_bit_is_yes`), at 255.
pub record YesNumbers (yes : ℕ → Bool) : Type 0 where
  pub granted : yes 1 ≡ true
  pub other : (n : ℕ) → (n ≡ 1 → ⊥) → yes n ≡ false

-- The hardware's answers. 01, The decision: "the hardware's answers"; 6: "counter answer failed". Answers that change places
-- (`stored_for_good`) fail it, where the new handle is stored and the given one is not good; and a counter that is offered whatever is
-- not 0 (`unknown_is_counted`).
pub record HardwareNumbers (lend : HardwareSaid → Hardware) : Type 0 where
  pub allowed : (n : HardwareSaid) → (lend n).allowed ≡ allowed_of n.allowed  -- by `AllowedNumbers`
  pub attestation : (n : HardwareSaid) → (lend n).attestation ≡ attestation_of n.attestation  -- by `AttestationNumbers`
  pub stored : (n : HardwareSaid) → n.stored ≡ 1 → (lend n).stored ≡ true
  pub not_stored : (n : HardwareSaid) → (n.stored ≡ 1 → ⊥) → (lend n).stored ≡ false
  pub good : (n : HardwareSaid) → n.good ≡ 1 → (lend n).good ≡ true
  pub not_good : (n : HardwareSaid) → (n.good ≡ 1 → ⊥) → (lend n).good ≡ false
  pub offered : (n : HardwareSaid) → n.counted ≡ 1 → (lend n).counter ≡ Some n.counter
  pub failed : (n : HardwareSaid) → (n.counted ≡ 1 → ⊥) → (lend n).counter ≡ None

-- ---- what the answer says

-- A refusal's number, a status word with its pair, a body's length, an order, or a part with what remains: each case has its value, and no other has it. A view that says 'order' for
-- every body (`body_for_order`) fails it, and one that drops a status word's pair (`pair_unsaid`).
pub record SaidExactly (said : DecisionAnswer → Outcome DecisionGives) : Type 0 where
  pub refused : (d : DecisionAnswer) (why : Refusal) → (said d ≡ R (refusal_no why)) ↔ (d ≡ DecisionAnswer'.Refused why)
  pub status : (d : DecisionAnswer) (s : StatusWord) → (said d ≡ Word s) ↔ (d ≡ DecisionAnswer'.Status s.number s.kind s.place)
  pub body : (d : DecisionAnswer) (n : ℕ) → (said d ≡ Gives (Body n)) ↔ (d ≡ DecisionAnswer'.Body n)
  pub ordered : (d : DecisionAnswer) → (said d ≡ Gives Ordered) ↔ (d ≡ DecisionAnswer'.Order)
  pub part : (d : DecisionAnswer) (n : ℕ) (after : Remainder) → (said d ≡ Gives (Part n after)) ↔ (d ≡ DecisionAnswer'.Part n after)

-- ---- the contracts

-- Whatever meets a function's contract meets the claim on it. A refusal and a status word have their answer, and no order. Version, Register and Authenticate, where the record
-- settles and a frame is read as the command, hand back and leave what whatever meets `DecidesExactly` decides on it. A contract of `refused` that says R2 for every refusal
-- fails it, one of `version` that leaves the reply as it was, and one of `register` for side 0, each with code to match.
pub record ContractsAsClaimed : Type 0 where
  pub refused : (why : Refusal) (r : Decision) → Contract.Refused why r → (r.answer ≡ DecisionAnswer'.Refused why) × HandsNoOrder r
  pub answered : (s : ApduStatusCode) (r : Decision) → Contract.Answered s r
      → (r.answer ≡ DecisionAnswer'.Status (word_of s).number (word_of s).kind (word_of s).place) × HandsNoOrder r
  pub version : (g : Decider) → DecidesExactly g → (n : PresenceRecord) (t : ℕ) (a : Inputs) (old : List ℕ) → NotRefused (presence_in n) a.side t → Comes a Version → length old ≡ a.room
      → (r : Decision) (after : PresenceRecord) (reply : List ℕ) → Contract.Version n t old r after reply
      → (handed_from r (presence_in after) ≡ handed_of (g (presence_in n) t a))
      × (6 ≤ length old → reply ≡ 0x55 ∷ 0x32 ∷ 0x46 ∷ 0x5F ∷ 0x56 ∷ 0x32 ∷ drop 6 old)
      × (length old < 6 → reply ≡ old)
  pub register : (g : Decider) → DecidesExactly g → (n : PresenceRecord) (t : ℕ) (a : Inputs) (h : HardwareSaid) (says : Apdu) (old : List ℕ)
      → NotRefused (presence_in n) a.side t → Comes a (Register (says_of says)) → hardware_of h ≡ a.hardware
      → (r : Decision) (after : PresenceRecord) (block : List ℕ) → Contract.Register a.frame a.side t n h (enrolment_of a.new_handle a.certificate a.x a.y) a.room says old r after block
      → (handed_from r (presence_in after) ≡ handed_of (g (presence_in n) t a)) × BlockWritten (g (presence_in n) t a) old block
  pub authenticate : (g : Decider) → DecidesExactly g → (n : PresenceRecord) (t : ℕ) (a : Inputs) (h : HardwareSaid) (flags : Ctap1Flags) (says : Apdu) (old : List ℕ)
      → NotRefused (presence_in n) a.side t → Comes a (Authenticate (flags_no flags) (says_of says)) → hardware_of h ≡ a.hardware
      → (r : Decision) (after : PresenceRecord) (block : List ℕ) → Contract.Authenticate a.frame a.side t n h a.room flags says old r after block
      → (handed_from r (presence_in after) ≡ handed_of (g (presence_in n) t a)) × BlockWritten (g (presence_in n) t a) old block

-- ---- two results that satisfy the contract are equal
abbrev pub DecidedOneToOne : Type 0
DecidedOneToOne = (a b : DecisionAnswer) → decision_answer_of a ≡ decision_answer_of b → a ≡ b

-- the decision, the record's five numbers, and what the buffer holds afterwards
pub record ResultsDetermined : Type 0 where
  pub refused : (why : Refusal) → AtMostOne (Contract.Refused why)
  pub answered : (s : ApduStatusCode) → AtMostOne (Contract.Answered s)
  pub version : (presence : PresenceRecord) (t : ℕ) (old : List ℕ)
      → AtMostOne (λ (o : Decision × (PresenceRecord × List ℕ)). Contract.Version presence t old o.0 o.1.0 o.1.1)
  pub register : (frame : List ℕ) (side t : ℕ) (presence : PresenceRecord) (n : HardwareSaid) (e : Enrolment) (room : ℕ) (says : Apdu) (old : List ℕ)
      → AtMostOne (λ (o : Decision × (PresenceRecord × List ℕ)). Contract.Register frame side t presence n e room says old o.0 o.1.0 o.1.1)
  pub authenticate : (frame : List ℕ) (side t : ℕ) (presence : PresenceRecord) (n : HardwareSaid) (room : ℕ) (flags : Ctap1Flags) (says : Apdu) (old : List ℕ)
      → AtMostOne (λ (o : Decision × (PresenceRecord × List ℕ)). Contract.Authenticate frame side t presence n room flags says old o.0 o.1.0 o.1.1)
