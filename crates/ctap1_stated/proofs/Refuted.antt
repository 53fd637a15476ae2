-- Each wrong program of specs/Wrong.antt, and the claim that is false of it, at one input or at a run of a few calls.
use Prim.Native.Nat.{ℕ, ◌+◌, ◌^◌, ◌<◌, ◌≤◌}
use mathlib.Core.Path.{◌≡◌, refl, ap, sym, ◌∙◌}
use mathlib.Core.Bool.{Bool, true, false, true≢false, false≢true}
use mathlib.Core.List.{List, [], ◌∷◌, ◌++◌}
use mathlib.Core.Logic.{inl, inr, ⊎_elim}
use native.Mathlib.Omega.{arith}
use lib.ListN.{length, replicate}
use Rattle.outcome.specs.Outcome.{StatusWord, Outcome, R, Word, SW, Gives, plain_word, wrong_length}
use Rattle.outcome.proofs.Laws.{sw_same, gives_same, word_same, word_gives, r_gives, r_word}
use Rattle.octets.specs.Bytes.{part_of, byte}
use Rattle.apdu_stated.specs.Answers.{Says}
use Rattle.apdu_stated.specs.Terms.{OldForm}
use Rattle.apdu_stated.specs.Reading.{read_by, say_of, lengths_of, short_of, extended_of, after_data, data_of}
use Rattle.command_stated.specs.Command.{Register, Authenticate, Version, GetResponse, command_of, on_reading, by_instruction, register_of, authenticate_of, version_of, get_response_of, application_of, challenge_of}
use Rattle.response_stated.specs.Parts.{limit_of, part_length, left_status, next_part_of}
use Rattle.u2f_up_stated.specs.Moments.{Told, fresh, settle_of, granted_of, checked_of, touch_of, check_of}
use Rattle.u2f_up_stated.specs.History.{TouchAccepted, TouchIgnored, TouchFound, NoTouchFound, last_moment, latest_prompt, latest_touch, is_prompt_standing, side_asked, unspent, foretold}
use Rattle.u2f_up_stated.specs.Runs.{after, history, done_by}
use Rattle.u2f_up_stated.specs.Terms.{NotRefused, HasTouch}
use Rattle.u2f_up_stated.specs.Words.{Window}
use Rattle.u2f_up_stated.specs.declared.Presence.{Presence}
use Rattle.std.specs.Prelude.{None, Some}
use Rattle.ctap1_stated.specs.Words.{Counter, Order, Inputs, DecisionGives, Body, Ordered, Part, DecisionResult, DecisionHanded, Hardware, Remainder, rest, enrolment_of}
use Rattle.ctap1_stated.specs.Path.{register_ordered, enrolment_order, authenticate_ordered, register_ending, counted_ending, login_path, register_path, version_path, frame_limit, fetch_path, command_path, allowed_path, path_of}
use Rattle.signing_stated.specs.Orders.{kind_no, certificate_length, is_of_layout, blank_order, register_order_of, authenticate_order_of, block}
use Rattle.signing_stated.specs.Finishing.{finish_of, room_needed}
use Rattle.ctap1_stated.specs.Decision.{decision_of, reply_left}
use Rattle.ctap1_stated.specs.Calls.{TouchAt, CheckAt, DecideAt}
use Rattle.ctap1_stated.specs.Session.{remainder_left}
use Rattle.ctap1_stated.specs.OneSide.{base_decision_of}
use Rattle.ctap1_stated.specs.Terms.{Decider, on_side, SaysPresent}
use Rattle.u2f_up_stated.specs.OneSide.{base_by, base_settle_of, base_checked_of}
use Rattle.ctap1_stated.specs.declared.DecisionAnswer.TheVariants as DecisionAnswer'
use Rattle.ctap1_stated.specs.Claims
use Rattle.ctap1_stated.specs.Wrong
use Rattle.ctap1_stated.specs.declared.Allowed.TheVariants as Allowed'
use Rattle.ctap1_stated.specs.declared.Attestation.TheVariants as Attestation'
use Rattle.ctap1_stated.proofs.Ways.{sound}
use Rattle.ctap1_stated.proofs.Commands.{kind_is, presence_is, register_certificate, register_of_layout, register_room_lem, blank_refused}

-- ---- what is lent
abbrev register_frame : List ℕ
register_frame = 0x00 ∷ 0x01 ∷ 0x00 ∷ 0x00 ∷ 0x40 ∷ replicate 64 0x00

abbrev sign_frame : ℕ → List ℕ
sign_frame p1 = 0x00 ∷ 0x02 ∷ p1 ∷ 0x00 ∷ 0x41 ∷ replicate 65 0x00

abbrev version_frame : List ℕ
version_frame = 0x00 ∷ 0x03 ∷ 0x00 ∷ 0x00 ∷ []

-- hardware that works
abbrev works : Hardware
works = record { allowed = Allowed'.Yes; stored = true; attestation = Attestation'.Present; good = true; counter = Some 7 }

abbrev lent : List ℕ → Hardware → List ℕ → ℕ → Inputs
lent frame hardware handle room = record { side = 0; frame = frame; hardware = hardware; new_handle = handle; certificate = []; x = replicate 32 0; y = replicate 32 0; room = room; remainder = rest 0 0; part_room = 0 }

-- a record with a live touch
abbrev held : Presence
held = record { w = 1000; prompt = None; touch = Some 0; last = 0; asker = 0 }

-- how the frames are read
abbrev said_of : (ins p1 shape lc at : ℕ) → Says
said_of ins p1 shape lc at = record { header = record { cla = 0x00; ins = ins; p1 = p1; p2 = 0x00 }; shape = shape; lc = lc; le = 0; data_at = at }

register_read : command_of register_frame ≡ Gives (Register (said_of 0x01 0x00 3 64 5))
unfolding command_of on_reading by_instruction register_of read_by say_of lengths_of short_of extended_of after_data
register_read = refl

read_03 : command_of (sign_frame 0x03) ≡ Gives (Authenticate 0x03 (said_of 0x02 0x03 3 65 5))
unfolding command_of on_reading by_instruction authenticate_of read_by say_of lengths_of short_of extended_of after_data data_of part_of
read_03 = refl

read_07 : command_of (sign_frame 0x07) ≡ Gives (Authenticate 0x07 (said_of 0x02 0x07 3 65 5))
unfolding command_of on_reading by_instruction authenticate_of read_by say_of lengths_of short_of extended_of after_data data_of part_of
read_07 = refl

read_08 : command_of (sign_frame 0x08) ≡ Gives (Authenticate 0x08 (said_of 0x02 0x08 3 65 5))
unfolding command_of on_reading by_instruction authenticate_of read_by say_of lengths_of short_of extended_of after_data data_of part_of
read_08 = refl

version_read : command_of version_frame ≡ Gives Version
unfolding command_of on_reading by_instruction version_of read_by say_of lengths_of short_of extended_of after_data
version_read = refl

none_read : command_of [] ≡ SW 0x6a80
unfolding command_of on_reading read_by
none_read = refl

-- ---- the table: a decision that keeps to it is the definition
differ : (f : Decider) → Claims.DecidesExactly f → (p : Presence) (t : ℕ) (a : Inputs) → (decision_of p t a).answer ≡ (f p t a).answer
differ f F p t a = ap (λ (r : DecisionResult). r.answer) (sound p t a (f p t a) (F p t a))

two : (m n : ℕ) → ◌≡◌ {A = Outcome DecisionGives} (SW m) (SW n) → m ≡ n
two = sw_same

abbrev forbids : Hardware
forbids = record { allowed = Allowed'.No; stored = true; attestation = Attestation'.Present; good = true; counter = Some 7 }

abbrev not_stored : Hardware
not_stored = record { allowed = Allowed'.Yes; stored = false; attestation = Attestation'.Present; good = true; counter = Some 7 }

abbrev not_attested : Hardware
not_attested = record { allowed = Allowed'.Yes; stored = true; attestation = Attestation'.Missing; good = true; counter = Some 7 }

abbrev bad_handle : Hardware
bad_handle = record { allowed = Allowed'.Yes; stored = true; attestation = Attestation'.Present; good = false; counter = Some 7 }

-- 'no', and three bytes too few
pub frame_first : Claims.DecidesExactly Wrong.frame_first → ⊥
unfolding decision_of path_of allowed_path command_path version_path register_path login_path register_ending counted_ending settle_of checked_of
frame_first d = let z = two 0x6986 0x6a80 (rw none_read at (differ Wrong.frame_first d (fresh 1000) 0 (lent [] forbids [] 0))) in omega arith

pub no_and_failed : Claims.DecidesExactly Wrong.no_and_failed → ⊥
unfolding decision_of path_of allowed_path command_path version_path register_path login_path register_ending counted_ending settle_of checked_of
no_and_failed d = let z = two 0x6986 0x6f00 (differ Wrong.no_and_failed d (fresh 1000) 0 (lent [] forbids [] 0)) in omega arith

-- 139 bytes are enough for h 0 and c 0
pub room140 : Claims.DecidesExactly Wrong.room140 → ⊥
unfolding decision_of path_of allowed_path command_path version_path register_path login_path register_ending counted_ending settle_of checked_of
room140 d = r_word 2 (plain_word 0x6985) (sym (rw register_read at (differ Wrong.room140 d (fresh 1000) 0 (lent register_frame works [] 139))))

-- a store that failed, without a touch
pub store_first : Claims.DecidesExactly Wrong.store_first → ⊥
unfolding decision_of path_of allowed_path command_path version_path register_path login_path register_ending counted_ending settle_of checked_of
store_first d = let z = two 0x6985 0x6f00 (rw register_read at (differ Wrong.store_first d (fresh 1000) 0 (lent register_frame not_stored [] 139))) in omega arith

pub missing_taken : Claims.DecidesExactly Wrong.missing_taken → ⊥
unfolding decision_of path_of allowed_path command_path version_path register_path login_path register_ending counted_ending settle_of checked_of
missing_taken d = word_gives (plain_word 0x6f00) Ordered (rw register_read at (differ Wrong.missing_taken d held 0 (lent register_frame not_attested [] 139)))

-- no room and no touch
pub touch_first : Claims.DecidesExactly Wrong.touch_first → ⊥
unfolding decision_of path_of allowed_path command_path version_path register_path login_path register_ending counted_ending settle_of checked_of
touch_first d = r_word 2 (plain_word 0x6985) (rw register_read at (differ Wrong.touch_first d (fresh 1000) 0 (lent register_frame works [] 138)))

pub check_only_first : Claims.DecidesExactly Wrong.check_only_first → ⊥
unfolding decision_of path_of allowed_path command_path version_path register_path login_path register_ending counted_ending settle_of checked_of
check_only_first d = let z = two 0x6a80 0x6985 (rw read_07 at (differ Wrong.check_only_first d (fresh 1000) 0 (lent (sign_frame 0x07) bad_handle [] 0))) in omega arith

pub room_first : Claims.DecidesExactly Wrong.room_first → ⊥
unfolding decision_of path_of allowed_path command_path version_path register_path login_path register_ending counted_ending settle_of checked_of
room_first d = r_word 2 (plain_word 0x6985) (sym (rw read_07 at (differ Wrong.room_first d (fresh 1000) 0 (lent (sign_frame 0x07) works [] 0))))

pub room76 : Claims.DecidesExactly Wrong.room76 → ⊥
unfolding decision_of path_of allowed_path command_path version_path register_path login_path register_ending counted_ending settle_of checked_of
room76 d = r_gives 2 Ordered (rw read_08 at (differ Wrong.room76 d (fresh 1000) 0 (lent (sign_frame 0x08) works [] 76)))

pub room78 : Claims.DecidesExactly Wrong.room78 → ⊥
unfolding decision_of path_of allowed_path command_path version_path register_path login_path register_ending counted_ending settle_of checked_of
room78 d = r_gives 2 Ordered (sym (rw read_08 at (differ Wrong.room78 d (fresh 1000) 0 (lent (sign_frame 0x08) works [] 77))))

pub touch_of08 : Claims.DecidesExactly Wrong.touch_of08 → ⊥
unfolding decision_of path_of allowed_path command_path version_path register_path login_path register_ending counted_ending settle_of checked_of
touch_of08 d = word_gives (plain_word 0x6985) Ordered (rw read_03 at (differ Wrong.touch_of08 d (fresh 1000) 0 (lent (sign_frame 0x03) works [] 77)))

pub touch_turned : Claims.DecidesExactly Wrong.touch_turned → ⊥
unfolding decision_of path_of allowed_path command_path version_path register_path login_path register_ending counted_ending settle_of checked_of
touch_turned d = word_gives (plain_word 0x6985) Ordered (rw read_03 at (differ Wrong.touch_turned d (fresh 1000) 0 (lent (sign_frame 0x03) works [] 77)))

-- challenge all 00, application all 01: the bytes to sign begin with the application
abbrev apart_frame : List ℕ
apart_frame = 0x00 ∷ 0x02 ∷ 0x08 ∷ 0x00 ∷ 0x41 ∷ replicate 32 0x00 ++ replicate 32 0x01 ++ 0x00 ∷ []

apart_read : command_of apart_frame ≡ Gives (Authenticate 0x08 (said_of 0x02 0x08 3 65 5))
unfolding command_of on_reading by_instruction authenticate_of read_by say_of lengths_of short_of extended_of after_data data_of part_of
apart_read = refl

pub challenge_first : Claims.DecidesExactly Wrong.challenge_first → ⊥
unfolding decision_of path_of allowed_path command_path version_path register_path login_path register_ending counted_ending settle_of checked_of authenticate_order_of block application_of challenge_of data_of part_of
challenge_first d =
    let a = lent apart_frame works [] 77 in
    let z : ◌≡◌ {A = ℕ} 0x01 0x00 = rw apart_read at (ap (λ (r : DecisionResult). byte r.order.bytes 0) (sound (fresh 1000) 0 a (Wrong.challenge_first (fresh 1000) 0 a) (d (fresh 1000) 0 a))) in
    omega arith

-- ---- the sentence on the box
closed_open : (m : ℕ) → ◌≡◌ {A = Window} None (Some m) → ⊥
closed_open m x = let z : ◌≡◌ {A = ℕ} 0 1 = cc in omega arith

untouched : (t : ℕ) → HasTouch (fresh 1000) t → ⊥
untouched t h = closed_open h.0 h.1

-- an order with presence byte 01 on a fresh record
pub straight : Claims.OrdersNeedATouch Wrong.straight → ⊥
unfolding decision_of path_of allowed_path command_path version_path register_path login_path register_ending counted_ending settle_of checked_of
straight d =
    let a = lent (sign_frame 0x03) works [] 77 in
    untouched 0 (d.touch (fresh 1000) 0 a (rw read_03 (refl, inr (kind_is a 0x03 (said_of 0x02 0x03 3 65 5) true 7 read_03, presence_is a 0x03 (said_of 0x02 0x03 3 65 5) true 7 read_03)))).0

pub present08 : Claims.OrdersNeedATouch Wrong.present08 → ⊥
unfolding decision_of path_of allowed_path command_path version_path register_path login_path register_ending counted_ending settle_of checked_of
present08 d =
    let a = lent (sign_frame 0x08) works [] 77 in
    let claimed : byte (Wrong.present08 (fresh 1000) 0 a).order.bytes 32 ≡ 0x00 = (d.present (fresh 1000) 0 a 0x08 (said_of 0x02 0x08 3 65 5) (refl, read_08) (rw read_08 refl)).1.1 refl in
    let made : byte (Wrong.present08 (fresh 1000) 0 a).order.bytes 32 ≡ 0x01 = rw read_08 (presence_is a 0x08 (said_of 0x02 0x08 3 65 5) true 7 read_08) in
    omega arith

-- a check at 0 prompts, the touch at 1 is accepted, and P1 03 at 2 and at 3 get an order each
pub touch_kept : Claims.OrdersHaveTheirTouch Wrong.touch_kept → ⊥
unfolding decision_of path_of allowed_path command_path version_path register_path login_path register_ending counted_ending settle_of checked_of after history latest_prompt latest_touch touch_of check_of granted_of command_of on_reading by_instruction authenticate_of read_by say_of lengths_of short_of extended_of after_data data_of part_of
touch_kept d =
    let a = lent (sign_frame 0x03) works [] 77 in
    let says : SaysPresent (authenticate_ordered a (said_of 0x02 0x03 3 65 5) true 7) = inr (kind_is a 0x03 (said_of 0x02 0x03 3 65 5) true 7 read_03, presence_is a 0x03 (said_of 0x02 0x03 3 65 5) true 7 read_03) in
    d.apart 1000 (omega arith) (omega arith) (TouchAt 1 ∷ CheckAt 0 0 ∷ []) [] 2 3 a a (record { number = 1; moment = 1; side = 0 }) (record { number = 1; moment = 1; side = 0 }) (refl, says) refl (refl, says) refl refl

-- ---- sides: 02, E7
-- beside the live touch of side 0, side 1 comes with P1 03
abbrev other : Inputs
other = on_side 1 (lent (sign_frame 0x03) works [] 77)

pub serves_other : Claims.OrdersNeedATouch Wrong.serves_other → ⊥
unfolding decision_of path_of allowed_path command_path version_path register_path login_path register_ending counted_ending settle_of checked_of
serves_other d =
    omega (arith, (d.touch held 7 other (rw read_03 (refl, inr (kind_is other 0x03 (said_of 0x02 0x03 3 65 5) true 7 read_03, presence_is other 0x03 (said_of 0x02 0x03 3 65 5) true 7 read_03)))).1)

-- wireless (1) asks at 0, a finger touches at 1, and USB (0) gets an order at 2
pub serves_other_in_arun : Claims.OrdersHaveTheirTouch Wrong.serves_other → ⊥
unfolding decision_of path_of allowed_path command_path version_path register_path login_path register_ending counted_ending settle_of checked_of after history latest_prompt latest_touch touch_of check_of granted_of command_of on_reading by_instruction authenticate_of read_by say_of lengths_of short_of extended_of after_data data_of part_of
serves_other_in_arun d =
    let a = lent (sign_frame 0x03) works [] 77 in
    let says : SaysPresent (authenticate_ordered a (said_of 0x02 0x03 3 65 5) true 7) = inr (kind_is a 0x03 (said_of 0x02 0x03 3 65 5) true 7 read_03, presence_is a 0x03 (said_of 0x02 0x03 3 65 5) true 7 read_03) in
    let k = d.own 1000 (omega arith) (omega arith) (TouchAt 1 ∷ CheckAt 1 0 ∷ []) 2 a (refl, says) in
    omega (arith, ap side_asked k.1, k.3)

-- USB gets 6985 at 2, and the touch with it: an order at 3
pub other_side_takes_in_arun : Claims.OrdersHaveTheirTouch Wrong.other_side_takes → ⊥
unfolding decision_of path_of allowed_path command_path version_path register_path login_path register_ending counted_ending settle_of checked_of after history latest_prompt latest_touch unspent touch_of check_of granted_of command_of on_reading by_instruction authenticate_of read_by say_of lengths_of short_of extended_of after_data data_of part_of
other_side_takes_in_arun d =
    let a = lent (sign_frame 0x03) works [] 77 in
    let says : SaysPresent (authenticate_ordered a (said_of 0x02 0x03 3 65 5) true 7) = inr (kind_is a 0x03 (said_of 0x02 0x03 3 65 5) true 7 read_03, presence_is a 0x03 (said_of 0x02 0x03 3 65 5) true 7 read_03) in
    let k = d.own 1000 (omega arith) (omega arith) (DecideAt 2 a ∷ TouchAt 1 ∷ CheckAt 1 0 ∷ []) 3 a (refl, says) in
    omega (arith, ap side_asked k.1, k.3)

-- the record after a decision that keeps to the table
differ_record : (f : Decider) → Claims.DecidesExactly f → (p : Presence) (t : ℕ) (a : Inputs) → (decision_of p t a).presence ≡ (f p t a).presence
differ_record f F p t a = ap (λ (r : DecisionResult). r.presence) (sound p t a (f p t a) (F p t a))

pub other_side_prompts : Claims.DecidesExactly Wrong.other_side_prompts → ⊥
unfolding decision_of path_of allowed_path command_path version_path register_path login_path register_ending counted_ending settle_of checked_of
other_side_prompts d = closed_open 7 (ap (λ (p : Presence). p.prompt) (rw read_03 at (differ_record Wrong.other_side_prompts d held 7 other)))

pub other_side_takes : Claims.DecidesExactly Wrong.other_side_takes → ⊥
unfolding decision_of path_of allowed_path command_path version_path register_path login_path register_ending counted_ending settle_of checked_of
other_side_takes d = let z : ◌≡◌ {A = ℕ} 0 1 = ap (λ (p : Presence). p.asker) (rw read_03 at (differ_record Wrong.other_side_takes d held 7 other)) in omega arith

-- side 1 asks on a fresh record
pub asker_kept : Claims.DecidesExactly Wrong.asker_kept → ⊥
unfolding decision_of path_of allowed_path command_path version_path register_path login_path register_ending counted_ending settle_of checked_of
asker_kept d = let z : ◌≡◌ {A = ℕ} 1 0 = ap (λ (p : Presence). p.asker) (rw read_03 at (differ_record Wrong.asker_kept d (fresh 1000) 0 other)) in omega arith

-- and throughout, with P1 03 at 0, the touch at 1, P1 03 at 2
pub asker_kept_throughout : Claims.OneSideIsBase Wrong.asker_kept base_decision_of → ⊥
unfolding decision_of path_of allowed_path command_path version_path register_path login_path register_ending counted_ending settle_of checked_of after touch_of granted_of base_by base_settle_of base_checked_of base_decision_of command_of on_reading by_instruction authenticate_of read_by say_of lengths_of short_of extended_of after_data data_of part_of
asker_kept_throughout d =
    word_gives (plain_word 0x6985) Ordered (ap (λ (r : DecisionResult). r.answer) (d.decisions 1000 (omega arith) (omega arith) 1 (omega arith) (TouchAt 1 ∷ DecideAt 0 other ∷ []) (tt, (refl, tt)) 2 other refl))

r_same : (n m : ℕ) → ◌≡◌ {A = Outcome DecisionGives} (R n) (R m) → n ≡ m
r_same n m e = cc

-- side 2, at a moment that is none
pub r8_after_r1 : Claims.SideRefusedExactly Wrong.r8_after_r1 → ⊥
unfolding decision_of settle_of
r8_after_r1 d = omega (arith, r_same 1 8 ((d (fresh 1000) (2 ^ 48) (on_side 2 (lent version_frame works [] 6))).1 (⊎_elim (λ z. omega arith) (λ z. omega arith), inl (omega arith))))

pub version_unasked : Claims.SideRefusedExactly Wrong.version_unasked → ⊥
unfolding decision_of path_of allowed_path command_path version_path settle_of command_of on_reading by_instruction version_of read_by say_of lengths_of short_of extended_of after_data
version_unasked d = r_gives 8 _ (sym ((d (fresh 1000) 0 (on_side 2 (lent version_frame works [] 6))).1 (⊎_elim (λ z. omega arith) (λ z. omega arith), inl (omega arith))))

pub check_only_unasked : Claims.SideRefusedExactly Wrong.check_only_unasked → ⊥
unfolding decision_of path_of allowed_path command_path login_path settle_of command_of on_reading by_instruction authenticate_of read_by say_of lengths_of short_of extended_of after_data data_of part_of
check_only_unasked d = r_word 8 _ (sym ((d (fresh 1000) 0 (on_side 2 (lent (sign_frame 0x07) works [] 0))).1 (⊎_elim (λ z. omega arith) (λ z. omega arith), inl (omega arith))))

-- what stands for the base looks at the side after all
pub base_asks_whose : Claims.BaseDecidesExactly Wrong.base_asks_whose → ⊥
unfolding path_of allowed_path command_path version_path register_path login_path register_ending counted_ending base_settle_of base_checked_of
base_asks_whose d =
    word_gives (plain_word 0x6985) Ordered (rw read_03 at (ap (λ (r : DecisionResult). r.answer) (d.any_side held 7 (lent (sign_frame 0x03) works [] 77) 1)))

-- ---- what each answer leaves
pub r2_spends : Claims.RefusalChangesNothing Wrong.r2_spends reply_left → ⊥
unfolding decision_of path_of allowed_path command_path version_path register_path login_path register_ending counted_ending settle_of checked_of
r2_spends d =
    let a = lent register_frame works [] 138 in
    closed_open 0 (rw register_read at (ap (λ (p : Presence). p.touch) (d held 0 a 2 [] (rw register_read refl)).0))

pub r2_takes : Claims.RefusalChangesNothing Wrong.r2_takes reply_left → ⊥
unfolding decision_of path_of allowed_path command_path version_path register_path login_path register_ending counted_ending settle_of checked_of
r2_takes d =
    let a = lent register_frame works [] 138 in
    true≢false (rw register_read at (d held 0 a 2 [] (rw register_read refl)).2)

pub r2_moves : Claims.RefusalChangesNothing Wrong.r2_moves reply_left → ⊥
unfolding decision_of path_of allowed_path command_path version_path register_path login_path register_ending counted_ending settle_of checked_of
r2_moves d =
    let a = lent version_frame works [] 5 in
    let z : ◌≡◌ {A = ℕ} 7 0 = rw version_read at (ap (λ (p : Presence). p.last) (d held 7 a 2 [] (rw version_read refl)).0) in
    omega arith

pub takes_at6985 : Claims.CounterExactly Wrong.takes_at6985 → ⊥
unfolding decision_of path_of allowed_path command_path version_path register_path login_path register_ending counted_ending settle_of checked_of
takes_at6985 d =
    let a = lent (sign_frame 0x03) works [] 77 in
    word_gives (plain_word 0x6985) Ordered (rw read_03 at ((d (fresh 1000) 0 a (refl, refl)).0 (rw read_03 refl)).0)

pub not_taken : Claims.CounterExactly Wrong.not_taken → ⊥
unfolding decision_of path_of allowed_path command_path version_path register_path login_path register_ending counted_ending settle_of checked_of
not_taken d =
    let a = lent (sign_frame 0x08) works [] 77 in
    false≢true (rw read_08 at ((d (fresh 1000) 0 a (refl, refl)).1 (rw read_08 (refl, kind_is a 0x08 (said_of 0x02 0x08 3 65 5) false 7 read_08))))

-- ---- the reply
pub other_bytes : Claims.RepliesExactly decision_of Wrong.other_bytes → ⊥
unfolding decision_of path_of allowed_path command_path version_path register_path login_path register_ending counted_ending settle_of checked_of
other_bytes d =
    let a = lent version_frame works [] 6 in
    ⊎_elim
    (λ x. let z : ◌≡◌ {A = ℕ} 0x31 0x32 = rw version_read at (ap (λ (l : List ℕ). byte l 5) x.2) in omega arith)
    (λ x. x.0 6 (rw version_read refl))
    (d (fresh 1000) 0 a (replicate 6 0) refl)

pub clears_rest : Claims.RepliesExactly decision_of Wrong.clears_rest → ⊥
unfolding decision_of path_of allowed_path command_path version_path register_path login_path register_ending counted_ending settle_of checked_of
clears_rest d =
    let a = lent version_frame works [] 7 in
    ⊎_elim
    (λ x. let z : ◌≡◌ {A = ℕ} 6 7 = rw version_read at (ap (length {A = ℕ}) x.2) in omega arith)
    (λ x. x.0 6 (rw version_read refl))
    (d (fresh 1000) 0 a (replicate 7 0) refl)

-- ---- a body in parts: 00 C0 00 00, where two of three bytes remain
abbrev fetch_frame : List ℕ
fetch_frame = 0x00 ∷ 0xC0 ∷ 0x00 ∷ 0x00 ∷ []

abbrev fetching : (remainder : Remainder) (part_room : ℕ) → Inputs
fetching r part_room = record { side = 0; frame = fetch_frame; hardware = works; new_handle = []; certificate = []; x = replicate 32 0; y = replicate 32 0; room = 3; remainder = r; part_room = part_room }

fetch_read : command_of fetch_frame ≡ Gives GetResponse
unfolding command_of on_reading by_instruction get_response_of read_by say_of lengths_of short_of extended_of after_data
fetch_read = refl

-- a C0 of side 2
pub fetch_unasked : Claims.SideRefusedExactly Wrong.fetch_unasked → ⊥
unfolding decision_of path_of allowed_path command_path settle_of fetch_path next_part_of frame_limit limit_of part_length command_of on_reading by_instruction get_response_of read_by say_of lengths_of short_of extended_of after_data
fetch_unasked d = r_gives 8 _ (sym ((d (fresh 1000) 0 (on_side 2 (fetching (rest 1 2) 4))).1 (⊎_elim (λ z. omega arith) (λ z. omega arith), inl (omega arith))))

pub fetch_prompts : Claims.DecidesExactly Wrong.fetch_prompts → ⊥
unfolding decision_of path_of allowed_path command_path version_path register_path login_path register_ending counted_ending settle_of checked_of fetch_path next_part_of frame_limit limit_of part_length command_of on_reading by_instruction get_response_of read_by say_of lengths_of short_of extended_of after_data
fetch_prompts d =
    let a = fetching (rest 0 0) 0 in
    closed_open 0 (ap (λ (r : DecisionResult). r.presence.prompt) (sound (fresh 1000) 0 a (Wrong.fetch_prompts (fresh 1000) 0 a) (d (fresh 1000) 0 a)))

pub room_before_nothing : Claims.DecidesExactly Wrong.room_before_nothing → ⊥
unfolding decision_of path_of allowed_path command_path version_path register_path login_path register_ending counted_ending settle_of checked_of fetch_path next_part_of frame_limit limit_of part_length command_of on_reading by_instruction get_response_of read_by say_of lengths_of short_of extended_of after_data
room_before_nothing d = r_word 2 (plain_word 0x6985) (sym (differ Wrong.room_before_nothing d (fresh 1000) 0 (fetching (rest 0 0) 0)))

part_rest : (m n : ℕ) (q r : Remainder) → ◌≡◌ {A = Outcome DecisionGives} (Gives (Part m q)) (Gives (Part n r)) → q ≡ r
part_rest m n q r e = cc

pub fetch_skips : Claims.DecidesExactly Wrong.fetch_skips → ⊥
unfolding decision_of path_of allowed_path command_path version_path register_path login_path register_ending counted_ending settle_of checked_of fetch_path next_part_of frame_limit limit_of part_length command_of on_reading by_instruction get_response_of read_by say_of lengths_of short_of extended_of after_data
fetch_skips d =
    let z : ◌≡◌ {A = ℕ} 3 4 = ap (λ (r : Remainder). r.place) (part_rest 4 4 (rest 3 0) (rest 4 0) (differ Wrong.fetch_skips d (fresh 1000) 0 (fetching (rest 1 2) 4))) in
    omega arith

-- shape 1; and shape 7 without data, its Le 1
pub absent_is_whole : Claims.LimitsExactly Wrong.absent_is_whole → ⊥
unfolding read_by say_of lengths_of short_of extended_of after_data
absent_is_whole exact = omega (arith, exact.absent fetch_frame (said_of 0xC0 0x00 1 0 4) refl (omega arith) refl)

pub small_le_short : Claims.LimitsExactly Wrong.small_le_short → ⊥
unfolding read_by say_of lengths_of short_of extended_of after_data limit_of
small_le_short exact =
    let said : Says = record { header = record { cla = 0x00; ins = 0xC0; p1 = 0x00; p2 = 0x00 }; shape = 7; lc = 0; le = 1; data_at = 7 } in
    omega (arith, exact.extended (0x00 ∷ 0xC0 ∷ 0x00 ∷ 0x00 ∷ 0x00 ∷ 0x00 ∷ 0x00 ∷ 0x00 ∷ 0x01 ∷ []) said refl (omega arith))

-- of a remainder of two bytes: what is left of it
two_left : rest 1 2 ≡ rest 0 0 → ⊥
two_left e = omega (arith, ap (λ (r : Remainder). r.count) e)

-- C0 with P2 1 gets 6a86
abbrev bad_fetch : Inputs
bad_fetch = record { side = 0; frame = 0x00 ∷ 0xC0 ∷ 0x00 ∷ 0x01 ∷ []; hardware = works; new_handle = []; certificate = []; x = replicate 32 0; y = replicate 32 0; room = 3; remainder = rest 1 2; part_room = 4 }

pub refused_fetch_drops : Claims.RemainderExactly decision_of Wrong.refused_fetch_drops → ⊥
unfolding decision_of path_of allowed_path command_path version_path register_path login_path register_ending counted_ending settle_of checked_of fetch_path next_part_of frame_limit limit_of part_length command_of on_reading by_instruction get_response_of read_by say_of lengths_of short_of extended_of after_data
refused_fetch_drops exact =
    let said : Says = record { header = record { cla = 0x00; ins = 0xC0; p1 = 0x00; p2 = 0x01 }; shape = 1; lc = 0; le = 0; data_at = 4 } in
    two_left (sym (exact.kept (fresh 1000) 0 bad_fetch (plain_word 0x6a86) (said, refl, refl) refl))

-- a Version in between; and three bytes
abbrev between : List ℕ → Inputs
between frame = record { side = 0; frame = frame; hardware = works; new_handle = []; certificate = []; x = replicate 32 0; y = replicate 32 0; room = 6; remainder = rest 1 2; part_room = 4 }

pub other_ins_keeps : Claims.RemainderExactly decision_of Wrong.other_ins_keeps → ⊥
unfolding decision_of path_of allowed_path command_path version_path register_path login_path register_ending counted_ending settle_of checked_of fetch_path next_part_of frame_limit limit_of part_length command_of on_reading by_instruction get_response_of read_by say_of lengths_of short_of extended_of after_data version_of
other_ins_keeps exact =
    two_left (exact.dropped (fresh 1000) 0 (between version_frame)
    (λ is_c0. let z : ◌≡◌ {A = ℕ} 0x03 0xC0 = ap (λ (s : Says). s.header.ins) (gives_same _ _ is_c0.1) ∙ is_c0.2 in omega arith) (λ n e. r_gives _ _ (sym e)))

-- the same Version, where CTAP1 is not allowed: 6986
pub other_status_keeps : Claims.RemainderExactly decision_of Wrong.other_status_keeps → ⊥
unfolding decision_of path_of allowed_path command_path version_path register_path login_path register_ending counted_ending settle_of checked_of fetch_path next_part_of frame_limit limit_of part_length command_of on_reading by_instruction get_response_of read_by say_of lengths_of short_of extended_of after_data version_of
other_status_keeps exact =
    let a : Inputs = record { side = 0; frame = version_frame; hardware = forbids; new_handle = []; certificate = []; x = replicate 32 0; y = replicate 32 0; room = 6; remainder = rest 1 2; part_room = 4 } in
    two_left (exact.dropped (fresh 1000) 0 a
    (λ is_c0. let z : ◌≡◌ {A = ℕ} 0x03 0xC0 = ap (λ (s : Says). s.header.ins) (gives_same _ _ is_c0.1) ∙ is_c0.2 in omega arith) (λ n e. r_word _ _ (sym e)))

pub damaged_keeps : Claims.RemainderExactly decision_of Wrong.damaged_keeps → ⊥
unfolding decision_of path_of allowed_path command_path version_path register_path login_path register_ending counted_ending settle_of checked_of fetch_path next_part_of frame_limit limit_of part_length command_of on_reading by_instruction get_response_of read_by say_of lengths_of short_of extended_of after_data
damaged_keeps exact =
    two_left (exact.dropped (fresh 1000) 0 (between (0x00 ∷ 0xC0 ∷ 0x00 ∷ []))
    (λ is_c0. word_gives _ _ is_c0.1) (λ n e. r_word _ _ (sym e)))

passes : (w t : ℕ) → 0 < w → w ≤ 60000 → t < 2 ^ 48 → NotRefused (fresh w) 0 t
passes w t a b c = (⊎_elim (λ z. omega arith) (λ z. omega arith), ⊎_elim (λ z. omega arith) (λ z. omega arith), ⊎_elim (λ z. omega arith) (λ z. omega arith))

-- a C0 in the old form, its Le 1
abbrev old_fetch : Inputs
old_fetch = between (0x00 ∷ 0xC0 ∷ 0x00 ∷ 0x00 ∷ 0x00 ∷ 0x00 ∷ 0x00 ∷ 0x01 ∷ [])

old_fetch_lem : OldForm old_fetch.frame
old_fetch_lem = record { extended = refl; one_behind = refl }

pub old_form_served : Claims.OldFormRefused Wrong.old_form_served remainder_left → ⊥
unfolding decision_of path_of allowed_path command_path version_path register_path login_path register_ending counted_ending settle_of checked_of fetch_path next_part_of frame_limit limit_of part_length command_of on_reading by_instruction get_response_of read_by say_of lengths_of short_of extended_of after_data
old_form_served exact = word_gives _ _ (sym (exact.answer (fresh 1000) 0 old_fetch old_fetch_lem (passes 1000 0 (omega arith) (omega arith) (omega arith)) refl))

pub old_form_keeps : Claims.OldFormRefused decision_of Wrong.old_form_keeps → ⊥
unfolding decision_of path_of allowed_path command_path version_path register_path login_path register_ending counted_ending settle_of checked_of fetch_path next_part_of frame_limit limit_of part_length command_of on_reading by_instruction get_response_of read_by say_of lengths_of short_of extended_of after_data
old_form_keeps exact = two_left (exact.drops (fresh 1000) 0 old_fetch old_fetch_lem (passes 1000 0 (omega arith) (omega arith) (omega arith)))

-- no room for part and status
pub refusal_drops : Claims.RemainderExactly decision_of Wrong.refusal_drops → ⊥
unfolding decision_of path_of allowed_path command_path version_path register_path login_path register_ending counted_ending settle_of checked_of fetch_path next_part_of frame_limit limit_of part_length command_of on_reading by_instruction get_response_of read_by say_of lengths_of short_of extended_of after_data
refusal_drops exact = two_left (sym (exact.refused (fresh 1000) 0 (fetching (rest 1 2) 3) 2 refl))

pub r2_after_move : Claims.RemainderExactly decision_of Wrong.r2_after_move → ⊥
unfolding decision_of path_of allowed_path command_path version_path register_path login_path register_ending counted_ending settle_of checked_of fetch_path next_part_of frame_limit limit_of part_length command_of on_reading by_instruction get_response_of read_by say_of lengths_of short_of extended_of after_data
r2_after_move exact = omega (arith, ap (λ (r : Remainder). r.place) (exact.refused (fresh 1000) 0 (fetching (rest 1 2) 3) 2 refl))

pub status_clears : Claims.PartsExactly decision_of frame_limit Wrong.status_clears → ⊥
unfolding decision_of path_of allowed_path command_path version_path register_path login_path register_ending counted_ending settle_of checked_of fetch_path next_part_of frame_limit limit_of part_length command_of on_reading by_instruction get_response_of read_by say_of lengths_of short_of extended_of after_data
status_clears exact =
    omega (arith, ap (length {A = ℕ}) (exact.other (fresh 1000) 0 (fetching (rest 0 0) 4) [] (replicate 4 0) (λ n after e. word_gives _ _ e)))

-- of 7 8 9 the last two
pub part_again : Claims.PartsExactly decision_of frame_limit Wrong.part_again → ⊥
unfolding decision_of path_of allowed_path command_path version_path register_path login_path register_ending counted_ending settle_of checked_of fetch_path next_part_of frame_limit limit_of part_length command_of on_reading by_instruction get_response_of read_by say_of lengths_of short_of extended_of after_data left_status
part_again exact =
    let z : ◌≡◌ {A = ℕ} 7 8 = ap (λ (l : List ℕ). byte l 0) (exact.part (fresh 1000) 0 (fetching (rest 1 2) 4) (7 ∷ 8 ∷ 9 ∷ []) (replicate 4 0) 4 (rest 3 0) refl) in
    omega arith

-- ---- orders
-- a handle of 256 bytes makes the blank order
pub handle256 : Claims.OrdersOfLayout Wrong.handle256 → ⊥
unfolding decision_of path_of allowed_path command_path version_path register_path login_path register_ending counted_ending settle_of checked_of enrolment_order register_order_of application_of challenge_of data_of part_of
handle256 d =
    let a = lent register_frame works (replicate 256 0) 395 in
    let made : is_of_layout blank_order ≡ true = rw register_read at (d held 0 a (refl, refl) (rw register_read refl)) in
    true≢false (sym made ∙ blank_refused.0)

pub order_at6985 : Claims.NoOrderIsBlank Wrong.order_at6985 → ⊥
unfolding decision_of path_of allowed_path command_path version_path register_path login_path register_ending counted_ending settle_of checked_of blank_order
order_at6985 d =
    let a = lent (sign_frame 0x03) works [] 77 in
    let o = authenticate_ordered a (said_of 0x02 0x03 3 65 5) true 7 in
    let none : (Wrong.order_at6985 (fresh 1000) 0 a).answer ≡ Gives Ordered → ⊥ = λ e. word_gives (plain_word 0x6985) Ordered (rw read_03 at e) in
    let blank : o ≡ blank_order = rw read_03 at (d (fresh 1000) 0 a (record { order = (Wrong.order_at6985 (fresh 1000) 0 a).order; certificate = []; signed = true; signature = []; reply = [] }) none refl).0 in
    omega (arith, kind_is a 0x03 (said_of 0x02 0x03 3 65 5) true 7 read_03, ap (λ (q : Order). kind_no q.kind) blank)

pub certificate_more : Claims.CertificateOfOrder Wrong.certificate_more → ⊥
unfolding decision_of path_of allowed_path command_path version_path register_path login_path register_ending counted_ending settle_of checked_of register_order_of application_of challenge_of data_of part_of
certificate_more d =
    let a = lent register_frame works [] 139 in
    ⊎_elim (λ x. let z : ◌≡◌ {A = ℕ} 1 0 = x.1 in omega arith) (λ x. let z : ◌≡◌ {A = ℕ} 1 2 = x.0 in omega arith) (rw register_read at (d held 0 a (refl, refl) (rw register_read refl)))

-- 138 bytes for h 0 and c 0: an order, and R2 when it is finished
short_finish : (o : Order) → is_of_layout o ≡ true → certificate_length o ≡ 0 → room_needed o ≡ 139 → finish_of (record { order = o; certificate = []; signed = true; signature = []; reply = replicate 138 0 }) ≡ R 2
unfolding finish_of
short_finish o layout certificate room = rw (room, layout, certificate)

pub room138 : Claims.OrderHasRoom Wrong.room138 → ⊥
unfolding decision_of path_of allowed_path command_path version_path register_path login_path register_ending counted_ending settle_of checked_of
room138 d =
    let a = lent register_frame works [] 138 in
    let said = said_of 0x01 0x00 3 64 5 in
    let o = (Wrong.room138 held 0 a).order in
    let is : o ≡ register_ordered a said = rw register_read refl in
    let certificate : certificate_length o ≡ 0 = ap certificate_length is ∙ register_certificate a (refl, refl) said register_read (omega arith) in
    (d held 0 a (record { order = o; certificate = []; signed = true; signature = []; reply = replicate 138 0 }) (refl, refl) (rw register_read refl) refl (sym certificate) (omega arith)
    ).2 (short_finish o (ap is_of_layout is ∙ register_of_layout a (refl, refl) said register_read (omega arith)) certificate (ap room_needed is ∙ register_room_lem a (refl, refl) said register_read (omega arith)))

-- ---- check-only
pub check_only_prompts : Claims.CheckOnlyLooksAtNoTouch Wrong.check_only_prompts → ⊥
unfolding decision_of path_of allowed_path command_path version_path register_path login_path register_ending counted_ending settle_of checked_of
check_only_prompts d =
    let a = lent (sign_frame 0x07) works [] 0 in
    closed_open 0 (sym (rw read_07 at (ap (λ (r : DecisionResult). r.presence.prompt) (d (fresh 1000) 0 a (said_of 0x02 0x07 3 65 5) (passes 1000 0 (omega arith) (omega arith) (omega arith)) read_07))))

pub check_only_spends : Claims.CheckOnlyLooksAtNoTouch Wrong.check_only_spends → ⊥
unfolding decision_of path_of allowed_path command_path version_path register_path login_path register_ending counted_ending settle_of checked_of
check_only_spends d =
    let a = lent (sign_frame 0x07) works [] 0 in
    closed_open 0 (rw read_07 at (ap (λ (r : DecisionResult). r.presence.touch) (d held 0 a (said_of 0x02 0x07 3 65 5) (passes 1000 0 (omega arith) (omega arith) (omega arith)) read_07)))

-- ---- where a length went wrong, at `00 01`: missing at 6
abbrev cut_frame : List ℕ
cut_frame = 0x00 ∷ 0x01 ∷ 0x00 ∷ 0x00 ∷ 0x00 ∷ 0x01 ∷ []

cut_read : command_of cut_frame ≡ wrong_length 1 6
unfolding command_of on_reading read_by say_of lengths_of extended_of
cut_read = refl

place_is : (v w : StatusWord) → ◌≡◌ {A = Outcome DecisionGives} (Word v) (Word w) → v.place ≡ w.place
place_is v w e = ap (λ (x : StatusWord). x.place) (word_same v w e)

pub pair_dropped : Claims.LengthsCarried Wrong.pair_dropped → ⊥
unfolding path_of allowed_path command_path settle_of
pair_dropped d =
    let a = lent cut_frame works [] 0 in
    omega (arith, place_is _ _ (rw cut_read at ((d (fresh 1000) 0 a 1 6).1 (passes 1000 0 (omega arith) (omega arith) (omega arith), refl, cut_read))))

pub pair_one_on : Claims.LengthsCarried Wrong.pair_one_on → ⊥
unfolding path_of allowed_path command_path settle_of
pair_one_on d =
    let a = lent cut_frame works [] 0 in
    omega (arith, place_is _ _ (rw cut_read at ((d (fresh 1000) 0 a 1 6).1 (passes 1000 0 (omega arith) (omega arith) (omega arith), refl, cut_read))))

pub pair_dropped_alone : Claims.DecisionPairsExactly Wrong.pair_dropped → ⊥
unfolding path_of allowed_path command_path settle_of
pair_dropped_alone d =
    let a = lent cut_frame works [] 0 in
    omega (arith, ((d (fresh 1000) 0).paired a (record { number = 0x6700; kind = 0; place = 0 }) (rw cut_read refl) refl).0)

-- ---- the record
pub status_leaves : Claims.KeepsToItsRole Wrong.status_leaves → ⊥
unfolding decision_of path_of allowed_path command_path version_path register_path login_path register_ending counted_ending settle_of checked_of done_by
status_leaves d =
    let z : ◌≡◌ {A = ℕ} 0 7 = rw none_read at (ap (λ (s : Told). s.presence.last) (d (fresh 1000) (DecideAt 7 (lent [] works [] 0)))) in
    omega arith

found_not : TouchFound ≡ NoTouchFound → ⊥
found_not e = let z : ◌≡◌ {A = ℕ} 0 1 = cc in omega arith

accepted_not : TouchAccepted ≡ TouchIgnored → ⊥
accepted_not e = let z : ◌≡◌ {A = ℕ} 0 1 = cc in omega arith

-- a check-only at 0 is said to prompt; the touch at 1 is not accepted
pub check_only_as_check : Claims.Demand3OfThePanel Wrong.check_only_as_check → ⊥
unfolding decision_of path_of allowed_path command_path version_path register_path login_path register_ending counted_ending settle_of checked_of after history foretold is_prompt_standing latest_prompt latest_touch last_moment touch_of granted_of command_of on_reading by_instruction authenticate_of read_by say_of lengths_of short_of extended_of after_data data_of part_of
check_only_as_check d =
    accepted_not (sym ((d 1000 (omega arith) (omega arith) (DecideAt 0 (lent (sign_frame 0x07) works [] 0) ∷ [])).foretells (TouchAt 1)))

-- a C0 where nothing is left, at 0, is said to prompt; the touch at 1 is not accepted
pub fetch_as_check : Claims.Demand3OfThePanel Wrong.fetch_as_check → ⊥
unfolding decision_of path_of allowed_path command_path version_path register_path login_path register_ending counted_ending settle_of checked_of after history foretold is_prompt_standing latest_prompt latest_touch last_moment touch_of granted_of command_of on_reading by_instruction authenticate_of read_by say_of lengths_of short_of extended_of after_data data_of part_of fetch_path get_response_of
fetch_as_check d =
    accepted_not (sym ((d 1000 (omega arith) (omega arith) (DecideAt 0 (fetching (rest 0 0) 0) ∷ [])).foretells (TouchAt 1)))

-- P1 03 at 0 is said not to prompt; the touch at 1 is accepted
pub touch_as_other : Claims.Demand3OfThePanel Wrong.touch_as_other → ⊥
unfolding decision_of path_of allowed_path command_path version_path register_path login_path register_ending counted_ending settle_of checked_of after history foretold is_prompt_standing latest_prompt latest_touch last_moment touch_of granted_of command_of on_reading by_instruction authenticate_of read_by say_of lengths_of short_of extended_of after_data data_of part_of
touch_as_other d =
    accepted_not (((d 1000 (omega arith) (omega arith) (DecideAt 0 (lent (sign_frame 0x03) works [] 77) ∷ [])).foretells (TouchAt 1)))

-- a Register that is not stored, with the touch at 1
pub orders_alone_spend : Claims.Demand3OfThePanel Wrong.orders_alone_spend → ⊥
unfolding decision_of path_of allowed_path command_path version_path register_path login_path register_ending counted_ending settle_of checked_of after history foretold unspent last_moment touch_of check_of granted_of
orders_alone_spend d =
    found_not (sym (rw register_read at ((d 1000 (omega arith) (omega arith) (TouchAt 1 ∷ CheckAt 0 0 ∷ [])).foretells (DecideAt 2 (lent register_frame not_stored [] 139)))))

-- side 1's P1 03 at 0, said to be side 0's; the touch at 1; side 0 at 2 finds nothing, and its history says that it should
pub side_lost : Claims.Demand3OfThePanel Wrong.side_lost → ⊥
unfolding decision_of path_of allowed_path command_path version_path register_path login_path register_ending counted_ending settle_of checked_of after history foretold unspent latest_prompt last_moment touch_of granted_of command_of on_reading by_instruction authenticate_of read_by say_of lengths_of short_of extended_of after_data data_of part_of
side_lost d = found_not (sym ((d 1000 (omega arith) (omega arith) (TouchAt 1 ∷ DecideAt 0 other ∷ [])).foretells (DecideAt 2 (lent (sign_frame 0x03) works [] 77))))

-- ---- the hardware's answers
pub unknown_is_allowed : Claims.AllowedNumbers Wrong.unknown_is_allowed → ⊥
unknown_is_allowed p = let e : Allowed'.Yes ≡ Allowed'.Failed = p.failed 3 (omega arith) in let z : ◌≡◌ {A = ℕ} 0 1 = cc in omega arith

pub unknown_is_present : Claims.AttestationNumbers Wrong.unknown_is_present → ⊥
unknown_is_present p =
    let e : Attestation'.Present ≡ Attestation'.Failed = p.failed 3 (omega arith) in let z : ◌≡◌ {A = ℕ} 0 1 = cc in omega arith

pub unknown_is_yes : Claims.YesNumbers Wrong.unknown_is_yes → ⊥
unknown_is_yes p = let e : ◌≡◌ {A = Bool} true false = p.other 2 (λ e. omega arith) in let z : ◌≡◌ {A = ℕ} 0 1 = cc in omega arith

pub lowest_bit_is_yes : Claims.YesNumbers Wrong.lowest_bit_is_yes → ⊥
lowest_bit_is_yes p = let e : ◌≡◌ {A = Bool} true false = p.other 255 (λ e. omega arith) in let z : ◌≡◌ {A = ℕ} 0 1 = cc in omega arith

pub stored_for_good : Claims.HardwareNumbers Wrong.stored_for_good → ⊥
stored_for_good p =
    let e : ◌≡◌ {A = Bool} true false = p.not_good (record { allowed = 1; attestation = 1; stored = 1; good = 0; counted = 1; counter = 0 }) (λ e. omega arith) in
    let z : ◌≡◌ {A = ℕ} 0 1 = cc in
    omega arith

pub unknown_is_counted : Claims.HardwareNumbers Wrong.unknown_is_counted → ⊥
unknown_is_counted p =
    let e : ◌≡◌ {A = Counter} (Some 0) None = p.failed (record { allowed = 1; attestation = 1; stored = 1; good = 1; counted = 2; counter = 0 }) (λ e. omega arith) in
    let z : ◌≡◌ {A = ℕ} 0 1 = cc in
    omega arith

-- ---- contents looked at, where CTAP1 is not allowed: 6986, and here 6f00
abbrev forbidden : List ℕ → List ℕ → Inputs
forbidden handle certificate =
    record {
      side = 0;
      frame = [];
      hardware = record { allowed = Allowed'.No; stored = true; attestation = Attestation'.Present; good = true; counter = None };
      new_handle = handle;
      certificate = certificate;
      x = [];
      y = [];
      room = 0;
      remainder = rest 0 0;
      part_room = 0;
    }

pub looks_at_handle : Claims.ByLengthsAlone Wrong.looks_at_handle → ⊥
unfolding decision_of path_of allowed_path settle_of
looks_at_handle c =
    omega (
      arith,
      sw_same _ _ (ap (λ (r : DecisionHanded). r.answer)
          (c (fresh 1000) 0 (forbidden (0x00 ∷ []) []) (enrolment_of (0x01 ∷ []) [] [] []) (record { new_handle = refl; certificate = refl; x = refl; y = refl }))),
    )

pub looks_at_certificate : Claims.ByLengthsAlone Wrong.looks_at_certificate → ⊥
unfolding decision_of path_of allowed_path settle_of
looks_at_certificate c =
    omega (
      arith,
      sw_same _ _ (ap (λ (r : DecisionHanded). r.answer)
          (c (fresh 1000) 0 (forbidden [] (0x30 ∷ [])) (enrolment_of [] (0x31 ∷ []) [] []) (record { new_handle = refl; certificate = refl; x = refl; y = refl }))),
    )

-- ---- views
length_said : Outcome DecisionGives → ℕ
length_said (R n) = 0
length_said (Word w) = w.kind
length_said (Gives (Body n)) = 1 + n
length_said (Gives Ordered) = 0
length_said (Gives (Part n r)) = 0

pub body_for_order : Claims.SaidExactly Wrong.body_for_order → ⊥
unfolding length_said
body_for_order c = omega (arith, ap length_said ((c.body (DecisionAnswer'.Body 6) 6).1 refl))

pub pair_unsaid : Claims.SaidExactly Wrong.pair_unsaid → ⊥
unfolding length_said
pair_unsaid c = omega (arith, ap length_said ((c.status (DecisionAnswer'.Status 0x6700 2 9) (record { number = 0x6700; kind = 2; place = 9 })).1 refl))
