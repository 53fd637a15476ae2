-- The claims are false of the wrong programs of specs/Wrong.antt, each at an input where it bites.
use Prim.Native.Nat.{ℕ, ◌≤◌}
use mathlib.Core.Bool.{Bool, true, false}
use mathlib.Core.Path.{◌≡◌, refl, ap, sym, ◌∙◌}
use mathlib.Core.Logic.{inl, inr, ⊎_elim}
use mathlib.Core.List.{List, [], ◌∷◌}
use native.Mathlib.Omega.{arith}
use lib.ListN.{length, replicate}
use Rattle.outcome.specs.Outcome.{StatusWord, Outcome, R, Word, SW, Gives, plain_word}
use Rattle.apdu_stated.specs.Answers.{Says}
use Rattle.apdu_stated.specs.Table.{lc_fits, le_fits, carried_by}
use Rattle.apdu_stated.specs.Writing.{frame_of, payload_of, write_by, buffer_by, writing_by}
use Rattle.apdu_stated.proofs.Laws.{reading_exactly, write_exactly}
use Rattle.octets.proofs.Laws.{small, bytes_of}
use Rattle.apdu_stated.specs.Reading.{read_by, lengths_of, say_of, short_of, extended_of, after_data, data_of}
use Rattle.panel_stated.specs.Terms.{nought, retired, above}
use Rattle.u2f_up_stated.specs.Moments.{new_of, touch_of, check_of, settle_of, granted_of, checked_of, fresh}
use Rattle.std.specs.Prelude.{None, Some}
use Rattle.u2f_up_stated.specs.Words.{Window}
use Rattle.u2f_up_stated.specs.declared.Presence.{Presence}
use Rattle.u2f_up_stated.specs.declared.PresenceRecord.{PresenceRecord}
use Rattle.ctap1_stated.specs.Words.{Ordered, Part, DecisionResult}
use Rattle.ctap1_stated.specs.Path.{fetch_path, frame_limit, register_path, register_ending, enrolment_order, version_path, command_path, allowed_path, path_of}
use Rattle.ctap1_stated.specs.Decision.{decision_of}
use Rattle.ctap1_stated.specs.Numbers.{allowed_of, attestation_of}
use Rattle.ctap1_stated.proofs.Laws.{sound, limits_exactly}
use Rattle.command_stated.specs.Command.{command_of, on_reading, by_instruction, register_of, version_of, get_response_of, application_of, challenge_of}
use Rattle.response_stated.specs.Words.{rest}
use Rattle.response_stated.specs.declared.Sent.{Sent}
use Rattle.response_stated.specs.Terms.{sending_of, writing_of}
use Rattle.response_stated.specs.Parts.{part_length, next_part_of, limit_of, left_status, response_room_of}
use Rattle.response_stated.specs.Responses.{write_response_of}
use Rattle.response_stated.proofs.Laws.{next_exactly, writes_exactly, room_exactly}
use Rattle.outcome.proofs.Laws.{r_gives}
use Rattle.octets.specs.Bytes.{part_of, byte}
use Rattle.signing_stated.specs.Orders.{is_authenticate_layout, register_order_of, block}
use Rattle.signing_stated.specs.Finishing.{finish_of}
use Rattle.signing_stated.specs.declared.Kind.TheVariants as Kind'
use Rattle.panel_stated.specs.Words.{HardwareSaid, SessionRecord, Ordinary, Strict, Instruction, Lc3DataLe2, OrderNumbers, FrameSaid, CommandSaid, Wrote, Asked, Order, ResponseSaid, RoomSaid, Remainder, Session}
use Rattle.panel_stated.specs.Numbers.{answer_no, decided_no, shape_of, kind_of}
use Rattle.panel_stated.specs.Exports.{ToWrite, ToDecide, write_numbered, finish_numbered, touches_of, checks_of, asks_of, decides_of, command_numbers}
use Rattle.panel_stated.specs.Claims
use Rattle.panel_stated.specs.Wrong

-- ---- answers
pub status_as9000 : Claims.AnswerTells Wrong.status_as9000 → ⊥
status_as9000 p =
    let x = (p.given (SW 0x6a80) (omega arith, omega arith)).0 refl in let e : SW 0x6a80 ≡ Gives x.0 = x.1 in let z : ◌≡◌ {A = ℕ} 0 1 = cc in omega arith

pub order_numbered2 : Claims.DecisionTells Wrong.order_numbered2 → ⊥
order_numbered2 p = let e : ◌≡◌ {A = ℕ} 2 0x0100 = (p.ordered (Gives Ordered) tt).1 refl in omega arith

pub part_as_body : Claims.DecisionTells Wrong.part_as_body → ⊥
part_as_body p = let e : ◌≡◌ {A = ℕ} 0x9000 0x0200 = (p.part (Gives (Part 2 (rest 0 0))) tt).1 (2, rest 0 0, refl) in omega arith

pub order_is0 : Claims.NoAnswerIs0 answer_no Wrong.order_is0 → ⊥
order_is0 p = p.decision (Gives Ordered) tt refl

-- ---- records
-- W, prompt, touch, last moment, asker: a touch opened at 7
abbrev one_opened : PresenceRecord
one_opened = record { w = 5000; prompt = 0; touch = 8; last = 9; asker = 0 }

pub clears_at_r6 : Claims.MakeExported Wrong.clears_at_r6 → ⊥
unfolding new_of
clears_at_r6 p = let e : ◌≡◌ {A = ℕ} 0 5000 = ap (λ (n : PresenceRecord). n.w) (p.refused one_opened 0 (inl refl)).1 in omega arith

-- 65,537 is R6, and 1 is not
pub made_from16_bits : Claims.MakeExported Wrong.made_from16_bits → ⊥
unfolding new_of
made_from16_bits p = let e : ◌≡◌ {A = ℕ} 0x9000 6 = (p.refused one_opened 65537 (inr (omega arith))).0 in omega arith

pub refused_moves : Claims.RefusalKeeps Wrong.refused_moves checks_of decides_of → ⊥
unfolding touch_of settle_of
refused_moves p = let e : ◌≡◌ {A = ℕ} 8 9 = ap (λ (n : PresenceRecord). n.last) (p.grant_up one_opened 8 (omega arith)) in omega arith

-- ---- numbers that stand for cases
pub shape0_accepted : Claims.ShapeNumbers Wrong.shape0_accepted → ⊥
shape0_accepted p = let e = p.none 0 (nought refl) in let z : ◌≡◌ {A = ℕ} 0 1 = cc e in omega arith

pub shape6_accepted : Claims.ShapeNumbers Wrong.shape6_accepted → ⊥
shape6_accepted p = let e = p.none 6 (retired refl) in let z : ◌≡◌ {A = ℕ} 0 1 = cc e in omega arith

pub kinds_alike : Claims.KindNumbers Wrong.kinds_alike → ⊥
kinds_alike p =
    let e : Some Kind'.Register ≡ Some Kind'.Authenticate = p.authenticate in let z : ◌≡◌ {A = ℕ} 0 1 = cc in omega arith

pub unknown_is_authenticate : Claims.KindNumbers Wrong.unknown_is_authenticate → ⊥
unknown_is_authenticate p =
    let e : Some Kind'.Authenticate ≡ None = p.none 3 (inr (omega arith)) in let z : ◌≡◌ {A = ℕ} 0 1 = cc in omega arith

-- an Authenticate order of zeros
abbrev login : Order
login = record { kind = Kind'.Authenticate; to_sign = 69; certificate_length = 0; bytes = replicate 385 0 }

abbrev said : Outcome (List ℕ) → ℕ
said (R n) = n
said (Word s) = s.number
said (Gives body) = 0x9000

pub certificate_length_as_to_sign : Claims.OrderBack Wrong.certificate_length_as_to_sign → ⊥
unfolding finish_of is_authenticate_layout kind_of
certificate_length_as_to_sign p =
    let e : ◌≡◌ {A = ℕ} 7 0x9000 = ap said (p login [] 1 [] (replicate 77 0)) in omega arith

-- missing at 6
abbrev missing6 : StatusWord
missing6 = record { number = 0x6700; kind = 1; place = 6 }

-- ---- what is not said is 0
pub shape1_beside_status : Claims.FrameNumbers Wrong.shape1_beside_status → ⊥
shape1_beside_status p = let e : ◌≡◌ {A = ℕ} 1 0 = ap (λ (f : FrameSaid). f.shape) (p.status missing6) in omega arith

pub frame_fault_unsaid : Claims.FrameNumbers Wrong.frame_fault_unsaid → ⊥
frame_fault_unsaid p = let e : ◌≡◌ {A = ℕ} 0 6 = ap (λ (f : FrameSaid). f.place) (p.status missing6) in omega arith

pub kind_for_place : Claims.FrameNumbers Wrong.kind_for_place → ⊥
kind_for_place p = let e : ◌≡◌ {A = ℕ} 1 6 = ap (λ (f : FrameSaid). f.place) (p.status missing6) in omega arith

pub command_fault_unsaid : Claims.CommandNumbers Wrong.command_fault_unsaid → ⊥
command_fault_unsaid p = let e : ◌≡◌ {A = ℕ} 0 6 = ap (λ (c : CommandSaid). c.place) (p.status missing6) in omega arith

pub decision_fault_unsaid : Claims.DecisionNumbers Wrong.decision_fault_unsaid → ⊥
decision_fault_unsaid p =
    let e : ◌≡◌ {A = ℕ} 0 6 = (p.status (record { answer = Word missing6; presence = fresh 5000; order = login; taken = false }) missing6 refl).2 in omega arith

abbrev registering : Says
registering = record { header = record { cla = 0; ins = 1; p1 = 3; p2 = 0 }; shape = 3; data_at = 5; lc = 64; le = 0 }

pub register_with_p1 : Claims.CommandNumbers Wrong.register_with_p1 → ⊥
register_with_p1 p = let e : ◌≡◌ {A = ℕ} 3 0 = ap (λ (c : CommandSaid). c.p1) (p.register registering) in omega arith

pub length_beside_refusal : Claims.LengthNumbers Wrong.length_beside_refusal → ⊥
length_beside_refusal p = let e : ◌≡◌ {A = ℕ} 1 0 = ap (λ (w : Wrote). w.length) (p.refused 2) in omega arith

pub length_unsaid : Claims.LengthNumbers Wrong.length_unsaid → ⊥
length_unsaid p = let e : ◌≡◌ {A = ℕ} 0 1 = ap (λ (w : Wrote). w.length) (p.given 1) in omega arith

pub yes_beside_refusal : Claims.AskedNumbers Wrong.yes_beside_refusal → ⊥
yes_beside_refusal p = let e : ◌≡◌ {A = Bool} true false = ap (λ (a : Asked). a.yes) (p.refused 1) in let z : ◌≡◌ {A = ℕ} 0 1 = cc in omega arith

pub always_no : Claims.AskedNumbers Wrong.always_no → ⊥
always_no p = let e : ◌≡◌ {A = Bool} false true = ap (λ (a : Asked). a.yes) (p.given true) in let z : ◌≡◌ {A = ℕ} 0 1 = cc in omega arith

pub orders_alike : Claims.OrderNumbersExactly Wrong.orders_alike → ⊥
orders_alike p = let e : ◌≡◌ {A = ℕ} 1 2 = ap (λ (n : OrderNumbers). n.kind) (p.authenticate login refl) in omega arith

pub block_after_status : Claims.BlockExactly Wrong.block_after_status → ⊥
block_after_status p = let e : ◌≡◌ {A = ℕ} 0 1 = ap length (p.status (plain_word 0x6985) [] (1 ∷ [])) in omega arith

pub block_after_refusal : Claims.BlockExactly Wrong.block_after_refusal → ⊥
block_after_refusal p = let e : ◌≡◌ {A = ℕ} 0 1 = ap length (p.refused 2 [] (1 ∷ [])) in omega arith

-- ---- places: a frame of four bytes, whose data ends with it
pub places_one_on : Claims.PlacesCut Wrong.places_one_on command_numbers → ⊥
unfolding read_by lengths_of say_of
places_one_on p =
    let e : 5 ≤ 4 = (p.«data» (0 ∷ 3 ∷ 0 ∷ 0 ∷ []) (record { header = record { cla = 0; ins = 3; p1 = 0; p2 = 0 }; shape = 1; data_at = 4; lc = 0; le = 0 }) refl).0 in
    omega arith

-- ---- decisions and runs
pub taken_unsaid : Claims.DecisionNumbers Wrong.taken_unsaid → ⊥
taken_unsaid p =
    let e : ◌≡◌ {A = Bool} false true = p.taken (record { answer = Gives Ordered; presence = fresh 5000; order = login; taken = true }) in
    let z : ◌≡◌ {A = ℕ} 0 1 = cc in
    omega arith

-- ---- responses and parts
pub response_status_unsaid : Claims.ResponseNumbers Wrong.response_status_unsaid → ⊥
response_status_unsaid p = let e : ◌≡◌ {A = ℕ} 0 0x9000 = ap (λ (r : ResponseSaid). r.status) (p.given (record { length = 6; status = 0x9000 })) in omega arith

pub response_with_status : Claims.ResponseNumbers Wrong.response_with_status → ⊥
response_with_status p = let e : ◌≡◌ {A = ℕ} 8 6 = ap (λ (r : ResponseSaid). r.length) (p.given (record { length = 6; status = 0x9000 })) in omega arith

pub sent_without_status : Claims.SentNumbers Wrong.sent_without_status → ⊥
sent_without_status p = let e : ◌≡◌ {A = ℕ} 4 6 = ap (λ (r : Wrote). r.length) (p.given (record { length = 6; remainder = rest 5 1 })) in omega arith

pub room_beside_refusal : Claims.RoomNumbers Wrong.room_beside_refusal → ⊥
room_beside_refusal p = let e : ◌≡◌ {A = ℕ} 258 0 = ap (λ (r : RoomSaid). r.length) (p.refused 2) in omega arith

-- a frame without Le, and a body of 1,000 bytes: 258
pub room_uncut : Claims.RoomExported Wrong.room_uncut → ⊥
unfolding read_by say_of lengths_of limit_of response_room_of part_length
room_uncut p =
    let said : Says = record { header = record { cla = 0x00; ins = 0xC0; p1 = 0x00; p2 = 0x00 }; shape = 1; lc = 0; le = 0; data_at = 4 } in
    let e : ◌≡◌ {A = ℕ} 1002 258 = ap (λ (r : RoomSaid). r.length) (p.given response_room_of room_exactly (0x00 ∷ 0xC0 ∷ 0x00 ∷ 0x00 ∷ []) 1000 said 258 refl refl) in
    omega arith

-- ---- the hardware, and orders of no kind

pub six_answered : Claims.OthersRefused Wrong.six_answered finish_numbered → ⊥
unfolding write_by carried_by lc_fits le_fits frame_of payload_of shape_of
six_answered p =
    let w : ToWrite = record { header = record { cla = 0x00; ins = 0x03; p1 = 0x01; p2 = 0x02 }; shape = 6; content = []; le = 5; out = replicate 9 0 } in
    r_gives _ _ (sym (p.shape Ordinary w (retired refl)))

pub no_kind_is_r2 : Claims.OthersRefused write_numbered Wrong.no_kind_is_r2 → ⊥
no_kind_is_r2 p =
    let e : ◌≡◌ {A = ℕ} 2 7 =
    ap said (p.kind (record { order = record { kind = 3; to_sign = 69; certificate_length = 0 }; block = []; certificate = []; signed = 1; signature = []; reply = [] }) (inr (omega arith))) in
    omega arith

-- ---- the exported decision
abbrev hardware : (allowed : ℕ) → HardwareSaid
hardware n = record { allowed = n; attestation = 1; stored = 1; good = 1; counted = 1; counter = 7 }

-- with a live touch
abbrev touched : PresenceRecord
touched = record { w = 5000; prompt = 0; touch = 1; last = 0; asker = 0 }

abbrev lending : (frame : List ℕ) (allowed : ℕ) (reply : List ℕ) → Remainder → (part : List ℕ) → ToDecide
lending frame n reply r part =
    record { presence = touched; session = record { place = r.place; count = r.count; limit = 5 }; frame = frame; side = 0; moment = 1; hardware = hardware n; new_handle = []; certificate = []; x = replicate 32 1; y = replicate 32 2; reply = reply; block = []; part = part }

abbrev fetch_frame : List ℕ
fetch_frame = 0x00 ∷ 0xC0 ∷ 0x00 ∷ 0x00 ∷ []

-- C0 where nothing is left: 6985, and its limit of 256
pub limit_of_bodies_alone : Claims.DecideExported Wrong.limit_of_bodies_alone → ⊥
unfolding decision_of path_of allowed_path command_path version_path register_path register_ending settle_of checked_of fetch_path next_part_of frame_limit limit_of part_length command_of on_reading by_instruction get_response_of version_of read_by say_of lengths_of short_of extended_of after_data allowed_of attestation_of left_status
limit_of_bodies_alone p = let e : ◌≡◌ {A = ℕ} 5 256 = p.limit (lending fetch_frame 1 [] (rest 0 0) []) frame_limit limits_exactly (omega arith) in omega arith

-- a decision before the last moment, 2: R1
pub refused_forgets : Claims.RefusalKeeps touches_of checks_of Wrong.refused_forgets → ⊥
unfolding decision_of path_of allowed_path command_path settle_of command_of on_reading read_by allowed_of
refused_forgets p =
    let i : ToDecide = record { presence = record { w = 5000; prompt = 0; touch = 0; last = 2; asker = 0 }; session = record { place = 1; count = 2; limit = 5 }; frame = []; side = 0; moment = 1; hardware = hardware 1; new_handle = []; certificate = []; x = []; y = []; reply = []; block = []; part = [] } in
    let e : ◌≡◌ {A = ℕ} 0 5 = ap (λ (s : SessionRecord). s.limit) (p.decided i (omega arith)).1 in
    omega arith

-- a Register, with a touch: the touch stays
pub record_forgotten : Claims.DecideExported Wrong.record_forgotten → ⊥
unfolding decision_of path_of allowed_path command_path version_path register_path register_ending settle_of checked_of fetch_path next_part_of frame_limit limit_of part_length command_of on_reading by_instruction get_response_of version_of read_by say_of lengths_of short_of extended_of after_data allowed_of attestation_of left_status register_of
record_forgotten p =
    let i = lending (0x00 ∷ 0x01 ∷ 0x00 ∷ 0x00 ∷ 0x40 ∷ replicate 64 0x00) 1 (replicate 139 0) (rest 0 0) [] in
    let x = p.row i in
    let e : ◌≡◌ {A = Window} (Some 0) None = ap (λ (q : Presence). q.touch) (x.3 ∙ ap (λ (r : DecisionResult). r.presence) (sym (sound _ _ _ x.0 x.1))) in
    let z : ◌≡◌ {A = ℕ} 0 1 = cc in
    omega arith

-- Version, six bytes lent for its body and none for a part
pub rooms_swapped : Claims.DecideExported Wrong.rooms_swapped → ⊥
unfolding decision_of path_of allowed_path command_path version_path register_path register_ending settle_of checked_of fetch_path next_part_of frame_limit limit_of part_length command_of on_reading by_instruction get_response_of version_of read_by say_of lengths_of short_of extended_of after_data allowed_of attestation_of left_status
rooms_swapped p =
    let i = lending (0x00 ∷ 0x03 ∷ 0x00 ∷ 0x00 ∷ []) 1 (replicate 6 0) (rest 0 0) [] in
    let x = p.row i in
    let e : ◌≡◌ {A = ℕ} 2 0x9000 = x.2.answer ∙ ap (λ (r : DecisionResult). decided_no r.answer) (sym (sound _ _ _ x.0 x.1)) in
    omega arith

-- C0 forbidden: 6986
pub drops_at_c0 : Claims.DecideExported Wrong.drops_at_c0 → ⊥
unfolding decision_of path_of allowed_path command_path version_path register_path register_ending settle_of checked_of fetch_path next_part_of frame_limit limit_of part_length command_of on_reading by_instruction get_response_of version_of read_by say_of lengths_of short_of extended_of after_data allowed_of attestation_of left_status
drops_at_c0 p =
    let said : Says = record { header = record { cla = 0x00; ins = 0xC0; p1 = 0x00; p2 = 0x00 }; shape = 1; lc = 0; le = 0; data_at = 4 } in
    let e : ◌≡◌ {A = ℕ} 0 2 = ap (λ (r : Remainder). r.count) (p.keeps (lending fetch_frame 0 (7 ∷ 8 ∷ 9 ∷ []) (rest 1 2) (replicate 4 0)) said refl refl (omega arith) (omega arith)) in
    omega arith

-- of 7 8 9 the last two, into four zeros
pub part_of_itself : Claims.DecideExported Wrong.part_of_itself → ⊥
unfolding decision_of path_of allowed_path command_path version_path register_path register_ending settle_of checked_of fetch_path next_part_of frame_limit limit_of part_length command_of on_reading by_instruction get_response_of version_of read_by say_of lengths_of short_of extended_of after_data allowed_of attestation_of left_status
part_of_itself p =
    let e : ◌≡◌ {A = ℕ} 8 0 = ap (λ (o : Outcome Sent × List ℕ). byte o.1 0) (p.part (lending fetch_frame 1 (7 ∷ 8 ∷ 9 ∷ []) (rest 1 2) (replicate 4 0)) sending_of next_exactly refl) in
    omega arith

pub part_over_the_body : Claims.DecideExported Wrong.part_over_the_body → ⊥
unfolding decision_of path_of allowed_path command_path version_path register_path register_ending settle_of checked_of fetch_path next_part_of frame_limit limit_of part_length command_of on_reading by_instruction get_response_of version_of read_by say_of lengths_of short_of extended_of after_data allowed_of attestation_of left_status
part_over_the_body p =
    let e : ◌≡◌ {A = ℕ} 8 7 = ap (λ (l : List ℕ). byte l 0) (p.reply (lending fetch_frame 1 (7 ∷ 8 ∷ 9 ∷ []) (rest 1 2) (replicate 4 0)) (λ z. omega arith)) in
    omega arith

-- a Register, with a touch: the byte behind the 04
pub point_swapped : Claims.DecideExported Wrong.point_swapped → ⊥
unfolding decision_of path_of allowed_path command_path version_path register_path register_ending settle_of checked_of fetch_path next_part_of frame_limit limit_of part_length command_of on_reading by_instruction get_response_of version_of read_by say_of lengths_of short_of extended_of after_data allowed_of attestation_of left_status register_of enrolment_order register_order_of block application_of challenge_of data_of part_of
point_swapped p =
    let i = lending (0x00 ∷ 0x01 ∷ 0x00 ∷ 0x00 ∷ 0x40 ∷ replicate 64 0x00) 1 (replicate 139 0) (rest 0 0) [] in
    let x = p.row i in
    let e : ◌≡◌ {A = ℕ} 2 1 = ap (λ (l : List ℕ). byte l 66) (x.4 refl ∙ ap (λ (r : DecisionResult). r.order.bytes) (sym (sound _ _ _ x.0 x.1))) in
    omega arith

-- ---- the exported next part and response
-- no room for the status
pub next_forgets : Claims.NextPartExported Wrong.next_forgets → ⊥
unfolding next_part_of part_length
next_forgets p =
    let e : ◌≡◌ {A = ℕ} 0 1 = ap (λ (s : Session). s.remainder.count) (p.refused sending_of next_exactly (record { place = 0; count = 1; limit = 1 }) (7 ∷ []) [] 2 refl).1 in
    omega arith

-- two bytes by one
pub next_whole : Claims.NextPartExported Wrong.next_whole → ⊥
unfolding next_part_of part_length
next_whole p =
    let e : ◌≡◌ {A = ℕ} 4 3 = ap (λ (s : Wrote). s.length) (p.given sending_of next_exactly (record { place = 0; count = 2; limit = 1 }) (7 ∷ 8 ∷ []) (replicate 4 0) 3 (rest 1 1) refl).0 in
    omega arith

-- 6985
pub responds9000 : Claims.ResponseExported Wrong.responds9000 → ⊥
unfolding write_response_of
responds9000 p =
    let e : ◌≡◌ {A = ℕ} 0x90 0x69 = ap (λ (l : List ℕ). byte l 0) (p.given writing_of writes_exactly [] 0x6985 (replicate 2 0) 2 refl).1 in
    omega arith

-- ---- the exported readings
-- the certification house's frame
abbrev house : List ℕ
house = 0x00 ∷ 0x03 ∷ 0x00 ∷ 0x00 ∷ 0x00 ∷ 0x00 ∷ 0x00 ∷ 0x00 ∷ 0x05 ∷ []

pub strict_export_reads : Claims.ReadStrictExported Wrong.strict_export_reads → ⊥
unfolding small read_by say_of lengths_of extended_of after_data
strict_export_reads p =
    let e : ◌≡◌ {A = ℕ} 7 0 = ap (λ (f : FrameSaid). f.shape) (p.status (read_by Strict) (reading_exactly Strict) house (bytes_of house refl) _ refl) in
    omega arith

-- 00 01
pub place_unsaid : Claims.ReadExported Wrong.place_unsaid → ⊥
unfolding small read_by say_of lengths_of extended_of
place_unsaid p =
    let frame : List ℕ = 0x00 ∷ 0x03 ∷ 0x00 ∷ 0x00 ∷ 0x00 ∷ 0x01 ∷ [] in
    let e : ◌≡◌ {A = ℕ} 0 6 = ap (λ (f : FrameSaid). f.place) (p.status (read_by Ordinary) (reading_exactly Ordinary) frame (bytes_of frame refl) _ refl) in
    omega arith

-- 01 AA 00
pub data_with_le : Claims.ReadStrictExported Wrong.data_with_le → ⊥
unfolding small read_by say_of lengths_of short_of
data_with_le p =
    let frame : List ℕ = 0x00 ∷ 0x03 ∷ 0x00 ∷ 0x00 ∷ 0x01 ∷ 0xAA ∷ 0x00 ∷ [] in
    let e : ◌≡◌ {A = ℕ} 7 6 = ap (λ (f : FrameSaid). f.end) (p.given (read_by Strict) (reading_exactly Strict) frame (bytes_of frame refl) _ refl) in
    omega arith

-- ---- the exported writers of frames
abbrev to_write : (shape : ℕ) → (out : List ℕ) → ToWrite
to_write shape out = record { header = record { cla = 0x00; ins = 0x03; p1 = 0x01; p2 = 0x02 }; shape = shape; content = []; le = 0; out = out }

-- shape 7 without data, in a buffer of none
pub strict_export_writes : Claims.WriteStrictExported Wrong.strict_export_writes → ⊥
unfolding write_by buffer_by carried_by lc_fits le_fits frame_of payload_of shape_of
strict_export_writes p =
    let w : ToWrite = record { header = record { cla = 0x00; ins = 0x03; p1 = 0x01; p2 = 0x02 }; shape = 7; content = []; le = 5; out = [] } in
    let e : ◌≡◌ {A = ℕ} 2 5 = ap (λ (s : Wrote). s.answer) (p.refused (writing_by Strict) (write_exactly Strict) w Lc3DataLe2 5 refl refl).0 in
    omega arith

-- shape 9
pub no_shape_clears : Claims.WriteExported Wrong.no_shape_clears → ⊥
no_shape_clears p = let e : ◌≡◌ {A = ℕ} 0 7 = ap (λ (l : List ℕ). byte l 0) (p.no_shape (to_write 9 (7 ∷ [])) (above (omega arith))).1 in omega arith

-- shape 6, in a buffer of nine bytes; strictly with a byte of data, in ten
pub six_written : Claims.WriteExported Wrong.six_written → ⊥
unfolding write_by buffer_by carried_by lc_fits le_fits frame_of payload_of shape_of
six_written p =
    let w : ToWrite = record { header = record { cla = 0x00; ins = 0x03; p1 = 0x01; p2 = 0x02 }; shape = 6; content = []; le = 5; out = replicate 9 0 } in
    let e : ◌≡◌ {A = ℕ} 0x9000 5 = ap (λ (s : Wrote). s.answer) (p.no_shape w (retired refl)).0 in
    omega arith

pub six_written_strictly : Claims.WriteStrictExported Wrong.six_written_strictly → ⊥
unfolding write_by buffer_by carried_by lc_fits le_fits frame_of payload_of shape_of
six_written_strictly p =
    let w : ToWrite = record { header = record { cla = 0x00; ins = 0x03; p1 = 0x01; p2 = 0x02 }; shape = 6; content = 7 ∷ []; le = 5; out = replicate 10 0 } in
    let e : ◌≡◌ {A = ℕ} 0x9000 5 = ap (λ (s : Wrote). s.answer) (p.no_shape w (retired refl)).0 in
    omega arith

-- shape 1: the third byte
pub parameters_swapped : Claims.WriteStrictExported Wrong.parameters_swapped → ⊥
unfolding write_by buffer_by carried_by lc_fits le_fits frame_of payload_of shape_of
parameters_swapped p =
    let e : ◌≡◌ {A = ℕ} 2 1 = ap (λ (l : List ℕ). byte l 2) (p.given (writing_by Strict) (write_exactly Strict) (to_write 1 (replicate 4 0)) Instruction 4 refl refl).1 in
    omega arith

-- ---- sides: 256 is cut down to 0
abbrev asked_by256 : PresenceRecord
asked_by256 = record { w = 5000; prompt = 0; touch = 0; last = 0; asker = 256 }

abbrev closed : PresenceRecord
closed = record { w = 5000; prompt = 0; touch = 0; last = 0; asker = 0 }

pub touch_any_side : Claims.SideCrosses Wrong.touch_any_side asks_of checks_of decides_of → ⊥
unfolding touch_of settle_of granted_of
touch_any_side d = let z : ◌≡◌ {A = ℕ} 0x9000 8 = (d.touched asked_by256 0).1 (⊎_elim (λ z. omega arith) (λ z. omega arith), omega arith) in omega arith

pub side_cut_in_check : Claims.SideCrosses touches_of asks_of Wrong.side_cut_in_check decides_of → ⊥
unfolding check_of settle_of checked_of
side_cut_in_check d = let z : ◌≡◌ {A = ℕ} 0x9000 8 = (d.checked closed 256 0).1 (⊎_elim (λ z. omega arith) (λ z. omega arith), inl (omega arith)) in omega arith

-- no byte at all, from side 256
pub side_cut_in_decide : Claims.SideCrosses touches_of asks_of checks_of Wrong.side_cut_in_decide → ⊥
unfolding decision_of path_of allowed_path command_path settle_of command_of on_reading read_by allowed_of
side_cut_in_decide d =
    let i : ToDecide = record { presence = touched; session = record { place = 0; count = 0; limit = 0 }; frame = []; side = 256; moment = 1; hardware = hardware 1; new_handle = []; certificate = []; x = []; y = []; reply = []; block = []; part = [] } in
    let z : ◌≡◌ {A = ℕ} 0x6a80 8 = (d.decided i).1 (⊎_elim (λ z. omega arith) (λ z. omega arith), inl (omega arith)) in
    omega arith
