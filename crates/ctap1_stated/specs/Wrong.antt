-- Wrong programs, each with one fault. proofs/Refuted.antt shows of each that a claim is false of it.
use Rattle.std.specs.Prelude.{◌-◌, ◌%◌, ◌&&◌, leb, ◌++◌, take, drop, ◌+◌, ◌∷◌}
use Rattle.ctap1_stated.specs.Words.{ℕ, Bool, true, false, not, List, [], ltb, eqb, length, when◌then◌else◌, StatusWord, Outcome, R, Word, SW, Gives, refusal_no}
use Rattle.ctap1_stated.specs.Words.{Presence, Order, Inputs, Hardware, HardwareSaid, Allowed, Attestation, Counter, Remainder, rest, DecisionGives, Body, Ordered, Part, DecisionResult, DecisionAnswer, is_present}
use Rattle.ctap1_stated.specs.declared.DecisionAnswer.TheVariants as DecisionAnswer'
use Rattle.ctap1_stated.specs.Numbers.{allowed_of, attestation_of, hardware_of}
use Rattle.ctap1_stated.specs.Path.{PathEnd, Internal, WrongData, Orders, DecisionPath, NoRoom, Ends, Status, SixBytes, Fetches, Signs, Touch, register_ordered, register_ending, counted_ending, register_path, authenticate_path, frame_limit, command_path, path_of, role_of_path}
use Rattle.ctap1_stated.specs.Decision.{refusal_result, word_result, status_result, ended, along_by, along, on_settled_by, on_moment, decision_of}
use Rattle.ctap1_stated.specs.Session.{is_get_response}
use Rattle.ctap1_stated.specs.Calls.{PanelCall, TouchAt, CheckAt, AskAt, DecideAt, call_of, panel_does, told_by}
use Rattle.ctap1_stated.specs.Terms.{Decider, on_side}
use Rattle.ctap1_stated.specs.declared.Allowed.TheVariants as Allowed'
use Rattle.ctap1_stated.specs.declared.Attestation.TheVariants as Attestation'
use Rattle.std.specs.Prelude.{Some, None}
use Rattle.octets.specs.Bytes.{byte, pair_at, laid, bytes4}
use Rattle.apdu_stated.specs.Answers.{Says}
use Rattle.apdu_stated.specs.Reading.{read_of}
use Rattle.response_stated.specs.Parts.{limit_of, rest_after, part_response}
use Rattle.command_stated.specs.Command.{Command, Register, Authenticate, Version, GetResponse, command_of, challenge_of, application_of}
use Rattle.u2f_up_stated.specs.Moments.{Told, is_live, is_r6, is_r1, settle_of, checked_of, touch_closed, prompt_opened}
use Rattle.u2f_up_stated.specs.History.{Role, Checking, Settling, TooShort, Call}
use Rattle.u2f_up_stated.specs.Runs.{Caller}
use Rattle.u2f_up_stated.specs.OneSide.{base_settle_of, base_checked_of}
use Rattle.u2f_up_stated.specs.declared.Finding.{Finding}
use Rattle.signing_stated.specs.Orders.{blank_order, register_order_of, authenticate_order_of}

-- ---- another path
abbrev decide_by : (Inputs → DecisionPath) → Decider
decide_by path p t a = on_moment p a.side t (path a) (settle_of p a.side t)

-- "2. failed gives 6f00, no gives 6986. 3. the frame's status": the frame's status first
abbrev on_frame : Inputs → Outcome Command → DecisionPath
on_frame a (R n) = path_of a
on_frame a (Word s) = Ends s
on_frame a (Gives c) = path_of a

-- fails `DecidesExactly`
abbrev pub frame_first : Decider
frame_first = decide_by (λ a. on_frame a (command_of a.frame))

-- "failed gives 6f00, no gives 6986": the other way round
abbrev on_swapped : Inputs → Allowed → DecisionPath
on_swapped a Allowed'.Failed = Status 0x6986
on_swapped a Allowed'.No = Status 0x6f00
on_swapped a Allowed'.Yes = path_of a

-- fails `DecidesExactly`
abbrev pub no_and_failed : Decider
no_and_failed = decide_by (λ a. on_swapped a a.hardware.allowed)

abbrev if_allowed : Allowed → DecisionPath → DecisionPath
if_allowed Allowed'.Failed x = Status 0x6f00
if_allowed Allowed'.No x = Status 0x6986
if_allowed Allowed'.Yes x = x

-- another Register
abbrev register_or : (Inputs → Says → DecisionPath) → Inputs → Outcome Command → DecisionPath
register_or path a (R n) = command_path a (R n)
register_or path a (Word s) = command_path a (Word s)
register_or path a (Gives Version) = command_path a (Gives Version)
register_or path a (Gives GetResponse) = command_path a (Gives GetResponse)
register_or path a (Gives (Register said)) = path a said
register_or path a (Gives (Authenticate p1 said)) = command_path a (Gives (Authenticate p1 said))

abbrev register_as : (Inputs → Says → DecisionPath) → Decider
register_as path = decide_by (λ a. if_allowed a.hardware.allowed (register_or path a (command_of a.frame)))

abbrev register_within : ℕ → Inputs → Says → DecisionPath
register_within least a said = when ltb a.room (least + length a.new_handle + length a.certificate) then NoRoom else Touch (register_ending a said)

-- "R2 if the buffer is shorter than 139 + h + c": one less, one more
abbrev pub room138 : Decider
room138 = register_as (register_within 138)

-- fails `DecidesExactly`
abbrev pub room140 : Decider
room140 = register_as (register_within 140)

-- "touch check, 6985; then 6f00 if the store failed": the store first. Fails `DecidesExactly`.
abbrev pub store_first : Decider
store_first = register_as (λ a said. when not a.hardware.stored then Status 0x6f00 else register_path a said)

abbrev register_ends : (longest : ℕ) → (Attestation → Bool) → (Inputs → Says → Order) → Inputs → Says → DecisionPath
register_ends longest attested order a said =
    when ltb a.room (139 + length a.new_handle + length a.certificate) then NoRoom
    else Touch
    (when not a.hardware.stored then Internal
    else when ltb longest (length a.new_handle) then Internal
    else when not (attested a.hardware.attestation) then Internal
    else Orders (order a said) false)

-- "h > 255": 256 is taken
abbrev pub handle256 : Decider
handle256 = register_as (register_ends 256 is_present register_ordered)

-- "the attestation is missing or failed": a missing one is taken
abbrev is_not_failed : Attestation → Bool
is_not_failed Attestation'.Present = true
is_not_failed Attestation'.Missing = true
is_not_failed Attestation'.Failed = false

-- fails `DecidesExactly`
abbrev pub missing_taken : Decider
missing_taken = register_as (register_ends 255 is_not_failed register_ordered)

-- "the certificate length": one more
abbrev longer_order : Inputs → Says → Order
longer_order a said =
    register_order_of
    (record { application = application_of a.frame said; challenge = challenge_of a.frame said; handle = a.new_handle; x = a.x; y = a.y })
    (length a.certificate + 1)

abbrev pub certificate_more : Decider
certificate_more = register_as (register_ends 255 is_present longer_order)

-- another Authenticate
abbrev authenticate_or : (Inputs → ℕ → Says → DecisionPath) → Inputs → Outcome Command → DecisionPath
authenticate_or path a (R n) = command_path a (R n)
authenticate_or path a (Word s) = command_path a (Word s)
authenticate_or path a (Gives Version) = command_path a (Gives Version)
authenticate_or path a (Gives GetResponse) = command_path a (Gives GetResponse)
authenticate_or path a (Gives (Register said)) = command_path a (Gives (Register said))
authenticate_or path a (Gives (Authenticate p1 said)) = path a p1 said

abbrev authenticate_as : (Inputs → ℕ → Says → DecisionPath) → Decider
authenticate_as path = decide_by (λ a. if_allowed a.hardware.allowed (authenticate_or path a (command_of a.frame)))

-- "handle not good gives 6a80; P1 07 gives 6985": P1 07 first. Fails `DecidesExactly`.
abbrev pub check_only_first : Decider
check_only_first = authenticate_as (λ a p1 said. when eqb p1 0x07 then Status 0x6985 else authenticate_path a p1 said)

-- "P1 07 gives 6985; buffer under 77 gives R2": a check-only is asked for room. Fails `DecidesExactly`.
abbrev pub room_first : Decider
room_first = authenticate_as (λ a p1 said. when ltb a.room 77 then NoRoom else authenticate_path a p1 said)

abbrev authenticate_ends : (least : ℕ) → (Inputs → Says → PathEnd) → Inputs → ℕ → Says → DecisionPath
authenticate_ends least ends08 a p1 said =
    when not a.hardware.good then Status 0x6a80
    else when eqb p1 0x07 then Status 0x6985
    else when ltb a.room least then NoRoom
    else when eqb p1 0x03 then Touch (counted_ending a.frame said true a.hardware.counter)
    else Signs (ends08 a said)

-- "buffer under 77 gives R2": 76 is enough, 77 is not. Fails `DecidesExactly`.
abbrev pub room76 : Decider
room76 = authenticate_as (authenticate_ends 76 (λ a said. counted_ending a.frame said false a.hardware.counter))

-- fails `DecidesExactly`
abbrev pub room78 : Decider
room78 = authenticate_as (authenticate_ends 78 (λ a said. counted_ending a.frame said false a.hardware.counter))

-- "presence byte (01 for P1 03, 00 for 08)": 01 for both
abbrev pub present08 : Decider
present08 = authenticate_as (authenticate_ends 77 (λ a said. counted_ending a.frame said true a.hardware.counter))

-- "application, presence byte .., counter .., challenge": the challenge first
abbrev turned_ending : List ℕ → Says → Counter → PathEnd
turned_ending frame said None = WrongData
turned_ending frame said (Some n) = Orders (authenticate_order_of (record { application = challenge_of frame said; presence = 0x00; counter = bytes4 n; challenge = application_of frame said })) true

-- fails `DecidesExactly`
abbrev pub challenge_first : Decider
challenge_first = authenticate_as (authenticate_ends 77 (λ a said. turned_ending a.frame said a.hardware.counter))

-- "for P1 03 touch check": 08 asks for a touch and 03 does not. Fails `DecidesExactly`.
abbrev pub touch_of08 : Decider
touch_of08 = authenticate_as (λ a p1 said. when not a.hardware.good then Status 0x6a80 else when eqb p1 0x07 then Status 0x6985 else when ltb a.room 77 then NoRoom else when eqb p1 0x08 then Touch (counted_ending a.frame said true a.hardware.counter) else Signs (counted_ending a.frame said false a.hardware.counter))

-- "for P1 03 touch check, 6985": from P1 03 straight to the counter
abbrev straightened : DecisionPath → DecisionPath
straightened NoRoom = NoRoom
straightened (Ends s) = Ends s
straightened SixBytes = SixBytes
straightened (Fetches sent) = (Fetches sent)
straightened (Signs e) = Signs e
straightened (Touch Internal) = Touch Internal
straightened (Touch WrongData) = Signs WrongData
straightened (Touch (Orders o false)) = Touch (Orders o false)
straightened (Touch (Orders o true)) = Signs (Orders o true)

abbrev pub straight : Decider
straight = decide_by (λ a. straightened (path_of a))

-- "the offered counter is reported as taken": it is not
abbrev untaken : DecisionPath → DecisionPath
untaken NoRoom = NoRoom
untaken (Ends s) = Ends s
untaken SixBytes = SixBytes
untaken (Fetches sent) = (Fetches sent)
untaken (Signs Internal) = Signs Internal
untaken (Signs WrongData) = Signs WrongData
untaken (Signs (Orders o taken)) = Signs (Orders o false)
untaken (Touch e) = Touch e

abbrev pub not_taken : Decider
not_taken = decide_by (λ a. untaken (path_of a))

-- ---- another walk along the path
abbrev Walk : Type 0
Walk = DecisionPath → (kept settled : Presence) (side t : ℕ) → DecisionResult

abbrev on_walk : Walk → Presence → (side t : ℕ) → DecisionPath → Outcome Presence → DecisionResult
on_walk walk p side t path (R n) = refusal_result n p
on_walk walk p side t path (Word s) = word_result s p
on_walk walk p side t path (Gives settled) = walk path p settled side t

abbrev decide_along : Walk → Decider
decide_along walk p t a = on_walk walk p a.side t (path_of a) (settle_of p a.side t)

abbrev short_as : ((kept settled : Presence) (side t : ℕ) → DecisionResult) → Walk
short_as short NoRoom kept settled side t = short kept settled side t
short_as short (Ends s) kept settled side t = along (Ends s) kept settled side t
short_as short SixBytes kept settled side t = along SixBytes kept settled side t
short_as short (Fetches sent) kept settled side t = along (Fetches sent) kept settled side t
short_as short (Signs e) kept settled side t = along (Signs e) kept settled side t
short_as short (Touch e) kept settled side t = along (Touch e) kept settled side t

-- "R2 ..; touch check, 6985": the touch check first, and R2 after it. Fails `DecidesExactly`.
abbrev pub touch_first : Decider
touch_first = decide_along (short_as (λ kept settled side t. when not (checked_of settled side t).yes then status_result 0x6985 (checked_of settled side t).presence else refusal_result 2 kept))

-- "R2 found after the touch is spent", "or the counter taken"; or the last moment moved
abbrev pub r2_spends : Decider
r2_spends = decide_along (short_as (λ kept settled side t. refusal_result 2 (checked_of settled side t).presence))

abbrev pub r2_takes : Decider
r2_takes = decide_along (short_as (λ kept settled side t. record { answer = R 2; presence = kept; order = blank_order; taken = true }))

abbrev pub r2_moves : Decider
r2_moves = decide_along (short_as (λ kept settled side t. refusal_result 2 settled))

abbrev status_as : (StatusWord → (kept settled : Presence) (side t : ℕ) → DecisionResult) → Walk
status_as status NoRoom kept settled side t = along NoRoom kept settled side t
status_as status (Ends s) kept settled side t = status s kept settled side t
status_as status SixBytes kept settled side t = along SixBytes kept settled side t
status_as status (Fetches sent) kept settled side t = along (Fetches sent) kept settled side t
status_as status (Signs e) kept settled side t = along (Signs e) kept settled side t
status_as status (Touch e) kept settled side t = along (Touch e) kept settled side t

-- "each .. decision sets the last moment to t": a status leaves it
abbrev pub status_leaves : Decider
status_leaves = decide_along (status_as (λ s kept settled side t. word_result s kept))

-- 02, E1: "carry the pair upward": here the pair is dropped between command reading and decision; and here it is told one byte on
abbrev pub pair_dropped : Decider
pair_dropped = decide_along (status_as (λ s kept settled side t. status_result s.number settled))

abbrev pub pair_one_on : Decider
pair_one_on = decide_along (status_as (λ s kept settled side t. word_result (record { number = s.number; kind = s.kind; place = s.place + 1 }) settled))

-- "A check-only 6985 opening a prompt, or spending a touch"
abbrev pub check_only_prompts : Decider
check_only_prompts = decide_along (status_as (λ s kept settled side t. word_result s (when eqb s.number 0x6985 then prompt_opened settled side t else settled)))

abbrev pub check_only_spends : Decider
check_only_spends = decide_along (status_as (λ s kept settled side t. word_result s (when eqb s.number 0x6985 then touch_closed settled else settled)))

abbrev touch_as : (Finding → Presence → PathEnd → DecisionResult) → Walk
touch_as touch NoRoom kept settled side t = along NoRoom kept settled side t
touch_as touch (Ends s) kept settled side t = along (Ends s) kept settled side t
touch_as touch SixBytes kept settled side t = along SixBytes kept settled side t
touch_as touch (Fetches sent) kept settled side t = along (Fetches sent) kept settled side t
touch_as touch (Signs e) kept settled side t = along (Signs e) kept settled side t
touch_as touch (Touch e) kept settled side t = touch (checked_of settled side t) settled e

-- "The counter taken for P1 03 without a touch": it is reported at the 6985
abbrev pub takes_at6985 : Decider
takes_at6985 = decide_along (touch_as (λ f settled e. when not f.yes then record { answer = SW 0x6985; presence = f.presence; order = blank_order; taken = true } else ended e f.presence))

-- what stands in an answer without an order is blank: here the order stands beside the 6985
abbrev order_in : PathEnd → Order
order_in Internal = blank_order
order_in WrongData = blank_order
order_in (Orders o taken) = o

abbrev pub order_at6985 : Decider
order_at6985 = decide_along (touch_as (λ f settled e. when not f.yes then record { answer = SW 0x6985; presence = f.presence; order = order_in e; taken = false } else ended e f.presence))

-- "with a live touch, it is spent": it is not
abbrev pub touch_kept : Decider
touch_kept = decide_along (touch_as (λ f settled e. when not f.yes then status_result 0x6985 f.presence else ended e settled))

-- 6985 with a touch, and on without. Fails `DecidesExactly`.
abbrev pub touch_turned : Decider
touch_turned = decide_along (touch_as (λ f settled e. when f.yes then status_result 0x6985 f.presence else ended e f.presence))

-- 02, E7: "nothing is opened or spent, and that is no prompting refusal": at a touch of the other side it is served, a prompt opens, or the
-- touch is given to the side that checks; "in place of any earlier": the earlier asker stays
abbrev check_as : (Presence → (side t : ℕ) → Finding) → Walk
check_as check path kept settled side t = along_by (λ q. check q side t) path kept settled

abbrev beside_or : (Presence → (side t : ℕ) → Finding) → Presence → (side t : ℕ) → Finding
beside_or other p s t =
    when not (is_live p.touch p.w t) then checked_of p s t
    else when eqb p.asker s then checked_of p s t
    else other p s t

abbrev pub serves_other : Decider
serves_other = decide_along (check_as (beside_or (λ p s t. record { yes = true; presence = touch_closed p })))

-- fails `DecidesExactly`
abbrev pub other_side_prompts : Decider
other_side_prompts = decide_along (check_as (beside_or (λ p s t. record { yes = false; presence = prompt_opened p p.asker t })))

-- fails `DecidesExactly`
abbrev pub other_side_takes : Decider
other_side_takes = decide_along (check_as (beside_or (λ p s t. record { yes = false; presence = record { w = p.w; prompt = p.prompt; touch = p.touch; last = p.last; asker = s } })))

-- fails `DecidesExactly`
abbrev pub asker_kept : Decider
asker_kept = decide_along (check_as (λ p s t. when not (is_live p.touch p.w t) then record { yes = false; presence = prompt_opened p p.asker t } else checked_of p s t))

-- ---- another settling
-- R8 "before R1": after it
abbrev pub r8_after_r1 : Decider
r8_after_r1 p t a =
    when is_r6 p.w then refusal_result 6 p
    else when is_r1 p.last t then refusal_result 1 p
    else decision_of p t a

-- R8 is asked at every decision, at Version, check-only and C0 too. Here such a frame is decided as side 0's, whichever it names
abbrev unasked_at : (DecisionPath → Bool) → Decider
unasked_at test p t a = decision_of p t (when test (path_of a) then on_side 0 a else a)

abbrev is_six_bytes : DecisionPath → Bool
is_six_bytes NoRoom = false
is_six_bytes (Ends s) = false
is_six_bytes SixBytes = true
is_six_bytes (Fetches sent) = false
is_six_bytes (Signs e) = false
is_six_bytes (Touch e) = false

abbrev is6985 : DecisionPath → Bool
is6985 NoRoom = false
is6985 (Ends s) = eqb s.number 0x6985
is6985 SixBytes = false
is6985 (Fetches sent) = false
is6985 (Signs e) = false
is6985 (Touch e) = false

abbrev is_fetching : DecisionPath → Bool
is_fetching NoRoom = false
is_fetching (Ends s) = false
is_fetching SixBytes = false
is_fetching (Fetches sent) = true
is_fetching (Signs e) = false
is_fetching (Touch e) = false

abbrev pub version_unasked : Decider
version_unasked = unasked_at is_six_bytes

abbrev pub check_only_unasked : Decider
check_only_unasked = unasked_at is6985

abbrev pub fetch_unasked : Decider
fetch_unasked = unasked_at is_fetching

-- what stands for the base: the touch check asks whose the touch is
abbrev pub base_asks_whose : Decider
base_asks_whose p t a = on_settled_by (λ q. when is_live q.touch q.w t && not (eqb q.asker a.side) then record { yes = false; presence = q } else base_checked_of q t) p (path_of a) (base_settle_of p t)

-- ---- another reply
-- "the six bytes 55 32 46 5F 56 32": U2F_V1
abbrev reply_as : (List ℕ → List ℕ) → Outcome DecisionGives → List ℕ → List ℕ
reply_as body (R n) old = old
reply_as body (Word s) old = old
reply_as body (Gives (Body n)) old = body old
reply_as body (Gives Ordered) old = old
reply_as body (Gives (Part n after)) old = old

abbrev pub other_bytes : DecisionResult → List ℕ → List ℕ
other_bytes r old = reply_as (laid (0x55 ∷ 0x32 ∷ 0x46 ∷ 0x5F ∷ 0x56 ∷ 0x31 ∷ [])) r.answer old

-- "the rest stays": it goes
abbrev pub clears_rest : DecisionResult → List ℕ → List ℕ
clears_rest r old = reply_as (λ (l : List ℕ). 0x55 ∷ 0x32 ∷ 0x46 ∷ 0x5F ∷ 0x56 ∷ 0x32 ∷ []) r.answer old

-- ---- a body in parts: 02, E2
abbrev fetch_as : (Inputs → DecisionPath) → Inputs → Outcome Command → DecisionPath
fetch_as path a (R n) = command_path a (R n)
fetch_as path a (Word s) = command_path a (Word s)
fetch_as path a (Gives Version) = command_path a (Gives Version)
fetch_as path a (Gives GetResponse) = path a
fetch_as path a (Gives (Register said)) = command_path a (Gives (Register said))
fetch_as path a (Gives (Authenticate p1 said)) = command_path a (Gives (Authenticate p1 said))

-- "6985 when nothing remains": it is a touch check, and opens a prompt. Fails `DecidesExactly`.
abbrev pub fetch_prompts : Decider
fetch_prompts = decide_by (λ a. if_allowed a.hardware.allowed (fetch_as (λ b. when eqb b.remainder.count 0 then Touch WrongData else command_path b (Gives GetResponse)) a (command_of a.frame)))

-- "then 6985 when nothing remains; then .. R2": R2 first. Fails `DecidesExactly`.
abbrev pub room_before_nothing : Decider
room_before_nothing = decide_by (λ a. if_allowed a.hardware.allowed (fetch_as (λ b. when ltb b.part_room 2 then NoRoom else command_path b (Gives GetResponse)) a (command_of a.frame)))

-- what remains after a part: one byte more is left out
abbrev skipping : DecisionPath → DecisionPath
skipping NoRoom = NoRoom
skipping (Ends s) = Ends s
skipping SixBytes = SixBytes
skipping (Fetches sent) = Fetches (record { length = sent.length; remainder = rest (sent.remainder.place + 1) (sent.remainder.count - 1) })
skipping (Signs e) = Signs e
skipping (Touch e) = Touch e

-- fails `DecidesExactly`
abbrev pub fetch_skips : Decider
fetch_skips = decide_by (λ a. skipping (path_of a))

-- "Le (256 where absent)": where absent, no limit
abbrev limit_by : (Says → ℕ) → Outcome Says → ℕ
limit_by limit (R n) = 0
limit_by limit (Word s) = 0
limit_by limit (Gives said) = limit said

abbrev pub absent_is_whole : List ℕ → ℕ
absent_is_whole frame = limit_by (λ said. when leb said.shape 4 then said.le else 0) (read_of frame)

-- "Extended shapes get the whole body": one with an Le that a single byte could say is taken for a short one
abbrev pub small_le_short : List ℕ → ℕ
small_le_short frame = limit_by (λ said. when ltb 4 said.shape then (when ltb said.le 257 then said.le else 0) else limit_of said) (read_of frame)

-- ---- the old form: 02, E13, "The ordinary reading gives 6700 for shape 6"
abbrev is_old : List ℕ → Bool
is_old frame = when eqb (byte frame 4) 0x00 then eqb (length frame) (8 + pair_at frame 5) else false

-- here it is served as shape 7, a 00 put in before its Le (an Le of 00 so becomes 65536)
abbrev widened : List ℕ → List ℕ
widened frame = when is_old frame then take (7 + pair_at frame 5) frame ++ 0x00 ∷ drop (7 + pair_at frame 5) frame else frame

abbrev pub old_form_served : Decider
old_form_served p t a =
    decision_of p t
    (record { side = a.side; frame = widened a.frame; hardware = a.hardware; new_handle = a.new_handle; certificate = a.certificate; x = a.x; y = a.y; room = a.room; remainder = a.remainder; part_room = a.part_room })

-- "A frame with another INS or in no shape drops the remainder; a refused C0 or any R refusal keeps it": one word of it turned each
abbrev left_by : (refused : Remainder → Remainder) → (status : Bool → Remainder → Remainder) → (other : Remainder → Remainder) → Outcome DecisionGives → Bool → Remainder → Remainder
left_by refused status other (R n) is_c0 r = refused r
left_by refused status other (Word s) is_c0 r = status is_c0 r
left_by refused status other (Gives (Body n)) is_c0 r = other r
left_by refused status other (Gives Ordered) is_c0 r = other r
left_by refused status other (Gives (Part n after)) is_c0 r = after

-- here a C0 in the old form counts as a frame that asks on
abbrev pub old_form_keeps : Inputs → DecisionResult → Remainder
old_form_keeps a r =
    left_by (λ k. k) (λ is_c0 k. when is_c0 then k else rest 0 0) (λ k. rest 0 0) r.answer
    (when is_old a.frame then eqb (byte a.frame 1) 0xC0 else is_get_response (read_of a.frame)) a.remainder

abbrev pub refused_fetch_drops : Inputs → DecisionResult → Remainder
refused_fetch_drops a r = left_by (λ k. k) (λ is_c0 k. rest 0 0) (λ k. rest 0 0) r.answer (is_get_response (read_of a.frame)) a.remainder

abbrev pub other_ins_keeps : Inputs → DecisionResult → Remainder
other_ins_keeps a r = left_by (λ k. k) (λ is_c0 k. when is_c0 then k else rest 0 0) (λ k. k) r.answer (is_get_response (read_of a.frame)) a.remainder

-- of a frame that is read with another INS: 6986, 6f00, 6e00 and 6d00 keep it
abbrev is_shaped : Outcome Says → Bool
is_shaped (R n) = false
is_shaped (Word s) = false
is_shaped (Gives said) = true

abbrev pub other_status_keeps : Inputs → DecisionResult → Remainder
other_status_keeps a r = left_by (λ k. k) (λ shaped k. when shaped then k else rest 0 0) (λ k. rest 0 0) r.answer (is_shaped (read_of a.frame)) a.remainder

abbrev pub refusal_drops : Inputs → DecisionResult → Remainder
refusal_drops a r = left_by (λ k. rest 0 0) (λ is_c0 k. when is_c0 then k else rest 0 0) (λ k. rest 0 0) r.answer (is_get_response (read_of a.frame)) a.remainder

-- R2 found after the remainder has moved
abbrev pub r2_after_move : Inputs → DecisionResult → Remainder
r2_after_move a r = left_by (λ k. rest_after k (frame_limit a.frame)) (λ is_c0 k. when is_c0 then k else rest 0 0) (λ k. rest 0 0) r.answer (is_get_response (read_of a.frame)) a.remainder

abbrev pub damaged_keeps : Inputs → DecisionResult → Remainder
damaged_keeps a r = left_by (λ k. k) (λ is_c0 k. k) (λ k. rest 0 0) r.answer (is_get_response (read_of a.frame)) a.remainder

-- every status but a part's leaves that buffer. Here a status word of its own clears the buffer for part and status
abbrev part_by : (List ℕ → List ℕ) → (List ℕ → List ℕ) → Outcome DecisionGives → List ℕ → List ℕ
part_by status part (R n) old = old
part_by status part (Word s) old = status old
part_by status part (Gives (Body n)) old = old
part_by status part (Gives Ordered) old = old
part_by status part (Gives (Part n after)) old = part old

abbrev pub status_clears : Inputs → DecisionResult → (body old : List ℕ) → List ℕ
status_clears a r body old = part_by (λ (l : List ℕ). []) (laid (part_response body a.remainder (frame_limit a.frame))) r.answer old

-- the part is taken from the body's start again
abbrev pub part_again : Inputs → DecisionResult → (body old : List ℕ) → List ℕ
part_again a r body old = part_by (λ (l : List ℕ). l) (laid (part_response body (rest 0 a.remainder.count) (frame_limit a.frame))) r.answer old

-- ---- another role in the history
abbrev roles_by : (ℕ → DecisionPath → Role) → PanelCall → Call
roles_by role (TouchAt t) = call_of (TouchAt t)
roles_by role (CheckAt s t) = call_of (CheckAt s t)
roles_by role (AskAt t) = call_of (AskAt t)
roles_by role (DecideAt t a) = record { role = role a.side (path_of a); moment = t }

abbrev does_by : (ℕ → DecisionPath → DecisionResult → Told) → Presence → PanelCall → Told
does_by told p (TouchAt t) = panel_does decision_of p (TouchAt t)
does_by told p (CheckAt s t) = panel_does decision_of p (CheckAt s t)
does_by told p (AskAt t) = panel_does decision_of p (AskAt t)
does_by told p (DecideAt t a) = told a.side (path_of a) (decision_of p t a)

abbrev calls_by : (ℕ → DecisionPath → Role) → Caller PanelCall
calls_by role = record { as_call = roles_by role; does = does_by (λ side x r. told_by (role side x) r) }

-- "never a 6985 from P1 07": it is taken for a prompting refusal
abbrev role_of07 : ℕ → DecisionPath → Role
role_of07 side NoRoom = TooShort side
role_of07 side (Ends s) = when eqb s.number 0x6985 then Checking side else Settling side
role_of07 side SixBytes = Settling side
role_of07 side (Fetches sent) = Settling side
role_of07 side (Signs e) = Settling side
role_of07 side (Touch e) = Checking side

abbrev pub check_only_as_check : Caller PanelCall
check_only_as_check = calls_by role_of07

-- ours: the 6985 "when nothing remains" is no prompting refusal. Here the same program takes C0's for one
abbrev pub fetch_as_check : Caller PanelCall
fetch_as_check = calls_by role_of07

-- "a 6985 from Register or from P1 03": it is taken for an answer without the touch check
abbrev role_of_touch : ℕ → DecisionPath → Role
role_of_touch side NoRoom = TooShort side
role_of_touch side (Ends s) = Settling side
role_of_touch side SixBytes = Settling side
role_of_touch side (Fetches sent) = Settling side
role_of_touch side (Signs e) = Settling side
role_of_touch side (Touch e) = Settling side

abbrev pub touch_as_other : Caller PanelCall
touch_as_other = calls_by role_of_touch

-- 02, E7: "every decision .. names its side": each is taken for side 0's
abbrev pub side_lost : Caller PanelCall
side_lost = record { as_call = roles_by (λ side x. role_of_path 0 x); does = does_by (λ side x r. told_by (role_of_path 0 x) r) }

-- "A call spends a touch if the check succeeds, also when a later step answers 6f00 or 6a80": seen to spend by orders alone
abbrev order_seen : Outcome DecisionGives → Outcome Bool
order_seen (R n) = R n
order_seen (Word s) = Gives false
order_seen (Gives g) = Gives true

abbrev pub orders_alone_spend : Caller PanelCall
orders_alone_spend = record { as_call = call_of; does = does_by (λ side x r. record { outcome = order_seen r.answer; presence = r.presence }) }

-- ---- the hardware's answers
-- "yes, no, failed": a number that is neither yes nor no counts as allowed
abbrev pub unknown_is_allowed : ℕ → Allowed
unknown_is_allowed n = when leb 2 n then Allowed'.Yes else allowed_of n

-- "the attestation is missing or failed": a number that is neither counts as present
abbrev pub unknown_is_present : ℕ → Attestation
unknown_is_present n = when leb 2 n then Attestation'.Present else attestation_of n

-- unknown numbers are the cautious answer: whatever is not 0 is yes, as C has it; and the lowest bit, as a bool of C's is passed
abbrev pub unknown_is_yes : ℕ → Bool
unknown_is_yes n = not (eqb n 0)

abbrev pub lowest_bit_is_yes : ℕ → Bool
lowest_bit_is_yes n = eqb (n % 2) 1

-- "the hardware's answers": whether the new handle was stored taken for whether the given one is good
abbrev pub stored_for_good : HardwareSaid → Hardware
stored_for_good n =
    let h = hardware_of n in
    record { allowed = h.allowed; stored = h.stored; attestation = h.attestation; good = h.stored; counter = h.counter }

-- "counter answer failed": a counter offered by any number but 0
abbrev pub unknown_is_counted : HardwareSaid → Hardware
unknown_is_counted n =
    let h = hardware_of n in
    record {
      allowed = h.allowed;
      stored = h.stored;
      attestation = h.attestation;
      good = h.good;
      counter = when eqb n.counted 0 then None else Some n.counter;
    }

-- ---- contents looked at: the handle's first byte; and the certificate's
abbrev pub looks_at_handle : Decider
looks_at_handle p t a = when eqb (byte a.new_handle 0) 0x00 then decision_of p t a else status_result 0x6f00 p

abbrev pub looks_at_certificate : Decider
looks_at_certificate p t a = when eqb (byte a.certificate 0) 0x30 then decision_of p t a else status_result 0x6f00 p

-- ---- views: a body said as an order; a status word without its pair
abbrev pub body_for_order : DecisionAnswer → Outcome DecisionGives
body_for_order (DecisionAnswer'.Refused why) = R (refusal_no why)
body_for_order (DecisionAnswer'.Status number kind place) = Word (record { number = number; kind = kind; place = place })
body_for_order (DecisionAnswer'.Body n) = Gives Ordered
body_for_order DecisionAnswer'.Order = Gives (Body 0)
body_for_order (DecisionAnswer'.Part n after) = Gives (Part n after)

abbrev pub pair_unsaid : DecisionAnswer → Outcome DecisionGives
pair_unsaid (DecisionAnswer'.Refused why) = R (refusal_no why)
pair_unsaid (DecisionAnswer'.Status number kind place) = SW number
pair_unsaid (DecisionAnswer'.Body n) = Gives (Body n)
pair_unsaid DecisionAnswer'.Order = Gives Ordered
pair_unsaid (DecisionAnswer'.Part n after) = Gives (Part n after)
