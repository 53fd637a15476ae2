-- The definitions' panel meets every contract, so that the theorem on top speaks of something; and the wrong panels of specs/Wrong.antt fail the demands.
use Prim.Native.Nat.{ℕ}
use mathlib.Core.Path.{◌≡◌, refl, ap, sym, ◌∙◌}
use mathlib.Core.Bool.{Bool, true, false, false≢true}
use mathlib.Core.List.{List, [], ◌∷◌, ◌++◌}
use native.Mathlib.Omega.{arith}
use Rattle.u2f_up_stated.specs.Moments.{new_of, settle_of, granted_of, checked_of, touch_of, check_of, ask_of}
use Rattle.u2f_up_stated.specs.History.{RefusedBy, TouchFound, NoTouchFound, PromptStands, NoPromptStands, foretold, latest_prompt, unspent, latest_touch, is_prompt_standing, last_moment, servers, accepted}
use mathlib.Core.Logic.{inl, inr, ⊎_elim}
use mathlib.Core.Option.{Option, none, some}
use lib.ListN.{length, take, replicate, length-take}
use Rattle.response_stated.specs.Terms.{Goes, whole, cut, last}
use Prim.Native.Nat.{◌<◌, ◌≤◌}
use Rattle.u2f_up_stated.specs.History.{Mark}
use Rattle.octets.specs.Bytes.{byte, part_of}
use Rattle.octets.proofs.Laws.{bytes_of, small}
use Rattle.apdu_stated.specs.Reading.{read_by, data_of, say_of, lengths_of, short_of, extended_of, after_data}
use Rattle.command_stated.specs.Command.{command_of, on_reading, by_instruction, get_response_of, register_of, version_of, authenticate_of, challenge_of, application_of}
use Rattle.response_stated.specs.Responses.{write_response_of}
use Rattle.response_stated.specs.Parts.{limit_of, part_length, next_part_of, response_room_of}
use Rattle.session_stated.specs.Held.{frame_room_of}
use Rattle.ctap1_stated.specs.Path.{frame_limit, version_path, fetch_path, command_path, allowed_path, path_of, register_path, register_ending, enrolment_order, login_path, counted_ending}
use Rattle.panel_stated.specs.Numbers.{kind_of}
use Rattle.ctap1_stated.specs.Numbers.{allowed_of, attestation_of}
use Rattle.ctap1_stated.specs.Decision.{decision_of}
use Rattle.signing_stated.specs.Layouts.{RegisterFields}
use Rattle.signing_stated.specs.Orders.{AuthenticateParts, authenticate_order_of, register_order_of, is_register_layout, block}
use Rattle.signing_stated.specs.Finishing.{finish_of}
use Rattle.panel_stated.specs.declared.Wrote.{Wrote}
use Rattle.panel_stated.specs.declared.CommandSaid.{CommandSaid}
use Rattle.panel_stated.specs.declared.ResponseSaid.{ResponseSaid}
use Rattle.u2f_up_stated.specs.declared.Presence.{Presence}
use Rattle.u2f_up_stated.specs.Words.{Window}
use Rattle.std.specs.Prelude.{None, Some}
use Rattle.panel_stated.specs.Exports.{ToDecide, ToFinish, decides_of}
use Rattle.panel_stated.proofs.Lists.{record_back}
use Rattle.panel_stated.proofs.Refuted as Exports
use Rattle.command_stated.proofs.Theorems as Commands
use Rattle.u2f_up_stated.proofs.Theorems as Up
use Rattle.u2f_up_stated.specs.declared.PresenceRecord.{PresenceRecord}
use Rattle.demands.specs.Panel.{Meets}
use Rattle.demands.specs.Calls.{Touch, Check, Ask, Decide, record_after, came_next, history_of}
use Rattle.demands.specs.Sessions.{none as no_more, also, fetched, left_after}
use Rattle.demands.specs.Demands.{Demands}
use Rattle.demands.specs.Carried.{NoneCarriesOver}
use Rattle.demands.specs.Answers.{SignsLent}
use Rattle.session_stated.specs.Promises.{lending}
use Rattle.datasheet_stated.specs.Wrong as Sheets
use Rattle.demands.specs.Room.{Fits, ReplyServes, RefusedAt, NoMoreFits, ResponsesServed, RowsServe, enrolling}
use Rattle.demands.specs.NotRuledOut.{lend, enrol, log_in, posing, posed_as, handleless, unhandled, handled, NotRuledOut}
use Rattle.demands.proofs.Examples.{other_bytes}
use Rattle.demands.proofs.Room.{no_more_fits}
use Rattle.demands.specs.Wrong as Wrong

pub meets : Meets Wrong.defined
meets = record {
  new = λ n w. (refl, record_back _);
  grant_up = λ n t. (refl, record_back _);
  consume_up = λ n s t. (refl, record_back _);
  is_up_needed = λ n t. refl;
  decide = λ i. (refl, record_back _, refl, refl, refl, refl);
  finish = λ i. (refl, refl);
  read = λ frame. refl;
  read_strict = λ frame. refl;
  read_by_table = λ frame. refl;
  read_strict_by_table = λ frame. refl;
  write = λ w. (refl, refl);
  write_strict = λ w. (refl, refl);
  read_command = λ frame. refl;
  write_response = λ body status buffer. (refl, refl);
  read_response = λ response. refl;
  next_part = λ session body part. (refl, refl, refl);
  response_room = λ frame longest. refl;
}

-- a record that nothing was done with
abbrev unused : PresenceRecord
unused = record { w = 1000; prompt = 0; touch = 0; last = 0; asker = 0 }

-- what is lent with a frame at a moment, CTAP1 allowed
lent : (frame : List ℕ) (t : ℕ) → ToDecide
lent frame t =
    record {
      presence = unused;
      session = record { place = 0; count = 0; limit = 0 };
      frame = frame;
      side = 0;
      moment = t;
      hardware = record { allowed = 1; attestation = 1; stored = 1; good = 1; counted = 1; counter = 5 };
      new_handle = [];
      certificate = [];
      x = replicate 32 0;
      y = replicate 32 0;
      reply = replicate 139 0;
      block = replicate 385 0;
      part = replicate 258 0;
    }

-- ---- making a record
-- 65,537 is taken for 1
pub new_cut : Demands Wrong.new_cut → ⊥
unfolding new_of
new_cut d = omega (arith, ((d.makes unused 65537).0 refl).1)

-- ---- which decisions reach the touch check
-- a Register with room is no command
pub knows_no_command : Demands Wrong.knows_no_command → ⊥
unfolding lent path_of allowed_path command_path register_path command_of on_reading by_instruction register_of read_by say_of lengths_of short_of extended_of after_data allowed_of attestation_of
knows_no_command d =
    let e = ((d.reaches (lent (0x00 ∷ 0x01 ∷ 0x00 ∷ 0x00 ∷ 64 ∷ replicate 64 0) 0)).0 refl).1 in
    omega (arith, e)

-- ---- demand 3
-- side 0 fetches, the finger touches, and side 0 finds nothing
pub touch_asks : Demands Wrong.touch_asks → ⊥
unfolding came_next history_of record_after touch_of check_of ask_of settle_of granted_of checked_of foretold latest_prompt unspent latest_touch is_prompt_standing last_moment new_of
touch_asks d =
    let e : NoTouchFound ≡ TouchFound = (d.touches unused 1000 refl (Touch 1 ∷ Check 0 0 ∷ [])).foretells (Check 0 2) in
    let z : ◌≡◌ {A = ℕ} 0 1 = cc in omega arith

-- side 0 fetches, the finger touches, and side 1 finds the touch
pub check_is0 : Demands Wrong.check_is0 → ⊥
unfolding came_next history_of record_after touch_of check_of ask_of settle_of granted_of checked_of foretold latest_prompt unspent latest_touch is_prompt_standing last_moment new_of
check_is0 d =
    let e : TouchFound ≡ NoTouchFound = (d.touches unused 1000 refl (Touch 1 ∷ Check 0 0 ∷ [])).foretells (Check 1 2) in
    let z : ◌≡◌ {A = ℕ} 0 1 = cc in omega arith

-- the touch that it finds is another side's
pub check_is0_serves : Demands Wrong.check_is0 → ⊥
unfolding came_next history_of record_after touch_of check_of ask_of settle_of granted_of checked_of foretold latest_prompt unspent latest_touch is_prompt_standing last_moment new_of
check_is0_serves d =
    let x = (d.touches unused 1000 refl (Touch 1 ∷ Check 0 0 ∷ [])).serves (Check 1 2) refl in
    let k : ◌≡◌ {A = ℕ} 0 x.0.side = cc in
    let l : ◌≡◌ {A = ℕ} 1 x.0.side = cc in omega arith

-- side 2 is taken for side 0, where R8 is due
pub side_cut : Demands Wrong.side_cut → ⊥
unfolding came_next history_of record_after touch_of check_of ask_of settle_of granted_of checked_of foretold latest_prompt unspent latest_touch is_prompt_standing last_moment new_of
side_cut d =
    let e : NoTouchFound ≡ RefusedBy 8 = ((d.touches unused 1000 refl []).refuses_side (Check 2 0)).1 (omega arith) in
    let z : ◌≡◌ {A = ℕ} 0 1 = cc in omega arith

-- R6, from a record that was made
pub refuses_window : Demands Wrong.refuses_window → ⊥
unfolding came_next new_of
refuses_window d = (d.touches unused 1000 refl []).refuses_no_window (Check 0 0) refl

-- nobody asked, and the light blinks
pub ask_swapped : Demands Wrong.ask_swapped → ⊥
unfolding came_next history_of record_after touch_of check_of ask_of settle_of granted_of checked_of foretold latest_prompt unspent latest_touch is_prompt_standing last_moment new_of
ask_swapped d =
    let e : PromptStands ≡ NoPromptStands = (d.touches unused 1000 refl []).foretells (Ask 0) in
    let z : ◌≡◌ {A = ℕ} 0 1 = cc in omega arith

-- a decision at 5 does not move the last moment, and a check at 3 is taken
pub record_kept : Demands Wrong.record_kept → ⊥
unfolding lent decision_of path_of allowed_path command_path command_of on_reading by_instruction read_by say_of lengths_of short_of extended_of after_data allowed_of attestation_of came_next history_of record_after touch_of check_of ask_of settle_of granted_of checked_of foretold latest_prompt unspent latest_touch is_prompt_standing last_moment new_of
record_kept d =
    let e : NoTouchFound ≡ RefusedBy 1 = (d.touches unused 1000 refl (Decide (lent [] 5) ∷ [])).foretells (Check 0 3) in
    let z : ◌≡◌ {A = ℕ} 0 1 = cc in omega arith

-- one touch, and two checks find it
pub touch_kept : Demands Wrong.touch_kept → ⊥
unfolding came_next history_of record_after touch_of check_of ask_of settle_of granted_of checked_of foretold latest_prompt unspent latest_touch is_prompt_standing last_moment new_of
touch_kept d =
    let e : TouchFound ≡ NoTouchFound = (d.touches unused 1000 refl (Check 0 2 ∷ Touch 1 ∷ Check 0 0 ∷ [])).foretells (Check 0 3) in
    let z : ◌≡◌ {A = ℕ} 0 1 = cc in omega arith

-- it named the touch twice, and two calls spent the one that was accepted
pub touch_kept_twice : Demands Wrong.touch_kept → ⊥
unfolding came_next history_of record_after touch_of check_of ask_of settle_of granted_of checked_of foretold latest_prompt unspent latest_touch is_prompt_standing last_moment new_of servers
touch_kept_twice d = omega (arith, (d.touches unused 1000 refl (Check 0 3 ∷ Check 0 2 ∷ Touch 1 ∷ Check 0 0 ∷ [])).once 1)

pub touch_kept_totals : Demands Wrong.touch_kept → ⊥
unfolding came_next history_of record_after touch_of check_of ask_of settle_of granted_of checked_of foretold latest_prompt unspent latest_touch is_prompt_standing last_moment new_of accepted
touch_kept_totals d = omega (arith, (d.touches unused 1000 refl (Check 0 3 ∷ Check 0 2 ∷ Touch 1 ∷ Check 0 0 ∷ [])).side_totals 0)

-- the touch at 1 is in C's hand as the one at 2
pub touch_late : Demands Wrong.touch_late → ⊥
unfolding came_next history_of record_after touch_of check_of ask_of settle_of granted_of checked_of foretold latest_prompt unspent latest_touch is_prompt_standing last_moment new_of
touch_late d =
    let e = (d.touches unused 1000 refl (Touch 1 ∷ Check 0 0 ∷ [])).holds (record { number = 1; moment = 1; side = 0 }) 1 (omega arith) refl [] (Touch 1 ∷ Check 0 0 ∷ []) refl (omega arith) in
    omega (arith, e)

-- side 1 fetches, and the record says side 0
pub asker_kept : Demands Wrong.asker_kept → ⊥
unfolding came_next history_of record_after touch_of check_of ask_of settle_of granted_of checked_of foretold latest_prompt unspent latest_touch is_prompt_standing last_moment new_of
asker_kept d = omega (arith, (d.touches unused 1000 refl (Check 1 0 ∷ [])).asker)

-- the remaining sentences of demand 3: a check before the last moment, a second touch for one prompt, another side's touch found, two touches held, a side that is none
pub record_kept_moment : Demands Wrong.record_kept → ⊥
unfolding lent decision_of path_of allowed_path command_path command_of on_reading by_instruction read_by say_of lengths_of short_of extended_of after_data allowed_of attestation_of came_next history_of record_after touch_of check_of ask_of settle_of granted_of checked_of foretold latest_prompt unspent latest_touch is_prompt_standing last_moment new_of
record_kept_moment d =
    let e : NoTouchFound ≡ RefusedBy 1 = ((d.touches unused 1000 refl (Decide (lent [] 5) ∷ [])).refuses (Check 0 3)).1 ((λ z. omega arith), inr (omega arith)) in
    let z : ◌≡◌ {A = ℕ} 0 1 = cc in omega arith

pub touch_asks_twice : Demands Wrong.touch_asks → ⊥
unfolding came_next history_of record_after touch_of check_of ask_of settle_of granted_of checked_of foretold latest_prompt unspent latest_touch is_prompt_standing last_moment new_of
touch_asks_twice d =
    let x = (((d.touches unused 1000 refl (Touch 1 ∷ Check 0 0 ∷ [])).accepts (Touch 2) refl).0 refl).1 in
    let z : ◌≡◌ {A = ℕ} 0 x.0.number = cc in
    let after : ◌≡◌ {A = Bool} false true = cc in false≢true after

pub check_is0_finds : Demands Wrong.check_is0 → ⊥
unfolding came_next history_of record_after touch_of check_of ask_of settle_of granted_of checked_of foretold latest_prompt unspent latest_touch is_prompt_standing last_moment new_of
check_is0_finds d =
    let x = (((d.touches unused 1000 refl (Touch 1 ∷ Check 0 0 ∷ [])).finds (Check 1 2) 1 refl).0 refl).2 in
    let e : ◌≡◌ {A = ℕ} 0 1 = ap length x.1 in omega (arith, e)

pub touch_asks_held : Demands Wrong.touch_asks → ⊥
unfolding came_next history_of record_after touch_of check_of ask_of settle_of granted_of checked_of foretold latest_prompt unspent latest_touch is_prompt_standing last_moment new_of
touch_asks_held d = omega (arith, (d.touches unused 1000 refl (Touch 3 ∷ Check 0 2 ∷ Touch 1 ∷ Check 0 0 ∷ [])).one_held)

pub touch_kept_totals_plain : Demands Wrong.touch_kept → ⊥
unfolding came_next history_of record_after touch_of check_of ask_of settle_of granted_of checked_of foretold latest_prompt unspent latest_touch is_prompt_standing last_moment new_of accepted
touch_kept_totals_plain d = omega (arith, (d.touches unused 1000 refl (Check 0 3 ∷ Check 0 2 ∷ Touch 1 ∷ Check 0 0 ∷ [])).totals)

pub side_cut_touch : Demands Wrong.side_cut → ⊥
unfolding came_next history_of record_after touch_of check_of ask_of settle_of granted_of checked_of foretold latest_prompt unspent latest_touch is_prompt_standing last_moment new_of accepted
side_cut_touch d = omega (arith, (d.touches unused 1000 refl (Touch 1 ∷ Check 2 0 ∷ [])).two_sides)

-- ---- orders
-- an Authenticate with P1 03 and no touch at all gets an order with presence byte 01
pub untouched : Demands Wrong.untouched → ⊥
unfolding lent decision_of path_of allowed_path command_path login_path counted_ending authenticate_order_of block part_of data_of command_of on_reading by_instruction authenticate_of challenge_of application_of read_by say_of lengths_of short_of extended_of after_data allowed_of attestation_of history_of record_after settle_of checked_of latest_touch new_of
untouched d =
    let k = (d.orders unused 1000 refl).own [] (lent (0x00 ∷ 0x02 ∷ 0x03 ∷ 0x00 ∷ 65 ∷ replicate 65 0) 0) (refl, inr (refl, refl)) in
    let e : ◌≡◌ {A = Option Mark} none (some k.0) = k.1 in
    let z : ◌≡◌ {A = ℕ} 0 1 = cc in omega arith

-- one touch, and two orders
pub record_kept_twice : Demands Wrong.record_kept → ⊥
unfolding lent decision_of path_of allowed_path command_path login_path counted_ending authenticate_order_of block part_of data_of command_of on_reading by_instruction authenticate_of challenge_of application_of read_by say_of lengths_of short_of extended_of after_data allowed_of attestation_of history_of record_after came_next touch_of check_of granted_of settle_of checked_of latest_touch latest_prompt unspent last_moment new_of foretold is_prompt_standing
record_kept_twice d =
    let login : ToDecide = lent (0x00 ∷ 0x02 ∷ 0x03 ∷ 0x00 ∷ 65 ∷ replicate 65 0) 2 in
    (d.orders unused 1000 refl).apart (Touch 1 ∷ Check 0 0 ∷ []) [] login login (record { number = 1; moment = 1; side = 0 }) (record { number = 1; moment = 1; side = 0 })
    (refl, inr (refl, refl)) refl (refl, inr (refl, refl)) refl refl

-- ---- finishing
-- an order of no kind
no_kind : ToFinish
no_kind = record { order = record { kind = 0; to_sign = 0; certificate_length = 0 }; block = []; certificate = []; signed = 1; signature = []; reply = [] }

pub finish_claims : Demands Wrong.finish_claims → ⊥
unfolding no_kind
finish_claims d =
    let e = ap (λ (w : Wrote). w.answer) (d.answers.finishes.no_kind no_kind (λ e. omega arith) (λ e. omega arith)).0 in
    omega (arith, e)

-- an Authenticate with P1 08, whose order is then not finished
pub finish_refuses : Demands Wrong.finish_refuses → ⊥
unfolding lent decision_of path_of allowed_path command_path login_path counted_ending authenticate_order_of block part_of data_of command_of on_reading by_instruction authenticate_of challenge_of application_of read_by say_of lengths_of short_of extended_of after_data allowed_of attestation_of settle_of
finish_refuses d =
    let i : ToDecide = lent (0x00 ∷ 0x02 ∷ 0x08 ∷ 0x00 ∷ 65 ∷ replicate 65 0) 0 in
    let f : ToFinish = record { order = (decides_of i).said.order; block = (decides_of i).block; certificate = []; signed = 1; signature = []; reply = replicate 139 0 } in
    let e = d.finished i f (record { blocks = (refl, refl); ordered = refl; order = refl; block = refl; certificate = refl; reply = omega arith; signature = omega arith }) refl in
    omega (arith, e)

-- ---- bodies
-- one byte of two is left, and never goes out
pub stalls : Demands Wrong.stalls → ⊥
unfolding lent decision_of path_of allowed_path command_path fetch_path settle_of next_part_of frame_limit limit_of part_length command_of on_reading by_instruction get_response_of read_by say_of lengths_of short_of extended_of after_data allowed_of attestation_of
stalls d =
    let e = (d.bodies.takes (7 ∷ 8 ∷ []) (record { place = 1; count = 1 }) (lent (0x00 ∷ 0xC0 ∷ 0x00 ∷ 0x00 ∷ []) 0) (refl, refl, refl) (omega arith) (omega arith)).0 in
    omega (arith, e)

-- so that one fetch, which is enough, is not
pub stalls_for_good : Demands Wrong.stalls → ⊥
unfolding lent decision_of path_of allowed_path command_path fetch_path settle_of next_part_of frame_limit limit_of part_length command_of on_reading by_instruction get_response_of read_by say_of lengths_of short_of extended_of after_data allowed_of attestation_of left_after frame_room_of response_room_of
stalls_for_good d =
    let e =
    (d.bodies.enough (7 ∷ 8 ∷ []) (record { place = 1; count = 1 }) (lent (0x00 ∷ 0xC0 ∷ 0x00 ∷ 0x00 ∷ []) 0 ∷ []) (omega arith)
    (also
    (record {
      get_response = (refl, refl, refl);
      window = (omega arith, omega arith);
      sides = (omega arith, omega arith);
      moments = (omega arith, omega arith);
      room = (refl, omega arith);
    })
    no_more) (omega arith)).0 in
    omega (arith, e)

-- of three bytes, one at a time, the last never goes out
pub skips : Demands Wrong.skips → ⊥
unfolding lent decision_of path_of allowed_path command_path fetch_path settle_of next_part_of frame_limit limit_of part_length command_of on_reading by_instruction get_response_of read_by say_of lengths_of short_of extended_of after_data allowed_of attestation_of fetched left_after
skips d =
    let e = ap length (d.bodies.so_far (7 ∷ 8 ∷ 9 ∷ []) (replicate 258 0) 3 1 (lent (0x00 ∷ 0xC0 ∷ 0x00 ∷ 0x00 ∷ 1 ∷ []) 0 ∷ []) (omega arith) (also (refl, refl) no_more)) in
    omega (arith, e)

-- ---- each call by itself
pub read_placeless : Demands Wrong.read_placeless → ⊥
read_placeless d = Exports.place_unsaid d.answers.reads

pub table_placeless : Demands Wrong.table_placeless → ⊥
table_placeless d = Exports.place_unsaid d.answers.reads_by_table

pub strict_is_ordinary : Demands Wrong.strict_is_ordinary → ⊥
strict_is_ordinary d = Exports.strict_export_reads d.answers.reads_strictly

pub strict_table_is_ordinary : Demands Wrong.strict_table_is_ordinary → ⊥
strict_table_is_ordinary d = Exports.strict_export_reads d.answers.reads_strictly_by_table

pub write_clears : Demands Wrong.write_clears → ⊥
write_clears d = Exports.no_shape_clears d.answers.writes

pub strict_write_is_ordinary : Demands Wrong.strict_write_is_ordinary → ⊥
strict_write_is_ordinary d = Exports.strict_export_writes d.answers.writes_strictly

-- a Version is 6d00
pub knows_no_version : Demands Wrong.knows_no_command → ⊥
unfolding command_of on_reading by_instruction version_of read_by say_of lengths_of short_of extended_of after_data
knows_no_version d =
    let e = ap (λ (r : CommandSaid). r.answer) (d.answers.commands.version command_of Commands.CommandExactly (0x00 ∷ 0x03 ∷ 0x00 ∷ 0x00 ∷ []) refl) in
    omega (arith, e)

pub responds9000 : Demands Wrong.responds9000 → ⊥
responds9000 d = Exports.responds9000 d.answers.responds

-- 9000 alone is a response
pub reads_no_response : Demands Wrong.reads_no_response → ⊥
reads_no_response d =
    let e = ap (λ (r : ResponseSaid). r.answer) (d.answers.responses.given [] 0x90 0x00) in
    omega (arith, e)

pub next_forgets : Demands Wrong.next_forgets → ⊥
next_forgets d = Exports.next_forgets d.answers.parts

pub refused_moves : Demands Wrong.refused_moves → ⊥
refused_moves d = Exports.refused_moves d.answers.keeps

pub side_cut_in_decide : Demands Wrong.side_cut_in_decide → ⊥
side_cut_in_decide d = Exports.side_cut_in_decide d.answers.sides

-- ---- how many bytes a response takes
-- a Register in an extended frame, with a live touch and a certificate of 200 bytes, and what finishes its order
abbrev in_extended : ToDecide
in_extended =
    record {
      presence = record { w = 1000; prompt = 0; touch = 1; last = 0; asker = 0 };
      session = record { place = 0; count = 0; limit = 0 };
      frame = 0x00 ∷ 0x01 ∷ 0x00 ∷ 0x00 ∷ 0 ∷ 0 ∷ 64 ∷ replicate 64 0;
      side = 0;
      moment = 0;
      hardware = record { allowed = 1; attestation = 1; stored = 1; good = 1; counted = 1; counter = 5 };
      new_handle = [];
      certificate = replicate 200 0;
      x = replicate 32 0;
      y = replicate 32 0;
      reply = replicate 339 0;
      block = replicate 385 0;
      part = [];
    }

-- an enrolment with no certificate fits in 394 bytes, and what finishes its order
abbrev fits394 : Fits 394 394 (enrolling 394 255 0)
fits394 = record { reply = refl; certificate = omega arith; handle = omega arith }

abbrev finishing : (signature : List ℕ) → ToFinish
finishing signature =
    record { order = (decides_of (enrolling 394 255 0)).said.order; block = (decides_of (enrolling 394 255 0)).block; certificate = []; signed = 1; signature = signature; reply = replicate 394 0 }

abbrev enrolled : ToFinish
enrolled =
    record { order = (decides_of in_extended).said.order; block = (decides_of in_extended).block; certificate = replicate 200 0; signed = 1; signature = []; reply = replicate 339 0 }

-- 258 were said to do, and the touch is spent for a body that they do not take
pub room258 : Demands Wrong.room258 → ⊥
unfolding decision_of path_of allowed_path command_path register_path register_ending enrolment_order register_order_of is_register_layout kind_of block part_of data_of command_of on_reading by_instruction register_of challenge_of application_of read_by say_of lengths_of short_of extended_of after_data allowed_of attestation_of settle_of checked_of finish_of limit_of frame_limit part_length next_part_of
room258 d =
    let e =
    (d.none_lost.served in_extended enrolled (replicate 258 0) 339 (record { blocks = (refl, refl); ordered = refl; order = refl; block = refl; certificate = refl; reply = omega arith; signature = omega arith })
    (inl (refl, refl)) refl (omega arith) refl).1 in
    omega (arith, e)

-- of a body of one byte and more something goes out
some_out : (limit n k : ℕ) (buffer : List ℕ) → Goes limit n k → 1 ≤ n → 1 ≤ length buffer → [] ≡ take k buffer → ⊥
some_out limit n k buffer g low long e = let z : 0 ≡ length (take k buffer) = ap length e in omega (arith, z, length-take k buffer, least g low)
  where
    least : {l m j : ℕ} → Goes l m j → 1 ≤ m → 1 ≤ j
    least whole x = x
    least (cut h i) x = h
    least (last h i) x = x

-- with room for all of its response
pub sends_nothing : Demands Wrong.sends_nothing → ⊥
unfolding decision_of path_of allowed_path command_path register_path register_ending enrolment_order register_order_of is_register_layout kind_of block part_of data_of command_of on_reading by_instruction register_of challenge_of application_of read_by say_of lengths_of short_of extended_of after_data allowed_of attestation_of settle_of checked_of finish_of limit_of frame_limit part_length next_part_of frame_room_of response_room_of
sends_nothing d =
    let e =
    (d.none_lost.served in_extended enrolled (replicate 341 0) 339 (record { blocks = (refl, refl); ordered = refl; order = refl; block = refl; certificate = refl; reply = omega arith; signature = omega arith })
    (inl (refl, refl)) refl (omega arith) refl).2 in
    some_out _ _ e.0 _ e.1 (omega arith) (omega arith) e.2

pub room_uncut : Demands Wrong.room_uncut → ⊥
room_uncut d = Exports.room_uncut d.answers.rooms

pub drops_at_c0 : Demands Wrong.drops_at_c0 → ⊥
drops_at_c0 d = Exports.drops_at_c0 d.answers.decides

-- ---- what is signed
-- without the key, an enrolment's 69 bytes are a login's
pub key_left_out : NoneCarriesOver Wrong.key_left_out → ⊥
unfolding decision_of path_of allowed_path command_path register_path register_ending enrolment_order register_order_of login_path counted_ending authenticate_order_of block part_of data_of command_of on_reading by_instruction register_of authenticate_of challenge_of application_of read_by say_of lengths_of short_of extended_of after_data allowed_of attestation_of settle_of checked_of
key_left_out d = d.apart (posing 0) (posed_as 0) (refl, refl, refl, refl) (refl, refl, refl, refl) other_bytes.without_key

-- new handles that differ in their last byte
pub handle_cut : NoneCarriesOver Wrong.handle_cut → ⊥
unfolding decision_of path_of allowed_path command_path register_path register_ending enrolment_order register_order_of block part_of data_of command_of on_reading by_instruction register_of challenge_of application_of read_by say_of lengths_of short_of extended_of after_data allowed_of attestation_of settle_of checked_of
handle_cut d =
    let with : ℕ → ToDecide = λ n. enrol (replicate 32 0xA1) (replicate 32 0xC1) (0xB1 ∷ n ∷ []) [] (replicate 32 0xD1) (replicate 32 0xE1) in
    let e : ◌≡◌ {A = ℕ} 1 2 = ap (λ (f : RegisterFields). byte f.handle 1) (d.enrolments (with 1) (with 2) (refl, refl, refl, refl) (refl, refl, refl, refl) refl) in
    omega arith

-- a handle of no bytes, and one of one
pub block_signed : NoneCarriesOver Wrong.block_signed → ⊥
unfolding decision_of path_of allowed_path command_path register_path register_ending enrolment_order register_order_of block part_of data_of command_of on_reading by_instruction register_of challenge_of application_of read_by say_of lengths_of short_of extended_of after_data allowed_of attestation_of settle_of checked_of
block_signed d =
    let e : ◌≡◌ {A = ℕ} 0 1 =
    ap (λ (f : RegisterFields). length f.handle) (d.enrolments unhandled handled (refl, refl, refl, refl) (refl, refl, refl, refl) other_bytes.whole_block) in
    omega arith

-- a login for which somebody was there, and the same with P1 08
pub presence_left_out : NoneCarriesOver Wrong.presence_left_out → ⊥
unfolding decision_of path_of allowed_path command_path register_path register_ending enrolment_order register_order_of login_path counted_ending authenticate_order_of block part_of data_of command_of on_reading by_instruction register_of authenticate_of challenge_of application_of read_by say_of lengths_of short_of extended_of after_data allowed_of attestation_of settle_of checked_of
presence_left_out d =
    let with : ℕ → ToDecide = λ p1. lend (0x00 ∷ 0x02 ∷ p1 ∷ 0x00 ∷ 65 ∷ replicate 65 0) 7 [] [] (replicate 32 0) (replicate 32 0) in
    false≢true (ap (λ (p : AuthenticateParts). p.present) (d.logins (with 0x08) (with 0x03) (refl, refl, refl, refl) (refl, refl, refl, refl) refl))

-- counters 1 and 1 + 2^24
pub counter_cut : NoneCarriesOver Wrong.counter_cut → ⊥
unfolding decision_of path_of allowed_path command_path register_path register_ending enrolment_order register_order_of login_path counted_ending authenticate_order_of block part_of data_of command_of on_reading by_instruction register_of authenticate_of challenge_of application_of read_by say_of lengths_of short_of extended_of after_data allowed_of attestation_of settle_of checked_of
counter_cut d =
    let with : ℕ → ToDecide = λ n. lend (0x00 ∷ 0x02 ∷ 0x08 ∷ 0x00 ∷ 65 ∷ replicate 65 0) n [] [] (replicate 32 0) (replicate 32 0) in
    let e : ◌≡◌ {A = ℕ} 1 0x1000001 = ap (λ (p : AuthenticateParts). p.counter) (d.logins (with 1) (with 0x1000001) (refl, refl, refl, refl) (refl, refl, refl, refl) refl) in
    omega arith

-- application and challenge differ, and each stands where the other should
pub fields_exchanged : SignsLent Wrong.fields_exchanged → ⊥
unfolding decision_of path_of allowed_path command_path register_path register_ending enrolment_order register_order_of block part_of data_of command_of on_reading by_instruction register_of challenge_of application_of read_by say_of lengths_of short_of extended_of after_data allowed_of attestation_of settle_of checked_of
fields_exchanged d =
    let e : ◌≡◌ {A = ℕ} 0xC1 0xA1 = ap (λ (s : List ℕ). byte s 1) (d.enrolments handleless (refl, refl, refl, refl)).2.are in
    omega arith

pub login_exchanged : SignsLent Wrong.login_exchanged → ⊥
unfolding decision_of path_of allowed_path command_path register_path register_ending enrolment_order register_order_of login_path counted_ending authenticate_order_of block part_of data_of command_of on_reading by_instruction register_of authenticate_of challenge_of application_of read_by say_of lengths_of short_of extended_of after_data allowed_of attestation_of settle_of checked_of
login_exchanged d =
    let e : ◌≡◌ {A = ℕ} 0xC1 0x00 = ap (λ (s : List ℕ). byte s 0) (d.logins (posed_as 0) (refl, refl, refl, refl) (omega arith)).2.are in
    omega arith

-- what is left is a claim too: of the whole block, 130 bytes are not all
pub block_signed_in_front : NotRuledOut Wrong.block_signed → ⊥
unfolding decision_of path_of allowed_path command_path register_path register_ending enrolment_order register_order_of block part_of data_of command_of on_reading by_instruction register_of challenge_of application_of read_by say_of lengths_of short_of extended_of after_data allowed_of attestation_of settle_of checked_of
block_signed_in_front d =
    let e : ◌≡◌ {A = ℕ} 130 385 = ap length d.enrolment_in_front in
    omega arith

-- on a lent record whose prompt is live, a touch opens nothing
pub touch_opens_nothing : Demands Wrong.touch_asks → ⊥
unfolding touch_of ask_of settle_of granted_of
touch_opens_nothing d =
    let e : ◌≡◌ {A = Window} None (Some 0) = ap (λ (p : Presence). p.touch) (d.answers.presences.touched touch_of Up.TouchesExactly (record { w = 1000; prompt = 1; touch = 0; last = 0; asker = 0 }) 0).1 in
    let z : ◌≡◌ {A = ℕ} 0 1 = cc in omega arith

-- ---- 02, E10: the claim with another number. A certificate of n - 393 bytes is said to fit; the witness is shown at handle length 254
pub claimed393 : ReplyServes 393 Wrong.defined → ⊥
claimed393 d = let e = (no_more_fits Wrong.defined meets).least 393 d in omega (arith, e)

pub claimed_without72 : ReplyServes 322 Wrong.defined → ⊥
claimed_without72 d = let e = (no_more_fits Wrong.defined meets).least 322 d in omega (arith, e)

pub witness_at254 : RefusedAt 254 Wrong.defined → ⊥
witness_at254 d = let e : ◌≡◌ {A = ℕ} 0x0100 2 = sym ((no_more_fits Wrong.defined meets).at_254 393 (omega arith)) ∙ d 393 (omega arith) in omega arith

-- and panels that ask for other room: without the signature's 72 there is an order where R2 is due
pub signature_forgotten : NoMoreFits Wrong.signature_forgotten → ⊥
unfolding decision_of path_of allowed_path command_path register_path register_ending enrolment_order register_order_of is_register_layout kind_of block part_of data_of command_of on_reading by_instruction register_of challenge_of application_of read_by say_of lengths_of short_of extended_of after_data allowed_of attestation_of settle_of checked_of finish_of
signature_forgotten d = let e : ◌≡◌ {A = ℕ} 0x0100 2 = d.refused 393 (omega arith) in omega arith

-- a byte more is asked for than a certificate of none takes
pub asks_one_more : ReplyServes 394 Wrong.asks_one_more → ⊥
unfolding decision_of path_of allowed_path command_path register_path register_ending enrolment_order register_order_of is_register_layout kind_of block part_of data_of command_of on_reading by_instruction register_of challenge_of application_of read_by say_of lengths_of short_of extended_of after_data allowed_of attestation_of settle_of checked_of finish_of
asks_one_more d = d.register 394 (enrolling 394 255 0) fits394 refl refl

-- a login in 512 bytes is refused for a guess
pub guesses1024 : ReplyServes 394 Wrong.guesses1024 → ⊥
unfolding command_of on_reading by_instruction authenticate_of read_by say_of lengths_of short_of extended_of after_data data_of part_of
guesses1024 d =
    d.authenticate 512 (log_in (replicate 32 0xA1) (replicate 32 0xC1) [] 7) (record { reply = refl; certificate = omega arith; handle = omega arith }) refl refl

-- an order is finished with R2, whatever the room
pub finish_refuses_room : ReplyServes 394 Wrong.finish_refuses → ⊥
unfolding decision_of path_of allowed_path command_path register_path register_ending enrolment_order register_order_of is_register_layout kind_of block part_of data_of command_of on_reading by_instruction register_of challenge_of application_of read_by say_of lengths_of short_of extended_of after_data allowed_of attestation_of settle_of checked_of finish_of
finish_refuses_room d = d.finish 394 (enrolling 394 255 0) (finishing (replicate 72 0)) fits394 (record { ordered = refl; order = refl; block = refl; reply = omega arith }) refl

-- with 72 bytes of signature the body is said to be longer than the buffer
pub finish_one_more : ReplyServes 394 Wrong.finish_one_more → ⊥
unfolding decision_of path_of allowed_path command_path register_path register_ending enrolment_order register_order_of is_register_layout kind_of block part_of data_of command_of on_reading by_instruction register_of challenge_of application_of read_by say_of lengths_of short_of extended_of after_data allowed_of attestation_of settle_of checked_of finish_of
finish_one_more d =
    let e : 395 ≤ 394 = d.body 394 (enrolling 394 255 0) (finishing (replicate 72 0)) fits394 (record { ordered = refl; order = refl; block = refl; reply = omega arith }) in
    omega arith

-- Version's body
pub says1024 : ReplyServes 394 Wrong.says1024 → ⊥
unfolding decision_of path_of allowed_path command_path version_path command_of on_reading by_instruction version_of read_by say_of lengths_of short_of extended_of after_data allowed_of settle_of
says1024 d =
    let e : 1024 ≤ 512 = d.version 512 (lend (0x00 ∷ 0x03 ∷ 0x00 ∷ 0x00 ∷ []) 7 [] [] [] []) (record { reply = refl; certificate = omega arith; handle = omega arith }) refl in
    omega arith

-- ---- and the room for part and status: a C0 without Le, one byte left of 512, in 258 bytes
pub part_wants_body : ResponsesServed Wrong.part_wants_body → ⊥
unfolding frame_limit limit_of read_by say_of lengths_of short_of extended_of after_data
part_wants_body d =
    let one_left : ToDecide = lending (record { w = 1000; prompt = 0; touch = 0; last = 0; asker = 0 }) (record { place = 511; count = 1; limit = 0 }) (replicate 512 0) (lend (0x00 ∷ 0xC0 ∷ 0x00 ∷ 0x00 ∷ []) 7 [] [] [] []) in
    d.decided 512 one_left (record { reply = refl; certificate = omega arith; handle = omega arith }) (omega arith) (inr (omega arith, omega arith)) refl

-- a part of no bytes, in 2
pub part_wants3 : ResponsesServed Wrong.part_wants3 → ⊥
unfolding next_part_of part_length
part_wants3 d = (d.sent (record { place = 0; count = 0; limit = 0 }) [] (0 ∷ 0 ∷ []) (omega arith)).0 refl (inl (omega arith))

-- a status word, in 2
pub response_wants3 : ResponsesServed Wrong.response_wants3 → ⊥
unfolding write_response_of
response_wants3 d = let e : 2 < 2 = (d.written [] 0x6985 (0 ∷ 0 ∷ [])).0 refl in omega arith

-- a Version without Le takes 256; and with an Le of 10 a reader of 256 bytes in all is served
pub limit_forgotten : ResponsesServed Wrong.limit_forgotten → ⊥
unfolding decision_of path_of allowed_path command_path version_path command_of on_reading by_instruction version_of read_by say_of lengths_of short_of extended_of after_data allowed_of settle_of
limit_forgotten d = let e : ◌≡◌ {A = ℕ} 0 256 = d.limit (lend (0x00 ∷ 0x03 ∷ 0x00 ∷ 0x00 ∷ []) 7 [] [] [] []) refl (omega arith) in omega arith

pub limit_forgotten_in256 : ResponsesServed Wrong.limit_forgotten → ⊥
unfolding decision_of path_of allowed_path command_path version_path command_of on_reading by_instruction version_of read_by say_of lengths_of short_of extended_of after_data allowed_of settle_of next_part_of part_length
limit_forgotten_in256 d =
    (d.in_256 (lend (0x00 ∷ 0x03 ∷ 0x00 ∷ 0x00 ∷ 10 ∷ []) 7 [] [] [] []) refl (omega arith) (omega arith)).1 (omega arith, omega arith) (replicate 300 0) (replicate 256 0) refl refl

-- a decision on an extended frame leaves no limit
pub reads_shape4 : ResponsesServed Wrong.reads_shape4 → ⊥
unfolding decision_of path_of allowed_path command_path version_path command_of on_reading by_instruction version_of read_by say_of lengths_of short_of extended_of after_data allowed_of settle_of limit_of
reads_shape4 d = let e : ◌≡◌ {A = ℕ} 0 300 = d.limit (lend (0x00 ∷ 0x03 ∷ 0x00 ∷ 0x00 ∷ 0x00 ∷ 0x00 ∷ 0x00 ∷ []) 7 [] [] [] []) refl (omega arith) in omega arith

-- no short frame says an Le of 300
pub reads_le300 : ResponsesServed Wrong.reads_shape4 → ⊥
unfolding small read_by say_of lengths_of short_of extended_of after_data
reads_le300 d =
    let frame : List ℕ = 0x00 ∷ 0x03 ∷ 0x00 ∷ 0x00 ∷ [] in
    ⊎_elim (λ x. omega arith) (λ x. omega arith) (d.short frame (bytes_of frame refl) refl (omega arith) 300)

-- the whole body's room is asked for of a frame that takes 256 bytes at a time
pub room_uncut_asked : ResponsesServed Wrong.room_uncut → ⊥
unfolding read_by say_of lengths_of short_of extended_of after_data
room_uncut_asked d = let e : 1002 ≤ 258 = (d.asked (0x00 ∷ 0x03 ∷ 0x00 ∷ 0x00 ∷ []) 1000 258 refl refl).1 (inr (omega arith, omega arith)) in omega arith

-- nor does the first part of a finished body go out in 258 bytes
pub part_wants3_first : ResponsesServed Wrong.part_wants3 → ⊥
unfolding decision_of path_of allowed_path command_path register_path register_ending enrolment_order register_order_of is_register_layout kind_of block part_of data_of command_of on_reading by_instruction register_of challenge_of application_of read_by say_of lengths_of short_of extended_of after_data allowed_of attestation_of settle_of checked_of finish_of next_part_of part_length limit_of
part_wants3_first d =
    d.first 394 (enrolling 394 255 0) (finishing (replicate 72 0)) (replicate 258 0) fits394 (record { ordered = refl; order = refl; block = refl; reply = omega arith })
    (inr (omega arith, omega arith)) refl

-- ---- a row that is printed, figure by figure: of another buffer; a certificate of n - 393 bytes; a login in 76
pub row_of_another : RowsServe Wrong.row_of_another Wrong.defined → ⊥
row_of_another d = let e : ◌≡◌ {A = ℕ} 395 394 = d.own 394 _ refl in omega arith

pub row_one_more : RowsServe Sheets.certificate_one_more Wrong.defined → ⊥
unfolding decision_of path_of allowed_path command_path register_path register_ending enrolment_order register_order_of is_register_layout kind_of block part_of data_of command_of on_reading by_instruction register_of challenge_of application_of read_by say_of lengths_of short_of extended_of after_data allowed_of attestation_of settle_of checked_of finish_of next_part_of part_length limit_of
row_one_more d = d.register 394 _ (enrolling 394 255 1) refl (refl, omega arith, omega arith) refl refl

pub row_for_any : RowsServe Wrong.row_for_any Wrong.defined → ⊥
unfolding decision_of path_of allowed_path command_path login_path command_of on_reading by_instruction authenticate_of read_by say_of lengths_of short_of extended_of after_data data_of part_of allowed_of settle_of
row_for_any d =
    let i : ToDecide = log_in (replicate 32 0xA1) (replicate 32 0xC1) [] 7 in
    d.authenticate 76 _ (lending i.presence i.session (replicate 76 0) i) refl (refl, omega arith, omega arith) refl refl

-- a body without its signature, and responses without their status
pub row_body : RowsServe Sheets.body_without_signature Wrong.defined → ⊥
unfolding decision_of path_of allowed_path command_path register_path register_ending enrolment_order register_order_of is_register_layout kind_of block part_of data_of command_of on_reading by_instruction register_of challenge_of application_of read_by say_of lengths_of short_of extended_of after_data allowed_of attestation_of settle_of checked_of finish_of next_part_of part_length limit_of
row_body d =
    let e : 394 ≤ 322 = d.body 394 _ (enrolling 394 255 0) (finishing (replicate 72 0)) refl (refl, omega arith, omega arith) (record { ordered = refl; order = refl; block = refl; reply = omega arith }) in
    omega arith

pub row_extended : RowsServe Sheets.extended_without_status Wrong.defined → ⊥
row_extended d = ⊎_elim (λ x. omega arith) (λ x. omega arith) (d.extended 394 _ 0 394 refl (omega arith))

pub row_short : RowsServe Sheets.short_without_status Wrong.defined → ⊥
unfolding small read_by say_of lengths_of short_of extended_of after_data
row_short d =
    let frame : List ℕ = 0x00 ∷ 0x03 ∷ 0x00 ∷ 0x00 ∷ [] in
    ⊎_elim (λ x. omega arith) (λ x. omega arith) (d.short 394 _ frame 300 refl (bytes_of frame refl) refl (omega arith))

-- the longest command is an Authenticate in shape 7, with a handle of 255 bytes
pub row_command : RowsServe Sheets.short_frames_only Wrong.defined → ⊥
unfolding small command_of on_reading by_instruction authenticate_of read_by say_of lengths_of short_of extended_of after_data data_of part_of
row_command d =
    let frame : List ℕ = 0x00 ∷ 0x02 ∷ 0x03 ∷ 0x00 ∷ 0x00 ∷ 0x01 ∷ 0x40 ∷ [] ++ replicate 64 0 ++ 0xFF ∷ [] ++ replicate 255 0 ++ 0x00 ∷ 0x00 ∷ [] in
    let e : 329 ≤ 261 = d.command 394 _ frame refl (bytes_of frame refl) refl in
    omega arith
