-- No touch is lost to a length: of a panel that meets its contracts by session_stated's theorem on the definitions.
use Prim.Native.Nat.{ℕ, ◌+◌, ◌≤◌}
use mathlib.Core.Path.{◌≡◌, ap, ap₂, sym, subst, ◌∙◌}
use mathlib.Core.Bool.{true}
use mathlib.Core.List.{List, []}
use mathlib.Core.Logic.{◌⊎◌, ⊎_elim}
use native.Mathlib.Omega.{arith}
use borrow.Author.Tests.{eq-eqb, ne_eqb}
use lib.ListN.{length, take}
use Rattle.outcome.specs.Outcome.{Outcome, Gives}
use Rattle.apdu_stated.specs.Answers.{Says}
use Rattle.apdu_stated.specs.Reading.{read_of}
use Rattle.command_stated.specs.Command.{Register, Authenticate, command_of}
use Rattle.command_stated.proofs.Laws.{RegisterExactly, AuthenticateExactly}
use Rattle.response_stated.specs.Words.{rest}
use Rattle.response_stated.specs.declared.Sent.{Sent}
use Rattle.response_stated.specs.Parts.{part_length}
use Rattle.response_stated.specs.Terms.{Goes, Sends, sending_of}
use Rattle.response_stated.specs.Responses.{response_body_of}
use Rattle.response_stated.proofs.Laws.{write_room, front_of, cut_back}
use lib.Dec.{eqb}
use Rattle.outcome.specs.Notation.{when◌then◌else◌}
use Rattle.demands.specs.Sessions.{first_part_of, first_bytes}
use Rattle.signing_stated.specs.Orders.{is_of_layout, kind_no, certificate_length}
use Rattle.signing_stated.specs.Words.{Order}
use Rattle.signing_stated.proofs.Laws.{finish_gives, body_full}
use Rattle.signing_stated.specs.Finishing.{Finishing, Ended, end_of, length_of, reply_of, room_needed, body_of}
use Rattle.u2f_up_stated.specs.Numbers.{presence_in}
use Rattle.ctap1_stated.specs.Words.{Inputs, DecisionGives, DecisionResult}
use Rattle.ctap1_stated.specs.Terms.{room_of_register}
use Rattle.ctap1_stated.specs.Path.{frame_limit}
use Rattle.ctap1_stated.specs.Decision.{decision_of}
use Rattle.ctap1_stated.proofs.Laws.{AskedWith, of_register, of_authenticate, asked_with, order_whole, orders_of_layout}
use Rattle.session_stated.specs.declared.Session.{Session}
use Rattle.session_stated.specs.Held.{session_in, session_after, frame_room_of}
use Rattle.session_stated.specs.Promises.{inputs_in}
use Rattle.session_stated.specs.Terms.{Answered}
use Rattle.session_stated.proofs.Laws.{by_order, ordered_limit}
use Rattle.panel_stated.specs.declared.CommandSaid.{CommandSaid}
use Rattle.panel_stated.specs.declared.RoomSaid.{RoomSaid}
use Rattle.panel_stated.specs.declared.Wrote.{Wrote}
use Rattle.panel_stated.specs.Exports.{ToDecide, ToFinish, command_numbers, length_numbers, sent_numbers, room_numbers, nexts_of}
use Rattle.demands.specs.Panel.{Panel, Meets}
use Rattle.demands.specs.Answers.{to_end}
use Rattle.demands.specs.Demands.{ToFinishOf, LongestBody, NoTouchIsLost}
use Rattle.demands.proofs.Answers.{ends, is_order, the_order, the_kind, the_length}
use Rattle.demands.proofs.Fetched.{room_is}

-- ---- the frame of an order, by the order's kind: what it is read as, and that the longest body of its command was asked for
module _ (a : Inputs) (longest : ℕ) where
  abbrev Asked : CommandSaid → Type 0
  Asked c = ((c.command ≡ 1) × (longest ≡ 139 + length a.new_handle + length a.certificate)) ⊎ ((c.command ≡ 2) × (longest ≡ 77))

  read_as : (k n : ℕ) → AskedWith a k n → (said : Says) × (read_of a.frame ≡ Gives said)
  read_as _ _ (of_register said c) = (said, ((RegisterExactly a.frame said).0 c).0)
  read_as _ _ (of_authenticate p1 said c) = (said, ((AuthenticateExactly a.frame p1 said).0 c).0)

  by_kind : (k n : ℕ) → AskedWith a k n → Asked (command_numbers (command_of a.frame)) → (k ≡ 1 → room_of_register a ≤ longest) × (k ≡ 2 → 77 ≤ longest)
  by_kind _ _ (of_register said c) h =
      let is : Asked (command_numbers (Gives (Register said))) = rw c at h in
      (λ z. ⊎_elim (λ x. omega (arith, x.1)) (λ x. absurd (omega (arith, x.0))) is, λ z. absurd (omega (arith, z)))
  by_kind _ _ (of_authenticate p1 said c) h =
      let is : Asked (command_numbers (Gives (Authenticate p1 said))) = rw c at h in
      (λ z. absurd (omega (arith, z)), λ z. ⊎_elim (λ x. absurd (omega (arith, x.0))) (λ x. omega (arith, x.1)) is)

-- the room that an order asks for is the longest body of its command
longest_of : (a : Inputs) (longest k n : ℕ) → AskedWith a k n → Asked a longest (command_numbers (command_of a.frame)) → n ≡ longest
longest_of a longest _ _ (of_register said c) h =
    let is : Asked a longest (command_numbers (Gives (Register said))) = rw c at h in
    ⊎_elim (λ x. omega (arith, x.1)) (λ x. absurd (omega (arith, x.0))) is
longest_of a longest _ _ (of_authenticate p1 said c) h =
    let is : Asked a longest (command_numbers (Gives (Authenticate p1 said))) = rw c at h in
    ⊎_elim (λ x. absurd (omega (arith, x.0))) (λ x. omega (arith, x.1)) is

module _ (P : Panel) (M : Meets P) (i : ToDecide) (f : ToFinish) (longest : ℕ) (lent : ToFinishOf P i f) (is_longest : LongestBody P i longest) where
  abbrev its : DecisionResult
  its = decision_of (presence_in i.presence) i.moment (inputs_in i)

  abbrev ending : Finishing
  ending = to_end its.order.kind f

  comes_to : f.signed ≡ 1 → length f.signature ≡ 72 → (P.finish f).said.length ≡ longest
  comes_to signed is =
      let o = the_order P M i f lent in
      let layout : is_of_layout ending.order ≡ true = ap is_of_layout o ∙ orders_of_layout (presence_in i.presence) i.moment (inputs_in i) lent.blocks (is_order P M i f lent) in
      let whole : length ending.order.bytes ≡ 385 = ap (λ (x : Order). length x.bytes) o ∙ order_whole (presence_in i.presence) i.moment (inputs_in i) (is_order P M i f lent) in
      let certificate : length ending.certificate ≡ certificate_length ending.order = the_length P M i f lent ∙ sym (ap certificate_length o) in
      let asked = asked_with (presence_in i.presence) i.moment (inputs_in i) lent.blocks (is_order P M i f lent) in
      let room : room_needed ending.order ≤ length ending.reply = omega (arith, ap room_needed o, asked.1, lent.reply) in
      let given = finish_gives ending layout certificate room (eq-eqb f.signed 1 signed) (omega (arith, is)) in
      let all : length (body_of ending.order.kind ending.order ending.certificate ending.signature) ≡ room_needed ending.order =
      body_full ending.order.kind ending.order ending.certificate ending.signature layout whole certificate is in
      ap (λ (w : Wrote). w.length)
      ((M.finish f).0 ∙ ap (λ (x : Outcome (List ℕ)). length_numbers (length_of x)) (ends P M f its.order.kind (the_kind P M i f lent) ∙ given.0))
      ∙ all ∙ ap room_needed o
      ∙ longest_of (inputs_in i) longest _ _ asked.0 (subst (λ (c : CommandSaid). Asked (inputs_in i) longest c) (M.read_command i.frame) is_longest)

-- what goes out with a part that was sent
sent_bytes : (body : List ℕ) (n limit : ℕ) (old bytes : List ℕ) (status : ℕ) (after : _) → Sends (sending_of body (rest 0 n) limit old) bytes status after
    → first_bytes (nexts_of (record { place = 0; count = n; limit = limit }) body old) ≡ bytes
sent_bytes body n limit old bytes status after s =
    ap₂ (λ (o : Outcome Sent) (l : List ℕ). when eqb (sent_numbers o).answer 0x9000 then response_body_of (take (sent_numbers o).length l) else []) s.says s.holds
    ∙ ap response_body_of (front_of bytes status s.behind) ∙ cut_back bytes _ _

module _ (P : Panel) (M : Meets P) (i : ToDecide) (f : ToFinish) (part : List ℕ) (longest : ℕ) (lent : ToFinishOf P i f) (is_longest : LongestBody P i longest)
    (asked : (P.response_room i.frame longest).answer ≡ 0x9000) (had : (P.response_room i.frame longest).length ≤ length part) where
  abbrev decided : DecisionResult
  decided = decision_of (presence_in i.presence) i.moment (inputs_in i)

  abbrev end : Finishing
  end = to_end decided.order.kind f

  with_it : AskedWith (inputs_in i) (kind_no decided.order.kind) (room_needed decided.order)
  with_it = (asked_with (presence_in i.presence) i.moment (inputs_in i) lent.blocks (is_order P M i f lent)).0

  said : (s : Says) × (read_of i.frame ≡ Gives s)
  said = read_as (inputs_in i) longest _ _ with_it

  room : frame_room_of i.frame longest ≡ Gives (part_length (frame_limit i.frame) longest + 2)
  room = room_is i.frame said.0 longest said.1 (ap (λ (s : RoomSaid). s.answer) (sym (M.response_room i.frame longest)) ∙ asked)

  fits : part_length (frame_limit i.frame) longest + 2 ≤ length part
  fits = omega (arith, ap (λ (s : RoomSaid). s.length) (M.response_room i.frame longest), ap (λ (o : Outcome ℕ). (room_numbers o).length) room, had)

  least : (kind_no decided.order.kind ≡ 1 → room_of_register (inputs_in i) ≤ longest) × (kind_no decided.order.kind ≡ 2 → 77 ≤ longest)
  least =
      by_kind (inputs_in i) longest _ _ with_it
      (subst (λ (c : CommandSaid). Asked (inputs_in i) longest c) (M.read_command i.frame) is_longest)

  answered : Answered end_of sending_of end (frame_limit i.frame) part
  answered =
      by_order (presence_in i.presence) i.moment (inputs_in i) end part longest (part_length (frame_limit i.frame) longest + 2) lent.blocks (is_order P M i f lent) least.0 least.1
      room fits (the_order P M i f lent) (the_length P M i f lent ∙ sym (ap certificate_length (the_order P M i f lent))) lent.reply lent.signature

  -- what the panel finishes with
  finished : (P.finish f).said ≡ length_numbers (end_of end).answer
  finished = (M.finish f).0 ∙ ap (λ (x : Outcome (List ℕ)). length_numbers (length_of x)) (ends P M f decided.order.kind (the_kind P M i f lent))

  body : (P.finish f).buffer ≡ (end_of end).reply
  body = (M.finish f).1 ∙ ap (λ (x : Outcome (List ℕ)). reply_of x f.reply) (ends P M f decided.order.kind (the_kind P M i f lent))

  -- and the limit that its decision left
  limit : (session_in (P.decide i).session).limit ≡ frame_limit i.frame
  limit =
      ap (λ (s : Session). s.limit) (M.decide i).2
      ∙ ap (λ (o : Outcome DecisionGives). (session_after o (read_of i.frame) (session_in i.session)).limit) (is_order P M i f lent)
      ∙ ordered_limit i.frame (session_in i.session)

  abbrev first : (n limit : ℕ) (l : List ℕ) → ℕ
  first n limit l = (nexts_of (record { place = 0; count = n; limit = limit }) l part).said.answer

  abbrev bytes : (n limit : ℕ) (l : List ℕ) → List ℕ
  bytes n limit l = first_bytes (nexts_of (record { place = 0; count = n; limit = limit }) l part)

  sends : f.signed ≡ 1
      → ((P.finish f).said.answer ≡ 0x9000)
      × ((first_part_of P i f part).said.answer ≡ 0x9000)
      × ((n : ℕ) × Goes (session_in (P.decide i).session).limit (P.finish f).said.length n × (first_bytes (first_part_of P i f part) ≡ take n (P.finish f).buffer))
  sends signed =
      let s = answered.served (eq-eqb f.signed 1 signed) in
      let ends = finished ∙ ap length_numbers s.1 in
      let long = ap (λ (w : Wrote). w.length) ends in (
        ap (λ (w : Wrote). w.answer) ends,
        ap (λ (w : Wrote). w.answer) (M.next_part (record { place = 0; count = (P.finish f).said.length; limit = (session_in (P.decide i).session).limit }) (P.finish f).buffer part).0
            ∙ ap (λ (l : List ℕ). first (P.finish f).said.length (session_in (P.decide i).session).limit l) body
            ∙ ap₂ (λ (n k : ℕ). first n k (end_of end).reply) long limit
            ∙ ap (λ (o : Outcome Sent). (sent_numbers o).answer) s.2.sends.says,
        (
          s.2.part,
          rw (limit, long) s.2.goes,
          ap₂ (λ (w : Wrote) (l : List ℕ). when eqb w.answer 0x9000 then response_body_of (take w.length l) else [])
              (M.next_part (record { place = 0; count = (P.finish f).said.length; limit = (session_in (P.decide i).session).limit }) (P.finish f).buffer part).0
              (M.next_part (record { place = 0; count = (P.finish f).said.length; limit = (session_in (P.decide i).session).limit }) (P.finish f).buffer part).2
              ∙ ap (λ (l : List ℕ). bytes (P.finish f).said.length (session_in (P.decide i).session).limit l) body
              ∙ ap₂ (λ (n k : ℕ). bytes n k (end_of end).reply) long limit
              ∙ sent_bytes (end_of end).reply s.0 (frame_limit i.frame) part _ _ _ s.2.sends
              ∙ ap (take s.2.part) (sym body),
        ),
      )

  tells : (f.signed ≡ 1 → ⊥) → ((P.finish f).said.answer ≡ 0x6f00) × ((P.write_response [] 0x6f00 part).said.answer ≡ 0x9000)
  tells not = (
    ap (λ (w : Wrote). w.answer) (finished ∙ ap (λ (e : Ended). length_numbers e.answer) (answered.failed (ne_eqb f.signed 1 not))),
    ap (λ (w : Wrote). w.answer) ((M.write_response [] 0x6f00 part).0 ∙ ap length_numbers (sym (write_room [] (length part) (omega (arith, fits)) (omega arith)))),
  )

pub none_lost : (P : Panel) → Meets P → NoTouchIsLost P
none_lost P M = record {
  served = λ i f part longest lent is_longest asked had signed. sends P M i f part longest lent is_longest asked had signed;
  longest = λ i f longest lent is_longest signed is. comes_to P M i f longest lent is_longest signed is;
  failed = λ i f part longest lent is_longest asked had not. tells P M i f part longest lent is_longest asked had not;
}
