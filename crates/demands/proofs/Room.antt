-- Room, for the data sheet: of a panel that meets its contracts, by what R2 tells (ctap1_stated's `room_missing`, signing_stated's `finish_short`).
use Prim.Native.Nat.{ℕ, ◌+◌, ◌-◌, ◌<◌, ◌≤◌}
use mathlib.Core.Path.{◌≡◌, refl, ap, sym, subst, ◌∙◌}
use mathlib.Core.Logic.{◌⊎◌, inl, inr, ⊎_elim}
use mathlib.Core.List.{List}
use native.Mathlib.Omega.{arith}
use lib.ListN.{length, length-replicate}
use Rattle.outcome.specs.Outcome.{Outcome, R, Word, Gives}
use Rattle.apdu_stated.specs.Answers.{Says}
use Rattle.apdu_stated.specs.Reading.{read_by, say_of, lengths_of, short_of, extended_of, after_data}
use Rattle.command_stated.specs.Command.{GetResponse, Register, command_of, on_reading, by_instruction, register_of}
use Rattle.response_stated.specs.Parts.{part_length}
use Rattle.signing_stated.specs.Words.{Order}
use Rattle.signing_stated.specs.Finishing.{finish_of, length_of, room_needed}
use Rattle.signing_stated.proofs.Laws.{finish_short, finish_within}
use Rattle.u2f_up_stated.specs.declared.Presence.{Presence}
use Rattle.u2f_up_stated.specs.Numbers.{presence_in}
use Rattle.ctap1_stated.specs.Words.{Inputs, DecisionGives, Ordered, DecisionResult}
use Rattle.ctap1_stated.specs.Path.{frame_limit}
use Rattle.ctap1_stated.specs.Numbers.{allowed_of, attestation_of}
use Rattle.ctap1_stated.specs.Terms.{Comes}
use Rattle.u2f_up_stated.specs.Terms.{NotRefused}
use Rattle.ctap1_stated.specs.Decision.{decision_of}
use Rattle.ctap1_stated.specs.Table
use Rattle.ctap1_stated.proofs.Laws.{RoomMissing, for_version, for_register, for_login, for_rest, for_part, room_missing, order_has_room, sound, every_answer}
use Rattle.session_stated.specs.Held.{remainder_in}
use Rattle.session_stated.specs.Promises.{inputs_in}
use Rattle.panel_stated.specs.declared.CommandSaid.{CommandSaid}
use Rattle.panel_stated.specs.declared.DecisionSaid.{DecisionSaid}
use Rattle.panel_stated.specs.declared.Wrote.{Wrote}
use Rattle.panel_stated.specs.Numbers.{decided_no}
use Rattle.panel_stated.specs.Terms.{IsNumbered}
use Rattle.panel_stated.specs.Exports.{ToDecide, ToFinish, command_numbers, length_numbers, body_length, decided_by}
use Rattle.panel_stated.proofs.Outcomes as Outcomes
use Rattle.panel_stated.proofs.Theorems as Panel'
use Rattle.demands.specs.Panel.{Panel, Meets}
use Rattle.demands.specs.Answers.{to_end}
use Rattle.demands.specs.Room.{Fits, FinishesIn, ReplyServes, enrolling, NoMoreFits}
use Rattle.demands.proofs.Answers.{ends, order_given, is_its, its_kind}

-- ---- finishing, in numbers
two_told : (o : Outcome (List ℕ)) → IsNumbered o → (length_numbers (length_of o)).answer ≡ 2 → o ≡ R 2
two_told (R n) h e = ap (λ (k : ℕ). R k) e
two_told (Word s) h e = absurd (omega arith)
two_told (Gives body) h e = absurd (omega arith)

-- a length that is said is a body's, or 0
length_told : (o : Outcome (List ℕ)) (n : ℕ) → ((body : List ℕ) → o ≡ Gives body → length body ≤ n) → (length_numbers (length_of o)).length ≤ n
length_told (R k) n within = omega arith
length_told (Word s) n within = omega arith
length_told (Gives body) n within = within body refl

module _ (P : Panel) (M : Meets P) where
  -- R2 of a decision tells which room was not there
  missing : (i : ToDecide) → (P.decide i).said.answer ≡ 2 → RoomMissing (inputs_in i)
  missing i e =
      room_missing (presence_in i.presence) i.moment (inputs_in i)
      (((Panel'.DecisionTells).refused (decided_by i).answer (Outcomes.decision_said (presence_in i.presence) i.moment (inputs_in i)) 2 (omega arith) (omega arith)).0
      (ap (λ (s : DecisionSaid). s.answer) (sym (M.decide i).0) ∙ e))

  is_c0 : (frame : List ℕ) → command_of frame ≡ Gives GetResponse → (P.read_command frame).command ≡ 0xC0
  is_c0 frame c = ap (λ (s : CommandSaid). s.command) (M.read_command frame ∙ ap command_numbers c)

  -- where it fits, that is a GET RESPONSE's: what remains does not stand within the buffer, or the part has no room
  pub only_fetches : (n : ℕ) (i : ToDecide) → Fits 394 n i → (P.decide i).said.answer ≡ 2
      → (command_of i.frame ≡ Gives GetResponse)
      × ((n < (remainder_in i.session).place + (remainder_in i.session).count) ⊎ (length i.part < part_length (frame_limit i.frame) (remainder_in i.session).count + 2))
  only_fetches n i s e = by (missing i e)
    where
      by : RoomMissing (inputs_in i) → (command_of i.frame ≡ Gives GetResponse)
          × ((n < (remainder_in i.session).place + (remainder_in i.session).count) ⊎ (length i.part < part_length (frame_limit i.frame) (remainder_in i.session).count + 2))
      by (for_version c h) = absurd (omega (arith, s.reply, s.certificate, h))
      by (for_register said c h) = absurd (omega (arith, s.reply, s.certificate, s.handle, h))
      by (for_login p1 said c h) = absurd (omega (arith, s.reply, s.certificate, h))
      by (for_rest c h) = (c, inl (omega (arith, s.reply, h)))
      by (for_part c h) = (c, inr h)

  not_served : (n : ℕ) (i : ToDecide) → Fits 394 n i → ((P.read_command i.frame).command ≡ 0xC0 → ⊥) → (P.decide i).said.answer ≡ 2 → ⊥
  not_served n i s other e = other (is_c0 i.frame (only_fetches n i s e).0)

  module _ (n : ℕ) (i : ToDecide) (f : ToFinish) (s : Fits 394 n i) (lent : FinishesIn P n i f) where
    abbrev ending : Outcome (List ℕ)
    ending = finish_of (to_end (decided_by i).order.kind f)

    finished : (P.finish f).said ≡ length_numbers (length_of ending)
    finished = (M.finish f).0 ∙ ap (λ (o : Outcome (List ℕ)). length_numbers (length_of o)) (ends P M f (decided_by i).order.kind (its_kind P M i f lent.ordered lent.order lent.block))

    -- the room that it asks for was there at the decision
    room : room_needed (to_end (decided_by i).order.kind f).order ≤ n
    room =
        subst (λ (o : Order). room_needed o ≤ n) (sym (is_its P M i f lent.ordered lent.order lent.block))
        (omega (arith, s.reply, order_has_room (presence_in i.presence) i.moment (inputs_in i) (order_given P M i lent.ordered)))

    finish_served : (P.finish f).said.answer ≡ 2 → ⊥
    finish_served e =
        let r2 = two_told ending (Outcomes.finish_said _) (ap (λ (w : Wrote). w.answer) (sym finished) ∙ e) in
        omega (arith, finish_short _ r2, room, lent.reply)

    within : (P.finish f).said.length ≤ n
    within = rw finished (length_told ending n (λ body e. omega (arith, finish_within _ body e, room)))

-- ---- the body that a decision gives is Version's
version_body : (i : ToDecide) → decided_no (decision_of (presence_in i.presence) i.moment (inputs_in i)).answer ≡ 0x9000
    → body_length (decision_of (presence_in i.presence) i.moment (inputs_in i)).answer ≤ 6
version_body i =
    every_answer (λ (o : Outcome DecisionGives). decided_no o ≡ 0x9000 → body_length o ≤ 6) (presence_in i.presence) i.moment (inputs_in i)
    (λ e. omega arith) (λ e. omega arith) (λ e. omega arith) (λ e. omega arith) (λ e. omega arith) (λ e. omega arith) (λ e. omega arith) (λ e. omega arith) (λ s c e. omega arith)
    (λ e. omega arith) (λ e. omega arith) (λ n after e. absurd (omega arith))

-- ---- the enrolment
module _ (n h c : ℕ) where
  abbrev lent : Inputs
  lent = inputs_in (enrolling n h c)

  abbrev touched : Presence
  touched = presence_in (enrolling n h c).presence

  comes : (said : Says) × (command_of (enrolling n h c).frame ≡ Gives (Register said))
  unfolding command_of on_reading by_instruction register_of read_by say_of lengths_of short_of extended_of after_data
  comes = (_, refl)

  ready : NotRefused touched 0 0
  ready = (⊎_elim (λ z. omega arith) (λ z. omega arith), ⊎_elim (λ z. omega arith) (λ z. omega arith), ⊎_elim (λ z. omega arith) (λ z. omega arith))

  allowed : Comes lent (Register comes.0)
  unfolding allowed_of
  allowed = (refl, comes.1)

  lengths : (length lent.new_handle ≡ h) × (length lent.certificate ≡ c) × (lent.room ≡ n)
  lengths = (length-replicate {A = ℕ} h 0xB1, length-replicate {A = ℕ} c 0xC1, length-replicate {A = ℕ} n 0)

  too_short : n < 139 + h + c → (decision_of touched 0 lent).answer ≡ R 2
  too_short less = ap (λ (r : DecisionResult). r.answer) (sound touched 0 lent _ (Table.register_short comes.0 ready allowed (omega (arith, lengths.0, lengths.1, lengths.2))))

  enrols : h ≤ 255 → 139 + h + c ≤ n → (decision_of touched 0 lent).answer ≡ Gives Ordered
  unfolding attestation_of
  enrols most room =
      ap (λ (r : DecisionResult). r.answer)
      (sound touched 0 lent _
      (Table.enrols comes.0 (ready, allowed, omega (arith, lengths.0, lengths.1, lengths.2)) ((0, refl, omega arith), refl) refl (omega (arith, lengths.0)) refl))

  module _ (P : Panel) (M : Meets P) where
    answer : (P.decide (enrolling n h c)).said.answer ≡ decided_no (decision_of touched 0 lent).answer
    answer = ap (λ (s : DecisionSaid). s.answer) (M.decide (enrolling n h c)).0

    pub is_refused : n < 139 + h + c → (P.decide (enrolling n h c)).said.answer ≡ 2
    is_refused less = answer ∙ ap decided_no (too_short less)

    pub is_enrolled : h ≤ 255 → 139 + h + c ≤ n → (P.decide (enrolling n h c)).said.answer ≡ 0x0100
    is_enrolled most room = answer ∙ ap decided_no (enrols most room)

-- the frame is a Register
enrolment_read : (P : Panel) → Meets P → (P.read_command (enrolling 393 255 0).frame).command ≡ 1
enrolment_read P M = ap (λ (s : CommandSaid). s.command) (M.read_command (enrolling 393 255 0).frame ∙ ap command_numbers (comes 393 255 0).1)

pub no_more_fits : (P : Panel) → Meets P → NoMoreFits P
no_more_fits P M = record {
  refused = λ n least. is_refused n 255 (n - 393) P M (omega arith);
  fits = λ n least. is_enrolled n 255 (n - 394) P M (omega arith) (omega arith);
  at_254 = λ n least. is_enrolled n 254 (n - 393) P M (omega arith) (omega arith);
  least = λ beside serves.
      let enough : beside < 394 → ⊥ =
      λ less. serves.register 393 (enrolling 393 255 0) (record { reply = refl; certificate = omega (arith, less); handle = omega arith }) (enrolment_read P M) (is_refused 393 255 0 P M (omega arith)) in
      omega (arith, enough);
  of_1024 = (is_enrolled 1024 255 630 P M (omega arith) (omega arith), is_refused 1024 255 631 P M (omega arith));
  of_393 = λ c. is_refused 393 255 c P M (omega arith);
}

pub reply_serves : (P : Panel) → Meets P → ReplyServes 394 P
reply_serves P M = record {
  register = λ n i s c. not_served P M n i s (λ z. omega (arith, c, z));
  authenticate = λ n i s c. not_served P M n i s (λ z. omega (arith, c, z));
  finish = λ n i f s lent. finish_served P M n i f s lent;
  body = λ n i f s lent. within P M n i f s lent;
  version = λ n i s e.
      let same = (M.decide i).0 in
      let six : (P.decide i).said.length ≤ 6 = rw same (version_body i (ap (λ (d : DecisionSaid). d.answer) (sym same) ∙ e)) in
      omega (arith, s.reply, s.certificate, six);
}
