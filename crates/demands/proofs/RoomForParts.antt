-- The room for part and status, of a panel that meets its contracts.
use Prim.Native.Nat.{ℕ, ◌+◌, ◌<◌, ◌≤◌}
use mathlib.Core.Path.{◌≡◌, refl, ap, sym, ◌∙◌}
use mathlib.Core.Logic.{◌↔◌, ◌⊎◌, inl, inr, ⊎_elim}
use mathlib.Core.List.{List}
use native.Mathlib.Omega.{arith}
use native.Mathlib.Decide.{dec_lt, ℕ_discrete}
use lib.ListN.{length}
use Rattle.outcome.specs.Outcome.{Outcome, R, Word, Gives, last_refusal}
use Rattle.octets.specs.Bytes.{AreBytes}
use Rattle.apdu_stated.specs.Answers.{Says}
use Rattle.apdu_stated.specs.Reading.{read_of}
use Rattle.response_stated.specs.declared.Remainder.{Remainder}
use Rattle.response_stated.specs.declared.Sent.{Sent}
use Rattle.response_stated.specs.Parts.{limit_of, part_length, next_part_of}
use Rattle.response_stated.specs.Responses.{write_response_of}
use Rattle.response_stated.proofs.Laws.{PartWay, whole, cut, last, part_way, part_monotone, NextWay, short_body, short_buffer, given, next_way, write_room, write_short, limit_of_frames}
use Rattle.u2f_up_stated.specs.Numbers.{presence_in}
use Rattle.ctap1_stated.specs.Words.{DecisionGives}
use Rattle.ctap1_stated.specs.Path.{frame_limit, limit_on}
use Rattle.session_stated.specs.declared.Session.{Session}
use Rattle.session_stated.specs.Held.{remainder_in, session_in, session_after}
use Rattle.session_stated.specs.declared.SessionRecord.{SessionRecord}
use Rattle.session_stated.specs.Promises.{inputs_in}
use Rattle.panel_stated.specs.declared.FrameSaid.{FrameSaid}
use Rattle.panel_stated.specs.declared.RoomSaid.{RoomSaid}
use Rattle.panel_stated.specs.Numbers.{decided_no}
use Rattle.panel_stated.specs.Terms.{IsNumbered}
use Rattle.panel_stated.specs.Exports.{frame_numbers, length_numbers, sent_numbers, room_numbers, decided_by}
use Rattle.panel_stated.proofs.Outcomes as Outcomes
use borrow.Author.Tests.{le-leb, eq-eqb, ne_eqb}
use Rattle.octets.proofs.Laws.{length_laid}
use Rattle.command_stated.proofs.Laws.{GetResponseExactly}
use Rattle.signing_stated.specs.Finishing.{reply_of}
use Rattle.ctap1_stated.proofs.Laws.{order_read}
use Rattle.panel_stated.specs.Exports.{ToDecide, ToFinish, finish_numbered}
use lib.ListN.{replicate}
use Rattle.demands.specs.Sessions.{first_part_of}
use Rattle.demands.specs.Room.{Fits, FinishesIn, takes}
use Rattle.demands.proofs.Answers.{order_given}
use Rattle.demands.specs.Panel.{Panel, Meets}
use Rattle.demands.specs.Room.{GoesIn, ResponsesServed}
use Rattle.demands.proofs.Fetched.{room_is}
use Rattle.demands.proofs.Room.{only_fetches, reply_serves}

holds_part : (m limit n : ℕ) → GoesIn m limit n ↔ (part_length limit n + 2 ≤ m)
holds_part m limit n = (λ h. enough (part_way limit n) h, λ h. back (part_way limit n) h)
  where
    enough : {k : ℕ} → PartWay limit n k → GoesIn m limit n → k + 2 ≤ m
    enough (whole z) = ⊎_elim (λ x. x) (λ x. absurd (omega (arith, z, x.0)))
    enough (cut some less) = ⊎_elim (λ x. omega arith) (λ x. x.1)
    enough (last some most) = ⊎_elim (λ x. x) (λ x. omega (arith, most, x.1))

    back : {k : ℕ} → PartWay limit n k → k + 2 ≤ m → GoesIn m limit n
    back (whole z) h = inl h
    back (cut some less) h = inr (some, h)
    back (last some most) h = inl h

-- and what holds n holds less
holds_less : (m limit n k : ℕ) → GoesIn m limit n → k ≤ n → part_length limit k + 2 ≤ m
holds_less m limit n k h less = omega (arith, (holds_part m limit n).0 h, part_monotone limit k n less)

-- a part, in numbers
part_refused : (body_room : ℕ) (r : Remainder) (limit m : ℕ) → r.place + r.count ≤ body_room
    → ((sent_numbers (next_part_of body_room r limit m)).answer ≡ 2) ↔ (m < part_length limit r.count + 2)
part_refused body_room r limit m in_Body = go (next_way body_room r limit m)
  where
    go : {o : Outcome Sent} → NextWay body_room r limit m o → ((sent_numbers o).answer ≡ 2) ↔ (m < part_length limit r.count + 2)
    go (short_body h) = absurd (omega arith)
    go (short_buffer _ h) = (λ e. h, λ x. refl)
    go (given _ h) = (λ e. absurd (omega arith), λ x. absurd (omega arith))

write_refused : (body : List ℕ) (m : ℕ) → ((length_numbers (write_response_of body m)).answer ≡ 2) ↔ (m < length body + 2)
write_refused body m = go (dec_lt m (length body + 2))
  where
    go : Dec (m < length body + 2) → ((length_numbers (write_response_of body m)).answer ≡ 2) ↔ (m < length body + 2)
    go (yes h) = (λ e. h, λ x. ap (λ (o : Outcome ℕ). (length_numbers o).answer) (sym (write_short body m h)))
    go (no h) =
        let given = ap (λ (o : Outcome ℕ). (length_numbers o).answer) (sym (write_room body m (omega arith) (omega arith))) in
        (λ e. absurd (omega (arith, given, e)), λ x. absurd (h x))

-- ---- frames that are read
is_read : (o : Outcome Says) → IsNumbered o → (frame_numbers o).answer ≡ 0x9000 → (said : Says) × (o ≡ Gives said)
is_read (R n) h e = absurd (omega arith)
is_read (Word s) h e = absurd (omega arith)
is_read (Gives said) h e = (said, refl)

-- what a decision that is not refused leaves for its limit
limit_left : (o : Outcome DecisionGives) (read : Outcome Says) (s : Session) → IsNumbered o → last_refusal < decided_no o → (session_after o read s).limit ≡ limit_on read
limit_left (R n) read s h e = absurd (omega arith)
limit_left (Word w) read s h e = refl
limit_left (Gives g) read s h e = refl

-- how much a frame takes at a time
by_le : (s : FrameSaid) → s.shape ≤ 4 → ((1 ≤ s.le) × (takes s ≡ s.le)) ⊎ ((s.le ≡ 0) × (takes s ≡ 256))
by_le s few = by (ℕ_discrete s.le 0)
  where
    by : Dec (s.le ≡ 0) → ((1 ≤ s.le) × (takes s ≡ s.le)) ⊎ ((s.le ≡ 0) × (takes s ≡ 256))
    by (yes z) = inr (z, rw (le-leb s.shape 4 few, eq-eqb s.le 0 z))
    by (no n) = inl (omega (arith, n), rw (le-leb s.shape 4 few, ne_eqb s.le 0 n))

-- 256 bytes take every part exactly where that is 1 to 254; a body of 300 shows it
in_all : (s : FrameSaid) → s.shape ≤ 4 → GoesIn 256 (takes s) 300 → (1 ≤ s.le) × (s.le ≤ 254)
in_all s few = ⊎_elim (λ x. absurd (omega arith)) (λ x. ⊎_elim (λ y. (y.0, omega (arith, x.1, y.1))) (λ y. absurd (omega (arith, x.1, y.1))) (by_le s few))

all_in : (s : FrameSaid) → s.shape ≤ 4 → (1 ≤ s.le) × (s.le ≤ 254) → (n : ℕ) → GoesIn 256 (takes s) n
all_in s few h n = inr (⊎_elim (λ y. (omega (arith, y.0, y.1), omega (arith, h.1, y.1))) (λ y. absurd (omega (arith, h.0, y.0))) (by_le s few))

at_most : {m k : ℕ} → (m < k → ⊥) → k ≤ m
at_most not = omega (arith, not)

less_than : {m k : ℕ} → (k ≤ m → ⊥) → m < k
less_than not = omega (arith, not)

-- a finished body is in its buffer
same_length : (o : Outcome (List ℕ)) (old : List ℕ) → length (reply_of o old) ≡ length old
same_length (R n) old = refl
same_length (Word s) old = refl
same_length (Gives body) old = length_laid body old

module _ (P : Panel) (M : Meets P) where
  takes_is : (frame : List ℕ) (said : Says) → read_of frame ≡ Gives said → takes (P.read frame) ≡ frame_limit frame
  unfolding frame_limit limit_of
  takes_is frame said r = ap takes (M.read frame) ∙ rw r

  module _ (frame : List ℕ) (taken : (P.read frame).answer ≡ 0x9000) where
    says : (said : Says) × (read_of frame ≡ Gives said)
    says = is_read (read_of frame) (Outcomes.read_said frame) (ap (λ (s : FrameSaid). s.answer) (sym (M.read frame)) ∙ taken)

    limit_is : takes (P.read frame) ≡ frame_limit frame
    limit_is = takes_is frame says.0 says.1

    pub in_258 : AreBytes frame → (P.read frame).shape ≤ 4 → (n : ℕ) → GoesIn 258 (takes (P.read frame)) n
    unfolding frame_limit
    in_258 bytes few n =
        let limit : takes (P.read frame) ≡ limit_of says.0 = limit_is ∙ ap limit_on says.1 in
        let most : limit_of says.0 ≤ 256 = limit_of_frames.most frame says.0 bytes says.1 in
        inr (⊎_elim (λ x. omega (arith, x.0, x.1)) (λ x. omega (arith, x.1)) (by_le (P.read frame) few), omega (arith, most, limit))

    -- the room that is said is the least
    asked : (n m : ℕ) → (P.response_room frame n).answer ≡ 0x9000 → ((P.response_room frame n).length ≤ m) ↔ GoesIn m (takes (P.read frame)) n
    asked n m e =
        let room : (P.response_room frame n).length ≡ part_length (takes (P.read frame)) n + 2 =
        ap (λ (r : RoomSaid). r.length) (M.response_room frame n ∙ ap room_numbers (room_is frame says.0 n says.1 (ap (λ (r : RoomSaid). r.answer) (sym (M.response_room frame n)) ∙ e)))
        ∙ ap (λ (k : ℕ). part_length k n + 2) (sym limit_is) in
        (λ h. (holds_part m (takes (P.read frame)) n).1 (omega (arith, room, h)), λ h. omega (arith, room, (holds_part m (takes (P.read frame)) n).0 h))

  -- what a decision that is not refused leaves
  left_limit : (i : ToDecide) → last_refusal < (P.decide i).said.answer → (session_in (P.decide i).session).limit ≡ frame_limit i.frame
  unfolding frame_limit
  left_limit i above =
      ap (λ (s : Session). s.limit) (M.decide i).2
      ∙ limit_left (decided_by i).answer (read_of i.frame) (session_in i.session) (Outcomes.decision_said (presence_in i.presence) i.moment (inputs_in i)) (rw (M.decide i).0 at above)

  part_exactly : (session : SessionRecord) (body part : List ℕ) → (remainder_in session).place + (remainder_in session).count ≤ length body
      → ((P.next_part session body part).said.answer ≡ 2) ↔ (length part < part_length (session_in session).limit (remainder_in session).count + 2)
  part_exactly session body part in_Body = rw (M.next_part session body part).0 (part_refused (length body) (remainder_in session) (session_in session).limit (length part) in_Body)

  -- of an order that is finished in n bytes
  first_goes : (n : ℕ) (i : ToDecide) (f : ToFinish) (part : List ℕ) → Fits 394 n i → FinishesIn P n i f
      → GoesIn (length part) (takes (P.read i.frame)) n → (first_part_of P i f part).said.answer ≡ 2 → ⊥
  first_goes n i f part s lent h e =
      let ordered = lent.ordered in
      let read = order_read (presence_in i.presence) i.moment (inputs_in i) (order_given P M i ordered) in
      let limit : (session_in (P.decide i).session).limit ≡ takes (P.read i.frame) = left_limit i (omega (arith, ordered)) ∙ sym (takes_is i.frame read.0 read.1) in
      let most : (P.finish f).said.length ≤ n = (reply_serves P M).body n i f s lent in
      let whole : length (P.finish f).buffer ≡ length f.reply = ap length (M.finish f).1 ∙ same_length (finish_numbered f) f.reply in
      let x = (part_exactly (record { place = 0; count = (P.finish f).said.length; limit = (session_in (P.decide i).session).limit }) (P.finish f).buffer part (omega (arith, most, whole, lent.reply))).0 e in
      let room : length part < part_length (takes (P.read i.frame)) (P.finish f).said.length + 2 = rw (← limit) x in
      omega (arith, room, holds_less (length part) (takes (P.read i.frame)) n (P.finish f).said.length h most)

  pub responses_served : ResponsesServed P
  responses_served = record {
    decided = λ n i s left h e.
        let fetches = only_fetches P M n i s e in
        let read = (GetResponseExactly i.frame).0 fetches.0 in
        let less = holds_less (length i.part) (takes (P.read i.frame)) n (remainder_in i.session).count h (omega (arith, left)) in
        let room : part_length (frame_limit i.frame) (remainder_in i.session).count + 2 ≤ length i.part = rw (← takes_is i.frame read.0 read.1) less in
        ⊎_elim (λ x. omega (arith, left, x)) (λ x. omega (arith, x, room)) fetches.1;
    first = first_goes;
    sent = λ session body part in_Body.
        let exact = part_exactly session body part in_Body in
        let part_is = holds_part (length part) (session_in session).limit (remainder_in session).count in (
          λ e h. omega (arith, exact.0 e, part_is.0 h),
          λ none. exact.1 (less_than (λ fits. none (part_is.1 fits))),
        );
    limit = λ i taken above. left_limit i above ∙ sym (limit_is i.frame taken);
    written = λ body status part. rw (M.write_response body status part).0 (write_refused body (length part));
    short = λ frame bytes taken few. in_258 frame taken bytes few;
    in_256 = λ i taken few above.
        let limit : (session_in (P.decide i).session).limit ≡ takes (P.read i.frame) = left_limit i above ∙ sym (limit_is i.frame taken) in
        let k = takes (P.read i.frame) in (
          λ none.
              let exact = part_exactly (record { place = 0; count = 300; limit = (session_in (P.decide i).session).limit }) (replicate 300 0) (replicate 256 0) (omega arith) in
              let fits : part_length k 300 + 2 ≤ 256 = rw (← limit) (at_most (λ less. none (replicate 300 0) (replicate 256 0) refl (exact.1 less))) in
              in_all (P.read i.frame) few ((holds_part 256 k 300).1 fits),
          λ h body part long e.
              let less = (part_exactly (record { place = 0; count = length body; limit = (session_in (P.decide i).session).limit }) body part (omega arith)).0 e in
              let room : length part < part_length k (length body) + 2 = rw (← limit) less in
              omega (arith, room, long, (holds_part 256 k (length body)).0 (all_in (P.read i.frame) few h (length body))),
        );
    asked = λ frame n m taken e. asked frame taken n m e;
  }
