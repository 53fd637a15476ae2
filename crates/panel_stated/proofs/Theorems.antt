-- The definitions meet the claims of specs/Claims.antt, each under the claim's own name.
use Prim.Native.Nat.{ℕ, ◌≤◌, ◌<◌, ◌+◌}
use mathlib.Core.Path.{◌≡◌, refl, ap, sym, subst, ◌∙◌}
use mathlib.Core.Logic.{◌↔◌, ◌⊎◌, inl, inr, ⊎_elim}
use mathlib.Core.Bool.{Bool}
use mathlib.Core.List.{List}
use native.Mathlib.Omega.{arith}
use borrow.Author.Tests.{ne_eqb, lt-ltb, le-ltb}
use lib.ListN.{length}
use Rattle.outcome.specs.Outcome.{StatusWord, Outcome, R, Word, Gives, last_refusal}
use Rattle.outcome.specs.Terms.{HasStatus}
use Rattle.outcome.proofs.Laws.{word_same, word_gives, r_gives, r_word, both_are}
use Rattle.octets.specs.Bytes.{part_of}
use Rattle.apdu_stated.specs.Answers.{Says}
use Rattle.apdu_stated.specs.Reading.{data_of}
use Rattle.apdu_stated.specs.Writing.{parts_of}
use Rattle.apdu_stated.proofs.Laws.{data_within}
use Rattle.command_stated.specs.Command.{Command, command_of, challenge_of, application_of, handle_of}
use Rattle.command_stated.proofs.Laws.{RegisterExactly, AuthenticateExactly}
use Rattle.u2f_up_stated.specs.Terms.{BadWindow, BadSide}
use Rattle.u2f_up_stated.specs.Moments.{new_of, Told, settle_of, on_settled, touch_of, check_of, ask_of}
use Rattle.u2f_up_stated.specs.declared.Presence.{Presence}
use Rattle.u2f_up_stated.proofs.Laws.{touches_exactly, checks_exactly, asks_exactly}
use Rattle.u2f_up_stated.proofs.Laws.{five_apart}
use Rattle.u2f_up_stated.specs.declared.PresenceRecord.{PresenceRecord}
use Rattle.signing_stated.specs.Orders.{kind_no, head_of}
use Rattle.ctap1_stated.specs.Words.{Inputs, DecisionGives, Body, Ordered, Part}
use Rattle.ctap1_stated.specs.Decision.{decision_of, block_after}
use Rattle.ctap1_stated.proofs.Laws.{side_refused_exactly}
use Rattle.panel_stated.specs.Words.{Kind, Order, OrderNumbers, Remainder, Entry, Ordinary, Strict, presence_in, inputs_in}
use Rattle.panel_stated.specs.Numbers.{answer_no, decided_no, fault_no, place_no, presence_numbers, session_numbers, shape_of, kind_of}
use Rattle.panel_stated.specs.Exports.{ToWrite, ToDecide, ToFinish, write_as, finish_as, write_numbered, reads_of, writes_of, finish_numbered, head_after, frame_numbers, command_numbers, length_numbers, made_over, makes_of, asked_numbers, touches_of, checks_of, asks_of, decision_numbers, decided_by, response_numbers, sent_numbers, room_numbers, rooms_of, responds_of, nexts_of, decides_of, body_length}
use Rattle.panel_stated.specs.Promises.{BrinecandleNew, BrinecandleDecide}
use Rattle.panel_stated.specs.Claims
use Rattle.panel_stated.specs.Terms.{SameNumbers, NoShape, nought, retired, above, IsNumbered, AfterMaking, AfterStep, AfterWriting, AfterDeciding, AfterPart, HasData, register, authenticate}
use Rattle.panel_stated.specs.Words.{Shaped}
use Rattle.std.specs.Prelude.{Some, None}
use Rattle.panel_stated.specs.Words.{Kinded}
use Rattle.panel_stated.proofs.Cases
use Rattle.panel_stated.proofs.Lists.{record_back, same_record, same_session}
use Rattle.panel_stated.proofs.Outcomes
use Rattle.panel_stated.proofs.Exported.{reader_exported, writer_exported, decide_exported, decide_anew, next_part_exported, room_exported, response_exported}

-- ---- one answer number says which answer it is
pub EveryOutcomeNumbered : Claims.EveryOutcomeNumbered
EveryOutcomeNumbered =
    record {
      read = Outcomes.read_said;
      read_strict = Outcomes.strict_said;
      read_command = Outcomes.command_said;
      write = λ entry w. write entry (shape_of w.shape) w;
      new = Outcomes.new_said;
      grant_up = Outcomes.touch_said;
      consume_up = λ p s t. Outcomes.check_said p t s;
      is_up_needed = Outcomes.ask_said;
      decide = λ i. Outcomes.decision_said (presence_in i.presence) i.moment (inputs_in i);
      finish = λ i. finish (kind_of i.order.kind) i;
      write_response = Outcomes.write_response_said;
      read_response = Outcomes.read_response_said;
      next_part = Outcomes.next_said;
      response_room = Outcomes.room_said;
    }
  where
    write : (entry : Entry) (s : Shaped) (w : ToWrite) → IsNumbered (write_as entry s w)
    write entry (Some s) w = Outcomes.write_said entry (parts_of w.header s w.content w.le) (length w.out)
    write entry None w = (omega arith, omega arith)

    finish : (k : Kinded) (i : ToFinish) → IsNumbered (finish_as k i)
    finish (Some k) i = Outcomes.finish_said _
    finish None i = (omega arith, omega arith)

same_number : {A : Type 0} (v w : StatusWord) → ◌≡◌ {A = Outcome A} (Word v) (Word w) → v.number ≡ w.number
same_number v w e = ap (λ (s : StatusWord). s.number) (word_same v w e)

pub AnswerTells : Claims.AnswerTells answer_no
AnswerTells = record { given = given; refused = refused; status = status }
  where
    given : (o : Outcome Bool) → IsNumbered o → (answer_no o ≡ 0x9000) ↔ ((a : Bool) × (o ≡ Gives a))
    given (R n) h = (λ e. absurd (omega (arith, e, h.1)), λ x. absurd (r_gives _ _ x.1))
    given (Word s) h = (λ e. absurd (omega (arith, e, h.1)), λ x. absurd (word_gives _ _ x.1))
    given (Gives a) h = (λ e. (a, refl), λ x. refl)

    refused : (o : Outcome Bool) → IsNumbered o → (n : ℕ) → n ≤ last_refusal → (answer_no o ≡ n) ↔ (o ≡ R n)
    refused (R m) h n low = (λ e. ap R e, λ e. cc)
    refused (Word s) h n low = (λ e. absurd (omega (arith, e, h.0, low)), λ e. absurd (r_word _ _ (sym e)))
    refused (Gives a) h n low = (λ e. absurd (omega (arith, e, low)), λ e. absurd (r_gives _ _ (sym e)))

    status : (o : Outcome Bool) → IsNumbered o → (n : ℕ) → 0x6000 ≤ n → n < 0x9000 → (answer_no o ≡ n) ↔ HasStatus n o
    status (R m) h n low high = (λ e. absurd (omega (arith, e, h.1, low)), λ x. absurd (r_word _ _ x.is))
    status (Word s) h n low high = (λ e. record { word = s; is = refl; numbered = e }, λ x. same_number s x.word x.is ∙ x.numbered)
    status (Gives a) h n low high = (λ e. absurd (omega (arith, e, high)), λ x. absurd (word_gives _ _ (sym x.is)))

pub DecisionTells : Claims.DecisionTells decided_no
DecisionTells = record { ordered = ordered; body = body; part = part; refused = refusal; status = status }
  where
    body_order : (n : ℕ) → ◌≡◌ {A = Outcome DecisionGives} (Gives (Body n)) (Gives Ordered) → ⊥
    body_order n e = let z : ◌≡◌ {A = ℕ} 0 1 = cc in omega arith

    part_order : (n : ℕ) (r : Remainder) → ◌≡◌ {A = Outcome DecisionGives} (Gives (Part n r)) (Gives Ordered) → ⊥
    part_order n r e = let z : ◌≡◌ {A = ℕ} 0 1 = cc in omega arith

    part_body : (n : ℕ) (r : Remainder) (m : ℕ) → ◌≡◌ {A = Outcome DecisionGives} (Gives (Part n r)) (Gives (Body m)) → ⊥
    part_body n r m e = let z : ◌≡◌ {A = ℕ} 0 1 = cc in omega arith

    ordered : (o : Outcome DecisionGives) → IsNumbered o → (decided_no o ≡ 0x0100) ↔ (o ≡ Gives Ordered)
    ordered (R n) h = (λ e. absurd (omega (arith, e, h.1)), λ e. absurd (r_gives _ _ e))
    ordered (Word s) h = (λ e. absurd (omega (arith, e, h.0)), λ e. absurd (word_gives _ _ e))
    ordered (Gives (Body n)) h = (λ e. absurd (omega (arith, e)), λ e. absurd (body_order n e))
    ordered (Gives Ordered) h = (λ e. refl, λ e. refl)
    ordered (Gives (Part n r)) h = (λ e. absurd (omega (arith, e)), λ e. absurd (part_order n r e))

    body : (o : Outcome DecisionGives) → IsNumbered o → (decided_no o ≡ 0x9000) ↔ ((n : ℕ) × (o ≡ Gives (Body n)))
    body (R n) h = (λ e. absurd (omega (arith, e, h.1)), λ x. absurd (r_gives _ _ x.1))
    body (Word s) h = (λ e. absurd (omega (arith, e, h.1)), λ x. absurd (word_gives _ _ x.1))
    body (Gives (Body n)) h = (λ e. (n, refl), λ x. refl)
    body (Gives Ordered) h = (λ e. absurd (omega (arith, e)), λ x. absurd (body_order x.0 (sym x.1)))
    body (Gives (Part n r)) h = (λ e. absurd (omega (arith, e)), λ x. absurd (part_body n r x.0 x.1))

    part : (o : Outcome DecisionGives) → IsNumbered o → (decided_no o ≡ 0x0200) ↔ ((n : ℕ) × (r : Remainder) × (o ≡ Gives (Part n r)))
    part (R n) h = (λ e. absurd (omega (arith, e, h.1)), λ x. absurd (r_gives _ _ x.2))
    part (Word s) h = (λ e. absurd (omega (arith, e, h.0)), λ x. absurd (word_gives _ _ x.2))
    part (Gives (Body n)) h = (λ e. absurd (omega (arith, e)), λ x. absurd (part_body x.0 x.1 n (sym x.2)))
    part (Gives Ordered) h = (λ e. absurd (omega (arith, e)), λ x. absurd (part_order x.0 x.1 (sym x.2)))
    part (Gives (Part n r)) h = (λ e. (n, r, refl), λ x. refl)

    refusal : (o : Outcome DecisionGives) → IsNumbered o → (n : ℕ) → 1 ≤ n → n ≤ last_refusal → (decided_no o ≡ n) ↔ (o ≡ R n)
    refusal (R m) h n low high = (λ e. ap R e, λ e. cc)
    refusal (Word s) h n low high = (λ e. absurd (omega (arith, e, h.0, high)), λ e. absurd (r_word _ _ (sym e)))
    refusal (Gives (Body m)) h n low high = (λ e. absurd (omega (arith, e, high)), λ e. absurd (r_gives _ _ (sym e)))
    refusal (Gives (Part m r)) h n low high = (λ e. absurd (omega (arith, e, high)), λ e. absurd (r_gives _ _ (sym e)))
    refusal (Gives Ordered) h n low high = (λ e. absurd (omega (arith, e, high)), λ e. absurd (r_gives _ _ (sym e)))

    status : (o : Outcome DecisionGives) → IsNumbered o → (n : ℕ) → 0x6000 ≤ n → n < 0x9000 → (decided_no o ≡ n) ↔ HasStatus n o
    status (R m) h n low high = (λ e. absurd (omega (arith, e, h.1, low)), λ x. absurd (r_word _ _ x.is))
    status (Word s) h n low high = (λ e. record { word = s; is = refl; numbered = e }, λ x. same_number s x.word x.is ∙ x.numbered)
    status (Gives (Body m)) h n low high = (λ e. absurd (omega (arith, e, high)), λ x. absurd (word_gives _ _ (sym x.is)))
    status (Gives (Part m r)) h n low high = (λ e. absurd (omega (arith, e, low)), λ x. absurd (word_gives _ _ (sym x.is)))
    status (Gives Ordered) h n low high = (λ e. absurd (omega (arith, e, low)), λ x. absurd (word_gives _ _ (sym x.is)))

pub NoAnswerIs0 : Claims.NoAnswerIs0 answer_no decided_no
NoAnswerIs0 = record { answered = answered; decision = decision }
  where
    answered : (o : Outcome Bool) → IsNumbered o → answer_no o ≡ 0 → ⊥
    answered (R n) h e = omega (arith, e, h.0)
    answered (Word s) h e = omega (arith, e, h.0)
    answered (Gives b) h e = omega (arith, e)

    decision : (o : Outcome DecisionGives) → IsNumbered o → decided_no o ≡ 0 → ⊥
    decision (R n) h e = omega (arith, e, h.0)
    decision (Word s) h e = omega (arith, e, h.0)
    decision (Gives (Body n)) h e = omega (arith, e)
    decision (Gives Ordered) h e = omega (arith, e)
    decision (Gives (Part n r)) h e = omega (arith, e)

-- ---- numbers that stand for cases
no_shape_at : (n : ℕ) → NoShape n → None ≡ shape_of n
no_shape_at n (nought z) = Cases.no_shape n (λ y. omega arith) (λ y. omega arith) (λ y. omega arith) (λ y. omega arith) (λ y. omega arith) (λ y. omega arith) (λ y. omega arith)
no_shape_at n (retired z) = Cases.no_shape n (λ y. omega arith) (λ y. omega arith) (λ y. omega arith) (λ y. omega arith) (λ y. omega arith) (λ y. omega arith) (λ y. omega arith)
no_shape_at n (above h) = Cases.no_shape n (λ y. omega arith) (λ y. omega arith) (λ y. omega arith) (λ y. omega arith) (λ y. omega arith) (λ y. omega arith) (λ y. omega arith)

no_kind_at : (n : ℕ) → (n ≡ 0) ⊎ (3 ≤ n) → None ≡ kind_of n
no_kind_at n (inl z) = Cases.no_kind n (λ y. omega arith) (λ y. omega arith)
no_kind_at n (inr h) = Cases.no_kind n (λ y. omega arith) (λ y. omega arith)

pub ShapeNumbers : Claims.ShapeNumbers shape_of
unfolding shape_of
ShapeNumbers =
    record {
      instruction = refl;
      le1 = refl;
      lc1_data = refl;
      lc1_data_le1 = refl;
      lc3_data = refl;
      lc3_data_le2 = refl;
      le3 = refl;
      none = λ n out. sym (no_shape_at n out);
    }

pub KindNumbers : Claims.KindNumbers kind_of
unfolding kind_of
KindNumbers = record { register = refl; authenticate = refl; none = λ n out. sym (no_kind_at n out) }

pub OthersRefused : Claims.OthersRefused write_numbered finish_numbered
OthersRefused =
    record {
      shape = λ entry w out. ap (λ (s : Shaped). write_as entry s w) (sym (no_shape_at w.shape out));
      kind = λ i out. ap (λ (k : Kinded). finish_as k i) (sym (no_kind_at i.order.kind out));
    }

pub OrderBack : Claims.OrderBack (λ o order. head_after o (head_of order))
OrderBack order certificate signed signature reply = rw (sym (Cases.kinded order.kind (kind_no order.kind) refl)) refl

-- ---- what is not said is 0
pub FrameNumbers : Claims.FrameNumbers frame_numbers
FrameNumbers = record { refused = λ n. refl; status = λ n. refl; given = λ s. refl }

pub CommandNumbers : Claims.CommandNumbers command_numbers
CommandNumbers =
    record {
      refused = λ n. refl;
      status = λ n. refl;
      version = refl;
      get_response = refl;
      register = λ s. refl;
      authenticate = λ p1 s. refl;
    }

pub LengthNumbers : Claims.LengthNumbers length_numbers
LengthNumbers = record { refused = λ n. refl; status = λ n. refl; given = λ n. refl }

pub ResponseNumbers : Claims.ResponseNumbers response_numbers
ResponseNumbers = record { refused = λ n. refl; status = λ n. refl; given = λ r. refl }

pub SentNumbers : Claims.SentNumbers sent_numbers
SentNumbers = record { refused = λ n. refl; status = λ n. refl; given = λ sent. refl }

pub RoomNumbers : Claims.RoomNumbers room_numbers
RoomNumbers = record { refused = λ n. refl; status = λ n. refl; given = λ n. refl }

pub AskedNumbers : Claims.AskedNumbers asked_numbers
AskedNumbers = record { refused = λ n. refl; status = λ n. refl; given = λ b. refl }

pub OrderNumbersExactly : Claims.OrderNumbersExactly (λ o order. head_after o (head_of order))
OrderNumbersExactly =
    record {
      refused = λ n o. refl;
      status = λ n o. refl;
      body = λ n o. refl;
      part = λ n after o. refl;
      register = λ o k. ap (numbered o) k;
      authenticate = λ o k. ap (numbered o) k;
    }
  where
    numbered : Order → Kind → OrderNumbers
    numbered o k = record { kind = kind_no k; to_sign = o.to_sign; certificate_length = o.certificate_length }

pub BlockExactly : Claims.BlockExactly block_after
BlockExactly =
    record { refused = λ n bytes old. refl; status = λ n bytes old. refl; body = λ n bytes old. refl; part = λ n rest bytes old. refl; ordered = λ bytes old. refl }

-- ---- places
pub PlacesCut : Claims.PlacesCut frame_numbers command_numbers
unfolding data_of challenge_of application_of handle_of
PlacesCut =
    record {
      «data» = λ frame s e. (data_within frame s e, refl);
      challenge = λ frame c s e k. ((room frame c s e k).0, cut_challenge frame c s k);
      application = λ frame c s e k. ((room frame c s e k).1, cut_application frame c s k);
      handle = λ frame p1 s e. (data_within frame s ((AuthenticateExactly frame p1 s).0 e).0, refl);
    }
  where
    room : (frame : List ℕ) (c : Command) (s : Says) → command_of frame ≡ Gives c → HasData c s
        → ((command_numbers (Gives c)).challenge + 32 ≤ length frame) × ((command_numbers (Gives c)).application + 32 ≤ length frame)
    room frame _ _ e (register s) =
        let t = (RegisterExactly frame s).0 e in
        let within = data_within frame s t.0 in (omega (arith, t.3), omega (arith, t.3))
    room frame _ _ e (authenticate p1 s) =
        let t = (AuthenticateExactly frame p1 s).0 e in
        let within = data_within frame s t.0 in (omega (arith, t.3), omega (arith, t.3))

    cut_challenge : (frame : List ℕ) (c : Command) (s : Says) → HasData c s
        → part_of frame (command_numbers (Gives c)).challenge ((command_numbers (Gives c)).challenge + 32) ≡ challenge_of frame s
    cut_challenge frame _ _ (register s) = refl
    cut_challenge frame _ _ (authenticate p1 s) = refl

    cut_application : (frame : List ℕ) (c : Command) (s : Says) → HasData c s
        → part_of frame (command_numbers (Gives c)).application ((command_numbers (Gives c)).application + 32) ≡ application_of frame s
    cut_application frame _ _ (register s) = let at : s.data_at + 32 + 32 ≡ s.data_at + 64 = omega arith in ap (part_of frame (s.data_at + 32)) at
    cut_application frame _ _ (authenticate p1 s) = let at : s.data_at + 32 + 32 ≡ s.data_at + 64 = omega arith in ap (part_of frame (s.data_at + 32)) at

-- ---- a refusal leaves the record that was lent
refused_record : (p : Presence) (o : Outcome Presence) (go : Presence → Told) → IsNumbered o
    → ((q : Presence) → (b : Bool) × ((go q).outcome ≡ Gives b)) → answer_no (on_settled p o go).outcome ≤ last_refusal → (on_settled p o go).presence ≡ p
refused_record p (R n) go h given low = refl
refused_record p (Word s) go h given low = refl
refused_record p (Gives q) go h given low = absurd (omega (arith, ap answer_no (given q).1))

decision_kept : (p : Presence) (t : ℕ) (a : Inputs) → (o : Outcome DecisionGives) → (decision_of p t a).answer ≡ o → IsNumbered o → decided_no o ≤ last_refusal → (decision_of p t a).presence ≡ p
decision_kept p t a (R n) e h high = Outcomes.decision_refused p t a n e
decision_kept p t a (Word s) e h high = absurd (omega (arith, h.0))
decision_kept p t a (Gives (Body n)) e h high = absurd (omega arith)
decision_kept p t a (Gives Ordered) e h high = absurd (omega arith)
decision_kept p t a (Gives (Part n r)) e h high = absurd (omega arith)

pub SideCrosses : Claims.SideCrosses touches_of asks_of checks_of decides_of
SideCrosses = record {
  touched = λ n t. unnamed n (touch_of (presence_in n) t).outcome (Outcomes.touch_said (presence_in n) t) (touches_exactly.settles.r8 (presence_in n) t);
  asked = λ n t. unnamed n (ask_of (presence_in n) t).outcome (Outcomes.ask_said (presence_in n) t) (asks_exactly.settles.r8 (presence_in n) t);
  checked = λ n s t. through (check_of (presence_in n) s t).outcome (Outcomes.check_said (presence_in n) t s) ((checks_exactly.settles s).r8 (presence_in n) t);
  decided = decided;
}
  where
    -- the number 8 is R8
    through : {A : Type 0} (o : Outcome Bool) → IsNumbered o → (o ≡ R 8) ↔ A → (answer_no o ≡ 8) ↔ A
    through o said exactly = let told = AnswerTells.refused o said 8 (omega arith) in (λ e. exactly.0 (told.0 e), λ b. told.1 (exactly.1 b))

    -- what names no side counts as naming the record's
    unnamed : (n : PresenceRecord) (o : Outcome Bool) → IsNumbered o → (o ≡ R 8) ↔ ((BadWindow (presence_in n).w → ⊥) × BadSide (presence_in n).asker (presence_in n).asker)
        → (answer_no o ≡ 8) ↔ ((BadWindow (presence_in n).w → ⊥) × (1 < (presence_in n).asker))
    unnamed n o said exactly = let x = through o said exactly in (λ e. ((x.0 e).0, ⊎_elim (λ h. h) (λ h. h) (x.0 e).1), λ b. x.1 (b.0, inl b.1))

    decided : (i : ToDecide) → (decided_no (decided_by i).answer ≡ 8) ↔ ((BadWindow (presence_in i.presence).w → ⊥) × BadSide i.side (presence_in i.presence).asker)
    decided i =
        let told = DecisionTells.refused (decided_by i).answer (Outcomes.decision_said (presence_in i.presence) i.moment (inputs_in i)) 8 (omega arith) (omega arith) in
        let exactly = side_refused_exactly (presence_in i.presence) i.moment (inputs_in i) in
        (λ e. exactly.0 (told.0 e), λ b. told.1 (exactly.1 b))

pub RefusalKeeps : Claims.RefusalKeeps touches_of checks_of decides_of
unfolding touch_of check_of
RefusalKeeps =
    record {
      grant_up = λ n t low. kept n _ (refused_record (presence_in n) (settle_of (presence_in n) (presence_in n).asker t) _ (Outcomes.settle_said (presence_in n) (presence_in n).asker t) (λ q. (_, refl)) low);
      consume_up = λ n s t low. kept n _ (refused_record (presence_in n) (settle_of (presence_in n) s t) _ (Outcomes.settle_said (presence_in n) s t) (λ q. (_, refl)) low);
      decided = λ i low. (
        kept i.presence _ (decision_kept (presence_in i.presence) i.moment (inputs_in i) (decided_by i).answer refl (EveryOutcomeNumbered.decide i) low),
        same_session (decides_of i).session i.session (decide_exported.refused i low),
      );
    }
  where
    kept : (n : PresenceRecord) (p : Presence) → p ≡ presence_in n → SameNumbers (presence_numbers p) n
    kept n p e = same_record (presence_numbers p) n (record_back p ∙ e)

pub DecisionNumbers : Claims.DecisionNumbers decision_numbers
DecisionNumbers =
    record {
      refused = λ r n e. (ap decided_no e, ap fault_no e, ap place_no e, ap body_length e);
      status = λ r s e. (ap decided_no e, ap fault_no e, ap place_no e, ap body_length e);
      body = λ r n e. (ap decided_no e, ap fault_no e, ap place_no e, ap body_length e);
      part = λ r n after e. (ap decided_no e, ap fault_no e, ap place_no e, ap body_length e);
      ordered = λ r e. (ap decided_no e, ap fault_no e, ap place_no e, ap body_length e);
      taken = λ r. refl;
      order = λ r. refl;
    }

-- ---- as they are exported
-- of whatever meets the contract
make_exported : (f : (presence : PresenceRecord) (w : ℕ) → AfterMaking) → ((n : PresenceRecord) (w : ℕ) → BrinecandleNew n w (f n w).said (f n w).presence) → Claims.MakeExported f
unfolding new_of
make_exported f meets =
    record {
      made = λ n w low high. let is = meets n w in (is.0 ∙ rw (ne_eqb w 0 (λ e. omega arith), le-ltb 60000 w high), is.1 ∙ rw (ne_eqb w 0 (λ e. omega arith), le-ltb 60000 w high));
      refused = λ n w h. let is = meets n w in (is.0 ∙ ap answer_no (bad w h), same_record (f n w).presence n (is.1 ∙ ap (λ (o : Outcome Presence). made_over o (presence_in n)) (bad w h)));
    }
  where
    bad : (w : ℕ) → (w ≡ 0) ⊎ (60000 < w) → new_of w ≡ R 6
    bad w (inl z) = rw z
    bad w (inr h) = rw (ne_eqb w 0 (λ e. omega arith), lt-ltb 60000 w h)

pub MakeExported : Claims.MakeExported makes_of
MakeExported = make_exported makes_of (λ n w. (refl, record_back (made_over (new_of w) (presence_in n))))

pub DecideExported : Claims.DecideExported decides_of
DecideExported = decide_exported

pub NextPartExported : Claims.NextPartExported nexts_of
NextPartExported = next_part_exported nexts_of (λ session body part. (refl, refl, refl))

pub RoomExported : Claims.RoomExported rooms_of
RoomExported = room_exported

pub ReadExported : Claims.ReadExported (reads_of Ordinary)
ReadExported = reader_exported Ordinary

pub ReadStrictExported : Claims.ReadStrictExported (reads_of Strict)
ReadStrictExported = reader_exported Strict

pub WriteExported : Claims.WriteExported (writes_of Ordinary)
WriteExported = writer_exported Ordinary (λ w out. sym (no_shape_at w.shape out))

pub WriteStrictExported : Claims.WriteStrictExported (writes_of Strict)
WriteStrictExported = writer_exported Strict (λ w out. sym (no_shape_at w.shape out))

pub ResponseExported : Claims.ResponseExported responds_of
ResponseExported = response_exported

-- a function that gives what a definition gives, input by input, is that definition; of the record's and the session's numbers the claims look at what they stand for
pub ContractsAsClaimed : Claims.ContractsAsClaimed
ContractsAsClaimed =
    record {
      read = λ f is. subst Claims.ReadExported (λ d frame. sym (is frame) d) ReadExported;
      read_strict = λ f is. subst Claims.ReadStrictExported (λ d frame. sym (is frame) d) ReadStrictExported;
      read_by_table = λ f is. subst Claims.ReadExported (λ d frame. sym (is frame) d) ReadExported;
      read_strict_by_table = λ f is. subst Claims.ReadStrictExported (λ d frame. sym (is frame) d) ReadStrictExported;
      write = λ f is. subst Claims.WriteExported (λ d w. record { said = sym (is w).0 d; buffer = sym (is w).1 d }) WriteExported;
      write_strict = λ f is. subst Claims.WriteStrictExported (λ d w. record { said = sym (is w).0 d; buffer = sym (is w).1 d }) WriteStrictExported;
      new = make_exported;
      decide = λ f is.
          decide_anew f
          (subst Claims.DecideExported
          (λ d i.
          record {
            said = sym (is i).0 d;
            presence = presence_numbers (sym (is i).1 d);
            session = session_numbers (sym (is i).2 d);
            reply = sym (is i).3 d;
            block = sym (is i).4 d;
            part = sym (is i).5 d;
          })
          DecideExported);
      next_part = next_part_exported;
      response_room = λ f is. subst Claims.RoomExported (λ d frame longest. sym (is frame longest) d) RoomExported;
      write_response = λ f is. subst Claims.ResponseExported (λ d body s old. record { said = sym (is body s old).0 d; buffer = sym (is body s old).1 d }) ResponseExported;
    }

-- ---- two results that satisfy a contract are equal
pub ResultsDetermined : Claims.ResultsDetermined
ResultsDetermined =
    record {
      shape_numbered = λ n a b. both_are a b;
      frame_numbers = λ says a b. both_are a b;
      frame_status = λ s a b. both_are a b;
      strict_plain = λ n count a b. both_are a b;
      write_plain = λ w a b p q. written a b (both_are _ _ p.0 q.0) (both_are _ _ p.1 q.1);
      command_plain = λ read a b. both_are a b;
      refused_asked = λ why a b. both_are a b;
      found_asked = λ found a b. both_are a b;
      fresh_kept = λ w a b p q. five_apart a b (both_are _ _ p q);
      asked_plain = λ answer a b. both_are a b;
      kind_numbered = λ n a b. both_are a b;
      refused_numbers = λ why taken a b. both_are a b;
      status_numbers = λ number kind place taken a b. both_are a b;
      body_numbers = λ n taken a b. both_are a b;
      part_numbers = λ n k taken a b. both_are a b;
      order_numbers = λ head taken a b. both_are a b;
      finished_plain = λ finished a b. both_are a b;
      brinecandle_read = λ frame a b. both_are a b;
      brinecandle_read_strict = λ frame a b. both_are a b;
      brinecandle_read_by_table = λ frame a b. both_are a b;
      brinecandle_read_strict_by_table = λ frame a b. both_are a b;
      brinecandle_write = λ w a b p q. written a b (both_are _ _ p.0 q.0) (both_are _ _ p.1 q.1);
      brinecandle_write_strict = λ w a b p q. written a b (both_are _ _ p.0 q.0) (both_are _ _ p.1 q.1);
      brinecandle_read_command = λ frame a b. both_are a b;
      brinecandle_new = λ n w a b p q. made a b (both_are _ _ p.0 q.0) (both_are _ _ p.1 q.1);
      brinecandle_grant_up = λ n t a b p q. stepped a b (both_are _ _ p.0 q.0) (both_are _ _ p.1 q.1);
      brinecandle_consume_up = λ n s t a b p q. stepped a b (both_are _ _ p.0 q.0) (both_are _ _ p.1 q.1);
      brinecandle_is_up_needed = λ n t a b. both_are a b;
      brinecandle_decide = λ i a b p q. decided i a b p q;
      brinecandle_finish = λ i a b p q. written a b (both_are _ _ p.0 q.0) (both_are _ _ p.1 q.1);
      response_plain = λ read a b. both_are a b;
      wrote_response_plain = λ written a b. both_are a b;
      refused_part = λ why a b. both_are a b;
      sent_part = λ n a b. both_are a b;
      room_plain = λ room a b. both_are a b;
      brinecandle_write_response = λ body status old a b p q. written a b (both_are _ _ p.0 q.0) (both_are _ _ p.1 q.1);
      brinecandle_read_response = λ response a b. both_are a b;
      brinecandle_next_part = λ session body part a b p q.
          parted a b (both_are _ _ p.0 q.0) (same_session a.session b.session (both_are _ _ p.1 q.1)) (both_are _ _ p.2 q.2);
      brinecandle_response_room = λ frame longest a b. both_are a b;
    }
  where
    written : (a b : AfterWriting) → a.said ≡ b.said → a.buffer ≡ b.buffer → a ≡ b
    written a b e f = λ d. record { said = e d; buffer = f d }

    made : (a b : AfterMaking) → a.said ≡ b.said → presence_in a.presence ≡ presence_in b.presence → a ≡ b
    made a b e f = let same = five_apart a.presence b.presence f in λ d. record { said = e d; presence = same d }

    stepped : (a b : AfterStep) → a.said ≡ b.said → presence_in a.presence ≡ presence_in b.presence → a ≡ b
    stepped a b e f = let same = five_apart a.presence b.presence f in λ d. record { said = e d; presence = same d }

    decided : (i : ToDecide) (a b : AfterDeciding)
        → BrinecandleDecide i a.said a.presence a.session a.reply a.block a.part → BrinecandleDecide i b.said b.presence b.session b.reply b.block b.part → a ≡ b
    decided i a b p q =
        let said = both_are _ _ p.0 q.0 in
        let presence = five_apart a.presence b.presence (both_are _ _ p.1 q.1) in
        let session = same_session a.session b.session (both_are _ _ p.2 q.2) in
        let reply = both_are _ _ p.3 q.3 in
        let block = both_are _ _ p.4 q.4 in
        let part = both_are _ _ p.5 q.5 in
        λ d. record { said = said d; presence = presence d; session = session d; reply = reply d; block = block d; part = part d }

    parted : (a b : AfterPart) → a.said ≡ b.said → a.session ≡ b.session → a.part ≡ b.part → a ≡ b
    parted a b e f g = λ d. record { said = e d; session = f d; part = g d }
