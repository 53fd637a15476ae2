-- Commands, responses read and finishing, by the contracts and the theorems of the crates below; and that an order is finished.
use Prim.Native.Nat.{ℕ, ◌≤◌}
use mathlib.Core.Path.{◌≡◌, refl, ap, ap₂, sym, ◌∙◌}
use mathlib.Core.Bool.{Bool, true, false, not}
use mathlib.Core.List.{List, [], ◌∷◌, ◌++◌}
use borrow.Author.Tests.{eq-eqb, le-ltb}
use lib.Dec.{eqb, ltb}
use lib.ListN.{length}
use Rattle.outcome.specs.Notation.{when◌then◌else◌}
use Rattle.outcome.specs.Outcome.{Outcome, R, Gives}
use Rattle.command_stated.specs.Command.{Command, command_of}
use Rattle.command_stated.specs.Claims as Commands
use Rattle.command_stated.proofs.Only as CommandsOnly
use Rattle.command_stated.proofs.Theorems as CommandsProved
use Rattle.response_stated.proofs.Laws.{read_back, reads_exactly}
use Rattle.signing_stated.specs.declared.Kind.{Kind}
use Rattle.signing_stated.specs.Words.{Order}
use Rattle.signing_stated.specs.Orders.{kind_no, certificate_length, is_of_layout}
use Rattle.signing_stated.specs.Finishing.{Finishing, Ended, finish_of, end_of, length_of, reply_of, room_needed, body_of}
use Rattle.signing_stated.specs.Claims as Signing
use Rattle.signing_stated.proofs.Only as SigningOnly
use Rattle.signing_stated.proofs.Theorems as SigningProved
use Rattle.ctap1_stated.specs.Words.{DecisionGives, Ordered, DecisionResult}
use Rattle.ctap1_stated.specs.Decision.{decision_of, block_after}
use Rattle.ctap1_stated.proofs.Theorems as Decision
use Rattle.u2f_up_stated.specs.Moments.{Told, touch_of, check_of, ask_of}
use Rattle.u2f_up_stated.proofs.Only as UpOnly
use Rattle.u2f_up_stated.proofs.Theorems as UpProved
use Rattle.panel_stated.specs.Claims as Exports
use Rattle.panel_stated.specs.declared.Wrote.{Wrote}
use Rattle.panel_stated.specs.Words.{Kinded}
use Rattle.panel_stated.specs.declared.OrderNumbers.{OrderNumbers}
use Rattle.panel_stated.specs.declared.DecisionSaid.{DecisionSaid}
use Rattle.u2f_up_stated.specs.Numbers.{presence_in}
use Rattle.session_stated.specs.Promises.{inputs_in}
use Rattle.panel_stated.specs.Numbers.{answer_no}
use Rattle.panel_stated.specs.Exports.{ToDecide, ToFinish, command_numbers, response_numbers, length_numbers, finish_as, finish_numbered, order_after, order_from, asked_numbers, touches_of, checks_of, decided_by, decides_of}
use Rattle.panel_stated.proofs.Lists.{record_back, same_record, same_session}
use Rattle.panel_stated.proofs.Cases as Cases
use Rattle.panel_stated.proofs.Outcomes as Outcomes
use Rattle.panel_stated.proofs.Theorems as Panel'
use Rattle.demands.specs.Panel.{Panel, Meets}
use Rattle.demands.specs.Demands.{ToFinishOf}
use Rattle.demands.specs.Answers.{CommandExported, ResponseReadExported, FinishExported, PresenceExported, to_end}

module _ (P : Panel) (M : Meets P) where
  read_by_lem : (reader : List ℕ → Outcome Command) → Commands.CommandExactly reader → (frame : List ℕ) (o : Outcome Command) → reader frame ≡ o → P.read_command frame ≡ command_numbers o
  read_by_lem reader is frame o e = M.read_command frame ∙ ap command_numbers (CommandsOnly.CommandExactly command_of reader CommandsProved.CommandExactly is frame ∙ e)

  pub commands : CommandExported P.read_command
  commands = record {
    status = λ reader is frame w e. read_by_lem reader is frame _ e;
    version = λ reader is frame e. read_by_lem reader is frame _ e;
    get_response = λ reader is frame e. read_by_lem reader is frame _ e;
    register = λ reader is frame s e. read_by_lem reader is frame _ e;
    authenticate = λ reader is frame p1 s e. read_by_lem reader is frame _ e;
  }

  pub responses : ResponseReadExported P.read_response
  responses = record {
    short = λ response h. M.read_response response ∙ ap response_numbers ((reads_exactly.r2 response).1 h);
    given = λ body sw1 sw2. M.read_response (body ++ (sw1 ∷ sw2 ∷ [])) ∙ ap response_numbers (read_back body sw1 sw2);
  }

  -- finishing of a kind
  pub ends : (i : ToFinish) (k : Kind) → i.order.kind ≡ kind_no k → finish_numbered i ≡ finish_of (to_end k i)
  ends i k e = ap (λ (q : Kinded). finish_as q i) (sym (Cases.kinded k i.order.kind e))

  end_by : (end : Finishing → Ended) → Signing.FinishesExactly end → (i : ToFinish) (k : Kind) (o : Outcome ℕ) → i.order.kind ≡ kind_no k → length i.block ≡ 385 → (end (to_end k i)).answer ≡ o
      → ((P.finish i).said ≡ length_numbers o) × ((P.finish i).buffer ≡ (end (to_end k i)).reply)
  end_by end is i k o e whole f =
      let same : end_of (to_end k i) ≡ end (to_end k i) = SigningOnly.FinishesExactly end_of end SigningProved.FinishesExactly is (to_end k i) whole in (
        (M.finish i).0 ∙ ap (λ (x : Outcome (List ℕ)). length_numbers (length_of x)) (ends i k e) ∙ ap (λ (x : Ended). length_numbers x.answer) same ∙ ap length_numbers f,
        (M.finish i).1 ∙ ap (λ (x : Outcome (List ℕ)). reply_of x i.reply) (ends i k e) ∙ ap (λ (x : Ended). x.reply) same,
      )

  none_of : (i : ToFinish) → (i.order.kind ≡ 1 → ⊥) → (i.order.kind ≡ 2 → ⊥) → finish_numbered i ≡ R 7
  none_of i a b = ap (λ (q : Kinded). finish_as q i) (sym (Cases.no_kind i.order.kind a b))

  pub finishing : FinishExported P.finish
  finishing = record {
    given = λ end is i k n e whole f. end_by end is i k _ e whole f;
    refused = λ end is i k m e whole f. end_by end is i k _ e whole f;
    status = λ end is i k w e whole f. end_by end is i k _ e whole f;
    no_kind = λ i a b.
        ((M.finish i).0 ∙ ap (λ (x : Outcome (List ℕ)). length_numbers (length_of x)) (none_of i a b), (M.finish i).1 ∙ ap (λ (x : Outcome (List ℕ)). reply_of x i.reply) (none_of i a b));
  }

  -- a finishing that is none of R7, R4, R2, with a signer that did not fail and a signature that fits, gives a body
  gives_by : (a b c : Bool) (body : List ℕ)
      → ((when not a then R 7 else when not b then R 4 else when c then R 2 else Gives body) ≡ R 7 → ⊥)
      → ((when not a then R 7 else when not b then R 4 else when c then R 2 else Gives body) ≡ R 4 → ⊥)
      → ((when not a then R 7 else when not b then R 4 else when c then R 2 else Gives body) ≡ R 2 → ⊥)
      → (when not a then R 7 else when not b then R 4 else when c then R 2 else Gives body) ≡ Gives body
  gives_by false b c body x y z = absurd (x refl)
  gives_by true false c body x y z = absurd (y refl)
  gives_by true true true body x y z = absurd (z refl)
  gives_by true true false body x y z = refl

  gives : (f : Finishing) → f.signed ≡ true → length f.signature ≤ 72 → (finish_of f ≡ R 7 → ⊥) → (finish_of f ≡ R 4 → ⊥) → (finish_of f ≡ R 2 → ⊥)
      → answer_no (length_of (finish_of f)) ≡ 0x9000
  unfolding finish_of
  gives f signed fits x y z =
      let short = le-ltb 72 (length f.signature) fits in
      let same = gives_by (is_of_layout f.order) (eqb (length f.certificate) (certificate_length f.order)) (ltb (length f.reply) (room_needed f.order))
      (body_of f.order.kind f.order f.certificate f.signature) (rw (signed, short) at x) (rw (signed, short) at y) (rw (signed, short) at z) in
      rw (signed, short) (ap (λ (o : Outcome (List ℕ)). answer_no (length_of o)) same)

  -- the order that the numbers and the block of a decision stand for is its order
  ordered_back : (k : Kind) (o : Order) → k ≡ o.kind → order_from k (order_after (Gives Ordered) o) o.bytes ≡ o
  ordered_back k o e = rw e refl

  -- an order that C sees is the decision's: its numbers, and its block
  module _ (i : ToDecide) (ordered : (P.decide i).said.answer ≡ 0x0100) where
    abbrev on_it : DecisionResult
    on_it = decision_of (presence_in i.presence) i.moment (inputs_in i)

    pub order_given : on_it.answer ≡ Gives Ordered
    order_given =
        ((Panel'.DecisionTells).ordered on_it.answer (Outcomes.decision_said (presence_in i.presence) i.moment (inputs_in i))).0
        (ap (λ (s : DecisionSaid). s.answer) (sym (M.decide i).0) ∙ ordered)

    pub order_numbers : (P.decide i).said.order ≡ order_after (Gives Ordered) on_it.order
    order_numbers = ap (λ (s : DecisionSaid). s.order) (M.decide i).0 ∙ ap (λ (o : Outcome DecisionGives). order_after o on_it.order) order_given

    pub order_block : (P.decide i).block ≡ on_it.order.bytes
    order_block = (M.decide i).4 ∙ ap (λ (o : Outcome DecisionGives). block_after o on_it.order.bytes i.block) order_given

  -- what is finished is the decision's order, where the order's numbers and its block are lent as they came
  module _ (i : ToDecide) (f : ToFinish) (ordered : (P.decide i).said.answer ≡ 0x0100) (order : f.order ≡ (P.decide i).said.order) (block : f.block ≡ (P.decide i).block) where
    abbrev its : Order
    its = (decision_of (presence_in i.presence) i.moment (inputs_in i)).order

    numbers : f.order ≡ order_after (Gives Ordered) its
    numbers = order ∙ order_numbers i ordered

    pub is_its : order_from its.kind f.order f.block ≡ its
    is_its = ap₂ (λ (n : OrderNumbers) (l : List ℕ). order_from its.kind n l) numbers (block ∙ order_block i ordered) ∙ ordered_back its.kind its refl

    pub its_kind : f.order.kind ≡ kind_no its.kind
    its_kind = ap (λ (n : OrderNumbers). n.kind) numbers

    its_length : f.order.certificate_length ≡ certificate_length its
    its_length = ap (λ (n : OrderNumbers). n.certificate_length) numbers

  module _ (i : ToDecide) (f : ToFinish) (lent : ToFinishOf P i f) where
    abbrev decided : DecisionResult
    decided = decision_of (presence_in i.presence) i.moment (inputs_in i)

    pub is_order : decided.answer ≡ Gives Ordered
    is_order = order_given i lent.ordered

    -- what is finished is the decision's order, with its certificate's length
    pub the_order : order_from decided.order.kind f.order f.block ≡ decided.order
    the_order = is_its i f lent.ordered lent.order lent.block

    pub the_kind : f.order.kind ≡ kind_no decided.order.kind
    the_kind = its_kind i f lent.ordered lent.order lent.block

    pub the_length : length f.certificate ≡ certificate_length decided.order
    the_length = lent.certificate ∙ its_length i f lent.ordered lent.order lent.block

    pub finishes : f.signed ≡ 1 → (P.finish f).said.answer ≡ 0x9000
    finishes signed =
        let k = decided.order.kind in
        let asked = Decision.OrderHasRoom (presence_in i.presence) i.moment (inputs_in i) (to_end k f) lent.blocks is_order the_order the_length lent.reply in
        ap (λ (s : Wrote). s.answer) (M.finish f).0
        ∙ ap (λ (x : Outcome (List ℕ)). answer_no (length_of x)) (ends f k the_kind)
        ∙ gives (to_end k f) (eq-eqb f.signed 1 signed) lent.signature asked.0 asked.1 asked.2

  -- ---- on any record
  pub presences : PresenceExported P.grant_up P.consume_up P.is_up_needed
  presences = record {
    touched = λ touch is n t.
        let same = UpOnly.TouchesExactly touch_of touch UpProved.TouchesExactly is (presence_in n) t in
        ((M.grant_up n t).0 ∙ ap (λ (o : Told). asked_numbers o.outcome) same, (M.grant_up n t).1 ∙ ap (λ (o : Told). o.presence) same);
    checked = λ check is n s t.
        let same = UpOnly.ChecksExactly check_of check UpProved.ChecksExactly is (presence_in n) s t in
        ((M.consume_up n s t).0 ∙ ap (λ (o : Told). asked_numbers o.outcome) same, (M.consume_up n s t).1 ∙ ap (λ (o : Told). o.presence) same);
    asked = λ ask is n t. M.is_up_needed n t ∙ ap (λ (o : Told). asked_numbers o.outcome) (UpOnly.AsksExactly ask_of ask UpProved.AsksExactly is (presence_in n) t);
  }

  pub sides : Exports.SideCrosses P.grant_up P.is_up_needed P.consume_up P.decide
  sides = record {
    touched = λ n t. rw (M.grant_up n t).0 ((Panel'.SideCrosses).touched n t);
    asked = λ n t. rw (M.is_up_needed n t) ((Panel'.SideCrosses).asked n t);
    checked = λ n s t. rw (M.consume_up n s t).0 ((Panel'.SideCrosses).checked n s t);
    decided = λ i. rw (M.decide i).0 ((Panel'.SideCrosses).decided i);
  }

  -- records that stand for the same have the same numbers
  pub keeps : Exports.RefusalKeeps P.grant_up P.consume_up P.decide
  keeps = record {
    grant_up = λ n t low.
        same_record (P.grant_up n t).presence (touches_of n t).presence ((M.grant_up n t).1 ∙ sym (record_back (touch_of (presence_in n) t).presence))
        ∙ (Panel'.RefusalKeeps).grant_up n t (rw (M.grant_up n t).0 at low);
    consume_up = λ n s t low.
        same_record (P.consume_up n s t).presence (checks_of n s t).presence ((M.consume_up n s t).1 ∙ sym (record_back (check_of (presence_in n) s t).presence))
        ∙ (Panel'.RefusalKeeps).consume_up n s t (rw (M.consume_up n s t).0 at low);
    decided = λ i low.
        let x = (Panel'.RefusalKeeps).decided i (rw (M.decide i).0 at low) in (
          same_record (P.decide i).presence (decides_of i).presence ((M.decide i).1 ∙ sym (record_back (decided_by i).presence)) ∙ x.0,
          same_session (P.decide i).session (decides_of i).session (M.decide i).2 ∙ x.1,
        );
  }
