-- The theorem on top, from the theorems of the crates below: by proofs/Runs.antt each sentence is one of theirs.
use Prim.Native.Nat.{ℕ, zero, suc, ◌+◌, ◌<◌, ◌≤◌}
use mathlib.Core.Path.{◌≡◌, ap, sym, subst, ◌∙◌}
use mathlib.Core.List.{List, ◌∷◌, ◌++◌}
use mathlib.Core.Logic.{◌↔◌, ◌⊎◌, inl, inr, ⊎_elim}
use native.Mathlib.Omega.{arith}
use Rattle.octets.specs.Bytes.{byte}
use Rattle.outcome.specs.Outcome.{Outcome, Gives}
use Rattle.u2f_up_stated.specs.declared.Presence.{Presence}
use Rattle.std.specs.Prelude.{Some}
use Rattle.u2f_up_stated.specs.Moments.{new_of}
use Rattle.u2f_up_stated.specs.History.{Call}
use Rattle.u2f_up_stated.specs.Terms.{BadWindow}
use Rattle.u2f_up_stated.specs.Demand.{RunMeets}
use Rattle.u2f_up_stated.specs.FreshRuns.{RunOf}
use Rattle.u2f_up_stated.proofs.Theorems as Up
use Rattle.u2f_up_stated.proofs.Laws.{bad_window}
use Rattle.signing_stated.specs.Words.{Order}
use Rattle.ctap1_stated.specs.Words.{DecisionGives, Ordered, Inputs}
use Rattle.ctap1_stated.specs.Decision.{decision_of, block_after}
use Rattle.ctap1_stated.specs.Calls.{panel_calls}
use Rattle.ctap1_stated.specs.Terms as Terms
use Rattle.ctap1_stated.proofs.Theorems as Decision
use Rattle.panel_stated.specs.declared.DecisionSaid.{DecisionSaid}
use Rattle.u2f_up_stated.specs.Numbers.{window_of, presence_in}
use Rattle.u2f_up_stated.specs.declared.PresenceRecord.{PresenceRecord}
use Rattle.panel_stated.specs.Numbers.{answer_no, decided_no}
use Rattle.panel_stated.specs.Exports.{ToDecide, AfterDeciding, order_after}
use Rattle.panel_stated.proofs.Outcomes as Outcomes
use Rattle.panel_stated.proofs.Theorems as Panel'
use Rattle.session_stated.specs.Promises.{inputs_in}
use Rattle.demands.specs.Panel.{Panel, Meets}
use Rattle.demands.specs.Calls.{CCall, Decide, on, as_call, touch_number, asker_number, record_after, came_next, history_of}
use Rattle.demands.specs.Demands as Claims
use Rattle.demands.specs.Demands.{Demand3, OrdersPresent, OrdersNext, OrdersHaveTheirTouch}
use Rattle.demands.proofs.Fetched.{so_far, takes, enough}
use Rattle.demands.proofs.Reached.{reached}
use Rattle.demands.proofs.Answers.{commands, responses, finishing, finishes, presences, sides, keeps}
use Rattle.demands.proofs.Lost.{none_lost}
use Rattle.demands.proofs.Carried.{none_carries_over, signs_lent}
use Rattle.demands.proofs.RoomRows.{data_sheet}
use Rattle.demands.proofs.Runs.{as_panel, all_as, all_append, all_length, there, record_in, came_same, call_same, history_same}

-- a window's number, opened
opened_no : (n m : ℕ) → window_of n ≡ Some m → n ≡ m + 1
opened_no zero m e = let z : ◌≡◌ {A = ℕ} 0 1 = cc in absurd (omega arith)
opened_no (suc n) m e = let z : n ≡ m = cc in omega arith

-- ---- making a record
made_exactly : (w : ℕ) → (answer_no (new_of w) ≡ 0x9000) ↔ ((1 ≤ w) × (w ≤ 60000))
made_exactly w = by (bad_window w)
  where
    by : Dec (BadWindow w) → (answer_no (new_of w) ≡ 0x9000) ↔ ((1 ≤ w) × (w ≤ 60000))
    by (yes b) =
        let six : answer_no (new_of w) ≡ 6 = ap answer_no (((Up.MakesExactly).r6 w).1 b) in
        (λ e. absurd (omega (arith, six)), λ h. absurd (⊎_elim (λ z. omega arith) (λ z. omega arith) b))
    by (no n) =
        (λ e. (omega (arith, not_zero), omega (arith, not_above)), λ h. ap answer_no ((Up.MakesExactly).makes w n))
      where
        not_zero : w ≡ 0 → ⊥
        not_zero z = n (inl z)

        not_above : 60000 < w → ⊥
        not_above z = n (inr z)

-- ---- demand 3
module _ (P : Panel) (M : Meets P) (old : PresenceRecord) (w : ℕ) (low : 0 < w) (high : w ≤ 60000) (calls : List CCall) where
  meets : RunOf panel_calls w (all_as calls)
  meets = Decision.Demand3OfThePanel w low high (all_as calls)

  -- what a call is there is what it is here
  same_calls : ◌≡◌ {A = CCall → Call} (λ c. panel_calls.as_call (as_panel c)) as_call
  same_calls = λ i c. sym (call_same P M old w low high c) i

  abbrev Met : (CCall → Call) → Type 0
  Met call = RunMeets w call calls (history_of P old w calls) (came_next P old w calls) (λ earlier m. touch_number (record_after P old w earlier) ≡ m + 1) (asker_number (record_after P old w calls))

  run_there : Met (λ c. panel_calls.as_call (as_panel c))
  run_there = record {
    foretells = λ c. rw (came_same P M old w low high calls c, history_same P M old w low high calls) (meets.foretells (as_panel c));
    refuses_side = λ c. rw (came_same P M old w low high calls c) (meets.refuses_side (as_panel c));
    refuses = λ c. rw (came_same P M old w low high calls c, history_same P M old w low high calls) (meets.refuses (as_panel c));
    refuses_no_window = λ c. rw (came_same P M old w low high calls c) (meets.refuses_no_window (as_panel c));
    accepts = λ c. rw (came_same P M old w low high calls c, history_same P M old w low high calls) (meets.accepts (as_panel c));
    finds = λ c s. rw (came_same P M old w low high calls c, history_same P M old w low high calls) (meets.finds (as_panel c) s);
    serves = λ c. rw (came_same P M old w low high calls c, history_same P M old w low high calls) (meets.serves (as_panel c));
    once = rw (history_same P M old w low high calls) meets.once;
    holds = λ k t late held later earlier split long.
        opened_no _ _
        (ap (λ (p : Presence). p.touch) (record_in P M old w low high earlier)
        ∙ meets.holds k t (rw (← history_same P M old w low high calls) late) (rw (← history_same P M old w low high calls) held) (all_as later) (all_as earlier)
        (ap all_as split ∙ all_append later earlier) (omega (arith, all_length earlier, long)));
    asker = rw (history_same P M old w low high calls) (ap (λ (p : Presence). p.asker) (record_in P M old w low high calls) ∙ meets.asker);
    side_totals = λ s. rw (history_same P M old w low high calls) (meets.side_totals s);
    totals = rw (history_same P M old w low high calls) meets.totals;
    one_held = rw (history_same P M old w low high calls) meets.one_held;
    two_sides = rw (history_same P M old w low high calls) meets.two_sides;
  }

  demand3 : Demand3 P old w calls
  demand3 = subst Met same_calls run_there

-- ---- orders
says_present : (o : Outcome DecisionGives) (order : Order) (old : List ℕ) → o ≡ Gives Ordered
    → ((order_after o order).kind ≡ 1) ⊎ (((order_after o order).kind ≡ 2) × (byte (block_after o order.bytes old) 32 ≡ 0x01)) → Terms.SaysPresent order
says_present o order old e h = rw e at h

-- such an order in C's numbers is one of the definition
orders_there : (p : Presence) (t : ℕ) (a : Inputs) (old : List ℕ) (r : AfterDeciding)
    → r.said.answer ≡ decided_no (decision_of p t a).answer
    → r.said.order ≡ order_after (decision_of p t a).answer (decision_of p t a).order
    → r.block ≡ block_after (decision_of p t a).answer (decision_of p t a).order.bytes old
    → OrdersPresent r → Terms.OrdersPresent (decision_of p t a)
orders_there p t a old r answer order block (e, h) =
    let ordered = ((Panel'.DecisionTells).ordered (decision_of p t a).answer (Outcomes.decision_said p t a)).0 (sym answer ∙ e) in
    (ordered, says_present (decision_of p t a).answer (decision_of p t a).order old ordered (rw (← order, ← block) h))

module _ (P : Panel) (M : Meets P) (old : PresenceRecord) (w : ℕ) (low : 0 < w) (high : w ≤ 60000) where
  ordered_in : (earlier : List CCall) (i : ToDecide) → OrdersNext P old w earlier i → Terms.OrdersPresent (decision_of (there P M old w low high earlier) i.moment (inputs_in i))
  ordered_in earlier i o =
      let n = record_after P old w earlier in
      let m = M.decide (on n i) in
      subst (λ (p : Presence). Terms.OrdersPresent (decision_of p i.moment (inputs_in i))) (record_in P M old w low high earlier)
      (orders_there (presence_in n) i.moment (inputs_in i) i.block (P.decide (on n i)) (ap (λ (r : DecisionSaid). r.answer) m.0) (ap (λ (r : DecisionSaid). r.order) m.0) m.4 o)

  orders : OrdersHaveTheirTouch P old w
  orders = record {
    own = λ earlier i o. rw (history_same P M old w low high earlier) ((Decision.OrdersHaveTheirTouch).own w low high (all_as earlier) i.moment (inputs_in i) (ordered_in earlier i o));
    apart = λ earlier later i j k l o e q f.
        (Decision.OrdersHaveTheirTouch).apart w low high (all_as earlier) (all_as later) i.moment j.moment (inputs_in i) (inputs_in j) k l
        (ordered_in earlier i o)
        (rw (← history_same P M old w low high earlier) e)
        (rw (← all_append later (Decide i ∷ earlier)) (ordered_in (later ++ Decide i ∷ earlier) j q))
        (rw (← all_append later (Decide i ∷ earlier), ← history_same P M old w low high (later ++ Decide i ∷ earlier)) f);
  }

-- ---- the theorem
pub OnTop : Claims.OnTop
OnTop P M = record {
  makes = λ old w. rw (M.new old w).0 (made_exactly w);
  touches = λ old w made calls. let h = (made_exactly w).0 (from old w made) in demand3 P M old w h.0 h.1 calls;
  orders = λ old w made. let h = (made_exactly w).0 (from old w made) in orders P M old w h.0 h.1;
  bodies = record {
    so_far = λ body buffer n limit fetches. so_far P M body buffer n limit fetches;
    takes = λ body r i. takes P M body r i;
    enough = λ body r fetches. enough P M body r fetches;
  };
  reaches = λ i. reached P M i;
  finished = finishes P M;
  none_lost = none_lost P M;
  carried = none_carries_over P M;
  room = data_sheet P M;
  answers = record {
    makes = (Panel'.ContractsAsClaimed).new P.new M.new;
    presences = presences P M;
    sides = sides P M;
    keeps = keeps P M;
    reads = (Panel'.ContractsAsClaimed).read P.read M.read;
    reads_strictly = (Panel'.ContractsAsClaimed).read_strict P.read_strict M.read_strict;
    reads_by_table = (Panel'.ContractsAsClaimed).read_by_table P.read_by_table M.read_by_table;
    reads_strictly_by_table = (Panel'.ContractsAsClaimed).read_strict_by_table P.read_strict_by_table M.read_strict_by_table;
    writes = (Panel'.ContractsAsClaimed).write P.write M.write;
    writes_strictly = (Panel'.ContractsAsClaimed).write_strict P.write_strict M.write_strict;
    commands = commands P M;
    decides = (Panel'.ContractsAsClaimed).decide P.decide M.decide;
    signs = signs_lent P M;
    finishes = finishing P M;
    responds = (Panel'.ContractsAsClaimed).write_response P.write_response M.write_response;
    responses = responses P M;
    parts = (Panel'.ContractsAsClaimed).next_part P.next_part M.next_part;
    rooms = (Panel'.ContractsAsClaimed).response_room P.response_room M.response_room;
  };
}
  where
    from : (old : PresenceRecord) (w : ℕ) → (P.new old w).said ≡ 0x9000 → answer_no (new_of w) ≡ 0x9000
    from old w made = sym (M.new old w).0 ∙ made
