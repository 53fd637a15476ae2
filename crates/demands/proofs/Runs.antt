-- The run that C's calls make of a panel that meets its contracts is the run of the definitions (ctap1_stated's `panel_calls`): the same history, and the
-- numbers in C's hand stand for the record there.
use Prim.Native.Nat.{ℕ, suc, ◌<◌, ◌≤◌}
use mathlib.Core.Path.{◌≡◌, refl, ap, ap₂, sym, ◌∙◌}
use mathlib.Core.Bool.{Bool, true}
use mathlib.Core.List.{List, [], ◌∷◌, ◌++◌}
use native.Mathlib.Omega.{arith}
use borrow.Author.Tests.{ne_eqb, le-leb, lt-leb, le-ltb}
use lib.ListN.{length}
use Rattle.outcome.specs.Outcome.{Outcome, R, Word, Gives}
use Rattle.u2f_up_stated.specs.declared.Presence.{Presence}
use Rattle.u2f_up_stated.specs.Moments.{Told, fresh, new_of, settle_of, on_settled, touch_of, check_of, ask_of}
use Rattle.u2f_up_stated.specs.History.{Role, Touching, Checking, Asking, Settling, TooShort, Call, Came, Event}
use Rattle.u2f_up_stated.specs.Runs.{after, comes_to, history, came_of, came_of_given}
use Rattle.ctap1_stated.specs.Words.{DecisionGives, Body, Ordered, Part}
use Rattle.ctap1_stated.specs.Path.{DecisionPath, NoRoom, Ends, SixBytes, Fetches, Signs, Touch, path_of, role_of, role_of_path}
use Rattle.ctap1_stated.specs.Decision.{decision_of}
use Rattle.ctap1_stated.specs.Calls.{PanelCall, TouchAt, CheckAt, AskAt, DecideAt, seen, panel_calls}
use Rattle.panel_stated.specs.declared.Asked.{Asked}
use Rattle.panel_stated.specs.declared.DecisionSaid.{DecisionSaid}
use Rattle.panel_stated.specs.Numbers.{answer_no, decided_no}
use Rattle.panel_stated.specs.Terms.{IsNumbered}
use Rattle.panel_stated.specs.Exports.{yes_in, made_over}
use Rattle.panel_stated.proofs.Outcomes as Outcomes
use Rattle.u2f_up_stated.specs.Numbers.{presence_in}
use Rattle.u2f_up_stated.specs.declared.PresenceRecord.{PresenceRecord}
use Rattle.session_stated.specs.Promises.{inputs_in}
use Rattle.demands.specs.Panel.{Panel, Meets}
use Rattle.demands.specs.Calls.{CCall, Touch as CTouch, Check, Ask, Decide, on, as_call, came_of_yes, came_of_answer, record_after, came_next, history_of}

-- C's calls as the definitions' calls
abbrev pub as_panel : CCall → PanelCall
as_panel (CTouch t) = TouchAt t
as_panel (Check s t) = CheckAt s t
as_panel (Ask t) = AskAt t
as_panel (Decide i) = DecideAt i.moment (inputs_in i)

abbrev pub all_as : List CCall → List PanelCall
all_as [] = []
all_as (c ∷ cs) = as_panel c ∷ all_as cs

pub all_append : (later earlier : List CCall) → all_as (later ++ earlier) ≡ all_as later ++ all_as earlier
all_append [] earlier = refl
all_append (c ∷ later) earlier = ap (λ (l : List PanelCall). as_panel c ∷ l) (all_append later earlier)

pub all_length : (cs : List CCall) → length (all_as cs) ≡ length cs
all_length [] = refl
all_length (c ∷ cs) = ap suc (all_length cs)

-- ---- what C sees is what came of the call
came_yes : (role : Role) (o : Outcome Bool) → IsNumbered o → came_of_yes role (answer_no o) (yes_in o) ≡ came_of role o
came_yes role (R n) h = rw (le-leb n 8 h.1)
came_yes role (Word s) h = rw (lt-leb s.number 8 (omega arith), ne_eqb s.number 0x9000 (λ e. omega arith))
came_yes role (Gives b) h = refl

came_role : (role : Role) (o : Outcome DecisionGives) → ((b : Bool) → came_of_given role b ≡ came_of_given role true) → seen role o ≡ seen Touching o → IsNumbered o → came_of_answer role (decided_no o) ≡ came_of role (seen role o)
came_role role (R n) h e k = rw (e, le-leb n 8 k.1)
came_role role (Word s) h e k = rw (e, lt-leb s.number 8 (omega arith)) (h _)
came_role role (Gives (Body n)) h e k = rw e refl
came_role role (Gives Ordered) h e k = rw e refl
came_role role (Gives (Part n r)) h e k = rw e refl

came_check : (s : ℕ) (o : Outcome DecisionGives) → IsNumbered o → came_of_answer (Checking s) (decided_no o) ≡ came_of (Checking s) (seen (Checking s) o)
came_check s (R n) k = rw (le-leb n 8 k.1)
came_check s (Word w) k = rw (lt-leb w.number 8 (omega arith))
came_check s (Gives (Body n)) k = refl
came_check s (Gives Ordered) k = refl
came_check s (Gives (Part n r)) k = refl

came_path : (s : ℕ) (path : DecisionPath) (o : Outcome DecisionGives) → IsNumbered o
    → came_of_answer (role_of_path s path) (decided_no o) ≡ came_of (role_of_path s path) (seen (role_of_path s path) o)
came_path s NoRoom o k = came_role (TooShort s) o (λ b. refl) refl k
came_path s (Ends w) o k = came_role (Settling s) o (λ b. refl) refl k
came_path s SixBytes o k = came_role (Settling s) o (λ b. refl) refl k
came_path s (Fetches f) o k = came_role (Settling s) o (λ b. refl) refl k
came_path s (Signs e) o k = came_role (Settling s) o (λ b. refl) refl k
came_path s (Touch e) o k = came_check s o k

-- an ask keeps the record
ask_by : (p : Presence) (t : ℕ) (o : Outcome Presence) (go : Presence → Told) → ((q : Presence) → (go q).presence ≡ p) → (on_settled p o go).presence ≡ p
ask_by p t (R n) go h = refl
ask_by p t (Word s) go h = refl
ask_by p t (Gives q) go h = h q

ask_keeps : (p : Presence) (t : ℕ) → (ask_of p t).presence ≡ p
unfolding ask_of
ask_keeps p t = ask_by p t (settle_of p p.asker t) _ (λ q. refl)

new_is : (w : ℕ) → 0 < w → w ≤ 60000 → new_of w ≡ Gives (fresh w)
unfolding new_of
new_is w low high = rw (ne_eqb w 0 (λ e. omega arith), le-ltb 60000 w high)

module _ (P : Panel) (M : Meets P) (old : PresenceRecord) (w : ℕ) (low : 0 < w) (high : w ≤ 60000) where
  -- the record of the definitions' run
  abbrev pub there : List CCall → Presence
  there cs = after panel_calls w (all_as cs)

  -- the numbers in hand stand for the record there
  pub record_in : (cs : List CCall) → presence_in (record_after P old w cs) ≡ there cs
  unfolding record_after after
  record_in [] = (M.new old w).1 ∙ ap (λ (o : Outcome Presence). made_over o (presence_in old)) (new_is w low high)
  record_in (CTouch t ∷ cs) = (M.grant_up (record_after P old w cs) t).1 ∙ ap (λ (p : Presence). (touch_of p t).presence) (record_in cs)
  record_in (Check s t ∷ cs) = (M.consume_up (record_after P old w cs) s t).1 ∙ ap (λ (p : Presence). (check_of p s t).presence) (record_in cs)
  record_in (Ask t ∷ cs) = record_in cs ∙ sym (ask_keeps (there cs) t)
  record_in (Decide i ∷ cs) = (M.decide (on (record_after P old w cs) i)).1 ∙ ap (λ (p : Presence). (decision_of p i.moment (inputs_in i)).presence) (record_in cs)

  -- what C sees of the next call is what comes of it there
  pub came_same : (cs : List CCall) (c : CCall) → came_next P old w cs c ≡ comes_to panel_calls w (all_as cs) (as_panel c)
  unfolding came_next
  came_same cs (CTouch t) =
      ap (λ (r : Asked). came_of_yes Touching r.answer r.yes) (M.grant_up (record_after P old w cs) t).0
      ∙ ap (λ (p : Presence). came_of_yes Touching (answer_no (touch_of p t).outcome) (yes_in (touch_of p t).outcome)) (record_in cs)
      ∙ came_yes Touching (touch_of (there cs) t).outcome (Outcomes.touch_said (there cs) t)
  came_same cs (Check s t) =
      ap (λ (r : Asked). came_of_yes (Checking s) r.answer r.yes) (M.consume_up (record_after P old w cs) s t).0
      ∙ ap (λ (p : Presence). came_of_yes (Checking s) (answer_no (check_of p s t).outcome) (yes_in (check_of p s t).outcome)) (record_in cs)
      ∙ came_yes (Checking s) (check_of (there cs) s t).outcome (Outcomes.check_said (there cs) t s)
  came_same cs (Ask t) =
      ap (λ (r : Asked). came_of_yes Asking r.answer r.yes) (M.is_up_needed (record_after P old w cs) t)
      ∙ ap (λ (p : Presence). came_of_yes Asking (answer_no (ask_of p t).outcome) (yes_in (ask_of p t).outcome)) (record_in cs)
      ∙ came_yes Asking (ask_of (there cs) t).outcome (Outcomes.ask_said (there cs) t)
  came_same cs (Decide i) =
      ap (λ (r : DecisionSaid). came_of_answer (role_of (inputs_in i)) r.answer) (M.decide (on (record_after P old w cs) i)).0
      ∙ ap (λ (p : Presence). came_of_answer (role_of (inputs_in i)) (decided_no (decision_of p i.moment (inputs_in i)).answer)) (record_in cs)
      ∙ came_path i.side (path_of (inputs_in i)) (decision_of (there cs) i.moment (inputs_in i)).answer (Outcomes.decision_said (there cs) i.moment (inputs_in i))

  -- what a call is, in both
  pub call_same : (c : CCall) → as_call c ≡ panel_calls.as_call (as_panel c)
  call_same (CTouch t) = refl
  call_same (Check s t) = refl
  call_same (Ask t) = refl
  call_same (Decide i) = refl

  -- the two histories are one
  pub history_same : (cs : List CCall) → history_of P old w cs ≡ history panel_calls w (all_as cs)
  unfolding history_of history
  history_same [] = refl
  history_same (c ∷ cs) =
      ap₂ (λ (e : Event) (l : List Event). e ∷ l)
      (ap₂ (λ (k : Call) (o : Came). record { call = k; came = o }) (call_same c) (came_same cs c)) (history_same cs)
