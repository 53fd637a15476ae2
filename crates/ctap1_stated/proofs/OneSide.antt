-- From a fresh record, with one side throughout, decisions are the base's.
use Prim.Native.Nat.{ℕ, ◌<◌, ◌≤◌}
use mathlib.Core.Path.{◌≡◌, refl, sym, ap, ap₂, ◌∙◌}
use mathlib.Core.Bool.{Bool, true, false}
use mathlib.Core.List.{List}
use mathlib.Core.Logic.{inl, ⊎_elim}
use native.Mathlib.Omega.{arith}
use Rattle.outcome.specs.Outcome.{Outcome, R, Word, Gives}
use Rattle.command_stated.specs.Command.{Command, Register, Authenticate, Version, GetResponse, command_of}
use Rattle.u2f_up_stated.specs.Moments.{Told, moved_to, settle_of, checked_of}
use Rattle.u2f_up_stated.specs.Runs.{after}
use Rattle.u2f_up_stated.specs.OneSide.{base_settle_of, base_checked_of, base_by, KeepsToBase, sideless, NamesOnly, OnlySide}
use Rattle.u2f_up_stated.specs.declared.Presence.{Presence}
use Rattle.u2f_up_stated.specs.declared.Finding.{Finding}
use Rattle.u2f_up_stated.proofs.Laws.{Mine, base_refused, base_no_status, SettledSame, refusing, moving, settled_same, checked_same, same, run, one_side}
use Rattle.ctap1_stated.specs.Words.{Inputs, Allowed}
use Rattle.ctap1_stated.specs.Path.{PathEnd, Internal, WrongData, Orders, DecisionPath, NoRoom, Ends, SixBytes, Fetches, Signs, Touch, register_ending, register_path, command_path, allowed_path, path_of, role_of_path, role_of}
use Rattle.ctap1_stated.specs.Decision.{touch_checked, along_by, on_settled_by, decision_of}
use Rattle.ctap1_stated.specs.Calls.{PanelCall, TouchAt, CheckAt, AskAt, DecideAt, told_by, panel_calls}
use Rattle.ctap1_stated.specs.OneSide.{base_decision_of, base_with, sideless_result}
use Rattle.ctap1_stated.specs.Terms.{on_side}
use Rattle.ctap1_stated.specs.Claims
use Rattle.ctap1_stated.specs.declared.Allowed.TheVariants as Allowed'
use Rattle.ctap1_stated.proofs.Ways.{row}
use Rattle.ctap1_stated.proofs.RoleKept.{seen_refused, told_check, panel_keeps}

-- ---- what the base's decision does to the record is what the base did for its role
base_kept : (p : Presence) (side t : ℕ) (x : DecisionPath) → told_by (role_of_path side x) (on_settled_by (λ q. base_checked_of q t) p x (base_settle_of p t)) ≡ base_by (role_of_path side x) p t
unfolding base_by
base_kept p side t x = by (base_settle_of p t) refl x
  where
    by : (o : Outcome Presence) → base_settle_of p t ≡ o → (x : DecisionPath) → told_by (role_of_path side x) (on_settled_by (λ q. base_checked_of q t) p x o) ≡ base_by (role_of_path side x) p t
    by (R n) e x = seen_refused (role_of_path side x) n p ∙ sym (base_refused p t n e (role_of_path side x))
    by (Word s) e x = absurd (base_no_status p t s e)
    by (Gives q) e NoRoom = rw e
    by (Gives q) e (Ends s) = rw e
    by (Gives q) e SixBytes = rw e
    by (Gives q) e (Fetches sent) = rw e
    by (Gives q) e (Signs Internal) = rw e
    by (Gives q) e (Signs WrongData) = rw e
    by (Gives q) e (Signs (Orders o taken)) = rw e
    by (Gives q) e (Touch x) = told_check side (base_checked_of q t).yes (base_checked_of q t).presence x ∙ rw e

base_keeps : KeepsToBase (base_with base_decision_of)
unfolding base_decision_of
base_keeps p (TouchAt t) = refl
base_keeps p (CheckAt s t) = refl
base_keeps p (AskAt t) = refl
base_keeps p (DecideAt t a) = base_kept p a.side t (path_of a)

-- ---- one decision
ended_same : (yes : Bool) (q : Presence) (e : PathEnd) → sideless_result (touch_checked (record { yes = yes; presence = q }) e) ≡ touch_checked (record { yes = yes; presence = sideless q }) e
ended_same false q e = refl
ended_same true q Internal = refl
ended_same true q WrongData = refl
ended_same true q (Orders o taken) = refl

touch_same : (f g : Finding) → f.yes ≡ g.yes → sideless f.presence ≡ g.presence → (e : PathEnd) → sideless_result (touch_checked f e) ≡ touch_checked g e
touch_same f g y q e = ended_same f.yes f.presence e ∙ ap₂ (λ (b : Bool) (r : Presence). touch_checked (record { yes = b; presence = r }) e) y q

module _ (s : ℕ) (one : s ≤ 1) (p : Presence) (mine : Mine s p) (t : ℕ) where
  along_same : (x : DecisionPath) → sideless_result (along_by (λ q. checked_of q s t) x p (moved_to p t)) ≡ along_by (λ q. base_checked_of q t) x (sideless p) (moved_to (sideless p) t)
  along_same NoRoom = refl
  along_same (Ends w) = refl
  along_same SixBytes = refl
  along_same (Fetches sent) = refl
  along_same (Signs Internal) = refl
  along_same (Signs WrongData) = refl
  along_same (Signs (Orders o taken)) = refl
  along_same (Touch e) = let c = checked_same s one p mine t in touch_same (checked_of (moved_to p t) s t) (base_checked_of (moved_to (sideless p) t) t) c.0 c.1 e

  pub decision_same : (a : Inputs) → a.side ≡ s → sideless_result (decision_of p t a) ≡ base_decision_of (sideless p) t a
  unfolding decision_of base_decision_of
  decision_same a e = ap (λ (j : ℕ). sideless_result (on_settled_by (λ q. checked_of q j t) p (path_of a) (settle_of p j t))) e ∙ by (settled_same s one p mine t s one)
    where
      by : SettledSame s one p mine t s
          → sideless_result (on_settled_by (λ q. checked_of q s t) p (path_of a) (settle_of p s t)) ≡ on_settled_by (λ q. base_checked_of q t) (sideless p) (path_of a) (base_settle_of (sideless p) t)
      by (refusing n x y) = rw (x, y)
      by (moving x y) = rw (x, y) (along_same (path_of a))

-- ---- the base's decision by the table: on a record of side 0, with side 0 named, it is the decision; and the side that is named is not looked at
only_0 : (side : ℕ) (x : DecisionPath) → side ≡ 0 → NamesOnly 0 (role_of_path side x)
only_0 side NoRoom e = e
only_0 side (Ends w) e = e
only_0 side SixBytes e = e
only_0 side (Fetches sent) e = e
only_0 side (Signs x) e = e
only_0 side (Touch x) e = e

sideless_0 : (q : Presence) → q.asker ≡ 0 → sideless q ≡ q
sideless_0 q e = λ d. record { w = q.w; prompt = q.prompt; touch = q.touch; last = q.last; asker = sym e d }

module _ (p : Presence) (t : ℕ) (a : Inputs) (is_0 : p.asker ≡ 0) (names_0 : a.side ≡ 0) where
  stays_0 : (decision_of p t a).presence.asker ≡ 0
  stays_0 =
      let m : Mine 0 (decision_of p t a).presence = rw (ap (λ (s : Told). s.presence) (panel_keeps p (DecideAt t a))) (same 0 (omega arith) p (inl is_0) t (role_of a) (only_0 a.side (path_of a) names_0)).still_mine in
      ⊎_elim (λ x. x) (λ x. x.0) m

  is_the_decision : decision_of p t a ≡ base_decision_of p t a
  is_the_decision =
      let r = decision_of p t a in
      sym (ap (λ (q : Presence). record { answer = r.answer; presence = q; order = r.order; taken = r.taken }) (sideless_0 r.presence stays_0))
      ∙ decision_same 0 (omega arith) p (inl is_0) t a names_0 ∙ ap (λ (q : Presence). base_decision_of q t a) (sideless_0 p is_0)

path_any : (s : ℕ) (a : Inputs) → path_of (on_side s a) ≡ path_of a
unfolding path_of allowed_path command_path register_path register_ending
path_any s a = by a.hardware.allowed
  where
    on_command : (o : Outcome Command) → command_path (on_side s a) o ≡ command_path a o
    on_command (R n) = refl
    on_command (Word w) = refl
    on_command (Gives Version) = refl
    on_command (Gives GetResponse) = refl
    on_command (Gives (Register said)) = refl
    on_command (Gives (Authenticate p1 said)) = refl

    by : (k : Allowed) → allowed_path k (on_side s a) ≡ allowed_path k a
    by Allowed'.Failed = refl
    by Allowed'.No = refl
    by Allowed'.Yes = on_command (command_of a.frame)

pub base_decides : Claims.BaseDecidesExactly base_decision_of
unfolding base_decision_of
base_decides = record {
  row = λ p t a e f. rw (is_the_decision p t a e f) at (row p t a);
  any_side = λ p t a s. ap (λ (x : DecisionPath). on_settled_by (λ q. base_checked_of q t) p x (base_settle_of p t)) (path_any s a);
}

-- ---- runs
pub one_side_is_base : Claims.OneSideIsBase decision_of base_decision_of
one_side_is_base = record { calls = one_side panel_calls (base_with base_decision_of) panel_keeps base_keeps (λ d. refl); decisions = decisions }
  where
    decisions : (w : ℕ) → 0 < w → w ≤ 60000 → (s : ℕ) → s ≤ 1 → (earlier : List PanelCall) → OnlySide panel_calls s earlier → (t : ℕ) (a : Inputs) → a.side ≡ s
        → sideless_result (decision_of (after panel_calls w earlier) t a) ≡ base_decision_of (after (base_with base_decision_of) w earlier) t a
    decisions w least most s one earlier only t a e =
        let r = run panel_calls (base_with base_decision_of) panel_keeps base_keeps (λ d. refl) w s one earlier only in
        decision_same s one (after panel_calls w earlier) r.1 t a e ∙ ap (λ (q : Presence). base_decision_of q t a) r.0
