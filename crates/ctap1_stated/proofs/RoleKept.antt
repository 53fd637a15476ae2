-- A decision does to the presence record only what the role of its path says.
use Prim.Native.Nat.{ℕ}
use mathlib.Core.Path.{◌≡◌, refl, sym, ◌∙◌}
use mathlib.Core.Bool.{Bool, true, false}
use Rattle.outcome.specs.Outcome.{Outcome, R, Word, Gives}
use Rattle.u2f_up_stated.specs.Moments.{settle_of, checked_of, gave, refused}
use Rattle.u2f_up_stated.specs.History.{Role, Touching, Checking, Asking, Settling, TooShort}
use Rattle.u2f_up_stated.specs.Runs.{done_by, Keeps}
use Rattle.u2f_up_stated.specs.declared.Presence.{Presence}
use Rattle.u2f_up_stated.proofs.Laws.{settled_as, done_refused, done_checking, done_settling, done_short, done_touch, done_check, done_ask, settle_no_status}
use Rattle.ctap1_stated.specs.Path.{PathEnd, Internal, WrongData, Orders, DecisionPath, NoRoom, Ends, SixBytes, Fetches, Signs, Touch, role_of_path, path_of}
use Rattle.ctap1_stated.specs.Decision.{refusal_result, touch_checked, on_moment, decision_of}
use Rattle.ctap1_stated.specs.Calls.{told_by, TouchAt, CheckAt, AskAt, DecideAt, panel_calls}

pub seen_refused : (k : Role) (n : ℕ) (p : Presence) → told_by k (refusal_result n p) ≡ refused n p
seen_refused Touching n p = refl
seen_refused (Checking s) n p = refl
seen_refused Asking n p = refl
seen_refused (Settling s) n p = refl
seen_refused (TooShort s) n p = refl

pub told_check : (side : ℕ) (yes : Bool) (q : Presence) (e : PathEnd) → told_by (Checking side) (touch_checked (record { yes = yes; presence = q }) e) ≡ gave (record { yes = yes; presence = q })
told_check side false q e = refl
told_check side true q Internal = refl
told_check side true q WrongData = refl
told_check side true q (Orders o taken) = refl

-- a call settles as the side that its role names
settled_as_lem : (p : Presence) (side : ℕ) (x : DecisionPath) → settled_as p (role_of_path side x) ≡ side
settled_as_lem p side NoRoom = refl
settled_as_lem p side (Ends s) = refl
settled_as_lem p side SixBytes = refl
settled_as_lem p side (Fetches sent) = refl
settled_as_lem p side (Signs e) = refl
settled_as_lem p side (Touch e) = refl

kept : (p : Presence) (side t : ℕ) (x : DecisionPath) → told_by (role_of_path side x) (on_moment p side t x (settle_of p side t)) ≡ done_by (role_of_path side x) p t
kept p side t x = by (settle_of p side t) refl x
  where
    by : (o : Outcome Presence) → settle_of p side t ≡ o → (x : DecisionPath) → told_by (role_of_path side x) (on_moment p side t x o) ≡ done_by (role_of_path side x) p t
    by (R n) e x = seen_refused (role_of_path side x) n p ∙ sym (done_refused p t n (role_of_path side x) (rw (settled_as_lem p side x) e))
    by (Word s) e x = absurd (settle_no_status p side t s e)
    by (Gives q) e NoRoom = sym (done_short p t q side e)
    by (Gives q) e (Ends s) = sym (done_settling p t q side e)
    by (Gives q) e SixBytes = sym (done_settling p t q side e)
    by (Gives q) e (Fetches sent) = sym (done_settling p t q side e)
    by (Gives q) e (Signs Internal) = sym (done_settling p t q side e)
    by (Gives q) e (Signs WrongData) = sym (done_settling p t q side e)
    by (Gives q) e (Signs (Orders o taken)) = sym (done_settling p t q side e)
    by (Gives q) e (Touch x) = told_check side (checked_of q side t).yes (checked_of q side t).presence x ∙ sym (done_checking p t q side e)

pub panel_keeps : Keeps panel_calls
unfolding decision_of
panel_keeps p (TouchAt t) = sym (done_touch p t)
panel_keeps p (CheckAt s t) = sym (done_check p t s)
panel_keeps p (AskAt t) = sym (done_ask p t)
panel_keeps p (DecideAt t a) = kept p a.side t (path_of a)
