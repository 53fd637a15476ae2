-- Document 01's decision as it was before document 02, E7: R6 and R1, and the touch check of a record without sides (u2f_up's
-- specs/OneSide.antt). It does not look at the side that is named. For E7's "demand 2 compares runs with one side only".
use Rattle.ctap1_stated.specs.Words.{ℕ, Presence, Inputs, DecisionResult}
use Rattle.ctap1_stated.specs.Path.{path_of, role_of}
use Rattle.ctap1_stated.specs.Decision.{on_settled_by}
use Rattle.ctap1_stated.specs.Calls.{PanelCall, TouchAt, CheckAt, AskAt, DecideAt, call_of, told_by}
use Rattle.u2f_up_stated.specs.Moments.{Told}
use Rattle.u2f_up_stated.specs.History.{Touching, Checking, Asking}
use Rattle.u2f_up_stated.specs.Runs.{Caller}
use Rattle.u2f_up_stated.specs.OneSide.{base_settle_of, base_checked_of, base_by, sideless}

-- 1. "R6, R1.", then along the path
unfoldable pub base_decision_of : Presence → ℕ → Inputs → DecisionResult
base_decision_of p t a = on_settled_by (λ q. base_checked_of q t) p (path_of a) (base_settle_of p t)

-- the calls of the panel, as they were
abbrev pub base_does : (Presence → ℕ → Inputs → DecisionResult) → Presence → PanelCall → Told
base_does decide p (TouchAt t) = base_by Touching p t
base_does decide p (CheckAt s t) = base_by (Checking s) p t
base_does decide p (AskAt t) = base_by Asking p t
base_does decide p (DecideAt t a) = told_by (role_of a) (decide p t a)

abbrev pub base_with : (Presence → ℕ → Inputs → DecisionResult) → Caller PanelCall
base_with decide = record { as_call = call_of; does = base_does decide }

-- a result but for the record's asking side
abbrev pub sideless_result : DecisionResult → DecisionResult
sideless_result r = record { answer = r.answer; presence = sideless r.presence; order = r.order; taken = r.taken }
