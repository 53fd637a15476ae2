-- Document 01, 'Moments and touches', "In history terms": the calls on a presence record, decisions among them.
use Rattle.ctap1_stated.specs.Words.{Outcome, R, Word, Gives, ℕ, Bool, true, not, eqb, Presence, Inputs, DecisionGives, DecisionResult}
use Rattle.ctap1_stated.specs.Path.{role_of}
use Rattle.ctap1_stated.specs.Decision.{decision_of}
use Rattle.u2f_up_stated.specs.Moments.{Told, touch_of, check_of, ask_of}
use Rattle.u2f_up_stated.specs.History.{Role, Touching, Checking, Asking, Settling, TooShort, Call}
use Rattle.u2f_up_stated.specs.Runs.{Caller}

-- What is seen of a decision, by its role. "a touch check that finds no live touch: a 6985 from Register or from P1 03" (whether that is
-- a prompting refusal, its past says: 02, E7); "A call spends a touch if the check succeeds, also when a later step answers 6f00 or 6a80"
abbrev pub seen_of_check : Outcome DecisionGives → Outcome Bool
seen_of_check (R n) = R n
seen_of_check (Word s) = Gives (not (eqb s.number 0x6985))
seen_of_check (Gives g) = Gives true

abbrev pub seen_of_other : Outcome DecisionGives → Outcome Bool
seen_of_other (R n) = R n
seen_of_other (Word s) = Gives true
seen_of_other (Gives g) = Gives true

abbrev pub seen : Role → Outcome DecisionGives → Outcome Bool
seen (Checking s) answer = seen_of_check answer
seen Touching answer = seen_of_other answer
seen Asking answer = seen_of_other answer
seen (Settling s) answer = seen_of_other answer
seen (TooShort s) answer = seen_of_other answer

abbrev pub told_by : Role → DecisionResult → Told
told_by role r = record { outcome = seen role r.answer; presence = r.presence }

-- a call of the panel: a touch, a side's direct check or an ask at a moment, or a decision at a moment with all that it is lent, its side
-- among it
pub data PanelCall : Type 0 where
  TouchAt : ℕ → PanelCall
  CheckAt : (side t : ℕ) → PanelCall
  AskAt : ℕ → PanelCall
  DecideAt : ℕ → Inputs → PanelCall

abbrev pub call_of : PanelCall → Call
call_of (TouchAt t) = record { role = Touching; moment = t }
call_of (CheckAt s t) = record { role = Checking s; moment = t }
call_of (AskAt t) = record { role = Asking; moment = t }
call_of (DecideAt t a) = record { role = role_of a; moment = t }

-- with any decision, so that wrong ones can be tried
abbrev pub panel_does : (Presence → ℕ → Inputs → DecisionResult) → Presence → PanelCall → Told
panel_does decide p (TouchAt t) = touch_of p t
panel_does decide p (CheckAt s t) = check_of p s t
panel_does decide p (AskAt t) = ask_of p t
panel_does decide p (DecideAt t a) = told_by (role_of a) (decide p t a)

abbrev pub calls_with : (Presence → ℕ → Inputs → DecisionResult) → Caller PanelCall
calls_with decide = record { as_call = call_of; does = panel_does decide }

abbrev pub panel_calls : Caller PanelCall
panel_calls = calls_with decision_of
