-- The answers of src/lib.rt in document 01's numbers.
use Rattle.u2f_up_stated.specs.Words.{Bool, Ok, Err, Outcome, R, Gives, refusal_no, Presence}
use Rattle.u2f_up_stated.specs.Moments.{Told}
pub use Rattle.u2f_up_stated.specs.Words.{Ready, Answer}
pub use Rattle.u2f_up_stated.specs.declared.Step.{Step}

-- 01, Forms to follow: "Where an answer is an enum, a definition gives this paper's number and values for each of its cases."
-- A record made or settled.
abbrev pub ready_of : Ready → Outcome Presence
ready_of (Err why) = R (refusal_no why)
ready_of (Ok p) = Gives p

-- A touch was accepted or not, a check found a touch or not, a prompt is live or not.
abbrev pub outcome_of : Answer → Outcome Bool
outcome_of (Err why) = R (refusal_no why)
outcome_of (Ok found) = Gives found

-- An answer with the record after it.
abbrev pub told_of : Step → Told
told_of s = record { outcome = outcome_of s.answer; presence = s.presence }

-- An answer beside a lent record: that record at exit is the one after it.
abbrev pub lent_step : Answer × Presence → Step
lent_step o = record { answer = o.0; presence = o.1 }
