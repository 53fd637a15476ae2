-- The numbers tell the answers apart: each view has a way back.
use mathlib.Core.Path.{◌≡◌, refl, ap}
use mathlib.Core.Bool.{Bool, true, false}
use Rattle.outcome.specs.Outcome.{Outcome, R, Word, Gives}
use Rattle.outcome.proofs.Laws.{one_to_one}
use Rattle.outcome.proofs.Laws.{refusal_of, refusal_back}
use Rattle.u2f_up_stated.specs.Words.{Presence}
use Rattle.u2f_up_stated.specs.Moments.{Told}
use Rattle.u2f_up_stated.specs.Answers.{Ready, Answer, Step, ready_of, outcome_of, told_of}
use Rattle.std.specs.Prelude.{Ok, Err}

ready_back : Outcome Presence → Ready
ready_back (R n) = Err (refusal_of n)
ready_back (Word s) = Err (refusal_of 0)
ready_back (Gives p) = Ok p

ready_back_lem : (a : Ready) → ready_back (ready_of a) ≡ a
unfolding ready_back
ready_back_lem (Err r) = ap Err (refusal_back r)
ready_back_lem (Ok p) = refl

pub ready_apart : (a b : Ready) → ready_of a ≡ ready_of b → a ≡ b
ready_apart = one_to_one ready_of ready_back ready_back_lem

answer_back : Outcome Bool → Answer
answer_back (R n) = Err (refusal_of n)
answer_back (Word s) = Err (refusal_of 0)
answer_back (Gives found) = Ok found

answer_back_lem : (a : Answer) → answer_back (outcome_of a) ≡ a
unfolding answer_back
answer_back_lem (Err r) = ap Err (refusal_back r)
answer_back_lem (Ok true) = refl
answer_back_lem (Ok false) = refl

pub answer_apart : (a b : Answer) → outcome_of a ≡ outcome_of b → a ≡ b
answer_apart = one_to_one outcome_of answer_back answer_back_lem

step_back : Told → Step
step_back s = record { answer = answer_back s.outcome; presence = s.presence }

step_back_lem : (s : Step) → step_back (told_of s) ≡ s
unfolding step_back
step_back_lem s = ap (λ (a : Answer). record { answer = a; presence = s.presence }) (answer_back_lem s.answer)

pub step_apart : (a b : Step) → told_of a ≡ told_of b → a ≡ b
step_apart = one_to_one told_of step_back step_back_lem
