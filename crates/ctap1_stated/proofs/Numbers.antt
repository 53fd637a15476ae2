-- The numbers tell the answers apart: each view has a way back.
use mathlib.Core.Path.{◌≡◌, refl, ap}
use Rattle.outcome.specs.Outcome.{Outcome, R, Word, Gives}
use Rattle.outcome.proofs.Laws.{one_to_one}
use Rattle.outcome.proofs.Laws.{refusal_of, refusal_back}
use Rattle.ctap1_stated.specs.Words.{DecisionGives, Body, Ordered, Part, DecisionAlone, Decision, DecisionAnswer, decision_answer_of, alone_from}
use Rattle.ctap1_stated.specs.declared.DecisionAnswer.TheVariants as DecisionAnswer'

decided_back : Outcome DecisionGives → DecisionAnswer
decided_back (R n) = DecisionAnswer'.Refused (refusal_of n)
decided_back (Word s) = DecisionAnswer'.Status s.number s.kind s.place
decided_back (Gives (Body n)) = DecisionAnswer'.Body n
decided_back (Gives Ordered) = DecisionAnswer'.Order
decided_back (Gives (Part n after)) = DecisionAnswer'.Part n after

decided_back_lem : (d : DecisionAnswer) → decided_back (decision_answer_of d) ≡ d
unfolding decided_back
decided_back_lem (DecisionAnswer'.Refused r) = ap DecisionAnswer'.Refused (refusal_back r)
decided_back_lem (DecisionAnswer'.Status number kind place) = refl
decided_back_lem (DecisionAnswer'.Body n) = refl
decided_back_lem DecisionAnswer'.Order = refl
decided_back_lem (DecisionAnswer'.Part n after) = refl

pub decided_apart : (a b : DecisionAnswer) → decision_answer_of a ≡ decision_answer_of b → a ≡ b
decided_apart = one_to_one decision_answer_of decided_back decided_back_lem

alone_back : DecisionAlone → Decision
alone_back r = record { answer = decided_back r.answer; order = r.head; taken = r.taken }

alone_back_lem : (d : Decision) → alone_back (alone_from d) ≡ d
unfolding alone_back
alone_back_lem d = ap (λ (a : DecisionAnswer). record { answer = a; order = d.order; taken = d.taken }) (decided_back_lem d.answer)

pub decision_apart : (a b : Decision) → alone_from a ≡ alone_from b → a ≡ b
decision_apart = one_to_one alone_from alone_back alone_back_lem
