-- `u2f_up::settle` meets its contract: each return is a law of proofs/Cases.antt.
use borrow.Author.Rules.{rules}
use Rattle.u2f_up_stated.proofs.Cases
use Rattle.u2f_up.proofs.settle.Goals as goal

pub returns-then-is_r6 : goal.returns-then-is_r6
returns-then-is_r6 c = search (rules, Cases.settle_r6)

pub returns-then-is_r8 : goal.returns-then-is_r8
returns-then-is_r8 c = search (rules, Cases.settle_r8)

pub returns-then-is_r1 : goal.returns-then-is_r1
returns-then-is_r1 c = search (rules, Cases.settle_r1)

pub returns : goal.returns
returns c = search (rules, Cases.settled)
