-- `payload` meets its contract: each way through the tests is a case of `lengths_of`.
use borrow.Author.Rules.{rules}
use Rattle.apdu_stated.proofs.Cases
use Rattle.apdu_shapes.proofs.Fields
use Rattle.apdu_shapes.proofs.payload.Goals as goal

pub returns-then-p-eq0 : goal.returns-then-p-eq0
returns-then-p-eq0 c = (search (rules, Cases.lengths_none), search rules)

pub returns-then-p-eq1 : goal.returns-then-p-eq1
returns-then-p-eq1 c = (search (rules, Fields.le1), search rules)

pub returns-then-first-eq0 : goal.returns-then-first-eq0
returns-then-first-eq0 c = (search (rules, Cases.lengths_extended), search rules)

pub returns : goal.returns
returns c = (search (rules, Cases.lengths_short), search rules)
