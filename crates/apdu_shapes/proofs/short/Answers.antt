-- `short` meets its contract: each way through the tests is a case of `short_of`.
use borrow.Author.Rules.{rules}
use Rattle.apdu_stated.proofs.Cases
use Rattle.apdu_shapes.proofs.Fields
use Rattle.apdu_shapes.proofs.short.Goals as goal

pub returns-then-p-n : goal.returns-then-p-n
returns-then-p-n c = (search (rules, Cases.short_missing), search rules)

pub returns-then-p-n-2 : goal.returns-then-p-n-2
returns-then-p-n-2 c = (search (rules, Cases.short_data), search rules)

pub returns-then-p-n-3 : goal.returns-then-p-n-3
returns-then-p-n-3 c = (search (rules, Fields.short_le), search rules)

pub returns : goal.returns
returns c = (search (rules, Cases.short_surplus), search rules)
