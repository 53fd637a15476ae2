-- `after_data` meets its contract: each way through the tests is a case of `after_data`.
use borrow.Author.Rules.{rules}
use Rattle.apdu_stated.proofs.Cases
use Rattle.apdu_shapes.proofs.Fields
use Rattle.apdu_shapes.proofs.after_data.Goals as goal

pub returns-then-p-n : goal.returns-then-p-n
returns-then-p-n c = (search (rules, Cases.after_missing), search rules)

pub returns-then-p-n-2 : goal.returns-then-p-n-2
returns-then-p-n-2 c = (search (rules, Cases.after_plain), search rules)

pub returns-then-p-n-3 : goal.returns-then-p-n-3
returns-then-p-n-3 c = (search (rules, Cases.after_one), search rules)

pub returns-then-p-n-4 : goal.returns-then-p-n-4
returns-then-p-n-4 c = (search (rules, Fields.after_le2), search rules)

pub returns : goal.returns
returns c = (search (rules, Cases.after_surplus), search rules)
