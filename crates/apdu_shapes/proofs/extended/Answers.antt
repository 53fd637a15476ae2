-- `extended` meets its contract: each way through the tests is a case of `extended_of`.
use borrow.Author.Rules.{rules}
use Rattle.apdu_stated.proofs.Cases
use Rattle.apdu_shapes.proofs.Fields
use Rattle.apdu_shapes.proofs.extended.Goals as goal

pub returns-then-p-lt3 : goal.returns-then-p-lt3
returns-then-p-lt3 c = (search (rules, Cases.extended_missing), search rules)

pub returns-then-p-eq3 : goal.returns-then-p-eq3
returns-then-p-eq3 c = (search (rules, Fields.le3), search rules)

pub returns-then-lc_under : goal.returns-then-lc_under
returns-then-lc_under c = (search (rules, Cases.extended_lc_zero), search rules)

pub returns : goal.returns
returns c = (search (rules, Cases.extended_after), search rules)
