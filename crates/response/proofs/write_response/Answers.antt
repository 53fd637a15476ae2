-- `write_response` meets its contract: the body, and the status behind it.
use borrow.Author.Rules.{rules}
use Rattle.response_stated.proofs.Cases
use Rattle.response.proofs.write_response.Goals as goal

pub returns-then-out-lt2 : goal.returns-then-out-lt2
returns-then-out-lt2 c = Cases.write_refused _ _ _ (search (rules, Cases.write_under_two))

pub returns-then-out-n : goal.returns-then-out-n
returns-then-out-n c = Cases.write_refused _ _ _ (search (rules, Cases.write_no_room))

pub returns : goal.returns
returns c = (search (rules, Cases.write_room), search (rules, Cases.write_laid))
