-- `left_status` meets its contract: nothing left, less than 256, or more.
use borrow.Author.Rules.{rules}
use Rattle.response_stated.proofs.Cases
use Rattle.response.proofs.left_status.Goals as goal

pub returns-then-left-eq0 : goal.returns-then-left-eq0
returns-then-left-eq0 c = search (rules, Cases.left_none)

pub returns-then-left-lt256 : goal.returns-then-left-lt256
returns-then-left-lt256 c = search (rules, Cases.left_some)

pub returns : goal.returns
returns c = search (rules, Cases.left_many)
