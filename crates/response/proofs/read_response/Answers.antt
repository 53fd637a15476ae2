-- `read_response` meets its contract: under two bytes, or the last two.
use borrow.Author.Rules.{rules}
use Rattle.response_stated.proofs.Cases
use Rattle.response.proofs.read_response.Goals as goal

pub returns-then-n-lt2 : goal.returns-then-n-lt2
returns-then-n-lt2 c = search (rules, Cases.read_under)

pub returns : goal.returns
returns c = search (rules, Cases.read_given)
