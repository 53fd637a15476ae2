-- `put_content` meets its contract: the data, and Le in the rest.
use borrow.Author.Rules.{rules}
use Rattle.octets.proofs.Laws.{laid_then}
use Rattle.apdu_write.proofs.put_content.Goals as goal

pub returns : goal.returns
returns c = search (rules, laid_then)
