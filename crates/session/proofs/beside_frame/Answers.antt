-- `beside_frame` meets its contract: limit and kind are the reading's.
use borrow.Author.Rules.{rules}
use Rattle.session_stated.proofs.OuterChecks
use Rattle.session.proofs.beside_frame.Goals as goal

pub returns : goal.returns
returns c = (search rules, search (rules, OuterChecks.limit_is), search (rules, OuterChecks.asks_is))
