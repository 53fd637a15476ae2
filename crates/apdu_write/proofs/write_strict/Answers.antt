-- `write_strict` meets its contract: a row that the strict table has not decides, else the writer.
use borrow.Author.Rules.{rules}
use Rattle.apdu_stated.proofs.Fields
use Rattle.apdu_write.proofs.write_strict.Goals as goal

pub returns-then-not-strict_has : goal.returns-then-not-strict_has
returns-then-not-strict_has c = (search (rules, Fields.strict_unfit), search (rules, Fields.strict_kept))

pub returns : goal.returns
returns c = (search (rules, Fields.strict_wrote), search (rules, Fields.strict_laid))
