-- `says` meets its contract: the fields where the row has them.
use borrow.Author.Rules.{rules}
use Rattle.apdu_table.proofs.Field
use Rattle.apdu_table.proofs.says.Goals as goal

pub returns : goal.returns
returns c = search (rules, Field.says_is)
