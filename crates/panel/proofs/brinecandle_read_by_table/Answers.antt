-- `brinecandle_read_by_table` meets its contract: the two readers answer the same.
use borrow.Author.Rules.{rules}
use Rattle.panel.proofs.ByTable
use Rattle.panel.proofs.brinecandle_read_by_table.Goals as goal

pub returns : goal.returns
returns c = search (rules, ByTable.by_table)
