-- `brinecandle_write_strict` meets its contract: a row that the strict table has not decides, else the writer.
use borrow.Author.Rules.{rules}
use Rattle.panel_stated.proofs.Cases
use Rattle.panel.proofs.brinecandle_write_strict.Goals as goal

pub returns-then-not-strict_plain : goal.returns-then-not-strict_plain
returns-then-not-strict_plain c = (search (rules, Cases.strict_unfit), search (rules, Cases.strict_kept))

pub returns : goal.returns
returns c = (search (rules, Cases.strict_wrote), search (rules, Cases.strict_laid))
