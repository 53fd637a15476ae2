-- `brinecandle_new` meets its contract: the fresh record; of R6 the check finds it.
use borrow.Author.Rules.{rules}
use Rattle.panel_stated.proofs.Cases
use Rattle.panel.proofs.brinecandle_new.Goals as goal

pub returns-in-Ok : goal.returns-in-Ok
returns-in-Ok c = (search (rules, Cases.new_given), search (rules, Cases.new_made))
