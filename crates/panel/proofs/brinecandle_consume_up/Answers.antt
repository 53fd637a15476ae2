-- `brinecandle_consume_up` meets its contract: refused, or the touch check on the numbers.
use borrow.Author.Rules.{rules}
use Rattle.panel_stated.proofs.Cases
use Rattle.panel.proofs.brinecandle_consume_up.Goals as goal

pub returns-in-Err : goal.returns-in-Err
returns-in-Err c = (search (rules, Cases.check_refused), search (rules, Cases.check_kept))

pub returns-in-Ok : goal.returns-in-Ok
returns-in-Ok c = (search (rules, Cases.check_found), search (rules, Cases.check_moved))
