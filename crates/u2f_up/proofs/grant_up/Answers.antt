-- `u2f_up::grant_up` meets its contract: each return is a law of proofs/Cases.antt.
use borrow.Author.Rules.{rules}
use Rattle.u2f_up_stated.proofs.Cases
use Rattle.u2f_up.proofs.grant_up.Goals as goal

pub returns-in-Err : goal.returns-in-Err
returns-in-Err c = search (rules, Cases.touch_refused)

pub returns-in-Ok : goal.returns-in-Ok
returns-in-Ok c = search (rules, Cases.touch_found)
