-- `u2f_up::granted` meets its contract: each return is a law of proofs/Cases.antt.
use borrow.Author.Rules.{rules}
use Rattle.u2f_up_stated.proofs.Cases
use Rattle.u2f_up.proofs.granted.Goals as goal

pub returns-then-is_live : goal.returns-then-is_live
returns-then-is_live c = search (rules, Cases.granted_yes)

pub returns : goal.returns
returns c = search (rules, Cases.granted_no)
