-- `u2f_up::new` meets its contract: each return is a law of proofs/Cases.antt.
use borrow.Author.Rules.{rules}
use Rattle.u2f_up_stated.proofs.Cases
use Rattle.u2f_up.proofs.new.Goals as goal

pub returns-then-is_r6 : goal.returns-then-is_r6
returns-then-is_r6 c = search (rules, Cases.new_r6)

pub returns : goal.returns
returns c = search (rules, Cases.new_made)
