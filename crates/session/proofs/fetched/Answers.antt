-- `fetched` meets its contract: nothing left, a refusal, or the next part.
use borrow.Author.Rules.{rules}
use Rattle.session_stated.proofs.Cases
use Rattle.session.proofs.fetched.Goals as goal

pub returns-then-remainder-eq0-clause-presence_after : goal.returns-then-remainder-eq0-clause-presence_after
returns-then-remainder-eq0-clause-presence_after c = search (rules, Cases.nothing_left)

pub returns-then-remainder-eq0-clause-part_after : goal.returns-then-remainder-eq0-clause-part_after
returns-then-remainder-eq0-clause-part_after c = search (rules, Cases.nothing_kept)

pub returns-in-Err-clause-presence_after : goal.returns-in-Err-clause-presence_after
returns-in-Err-clause-presence_after c = search (rules, Cases.next_refused)

pub returns-in-Err-clause-part_after : goal.returns-in-Err-clause-part_after
returns-in-Err-clause-part_after c = search (rules, Cases.next_laid)

pub returns-in-Ok-clause-presence_after : goal.returns-in-Ok-clause-presence_after
returns-in-Ok-clause-presence_after c = search (rules, Cases.next_part)

pub returns-in-Ok-clause-part_after : goal.returns-in-Ok-clause-part_after
returns-in-Ok-clause-part_after c = search (rules, Cases.next_laid)
