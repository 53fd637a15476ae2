-- `version` meets its contract: too little room, or the six bytes.
use borrow.Author.Rules.{rules}
use Rattle.ctap1_stated.proofs.Cases as Cases
use Rattle.ctap1.proofs.version.Goals as goal

pub returns-then-reply-lt6 : goal.returns-then-reply-lt6
returns-then-reply-lt6 c = (search (rules, Cases.version_short), search (rules, Cases.version_kept))

pub returns : goal.returns
returns c = (search (rules, Cases.version_body, Cases.with_head), search (rules, Cases.version_wrote))
