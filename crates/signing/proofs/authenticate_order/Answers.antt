use Rattle.signing_stated.proofs.Cases.{authenticate_application_unfit, authenticate_challenge_unfit, authenticate_made}
use borrow.Author.Rules.{rules}
use Rattle.signing.proofs.authenticate_order.Goals as goal

pub returns-then-application-ne32 : goal.returns-then-application-ne32
returns-then-application-ne32 c = search (rules, authenticate_application_unfit)

pub returns-then-challenge-ne32 : goal.returns-then-challenge-ne32
returns-then-challenge-ne32 c = search (rules, authenticate_challenge_unfit)

pub returns : goal.returns
returns c = search (rules, authenticate_made)
