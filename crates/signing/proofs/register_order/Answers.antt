use Rattle.signing_stated.proofs.Cases.{register_application_unfit, register_challenge_unfit, register_handle_unfit, register_made}
use borrow.Author.Rules.{rules}
use Rattle.signing.proofs.register_order.Goals as goal

pub returns-then-application-ne32 : goal.returns-then-application-ne32
returns-then-application-ne32 c = search (rules, register_application_unfit)

pub returns-then-challenge-ne32 : goal.returns-then-challenge-ne32
returns-then-challenge-ne32 c = search (rules, register_challenge_unfit)

pub returns-then-handle-gt255 : goal.returns-then-handle-gt255
returns-then-handle-gt255 c = search (rules, register_handle_unfit)

pub returns : goal.returns
returns c = search (rules, register_made)
