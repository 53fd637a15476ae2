use Rattle.signing_stated.proofs.Cases.{other_length, other_presence, authenticate_tail, authenticate_certificate}
use borrow.Author.Rules.{rules}
use Rattle.signing_layouts.proofs.is_authenticate.Goals as goal

pub returns-then-to_sign-ne69 : goal.returns-then-to_sign-ne69
returns-then-to_sign-ne69 c = search (rules, other_length)

pub returns-then-bytes-gt1 : goal.returns-then-bytes-gt1
returns-then-bytes-gt1 c = search (rules, other_presence)

pub returns-then-not-all_zero : goal.returns-then-not-all_zero
returns-then-not-all_zero c = search (rules, authenticate_tail)

pub returns : goal.returns
returns c = search (rules, authenticate_certificate)
