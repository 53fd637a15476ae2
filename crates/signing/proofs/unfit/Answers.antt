use Rattle.signing_stated.proofs.Cases.{blank_whole}
use borrow.Author.Rules.{rules}
use Rattle.signing.proofs.unfit.Goals as goal

pub returns : goal.returns
returns c = search (rules, blank_whole)
