-- `put_frame` meets its contract: the header, and the payload in the rest.
use borrow.Author.Rules.{rules}
use Rattle.apdu_stated.proofs.Fields
use Rattle.apdu_write.proofs.put_frame.Goals as goal

pub returns : goal.returns
returns c = search (rules, Fields.frame_then)
