-- `put_payload` meets its contract: Lc, and data and Le in the rest.
use borrow.Author.Rules.{rules}
use Rattle.apdu_stated.proofs.Fields
use Rattle.apdu_write.proofs.put_payload.Goals as goal

pub put_lc-requires : goal.put_lc-requires
put_lc-requires c = search (rules, Fields.asks_within)

pub returns : goal.returns
returns c = search (rules, Fields.payload_then)
