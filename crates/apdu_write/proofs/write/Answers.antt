-- `write` meets its contract: each way through the tests is a case of `write_of`.
use borrow.Author.Rules.{rules}
use Rattle.apdu_stated.proofs.Fields
use Rattle.apdu_write.proofs.write.Goals as goal

pub returns-then-not-fits : goal.returns-then-not-fits
returns-then-not-fits c = Fields.refused _ _ _ _ _ _ (search (rules, Fields.no_fit))

pub returns-then-out-n : goal.returns-then-out-n
returns-then-out-n c = Fields.refused _ _ _ _ _ _ (search (rules, Fields.no_room))

pub put_frame-requires : goal.put_frame-requires
put_frame-requires c = (search (rules, Fields.asks_room), search (rules, Fields.asks_lc))

pub returns : goal.returns
returns c = Fields.wrote _ _ _ _ _ _ _ c.put_frame.ensures (search (rules, Fields.has_room))
