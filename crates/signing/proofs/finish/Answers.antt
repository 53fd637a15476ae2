use Rattle.signing_stated.proofs.Cases.{of_layout, counts_handle, enough, answers_r7, answers_r4, answers_r2, answers_6f00, answers_r3, answers_body}
use mathlib.Core.Path.{ap}
use mathlib.Core.Bool.{not}
use borrow.Author.Rules.{rules}
use Rattle.signing.proofs.finish.Goals as goal

pub returns-then-not-has_layout : goal.returns-then-not-has_layout
returns-then-not-has_layout c = search (rules, answers_r7)

pub returns-then-certificate-order : goal.returns-then-certificate-order
returns-then-certificate-order c = search (rules, answers_r4)

pub has_room-requires : goal.has_room-requires
has_room-requires c = search (rules, counts_handle)

pub returns-then-not-has_room : goal.returns-then-not-has_room
returns-then-not-has_room c = search (rules, answers_r2)

pub returns-then-not-signed : goal.returns-then-not-signed
returns-then-not-signed c = search (rules, answers_6f00)

pub returns-then-signature-gt-LONGEST_SIGNATURE : goal.returns-then-signature-gt-LONGEST_SIGNATURE
returns-then-signature-gt-LONGEST_SIGNATURE c = search (rules, answers_r3)

pub put_body-requires-clause-block_value : goal.put_body-requires-clause-block_value
put_body-requires-clause-block_value c = search (rules, of_layout)

pub put_body-requires-clause-order_in_bounds : goal.put_body-requires-clause-order_in_bounds
put_body-requires-clause-order_in_bounds c = enough _ _ _ c.has_room.ensures (ap not c.if-not-has_room.false)

pub returns : goal.returns
returns c = search (rules, answers_body)
