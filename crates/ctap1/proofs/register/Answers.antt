-- `register` meets its contract: each way through the checks is a case of `register_path`.
use borrow.Author.Rules.{rules}
use Rattle.ctap1_stated.proofs.Cases as Cases
use Rattle.ctap1.proofs.register.Goals as goal

pub returns-then-not-has_register_room : goal.returns-then-not-has_register_room
returns-then-not-has_register_room c = search (rules, Cases.register_no_room)

pub returns-then-not-touch_checked : goal.returns-then-not-touch_checked
returns-then-not-touch_checked c = search (rules, Cases.register_no_touch)

pub returns-then-hardware-ne-YES : goal.returns-then-hardware-ne-YES
returns-then-hardware-ne-YES c = search (rules, Cases.register_not_stored, Cases.no_said)

pub returns-then-key-gt255 : goal.returns-then-key-gt255
returns-then-key-gt255 c = search (rules, Cases.register_long, Cases.yes_said)

pub returns-then-hardware-ne-PRESENT : goal.returns-then-hardware-ne-PRESENT
returns-then-hardware-ne-PRESENT c = search (rules, Cases.register_no_attestation, Cases.yes_said, Cases.not_there)

pub returns : goal.returns
returns c = search (rules, Cases.register_order, Cases.yes_said, Cases.there)
