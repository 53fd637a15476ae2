-- `room` meets its contract: the part and two bytes, or more than a length can say.
use borrow.Author.Rules.{rules}
use Rattle.response_stated.proofs.Cases
use Rattle.response.proofs.room.Goals as goal

pub returns-then-part-gt-LONGEST_PART : goal.returns-then-part-gt-LONGEST_PART
returns-then-part-gt-LONGEST_PART c = search (rules, Cases.room_unsaid)

pub returns : goal.returns
returns c = search (rules, Cases.room_said)
