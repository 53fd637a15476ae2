-- `enrol` meets its contract: the order from the frame's parts and the hardware's.
use borrow.Author.Rules.{rules}
use Rattle.ctap1_stated.proofs.Cases as Cases
use Rattle.ctap1.proofs.enrol.Goals as goal

pub returns-clause-result_value : goal.returns-clause-result_value
returns-clause-result_value c = search (rules, Cases.enrolled)

pub returns-clause-block_after : goal.returns-clause-block_after
returns-clause-block_after c = search (rules, Cases.enrolled_block)
