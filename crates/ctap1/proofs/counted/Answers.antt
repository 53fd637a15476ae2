-- `counted` meets its contract: by the counter's answer.
use borrow.Author.Rules.{rules}
use Rattle.ctap1_stated.proofs.Cases as Cases
use Rattle.ctap1.proofs.counted.Goals as goal

pub returns-then-hardware-ne-YES-clause-result_value : goal.returns-then-hardware-ne-YES-clause-result_value
returns-then-hardware-ne-YES-clause-result_value c = search (rules, Cases.counted_failed)

pub returns-then-hardware-ne-YES-clause-block_after : goal.returns-then-hardware-ne-YES-clause-block_after
returns-then-hardware-ne-YES-clause-block_after c = search (rules, Cases.counted_kept)

pub returns-clause-result_value : goal.returns-clause-result_value
returns-clause-result_value c = search (rules, Cases.counted_order)

pub returns-clause-block_after : goal.returns-clause-block_after
returns-clause-block_after c = search (rules, Cases.counted_block)
