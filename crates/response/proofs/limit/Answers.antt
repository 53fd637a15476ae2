-- `limit` meets its contract: by the shape.
use borrow.Author.Rules.{rules}
use Rattle.response_stated.proofs.Cases
use Rattle.response.proofs.limit.Goals as goal

pub returns-in-Instruction : goal.returns-in-Instruction
returns-in-Instruction c = search (rules, Cases.limit_1)

pub returns-in-Le1 : goal.returns-in-Le1
returns-in-Le1 c = search (rules, Cases.limit_2)

pub returns-in-Lc1Data : goal.returns-in-Lc1Data
returns-in-Lc1Data c = search (rules, Cases.limit_3)

pub returns-in-Lc1DataLe1 : goal.returns-in-Lc1DataLe1
returns-in-Lc1DataLe1 c = search (rules, Cases.limit_4)

pub returns-in-Lc3Data : goal.returns-in-Lc3Data
returns-in-Lc3Data c = search (rules, Cases.limit_5)

pub returns-in-Lc3DataLe2 : goal.returns-in-Lc3DataLe2
returns-in-Lc3DataLe2 c = search (rules, Cases.limit_7)

pub returns-in-Le3 : goal.returns-in-Le3
returns-in-Le3 c = search (rules, Cases.limit_8)
