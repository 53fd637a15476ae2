-- `brinecandle_decide` meets its contract: by the answer.
use borrow.Author.Rules.{rules}
use Rattle.panel_stated.proofs.Cases
use Rattle.panel.proofs.brinecandle_decide.Goals as goal

pub returns-in-Refused : goal.returns-in-Refused
returns-in-Refused c = (search (rules, Cases.said_refused), search (rules, Cases.record_left), search (rules, Cases.goes_refused), search rules, search (rules, Cases.block_left), search rules)

pub returns-in-Status : goal.returns-in-Status
returns-in-Status c = (search (rules, Cases.said_status), search (rules, Cases.record_left), search (rules, Cases.goes_status), search rules, search (rules, Cases.block_left), search rules)

pub returns-in-Body : goal.returns-in-Body
returns-in-Body c = (search (rules, Cases.said_body), search (rules, Cases.record_left), search (rules, Cases.goes_body), search rules, search (rules, Cases.block_left), search rules)

pub returns-in-Order : goal.returns-in-Order
returns-in-Order c = (search (rules, Cases.said_order), search (rules, Cases.record_left), search (rules, Cases.goes_order), search rules, search (rules, Cases.block_left), search rules)

pub returns-in-Part : goal.returns-in-Part
returns-in-Part c = (search (rules, Cases.said_part), search (rules, Cases.record_left), search (rules, Cases.goes_part), search rules, search (rules, Cases.block_left), search rules)
