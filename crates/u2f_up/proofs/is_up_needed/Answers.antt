-- `u2f_up::is_up_needed` meets its contract: each return is a law of proofs/Cases.antt.
use Rattle.std.proofs.Common.{◌≡◌, Ok}
use borrow.Author.Rules.{rules}
use Rattle.u2f_up_stated.proofs.Cases
use Rattle.u2f_up.proofs.is_up_needed.Goals as goal

pub returns-in_err-settle : goal.returns-in_err-settle
returns-in_err-settle c = search (rules, Cases.ask_refused)

pub returns : goal.returns
returns c =
    let settled : c.settle.result ≡ Ok c.in_ok-settle.field-0 = search rules in
    Cases.ask_found c.args.presence c.args.t c.settle.result c.settle.ensures c.in_ok-settle.field-0 settled c.is_live.result c.is_live.ensures
