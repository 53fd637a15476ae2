-- `decide` meets its contract: the moment first, then by whether CTAP1 is allowed.
use borrow.Author.Rules.{rules}
use Rattle.u2f_up_stated.specs.Numbers.{presence_in}
use Rattle.session_stated.proofs.OuterChecks
use Rattle.session.proofs.decide.Goals as goal

pub returns-then-allowed-gt-YES : goal.returns-then-allowed-gt-YES
returns-then-allowed-gt-YES c =
    let a = c.args in
    let is_s = OuterChecks.settles_in c.record_lent.result (presence_in a.presence.now) a.call.side a.call.t c.settle.result c.record_lent.ensures c.settle.ensures in
    let told = c.in-Ok.is in (
      rw c.beside_frame-then-allowed-gt-YES.ensures.0 (
        search (rules, OuterChecks.allowed_failed, is_s, told, c.if-allowed-gt-YES.true),
        search (rules, OuterChecks.failed_kept, is_s, told, c.if-allowed-gt-YES.true),
        search (rules, OuterChecks.failed_part, is_s, told, c.if-allowed-gt-YES.true),
      ),
      search rules,
      search rules,
    )

pub returns-then-allowed-eq-NO : goal.returns-then-allowed-eq-NO
returns-then-allowed-eq-NO c =
    let a = c.args in
    let is_s = OuterChecks.settles_in c.record_lent.result (presence_in a.presence.now) a.call.side a.call.t c.settle.result c.record_lent.ensures c.settle.ensures in
    let told = c.in-Ok.is in (
      rw c.beside_frame-then-allowed-eq-NO.ensures.0 (
        search (rules, OuterChecks.allowed_no, is_s, told, c.if-allowed-eq-NO.true),
        search (rules, OuterChecks.no_kept, is_s, told, c.if-allowed-eq-NO.true),
        search (rules, OuterChecks.no_part, is_s, told, c.if-allowed-eq-NO.true),
      ),
      search rules,
      search rules,
    )

pub returns-in-Err : goal.returns-in-Err
returns-in-Err c =
    let a = c.args in
    let is_s = OuterChecks.settles_in c.record_lent.result (presence_in a.presence.now) a.call.side a.call.t c.settle.result c.record_lent.ensures c.settle.ensures in
    let told = c.in-Err.is in (
      rw c.beside_frame.ensures.0 (
        search (rules, OuterChecks.not_settled, is_s, told),
        search (rules, OuterChecks.not_settled_kept, is_s, told),
        search (rules, OuterChecks.not_settled_part, is_s, told),
      ),
      search rules,
      search rules,
    )

pub commanded-decision-requires : goal.commanded-decision-requires
commanded-decision-requires c = (search rules, search (rules, OuterChecks.limit_is))

pub returns-else-allowed-eq-NO : goal.returns-else-allowed-eq-NO
returns-else-allowed-eq-NO c =
    let a = c.args in
    let is_s = OuterChecks.settles_in c.record_lent.result (presence_in a.presence.now) a.call.side a.call.t c.settle.result c.record_lent.ensures c.settle.ensures in
    let told = c.in-Ok.is in (
      (
        search (rules, OuterChecks.allowed_yes, is_s, told, c.if-allowed-eq-NO.false, c.if-allowed-gt-YES.false, c.commanded-decision.ensures),
        search (rules, OuterChecks.yes_left, is_s, told, c.if-allowed-eq-NO.false, c.if-allowed-gt-YES.false, c.commanded-decision.ensures),
        search (rules, OuterChecks.yes_part, is_s, told, c.if-allowed-eq-NO.false, c.if-allowed-gt-YES.false, c.commanded-decision.ensures),
      ),
      search (rules, OuterChecks.limit_is),
      search (rules, OuterChecks.asks_is),
    )
