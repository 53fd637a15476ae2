-- `commanded` meets its contract: by the command.
use borrow.Author.Rules.{rules}
use Rattle.session_stated.proofs.OuterChecks
use Rattle.session.proofs.commanded.Goals as goal

pub returns-in-Err : goal.returns-in-Err
returns-in-Err c = (search (rules, OuterChecks.on_status, OuterChecks.command_is), search (rules, OuterChecks.status_kept, OuterChecks.command_is), search (rules, OuterChecks.status_part, OuterChecks.command_is))

pub returns-in-Ok-Version : goal.returns-in-Ok-Version
returns-in-Ok-Version c =
    let is = rw c.in-Ok-Version.field-0-is at c.in-Ok-Version.is in (
      search (rules, OuterChecks.on_version, OuterChecks.command_is, is),
      search (rules, OuterChecks.version_left, OuterChecks.command_is, is),
      search (rules, OuterChecks.version_part_kept, OuterChecks.command_is, is),
    )

pub returns-in-Ok-GetResponse : goal.returns-in-Ok-GetResponse
returns-in-Ok-GetResponse c =
    let is = rw c.in-Ok-GetResponse.field-0-is at c.in-Ok-GetResponse.is in (
      search (rules, OuterChecks.on_fetch, OuterChecks.command_is, is),
      search (rules, OuterChecks.fetch_kept, OuterChecks.command_is, is),
      search (rules, OuterChecks.fetch_part, OuterChecks.command_is, is),
    )

pub returns-in-Ok-Register : goal.returns-in-Ok-Register
returns-in-Ok-Register c =
    let a = c.args in
    let is = rw c.in-Ok-Register.field-0-is at c.in-Ok-Register.is in
    let is_c = OuterChecks.command_is a.call.frame.now a.reading c.requires.0 c.on_reading.result c.on_reading.ensures in (
      search (rules, OuterChecks.on_register, is_c, is),
      search (rules, OuterChecks.register_kept, is_c, is),
      search (rules, OuterChecks.register_part, is_c, is),
    )

pub returns-in-Ok-Authenticate : goal.returns-in-Ok-Authenticate
returns-in-Ok-Authenticate c =
    let a = c.args in
    let is = rw c.in-Ok-Authenticate.field-0-is at c.in-Ok-Authenticate.is in
    let is_c = OuterChecks.command_is a.call.frame.now a.reading c.requires.0 c.on_reading.result c.on_reading.ensures in (
      search (rules, OuterChecks.on_authenticate, is_c, is),
      search (rules, OuterChecks.authenticate_kept, is_c, is),
      search (rules, OuterChecks.authenticate_part, is_c, is),
    )
