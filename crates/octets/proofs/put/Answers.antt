-- `put` meets its contract: past the buffer's end nothing more is written.
use borrow.Author.Rules.{rules}
use Rattle.octets.proofs.Laid.{laid_full}
use Rattle.octets.proofs.put.Goals as goal

pub returns-else-n-room : goal.returns-else-n-room
returns-else-n-room c = search (rules, laid_full)
