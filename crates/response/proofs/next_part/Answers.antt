-- `next_part` meets its contract: the two tests of the body, then the part written as a response.
use Rattle.std.proofs.Common.{◌≡◌, Ok, Err}
use borrow.Author.Rules.{rules}
use Rattle.response_stated.proofs.Cases
use Rattle.response.proofs.next_part.Goals as goal

pub returns-then-body-count : goal.returns-then-body-count
returns-then-body-count c = (search (rules, Cases.next_short_count), search (rules, Cases.kept_short_count))

pub returns-then-body-count-2 : goal.returns-then-body-count-2
returns-then-body-count-2 c = (search (rules, Cases.next_short_place), search (rules, Cases.kept_short_place))

pub returns-in_err-length : goal.returns-in_err-length
returns-in_err-length c =
    let refused : c.write_response.result ≡ Err c.in_err-length.field-0.0 = search rules in
    (search (rules, Cases.next_refused), search (rules, refused, Cases.next_kept))

pub returns : goal.returns
returns c =
    let written : c.write_response.result ≡ Ok c.in_ok-length.length = search rules in
    (search (rules, written, Cases.next_part), search (rules, written, Cases.next_laid))
