-- `fits` meets its contract: a test of the data that fails decides, else Le.
use borrow.Author.Rules.{rules}
use Rattle.apdu_stated.proofs.Carries
use Rattle.apdu_shapes.proofs.fits.Goals as goal

pub returns-then-count-row : goal.returns-then-count-row
returns-then-count-row c = search (rules, Carries.too_few)

pub returns-then-lc_most-count : goal.returns-then-lc_most-count
returns-then-lc_most-count c = search (rules, Carries.too_many)

pub returns : goal.returns
returns c = search (rules, Carries.le_decides)
