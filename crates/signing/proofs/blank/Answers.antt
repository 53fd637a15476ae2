use mathlib.Core.Path.{refl}
use Rattle.signing_stated.specs.Orders.{blank_order, block}
use Rattle.signing.proofs.blank.Goals as goal

pub returns : goal.returns
unfolding blank_order block
returns c = refl
