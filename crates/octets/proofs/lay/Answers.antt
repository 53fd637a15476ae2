-- `lay` meets its contract: each turn lays one byte more.
use Prim.Native.Nat.{ℕ, ◌+◌, ◌≤◌, ◌<◌}
use mathlib.Core.Path.{◌≡◌, refl, ap, ◌∙◌}
use mathlib.Core.List.{List}
use borrow.Author.Rules.{rules}
use lib.ListN.{length, take, set, get_or}
use lib.Seq.{take_all}
use Rattle.octets.specs.Bytes.{laid}
use Rattle.octets.proofs.Laid.{length_laid, laid_step}
use Rattle.octets.proofs.lay.Goals as goal

module _ (src dst₀ dst : List ℕ) (i : ℕ) (so_far : dst ≡ laid (take i src) dst₀) where
  same_long : length dst ≡ length dst₀
  same_long = ap length so_far ∙ length_laid (take i src) dst₀

  one_more : i < length src → i < length dst → set dst i (get_or src i 0) ≡ laid (take (i + 1) src) dst₀
  one_more hs hd = rw so_far (laid_step src dst₀ i hs (rw same_long at hd))

  ends : length src ≤ i → dst ≡ laid src dst₀
  ends h = so_far ∙ rw (take_all i src h)

pub loop-i-preserved : goal.loop-i-preserved
loop-i-preserved c = (search (rules, one_more), search rules)

pub returns : goal.returns
returns c = search (rules, ends)
