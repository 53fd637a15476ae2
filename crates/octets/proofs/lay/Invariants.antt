-- What the loop of `lay` keeps: the first i bytes of src are laid over dst.
use Rattle.std.proofs.Common.{◌≡◌, length, take}
use Rattle.octets.specs.Bytes.{laid}
use Rattle.octets.proofs.lay.Given as goal

abbrev pub invariant-loop-i : goal.invariant-loop-i
invariant-loop-i l = (l.dst ≡ laid (take l.i l.src) l.initial.dst) × (length l.dst ≡ length l.initial.dst)
