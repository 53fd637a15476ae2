-- `whole` ends, since each turn begins behind one more line end.
use Rattle.std.proofs.Common.{◌≡◌, ◌-◌, ◌≤◌, length}
use Rattle.recording.proofs.lines.Lines.whole.Given as goal

abbrev pub invariant-loop-end : goal.invariant-loop-end
invariant-loop-end g l = (l.all ≡ length l.text) × (l.at ≤ length l.text) × (l.at ≤ l.end)

abbrev pub decreases-loop-end : goal.decreases-loop-end
decreases-loop-end g l = length l.text - l.at
