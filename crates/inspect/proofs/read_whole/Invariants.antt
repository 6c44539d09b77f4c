-- `inspect::read_whole` meets its contract. Measure: the room that is left.
use Rattle.std.proofs.Common.{◌-◌, ◌≤◌, length}
use Rattle.inspect.proofs.read_whole.Given as goal

abbrev pub invariant-loop-count : goal.invariant-loop-count
invariant-loop-count g l = l.len ≤ length l.text

abbrev pub decreases-loop-count : goal.decreases-loop-count
decreases-loop-count g l = length l.text - l.len
