-- `audit::windows::lists_right` meets its contract. Invariant: every listed link below here names a free chunk of its class. Measure: the words ahead.
use Rattle.std.proofs.Common.{◌-◌, length}
use Rattle.words.specs.Choice.{bit}
use Rattle.audit.proofs.windows.Lists.{Showing}
use Rattle.audit.proofs.windows.lists_right.Given as goal

abbrev pub invariant-loop-stand : goal.invariant-loop-stand
invariant-loop-stand l = Showing l.next l.heap.words.now l.frees l.stand.at (bit l.stand.left)

abbrev pub decreases-loop-stand : goal.decreases-loop-stand
decreases-loop-stand l = length l.heap.words.now - l.stand.at
