-- `audit::windows::mark` meets its contract. Invariant: from where the window starts up to here, the marks are the free chunks. Measure: the words ahead.
use Rattle.std.proofs.Common.{◌≡◌, ◌-◌, length}
use Rattle.words.specs.Choice.{bit}
use Rattle.audit.proofs.windows.Steps.{Marking}
use Rattle.audit.proofs.windows.mark.Given as goal

abbrev pub invariant-loop-stand : goal.invariant-loop-stand
invariant-loop-stand l = Marking l.heap.words.now l.marks l.from.at l.stand.at (bit l.stand.left) × (length l.marks ≡ length l.initial.marks)

abbrev pub decreases-loop-stand : goal.decreases-loop-stand
decreases-loop-stand l = length l.heap.words.now - l.stand.at
