-- `audit::tiling::count_chunks` meets its contract. Invariant: for each class, what is left to walk with the sums so far is the whole walk; the
-- words waited for are chased; the first free chunk is met, or the search for it is on. Measure: the words ahead.
use Rattle.std.proofs.Common.{◌-◌, length}
use Rattle.words.specs.Choice.{bit}
use Rattle.audit.proofs.tiling.Tallies.{Tallying}
use Rattle.audit.proofs.tiling.Nexts.{Chasing}
use Rattle.audit.proofs.tiling.Firsts.{Opening}
use Rattle.audit.proofs.tiling.count_chunks.Given as goal

abbrev pub invariant-loop-stand : goal.invariant-loop-stand
invariant-loop-stand l =
    Tallying l.heap.words.now l.stand.at (bit l.stand.left) l.sum l.top l.frees × Chasing l.heap.words.now l.ws l.stand.at (bit l.stand.left) l.next
    × Opening l.heap.words.now l.stand.at (bit l.stand.left) l.first

abbrev pub decreases-loop-stand : goal.decreases-loop-stand
decreases-loop-stand l = length l.heap.words.now - l.stand.at
