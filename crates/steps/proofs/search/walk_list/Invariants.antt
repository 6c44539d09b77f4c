-- `steps::search::walk_list` meets its contract. Invariant: the whole walk is the walk from here, and no more than `limit` were compared. A turn keeps it
-- by the law of where it stands. Measure: what is left of the limit.
use Rattle.std.proofs.Common.{◌≡◌, ◌-◌, ◌≤◌}
use Rattle.words.specs.Numbers.{numbers}
use Rattle.steps.specs.Found.{walk_in}
use Rattle.steps.proofs.Walks.{walk_from}
use Rattle.steps.proofs.search.walk_list.Given as goal

abbrev pub invariant-loop-next : goal.invariant-loop-next
invariant-loop-next l =
    (walk_in (numbers l.next) l.heap l.size l.limit l.class l.compared ≡ walk_from (numbers l.next) l.heap l.size l.limit l.class l.l.0 l.k)
    × (l.k ≤ l.limit)

abbrev pub decreases-loop-next : goal.decreases-loop-next
decreases-loop-next l = l.limit - l.k
