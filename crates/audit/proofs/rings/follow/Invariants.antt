-- `audit::rings::follow` meets its contract. Invariant: what is left to follow, with n passed, is the whole list, and k is its next link.
use Rattle.std.proofs.Common.{◌≡◌, ◌+◌, length}
use Rattle.audit.specs.Rings.{next_of, prev_of, insideᵇ, chained}
use Rattle.audit.proofs.rings.Chases.{Following}
use Rattle.audit.proofs.rings.follow.Given as goal

abbrev pub invariant-loop-n : goal.invariant-loop-n
invariant-loop-n l =
    Following (next_of l.fn.next l.heap.words.now) (prev_of l.prev l.heap.words.now) (insideᵇ l.heap.words.now l.first) l.class
    (chained l.prev l.fn.next l.heap.words.now l.first l.class) (length l.heap.words.now + 1) l.from l.n
    × (l.k.0 ≡ next_of l.fn.next l.heap.words.now l.from)
