-- `steps::live::used_length` meets its contract. Invariant: the whole walk is the walk from here, with fuel for each word from here on. A turn keeps it by
-- the law of what stands there.
use Rattle.std.proofs.Common.{ℕ, ◌≡◌, ◌+◌, ◌-◌, ◌/◌, ◌≤◌, length}
use Rattle.words.specs.Tags.{at}
use Rattle.rules.specs.Rules.Place.{used_walk}
use Rattle.steps.proofs.live.used_length.Given as goal

abbrev pub invariant-loop-e : goal.invariant-loop-e
invariant-loop-e l =
    (fuel : ℕ)
    × (used_walk (at l.heap) (length l.heap) 0 l.b ≡ used_walk (at l.heap) fuel l.e (l.b - l.e))
    × (length l.heap ≤ fuel + l.e / 4)
    × (l.e ≤ l.b)

abbrev pub decreases-loop-e : goal.decreases-loop-e
decreases-loop-e l = l.b - l.e
