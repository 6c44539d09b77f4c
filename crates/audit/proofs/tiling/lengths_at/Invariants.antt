-- `audit::tiling::lengths_at` meets its contract. Invariant: what is summed so far, and that it fits.
use Rattle.std.proofs.Common.{◌≡◌, ◌*◌, ◌^◌, ◌≤◌, take}
use Rattle.audit.specs.Cached.{lengths_at}
use Rattle.audit.proofs.tiling.lengths_at.Given as goal

abbrev pub invariant-loop-k : goal.invariant-loop-k
invariant-loop-k l = (l.sum ≡ lengths_at l.heap.words.now (take l.k l.ws)) × (l.sum ≤ l.k * 2 ^ 32)
