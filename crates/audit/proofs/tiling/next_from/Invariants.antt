-- `audit::tiling::next_from` meets its contract. Invariant: going on from here gives the nearest of all.
use Rattle.std.proofs.Common.{◌≡◌, ℕ, fold, drop}
use Rattle.audit.specs.Cached.{nearer, next_from}
use Rattle.audit.proofs.tiling.next_from.Given as goal

abbrev pub invariant-loop-k : goal.invariant-loop-k
invariant-loop-k l = fold (λ (s w : ℕ). nearer w l.a s) l.r (drop l.k l.ws) ≡ next_from l.n l.ws l.a
