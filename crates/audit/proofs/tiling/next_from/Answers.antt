-- `audit::tiling::next_from` meets its contract: word by word, the nearer one.
use Rattle.std.proofs.Common.{arith}
use Rattle.audit.proofs.tiling.Nexts.{next_fold, near_turn, near_end}
use Rattle.audit.proofs.tiling.next_from.Goals as goal

pub loop-k-init : goal.loop-k-init
loop-k-init c = next_fold _ _ _

pub loop-k-preserved : goal.loop-k-preserved
loop-k-preserved c = near_turn _ _ _ _ _ _ _ c.loop-k.invariant c.nearer-r.ensures (omega arith) (omega arith)

pub returns : goal.returns
returns c = near_end _ _ _ _ c.loop-k.k c.loop-k.invariant (omega (arith, c.well_formed))
