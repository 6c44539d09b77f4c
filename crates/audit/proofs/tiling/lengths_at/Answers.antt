-- `audit::tiling::lengths_at` meets its contract: header by header, the lengths add up.
use Rattle.std.proofs.Common.{arith}
use Rattle.audit.proofs.Cached.{lengths_turn, lengths_end}
use Rattle.audit.proofs.tiling.lengths_at.Goals as goal

pub loop-k-preserved : goal.loop-k-preserved
loop-k-preserved c = (lengths_turn _ _ _ _ _ c.loop-k.k c.loop-k.invariant.0 c.length_at.ensures (omega arith) (omega arith), omega arith)

pub returns : goal.returns
returns c = lengths_end _ _ _ c.loop-k.k c.loop-k.invariant.0 (omega (arith, c.well_formed))
