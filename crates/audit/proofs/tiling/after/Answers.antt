-- `audit::tiling::after` meets its contract: the code makes the choice.
use Rattle.std.proofs.Common.{eq-eqb, ne_eqb}
use Rattle.audit.specs.Layout.{pick}
use Rattle.audit.proofs.tiling.after.Goals as goal

pub returns-then-at-next : goal.returns-then-at-next
unfolding pick
returns-then-at-next c = simp (eq-eqb _ _ c.if-at-next.true) c.next_from.ensures

pub returns-else-at-next : goal.returns-else-at-next
unfolding pick
returns-else-at-next c = simp (ne_eqb _ _ c.if-at-next.false)
