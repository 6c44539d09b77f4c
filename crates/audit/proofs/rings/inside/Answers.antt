-- `audit::rings::inside` meets its contract, test by test.
use Rattle.std.proofs.Common.{arith}
use Rattle.std.proofs.lemmas.Grind.{common_steps}
use Rattle.audit.specs.Rings.{insideᵇ}
use Rattle.audit.specs.Layout.{pick}
use Rattle.audit.proofs.rings.inside.Goals as goal

pub returns-then-k-lt6 : goal.returns-then-k-lt6
unfolding insideᵇ pick
returns-then-k-lt6 c = grind (arith, common_steps)

pub returns-then-first-w : goal.returns-then-first-w
unfolding insideᵇ pick
returns-then-first-w c = grind (arith, common_steps)

pub returns-else-first-w : goal.returns-else-first-w
unfolding insideᵇ pick
returns-else-first-w c = grind (arith, common_steps)
