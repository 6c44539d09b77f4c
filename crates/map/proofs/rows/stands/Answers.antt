-- `map::rows::stands` meets its contract, test by test.
use Rattle.std.proofs.Common.{arith}
use Rattle.std.proofs.lemmas.Bool.Decides.{nat_tests}
use Rattle.map.specs.Reading.{standsᵇ}
use Rattle.map.proofs.rows.stands.Goals as goal

pub returns-then-at-le262112 : goal.returns-then-at-le262112
unfolding standsᵇ
returns-then-at-le262112 c = grind (arith, nat_tests)

pub returns-else-at-le262112 : goal.returns-else-at-le262112
unfolding standsᵇ
returns-else-at-le262112 c = grind (arith, nat_tests)
