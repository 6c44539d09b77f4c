-- `map::rows::follows` meets its contract: a row that stands follows by its kind, the cache places taken, and the chunk before it.
use Rattle.std.proofs.Common.{arith}
use Rattle.std.proofs.lemmas.Bool.Decides.{nat_tests}
use Rattle.map.specs.Reading.{followsᵇ}
use Rattle.map.proofs.rows.follows.Goals as goal

pub returns-then-stands : goal.returns-then-stands
unfolding followsᵇ
returns-then-stands c = grind (arith, nat_tests)

pub returns-else-stands : goal.returns-else-stands
unfolding followsᵇ
returns-else-stands c = grind (arith, nat_tests)
