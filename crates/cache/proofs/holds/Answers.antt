-- `cache::holds` meets its contract; Invariants.antt says what its loop keeps.
use Rattle.std.proofs.Common.{◌∙◌, sym, arith}
use Rattle.cache.proofs.Four.{held_here, held_on, held_nowhere}
use Rattle.cache.proofs.holds.Goals as goal

pub returns-then-from-name : goal.returns-then-from-name
returns-then-from-name c =
    held_here c.args.c _ (omega (arith, c.well_formed)) _ c.loop-i.invariant (omega (arith, c.loop-i-test.true))
    (sym c.from.ensures ∙ c.if-from-name.true)

pub loop-i-preserved : goal.loop-i-preserved
loop-i-preserved c =
    held_on c.args.c _ (omega (arith, c.well_formed)) _ c.loop-i.invariant (omega (arith, c.loop-i-test.true))
    (λ e. c.if-from-name.false (c.from.ensures ∙ e))

pub returns : goal.returns
returns c = held_nowhere c.args.c _ (omega (arith, c.well_formed)) _ c.loop-i.invariant (omega (arith, c.loop-i-test.false))
