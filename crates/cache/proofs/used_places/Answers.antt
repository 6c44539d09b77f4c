-- `cache::used_places` meets its contract; Invariants.antt says what its loop keeps.
use Rattle.std.proofs.Common.{◌∙◌, sym, arith, eqb-true}
use borrow.Author.Tests.{eqb-false}
use Rattle.cache.proofs.Four.{places_here, places_on, places_all}
use Rattle.cache.proofs.used_places.Goals as goal

pub returns-then-eq : goal.returns-then-eq
returns-then-eq c =
    let unused = eqb-true _ _ (sym c.eq.ensures ∙ c.if-eq.true) in
    places_here c.args.c _ (omega (arith, c.well_formed)) c.loop-k.invariant c.loop-k-test.true unused

pub loop-k-preserved : goal.loop-k-preserved
loop-k-preserved c =
    let some = eqb-false _ _ (sym c.eq.ensures ∙ c.if-eq.false) in
    places_on c.args.c _ (omega (arith, c.well_formed)) c.loop-k.invariant c.loop-k-test.true some

pub returns : goal.returns
returns c = places_all c.args.c _ (omega (arith, c.well_formed)) c.loop-k.invariant (omega (arith, c.loop-k-test.false)) c.loop-k.auto.k-end
