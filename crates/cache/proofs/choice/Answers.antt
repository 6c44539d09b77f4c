-- `cache::choice` meets its contract; Invariants.antt says what its loop keeps.
use Rattle.std.proofs.Common.{◌∙◌, sym, arith, eqb-true}
use borrow.Author.Tests.{eqb-false}
use Rattle.cache.proofs.Four.{size_is, four_unused, four_here, four_on}
use Rattle.cache.proofs.choice.Goals as goal

pub returns-then-eq : goal.returns-then-eq
returns-then-eq c =
    let loop = c.loop-k in
    let unused = eqb-true _ _ (sym c.eq.ensures ∙ c.if-eq.true) in
    four_unused _ _ c.args.c _ (omega (arith, c.well_formed)) loop.invariant c.loop-k-test.true _ unused (omega arith)

pub returns-then-fit : goal.returns-then-fit
returns-then-fit c =
    let loop = c.loop-k in
    let room = c.loop-k-test.true in
    let some = eqb-false _ _ (sym c.eq.ensures ∙ c.if-eq.false) in
    let size = size_is c.args.heap.now _ _ _ c.get_hdr_chunk_size-n.ensures c.from.ensures in
    four_here _ _ c.args.c _ (omega (arith, c.well_formed)) loop.invariant room _ _ _ some size c.fit.ensures (omega arith) c.if-fit.true

pub loop-k-preserved : goal.loop-k-preserved
loop-k-preserved c =
    let loop = c.loop-k in
    let room = c.loop-k-test.true in
    let some = eqb-false _ _ (sym c.eq.ensures ∙ c.if-eq.false) in
    let size = size_is c.args.heap.now _ _ _ c.get_hdr_chunk_size-n.ensures c.from.ensures in
    four_on _ _ c.args.c _ (omega (arith, c.well_formed)) loop.invariant room _ _ _ some size c.fit.ensures (omega arith) c.if-fit.false
