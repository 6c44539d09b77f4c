-- `steps::empty::clear_payload` meets its contract; Invariants.antt says what its loop keeps.
use Rattle.std.proofs.Common.{sym, refl, ◌∙◌, arith, length-set}
use Rattle.steps.proofs.Clears.{cleared_turn, cleared_end, emptied_start, emptied_past}
use Rattle.steps.proofs.empty.clear_payload.Goals as goal

pub returns-then-heap-w : goal.returns-then-heap-w
returns-then-heap-w c = sym (emptied_past _ _ _ c.if-heap-w.true)

pub loop-i-init : goal.loop-i-init
loop-i-init c = record { same = emptied_start _ _ _ _ (omega arith); long = refl }

pub loop-i-preserved : goal.loop-i-preserved
loop-i-preserved c =
    let kept = c.loop-i.invariant in
    record {
      same = kept.same ∙ cleared_turn _ _ _ (omega (arith, c.min.ensures, c.loop-i-test.true));
      long = length-set c.loop-i.heap c.loop-i.i 0 ∙ kept.long;
    }

pub returns : goal.returns
returns c =
    let kept = c.loop-i.invariant in
    sym
    (kept.same ∙ cleared_end _ _ _ _ _ (omega (arith, kept.long, c.if-heap-w.false)) (omega (arith, kept.long, c.min.ensures)) c.loop-i-test.false)
