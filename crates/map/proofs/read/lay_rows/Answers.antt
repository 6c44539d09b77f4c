-- `map::read::lay_rows` meets its contract; Invariants.antt says what its loop keeps.
use mathlib.Core.Path.{refl, sym, ap, ◌∙◌}
use native.Mathlib.Omega.{arith}
use lib.ListN.{length-drop, length-set}
use Rattle.map.specs.Reading.{row_in}
use Rattle.map.proofs.Reader.AllLines.{chunk, row_chunk}
use Rattle.map.proofs.Reader.Laid.{laying_start, laying_bad, laying_on, laying_end}
use Rattle.map.proofs.read.lay_rows.Goals as goal

pub loop-k-init : goal.loop-k-init
loop-k-init c =
    let first = c.enumerate-k-items.ensures in
    let all = c.chunks.ensures in
    rw (c.into_iter-k-iterator.ensures.into_iter_gives, first.source, first.count, all.rest, all.size)
    (record { laid = laying_start c.args.lines.now c.args.room.now; whole = omega arith; size = refl; kept = refl })

pub returns-in_default : goal.returns-in_default
returns-in_default c =
    let here = c.loop-k.invariant in
    let turn = chunk _ c.in-Some.line.now c.next.new.self.iter.rest.now _ here.size c.in-Some.ensures.steps.0.1 in
    sym (here.laid ∙ laying_bad _ _ _ _ (c.in_default.ensures ∙ ap row_in turn.is))

pub bounds-room-k : goal.bounds-room-k
bounds-room-k c =
    let here = c.loop-k.invariant in
    let steps = c.in-Some.ensures.steps in
    let turn = row_chunk _ c.in-Some.line.now c.next.new.self.iter.rest.now _ here.size steps.0.1 _ c.in-Some-read_row.ensures in
    omega (arith, turn.whole, steps.1)

pub bounds-room-k-in-loop-k : goal.bounds-room-k-in-loop-k
bounds-room-k-in-loop-k c =
    let here = c.loop-k.invariant in
    let steps = c.in-Some.ensures.steps in
    let turn = row_chunk _ c.in-Some.line.now c.next.new.self.iter.rest.now _ here.size steps.0.1 _ c.in-Some-read_row.ensures in
    simp length-set (omega (arith, turn.whole, steps.1))

pub bounds-room-k-in-loop-k-2 : goal.bounds-room-k-in-loop-k-2
bounds-room-k-in-loop-k-2 c =
    let here = c.loop-k.invariant in
    let steps = c.in-Some.ensures.steps in
    let turn = row_chunk _ c.in-Some.line.now c.next.new.self.iter.rest.now _ here.size steps.0.1 _ c.in-Some-read_row.ensures in
    simp length-set (omega (arith, turn.whole, steps.1))

pub loop-k-preserved : goal.loop-k-preserved
loop-k-preserved c =
    let here = c.loop-k.invariant in
    let steps = c.in-Some.ensures.steps in
    let turn = row_chunk _ c.in-Some.line.now c.next.new.self.iter.rest.now _ here.size steps.0.1 _ c.in-Some-read_row.ensures in
    let number = c.from-number.ensures ∙ c.from.ensures in
    rw (steps.1, steps.2, turn.left)
    (record {
      laid = here.laid ∙ laying_on _ _ _ _ _ _ (omega arith) (omega (arith, turn.whole)) turn.row number;
      whole = simp length-drop (omega arith);
      size = steps.0.0 ∙ here.size;
      kept = simp length-set here.kept;
    })

pub returns : goal.returns
returns c =
    let here = c.loop-k.invariant in
    let none = c.in-None.ensures.steps.0.1.0 in
    sym (here.laid ∙ laying_end _ _ _ _ none)
