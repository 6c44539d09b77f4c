-- `map::read::check_lines` meets its contract; Invariants.antt says what its loop keeps.
use mathlib.Core.Path.{◌≡◌, refl, sym, ap, ◌∙◌}
use Prim.Native.Nat.{◌/◌}
use native.Mathlib.Omega.{arith}
use lib.ListN.{length, length-drop}
use Rattle.heap.specs.Kind.{places_of}
use Rattle.heap.proofs.Answers.{places_few}
use Rattle.map.specs.Reading.{row_in}
use Rattle.map.proofs.RowTests.{fits_true}
use Rattle.map.proofs.Reader.AllLines.{tried_start, tried_bad, tried_stuck, tried_on, tried_end, chunk, row_chunk}
use Rattle.map.proofs.read.check_lines.Goals as goal

pub loop-n-init : goal.loop-n-init
loop-n-init c =
    let first = c.enumerate-n-items.ensures in
    let all = c.chunks.ensures in
    rw (c.into_iter-n-iterator.ensures.into_iter_gives, first.source, first.count, all.rest, all.size)
    (record { counts = tried_start 65529 (places_of c.args.kind) c.args.lines.now; whole = omega arith; size = refl })

pub returns-in_default : goal.returns-in_default
returns-in_default c =
    let here = c.loop-n.invariant in
    let turn = chunk _ c.in-Some.line.now c.next.new.self.iter.rest.now _ here.size c.in-Some.ensures.steps.0.1 in
    rw c.in-Some.ensures.steps.1
    (sym (here.counts ∙ tried_bad _ _ _ _ _ _ turn.some (omega arith) (c.in_default.ensures ∙ ap row_in turn.is)))

pub returns-then-not-follows : goal.returns-then-not-follows
returns-then-not-follows c =
    let here = c.loop-n.invariant in
    let turn = row_chunk _ c.in-Some.line.now c.next.new.self.iter.rest.now _ here.size c.in-Some.ensures.steps.0.1 _ c.in-Some-read_row.ensures in
    rw c.in-Some.ensures.steps.1
    (sym (here.counts ∙ tried_stuck _ _ _ _ _ _ (omega arith) (omega arith) _ turn.row c.if-not-follows.ensures))

pub place_after-p-requires : goal.place_after-p-requires
place_after-p-requires c =
    let f = fits_true _ _ _ _ (sym c.follows.ensures ∙ c.if-not-follows.false) in
    let few = places_few c.args.kind in
    omega (arith, f.room, f.stands.within, few)

pub loop-n-preserved : goal.loop-n-preserved
loop-n-preserved c =
    let here = c.loop-n.invariant in
    let steps = c.in-Some.ensures.steps in
    let turn = row_chunk _ c.in-Some.line.now c.next.new.self.iter.rest.now _ here.size steps.0.1 _ c.in-Some-read_row.ensures in
    rw (steps.2, turn.left)
    (record {
      counts = here.counts ∙ tried_on _ _ _ _ _ _ (omega arith) (omega arith) _ turn.row c.if-not-follows.ensures _ c.place_after-p.ensures;
      whole = simp length-drop (omega arith);
      size = steps.0.0 ∙ here.size;
    })

pub returns : goal.returns
returns c =
    let here = c.loop-n.invariant in
    let none = c.in-None.ensures.steps.0.1.0 in
    let n : length c.args.lines.now / 19 ≡ c.loop-n.n-iterator.count = omega arith in
    rw n (sym (here.counts ∙ tried_end _ _ _ _ _ _ none))
