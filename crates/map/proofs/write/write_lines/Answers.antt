-- `map::write::write_lines` meets its contract; Invariants.antt says what its loop keeps.
use mathlib.Core.Logic.{inl}
use mathlib.Core.Path.{◌≡◌, refl, sym, ap, ◌∙◌}
use Prim.Native.Nat.{ℕ, ◌+◌, ◌-◌, ◌*◌}
use lib.ListN.{length}
use native.Mathlib.Omega.{arith}
use borrow.Rule.Slice.PartMut.{same_len_mid}
use Rattle.words.specs.Numbers.{numbers}
use Rattle.cache.specs.Places.{cached_of}
use Rattle.map.specs.Writing.{chunks_in}
use Rattle.map.proofs.Room.{over_from}
use Rattle.map.proofs.Writing.{lines_on, lines_out}
use Rattle.map.proofs.write.write_lines.Goals as goal

pub loop-k-init-derived : goal.loop-k-init-derived
unfolding chunks_in
loop-k-init-derived c =
    let first = c.enumerate-k-items.ensures in
    rw (c.into_iter-k-iterator.ensures.into_iter_gives, first.source, first.count, c.of.ensures)
    ((omega (arith, c.requires.0), tt, inl (omega (arith, c.well_formed))), tt)

pub loop-k-init : goal.loop-k-init
unfolding chunks_in over_from
loop-k-init c =
    let first = c.enumerate-k-items.ensures in
    rw (c.into_iter-k-iterator.ensures.into_iter_gives, first.source, first.count, c.of.ensures)
    (record { laid = refl; heap = refl; roomy = omega (arith, c.requires.1) })

pub loop-k-preserved : goal.loop-k-preserved
loop-k-preserved c =
    let here = c.loop-k.invariant in
    let s = c.loop-k.k-iterator.iter in
    let steps = c.in-Some.ensures.steps in
    let turn = steps.0 in
    let i : ℕ = c.in-Some.k * 19 in
    let w : i + 19 - i ≡ 19 = omega arith in
    let on : (c.loop-k.k-iterator.count + 1) * 19 ≡ i + 19 = omega (arith, steps.1) in
    let fewer = ap length turn.2 in
    let kept = same_len_mid i (i + 19 - i) c.loop-k.room c.write_answer.new.out c.write_answer.auto.out in
    rw (steps.2, on)
    (record {
      laid = (rw (← steps.1) at here.laid)
          ∙ lines_on (cached_of (numbers c.args.cached)) s.heap.now c.loop-k.room _ _ _ s.at _ i _ c.kind_at-kind.result (i + 19 - i)
          turn.1 turn.2 turn.4 (rw (here.heap, ← turn.0) c.kind_at-kind.ensures) w
          (omega (arith, here.roomy, steps.1)) (rw (c.from.ensures, turn.0) at c.write_answer.ensures);
      heap = ap (λ h. h.now) turn.3 ∙ here.heap;
      roomy = omega (arith, kept, fewer, here.roomy, steps.1);
    })

pub returns : goal.returns
returns c =
    let here = c.loop-k.invariant in
    sym (here.laid ∙ lines_out _ _ _ _ _ c.in-None.ensures.steps.0)
