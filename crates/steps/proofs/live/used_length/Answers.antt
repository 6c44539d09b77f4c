-- `steps::live::used_length` meets its contract; Invariants.antt says what its loop keeps.
use Rattle.std.proofs.Common.{◌+◌, ◌-◌, length, sym, ap, ◌∙◌, arith, true, false}
use Rattle.words.specs.Tags.{at, length_of, freeᵇ}
use Rattle.rules.specs.Rules.Place.{used_walk}
use Rattle.steps.proofs.Tiling.{used_guard, used_here, used_inside, used_on, fueled, none_used, some_used}
use Rattle.steps.proofs.live.used_length.Goals.{then-n-eq0-via-then-n-eq0, then-n-eq0-via-else-n-eq0+then-b-e}
use Rattle.steps.proofs.live.used_length.Goals.{then-n-eq0-2-via-then-n-eq0-2, then-n-eq0-2-via-else-n-eq0-2+then-is_this_free}
use Rattle.steps.proofs.live.used_length.Goals as goal

pub loop-e-init : goal.loop-e-init
loop-e-init c =
    (length c.args.heap.now, ap (λ b. used_walk (at c.args.heap.now) (length c.args.heap.now) 0 b) (omega arith), omega arith, omega arith)

pub returns-then-n-eq0 : goal.returns-then-n-eq0
returns-then-n-eq0 c =
    let (fuel, same, _, _) = c.loop-e.invariant in
    let header = c.get_hdr_chunk_size-n.ensures ∙ ap (λ w. length_of (at c.args.heap.now w)) c.from.ensures in
    none_used _
    (same ∙ elim c.then-n-eq0.branch [
      | then-n-eq0-via-then-n-eq0 w ↦ used_guard _ _ _ header fuel _ w.if-n-eq0.true
      | then-n-eq0-via-else-n-eq0+then-b-e w ↦ used_inside _ _ _ header fuel _ w.if-n-eq0.false (omega (arith, c.loop-e-test.true)) w.if-b-e.true
    ])

pub loop-e-preserved : goal.loop-e-preserved
loop-e-preserved c =
    let (fuel, same, enough, _) = c.loop-e.invariant in
    let header = c.get_hdr_chunk_size-n.ensures ∙ ap (λ w. length_of (at c.args.heap.now w)) c.from.ensures in
    let some = fueled _ _ _ fuel header c.if-n-eq0.false enough in (
      fuel - 1,
      same
          ∙ used_on _ _ _ header fuel _ some c.if-n-eq0.false (omega (arith, c.loop-e-test.true)) c.if-b-e.false
          ∙ ap (used_walk (at c.args.heap.now) (fuel - 1) (c.loop-e.e + c.get_hdr_chunk_size-n.result)) (omega arith),
      omega (arith, header, enough, some, c.if-n-eq0.false),
      omega (arith, c.if-b-e.false, c.loop-e-test.true),
    )

pub returns-then-n-eq0-2 : goal.returns-then-n-eq0-2
returns-then-n-eq0-2 c =
    let (fuel, same, enough, _) = c.loop-e.invariant in
    let header = c.get_hdr_chunk_size-n-2.ensures ∙ ap (λ w. length_of (at c.args.heap.now w)) c.from-hdr.ensures in
    none_used _
    (same ∙ elim c.then-n-eq0-2.branch [
      | then-n-eq0-2-via-then-n-eq0-2 w ↦ used_guard _ _ _ header fuel _ w.if-n-eq0-2.true
      | then-n-eq0-2-via-else-n-eq0-2+then-is_this_free w ↦
          used_here _ _ _ header fuel _ true
          (sym w.if-is_this_free.true ∙ w.is_this_free.ensures ∙ ap (λ w. freeᵇ (at c.args.heap.now w)) c.from-hdr.ensures)
          (fueled _ _ _ fuel header w.if-n-eq0-2.false enough) w.if-n-eq0-2.false (omega (arith, c.loop-e-test.false))
    ])

pub returns : goal.returns
returns c =
    let (fuel, same, enough, _) = c.loop-e.invariant in
    let header = c.get_hdr_chunk_size-n-2.ensures ∙ ap (λ w. length_of (at c.args.heap.now w)) c.from-hdr.ensures in
    some_used _ _
    (same
    ∙ used_here _ _ _ header fuel _ false
    (sym c.if-is_this_free.false ∙ c.is_this_free.ensures ∙ ap (λ w. freeᵇ (at c.args.heap.now w)) c.from-hdr.ensures)
    (fueled _ _ _ fuel header c.if-n-eq0-2.false enough) c.if-n-eq0-2.false (omega (arith, c.loop-e-test.false)))
    c.if-n-eq0-2.false
