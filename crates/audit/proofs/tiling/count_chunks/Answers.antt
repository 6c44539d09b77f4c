-- `audit::tiling::count_chunks` meets its contract; Invariants.antt says what its loop keeps.
use Rattle.std.proofs.Common.{◌≡◌, ℕ, ◌+◌, Bool, true, false, sym, refl, ap, ◌∙◌, Option, Some, eq-eqb, arith}
use Rattle.std.specs.Int.{from_bool}
use Rattle.words.specs.Choice.{bit}
use Rattle.audit.specs.declared.tiling.Seen.{Seen}
use Rattle.audit.specs.Walk.{tallied}
use Rattle.audit.proofs.tiling.Walks.{tiled_empty}
use Rattle.audit.proofs.tiling.Tallies.{tallying_starts, broken_told, tally_room, tallying_none, tallying_free, tallying_used, tallying_wrong, tallying_right}
use Rattle.audit.proofs.tiling.Nexts.{chasing_starts, chasing_free, chasing_used, end_all, end_end}
use Rattle.audit.proofs.tiling.Firsts.{opening_starts, opening_free, opening_used, opening_guard}
use Rattle.audit.proofs.tiling.Headers.{free_room, used_room}
use Rattle.audit.proofs.tiling.count_chunks.Goals as goal

-- what is seen is the arm's chunk
seen_is : {s : Option Seen} {y z : Seen} → Some y ≡ s → y ≡ z → s ≡ Some z
seen_is e q = sym e ∙ ap Some q

pub returns-then-n-eq0 : goal.returns-then-n-eq0
returns-then-n-eq0 c = broken_told c.args.heap.words.now c.args.ws (λ k i. tiled_empty _ k (omega arith))

pub loop-stand-init : goal.loop-stand-init
loop-stand-init c =
    let last = opening_starts c.args.heap.words.now (omega arith) in (
      tallying_starts _ (omega arith),
      chasing_starts _ _ _ (rw c.len-n.ensures.is at c.next_from-next.ensures),
      rw (c.len-n.ensures.is) last,
    )

pub returns-in_err-seen : goal.returns-in_err-seen
returns-in_err-seen c =
    let inv = c.loop-stand.invariant in
    rw c.from_residual.ensures (broken_told _ c.args.ws (tallying_none _ _ _ _ _ _ inv.0 (omega arith) (sym c.in_err-seen.ensures)))

pub bounds-frees-class : goal.bounds-frees-class
bounds-frees-class c =
    let inv = c.loop-stand.invariant in
    omega (arith, tally_room _ _ _ _ _ _ inv.0 _ _ c.chunk_size_to_list_index-class.ensures)

pub bounds-frees-class-in-Free : goal.bounds-frees-class-in-Free
bounds-frees-class-in-Free c =
    let inv = c.loop-stand.invariant in
    omega (arith, tally_room _ _ _ _ _ _ inv.0 _ _ c.chunk_size_to_list_index-class.ensures)

pub loop-stand-smaller-in-Free : goal.loop-stand-smaller-in-Free
loop-stand-smaller-in-Free c =
    let seen = seen_is c.in_ok-seen.ensures c.in-Free.is in
    omega (arith, free_room _ _ _ _ seen)

pub loop-stand-preserved-in-Free : goal.loop-stand-preserved-in-Free
loop-stand-preserved-in-Free c =
    let seen = seen_is c.in_ok-seen.ensures c.in-Free.is in
    let inv = c.loop-stand.invariant in (
      tallying_free _ _ _ _ _ _ inv.0 (omega arith) _ _ seen c.chunk_size_to_list_index-class.ensures,
      chasing_free _ _ _ _ _ inv.1 _ seen,
      rw c.min-first.ensures (opening_free _ _ _ _ inv.2 _ (omega arith) seen),
    )

pub overflow_add-sum : goal.overflow_add-sum
overflow_add-sum c =
    let seen = seen_is c.in_ok-seen.ensures c.in-Used.is in
    omega (arith, used_room _ _ _ _ seen)

pub overflow_mul-top : goal.overflow_mul-top
overflow_mul-top c =
    let seen = seen_is c.in_ok-seen.ensures c.in-Used.is in
    omega (arith, used_room _ _ _ _ seen)

pub loop-stand-smaller : goal.loop-stand-smaller
loop-stand-smaller c =
    let seen = seen_is c.in_ok-seen.ensures c.in-Used.is in
    omega (arith, used_room _ _ _ _ seen)

pub loop-stand-preserved : goal.loop-stand-preserved
loop-stand-preserved c =
    let seen = seen_is c.in_ok-seen.ensures c.in-Used.is in
    let inv = c.loop-stand.invariant in (
      tallying_used _ _ _ _ _ _ inv.0 (omega arith) _ seen,
      rw (c.after-next.ensures, c.len-n.ensures.is) (chasing_used _ _ _ _ _ inv.1 _ seen),
      opening_used _ _ _ _ inv.2 _ seen,
    )

-- a test as a number, by the library and by us
from_is : (b : Bool) → from_bool b ≡ bit b
from_is true = refl
from_is false = refl

pub returns-then-at-from : goal.returns-then-at-from
returns-then-at-from c =
    let inv = c.loop-stand.invariant in
    let guard = ap (λ (k : ℕ). 2 + k) (c.from.ensures ∙ from_is _) in
    broken_told _ c.args.ws (tallying_wrong _ _ _ _ _ _ inv.0 (omega arith) (λ e. c.if-at-from.true (c.at.ensures ∙ e ∙ sym guard)))

pub returns : goal.returns
unfolding tallied
returns c =
    let inv = c.loop-stand.invariant in
    let small = inv.0.small in
    let here = inv.0.here in
    let guard = sym c.at.ensures ∙ c.if-at-from.false ∙ ap (λ (k : ℕ). 2 + k) (c.from.ensures ∙ from_is _) in
    let right = eq-eqb _ _ guard in (
      tallying_right _ _ _ _ _ _ inv.0 (omega arith) guard,
      record {
        all = end_all _ _ _ _ _ inv.1 (omega arith) here small right;
        end = end_end _ _ _ _ _ inv.1 (omega arith) here small right;
        first = opening_guard _ _ _ _ inv.2 (omega arith) here small right;
      },
    )
