-- `feed::pieces::feed` meets its contract; Invariants.antt says what its loop keeps.
use mathlib.Core.Path.{◌≡◌}
use Prim.Native.Nat.{◌+◌, ◌-◌, ◌≤◌}
use native.Mathlib.Omega.{arith}
use lib.ListN.{length, drop, length-drop}
use lib.Seq.{length-take-le}
use borrow.Rule.Slice.PartMut.{mid_len, same_len_mid}
use Rattle.feed.proofs.Laws.{line_on, part_on}
use Rattle.feed.proofs.pieces.feed.Goals as goal

pub loop-fed-preserved-in-Line : goal.loop-fed-preserved-in-Line
loop-fed-preserved-in-Line c =
    let was = c.loop-fed.invariant in
    let next = c.in-Line.next in
    let left = length-take-le (length c.args.input.now - c.loop-fed.fed.taken) (drop c.loop-fed.fed.taken c.args.input.now)
    (omega (arith, length-drop c.loop-fed.fed.taken c.args.input.now)) in
    let inside : c.loop-fed.fed.taken + next ≤ length c.args.input.now = omega (arith, c.in-Line.ensures.2, left, was.taken) in
    let some : 1 ≤ next = omega (arith, c.in-Line.ensures.1, left, c.loop-fed-test.true) in
    let fits : c.loop-fed.fed.filled + 19 ≤ length c.loop-fed.out = omega (arith, c.if-out-fed-ge-LINE.true, was.filled) in
    let mid = mid_len c.loop-fed.fed.filled (c.loop-fed.fed.filled + 19) c.loop-fed.out fits in
    let room : length c.answer-fed.new.room ≡ 19 = omega (arith, c.answer-fed.auto.room, mid) in
    record {
      stands = line_on _ _ _ _ _ _ _ _ was.taken was.stands _ _ _ next _ inside fits room c.in-Line.ensures.0 c.answer-fed.ensures;
      taken = inside;
      filled = omega (arith, fits, same_len_mid c.loop-fed.fed.filled _ c.loop-fed.out _ c.answer-fed.auto.room);
      few = omega (arith, was.few, some);
    }

pub loop-fed-preserved : goal.loop-fed-preserved
loop-fed-preserved c = record {
  stands = part_on _ _ _ _ _ _ _ _ c.loop-fed.invariant.taken c.loop-fed.invariant.stands c.in-Part.line c.in-Part.ensures.0;
  taken = omega arith;
  filled = c.loop-fed.invariant.filled;
  few = omega (arith, c.loop-fed.invariant.few, c.loop-fed.invariant.taken);
}
