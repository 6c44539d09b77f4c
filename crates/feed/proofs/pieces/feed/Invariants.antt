-- `feed::pieces::feed` meets its contract. Invariant: the trace stands where the bytes taken so far lead. Measure: the bytes left.
use mathlib.Core.Path.{◌≡◌}
use mathlib.Core.List.{[]}
use Prim.Native.Nat.{◌-◌, ◌*◌, ◌≤◌}
use lib.ListN.{length, take}
use Rattle.heap.specs.Kind.{places_of}
use Rattle.feed.specs.Feeding.{standing, stands, steps}
use Rattle.feed.proofs.pieces.feed.Given as goal

abbrev pub invariant-loop-fed : goal.invariant-loop-fed
invariant-loop-fed l = record {
  stands : stands l.fed l.memory l.out ≡ steps (places_of l.kind) (standing l.initial.fed.trace l.initial.memory []) (take l.fed.taken l.input);
  taken : l.fed.taken ≤ length l.input;
  filled : l.fed.filled ≤ length l.out;
  few : l.fed.filled ≤ 19 * l.fed.taken;
}

abbrev pub decreases-loop-fed : goal.decreases-loop-fed
decreases-loop-fed l = length l.input - l.fed.taken
