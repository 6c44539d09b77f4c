-- `steps::empty::clear_payload` meets its contract. Invariant: the payload emptied is these words with the rest of it cleared from word i on. A turn keeps
-- it by `cleared_turn`; at the end what is left is nothing, or lies past the heap.
use Rattle.std.proofs.Common.{◌≡◌, ◌+◌, ◌-◌, length}
use Rattle.steps.specs.Chunk.{cleared_in, emptied_in}
use Rattle.steps.proofs.empty.clear_payload.Given as goal

abbrev pub invariant-loop-i : goal.invariant-loop-i
invariant-loop-i l = record {
  same : emptied_in l.initial.heap l.w l.len ≡ cleared_in l.heap l.i (l.w + l.n - l.i);
  long : length l.heap ≡ length l.initial.heap;
}
