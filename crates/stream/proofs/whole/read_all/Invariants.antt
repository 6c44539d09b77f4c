-- `stream::whole::read_all` meets its contract. Invariant: where the run stands (`Going`), and which bytes were read and written where they are known.
-- Measure: the bytes that may still be read, and one turn more.
use Rattle.std.proofs.Common.{length}
use Rattle.heap.specs.Kind.{places_of}
use Rattle.stream.specs.Ran.{Going}
use Rattle.stream.specs.Bytes.{Carried}
use Rattle.stream.proofs.Laws.{turns_left}
use Rattle.stream.proofs.whole.read_all.Given as goal

abbrev pub invariant-loop-kind : goal.invariant-loop-kind
invariant-loop-kind g l = record {
  going : Going (places_of l.kind) l.answering l.initial.memory l.s l.memory;
  bytes : Carried (places_of l.kind) l.answering l.initial.memory l.s l.memory (length l.initial.input)
      (g.R.Read.remaining l.initial.reader) (g.R.Read.remaining l.reader) (g.W.Write.contents l.initial.writer) (g.W.Write.contents l.writer);
}

abbrev pub decreases-loop-kind : goal.decreases-loop-kind
decreases-loop-kind g l = turns_left l.s
