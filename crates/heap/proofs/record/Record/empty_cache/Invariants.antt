-- `heap::record::Record::empty_cache` meets its contract. Invariant: `Emptying`, that what is left to do comes to the same. A turn keeps
-- it (`emptying_turn`).
use Rattle.heap.proofs.Emptying.{Emptying}
use Rattle.heap.proofs.record.Record.empty_cache.Given as goal

abbrev pub invariant-loop : goal.invariant-loop
invariant-loop l = Emptying l.fn.self l.initial.heap l.initial.log l.n l.rec l.heap l.log l.counter
