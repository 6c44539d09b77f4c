-- `steps::undo::Log::put_back` meets its contract. Invariant: undoing all n notes on the words at entry is undoing the first j on these. A turn keeps it by
-- `undone_put`.
use Rattle.std.proofs.Common.{◌≡◌, ◌*◌, ◌≤◌, length}
use Rattle.steps.specs.Undone.{undone}
use Rattle.steps.proofs.undo.Log.put_back.Given as goal

abbrev pub invariant-loop-j : goal.invariant-loop-j
invariant-loop-j l = record {
  held : 2 * l.n ≤ length l.self.notes.now;
  same : undone l.self.notes.now l.n l.initial.heap ≡ undone l.self.notes.now l.j l.heap;
}
