-- `steps::undo::Log::note` meets its contract: past the end there is nothing to put back (`note_past`), a full log has no room (`note_full`), else the pair
-- is the last (`note_named`).
use Rattle.std.proofs.Common.{refl, arith, length-set}
use Rattle.steps.proofs.Undone.{note_past, note_full, note_named}
use Rattle.steps.proofs.undo.Log.note.Goals as goal
use Rattle.steps.proofs.undo.Log.note.Goals.{then-heap-w-via-then-heap-w, then-heap-w-via-else-heap-w+then-self-k}

pub returns-then-heap-w : goal.returns-then-heap-w
returns-then-heap-w c = record {
  same = refl;
  long = refl;
  notes =
      elim c.then-heap-w.branch [
        | then-heap-w-via-then-heap-w w ↦ λ room. note_past _ _ _ _ w.if-heap-w.true
        | then-heap-w-via-else-heap-w+then-self-k w ↦ note_full _ _ _ _ _ _ w.if-self-k.true (omega arith)
      ];
}

pub returns : goal.returns
returns c = record { same = refl; long = simp length-set refl; notes = note_named _ _ _ _ c.if-heap-w.false }
