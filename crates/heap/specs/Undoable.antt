-- A STEP THAT CAN BE UNDONE: what it makes of record and words, and that its notes give the words at entry.
use Rattle.std.specs.Prelude.{◌≡◌, List, ℕ, length}
use Rattle.steps.specs.Undone.{Undoes}
use Rattle.steps.specs.declared.undo.Log.{Log}
use Rattle.rules.specs.Rules.Making.{State}
use Rattle.heap.specs.Seen.{seen}
use Rattle.heap.specs.declared.record.Record.{Record}

-- from words ws, with the notes in `old`, to the state t, in at most n notes more; q and us are the record and the words then
pub record Undoable (t : State) (n : ℕ) (ws : List ℕ) (old : Log) (q : Record) (us : List ℕ) (new : Log) : Type 0 where
  pub does : seen q us ≡ t
  pub undoes : Undoes n ws old.notes.now old.len us new.notes.now new.len

-- such a step, in a log that stays in the slice that was lent, as long as it was
pub record Noted (t : State) (n : ℕ) (ws : List ℕ) (old : Log) (q : Record) (us : List ℕ) (new : Log) : Type 0 where
  pub step : Undoable t n ws old q us new
  pub same : new.notes.ghost_name ≡ old.notes.ghost_name
  pub long : length new.notes.now ≡ length old.notes.now
