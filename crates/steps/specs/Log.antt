-- A LOG before and after notes are taken: it is the same slice, as long as it was, and has notes of the words ws at the places ps.
use Rattle.std.specs.Prelude.{◌≡◌, ℕ, List, length}
use Rattle.steps.specs.Undone.{Noting}
use Rattle.steps.specs.declared.undo.Log.{Log}

pub record Logged (ws ps : List ℕ) (old new : Log) : Type 0 where
  pub same : new.notes.ghost_name ≡ old.notes.ghost_name
  pub long : length new.notes.now ≡ length old.notes.now
  pub notes : Noting ws ps old.notes.now old.len new.notes.now new.len
