-- `steps::undo::Log::note_tags` meets its contract: three notes, each after the last (`notes_tags`).
use Rattle.std.proofs.Common.{◌∙◌}
use Rattle.steps.proofs.Undone.{notes_tags}
use Rattle.steps.proofs.undo.Log.note_tags.Goals as goal

pub returns : goal.returns
returns c =
    λ low. record {
      same = c.note-3.ensures.same ∙ c.note-2.ensures.same ∙ c.note.ensures.same;
      long = c.note-3.ensures.long ∙ c.note-2.ensures.long ∙ c.note.ensures.long;
      notes =
          notes_tags _ _ _ _ _ _ _ _ _ _ _ _ _ low c.ranges.size.fits c.note.ensures.long c.note-2.ensures.long
          c.note.ensures.notes c.hdr_to_ftr.ensures c.note-2.ensures.notes c.hdr_to_right_hdr.ensures
          c.note-3.ensures.notes;
    }
