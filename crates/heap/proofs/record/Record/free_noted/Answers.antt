-- `heap::record::Record::free_noted` meets its contract: the five words that are stored are noted before (`free_noted_by`).
use mathlib.Core.Path.{refl}
use native.Mathlib.Omega.{arith}
use Rattle.words.proofs.Laws.Sizes.{class_below}
use Rattle.heap.proofs.Undoing.{free_noted_by}
use Rattle.heap.proofs.record.Record.free_noted.Goals as goal

pub bounds-self-class : goal.bounds-self-class
bounds-self-class c = omega (arith, class_below c.args.m, c.chunk_size_to_list_index-class.ensures)

pub returns : goal.returns
returns c =
    free_noted_by c.args.self c.free_listed.result _ _ _ _ _ _ _ _ _ _ c.chunk_size_to_list_index-class.ensures refl
    (omega (arith, c.requires.0)) c.requires.1 c.note_tags.ensures c.note_link.ensures c.note.ensures c.free_listed.ensures
