-- `heap::record::Record::unlink_noted` meets its contract: nothing is done, or the two link words are noted and then stored (`unlink_noted_by`).
use Rattle.heap.proofs.Undoing.{unlink_none, unlink_noted_by}
use Rattle.heap.proofs.record.Record.unlink_noted.Goals as goal

pub returns-in_default : goal.returns-in_default
returns-in_default c = unlink_none c.args.self c.args.heap.now c.args.log.now _ c.in_default.is

pub returns : goal.returns
returns c =
    unlink_noted_by c.args.self c.unlink_chunk.result _ _ _ _ _ _ _ _ _ c.in-Some.is (rw c.in-Some.is at c.requires.0)
    c.hdr_to_linked_hdr-prev.ensures c.hdr_to_linked_hdr-next.ensures
    c.requires.1 c.note_link.ensures c.note_link-2.ensures c.unlink_chunk.ensures
