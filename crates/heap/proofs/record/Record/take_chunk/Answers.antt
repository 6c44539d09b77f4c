-- `heap::record::Record::take_chunk` meets its contract: unlinked, marked used, the excess returned (`take_by`).
use Rattle.heap.proofs.Joins.{take_by}
use Rattle.heap.proofs.record.Record.take_chunk.Goals as goal

pub returns : goal.returns
returns c =
    take_by c.args.self c.unlink_chunk-a.result c.return_excess_to_free_list.result _ _ _ _ _
    _ _ _ _ c.requires.0 c.from-hdr.ensures c.unlink_chunk-a.ensures c.portion_of.ensures
    c.set_hdr.ensures c.return_excess_to_free_list.ensures
