-- `heap::record::Record::unlink_chunk` meets its contract: the two halves of each store are the rules' store (`unlink_by`).
use Rattle.heap.proofs.Joins.{unlink_by}
use Rattle.heap.proofs.record.Record.unlink_chunk.Goals as goal

pub returns : goal.returns
returns c =
    unlink_by c.args.self _ _ _ _ _ _ _ _ c.requires c.hdr_to_linked_hdr-prev.ensures c.hdr_to_linked_hdr-next.ensures
    c.set_sentinel.ensures c.set_chunk_link.ensures c.set_sentinel-2.ensures c.set_chunk_link-2.ensures
