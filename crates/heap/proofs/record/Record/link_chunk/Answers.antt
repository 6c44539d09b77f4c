-- `heap::record::Record::link_chunk` meets its contract: a sentinel's store is the record's alone and a chunk's the words' alone (`link_by`).
use Rattle.heap.proofs.Joins.{next_sentinel, link_by}
use Rattle.heap.proofs.record.Record.link_chunk.Goals as goal

pub returns : goal.returns
returns c =
    link_by c.args.self _ _ c.args.heap.now _ _ _ _ _ _ c.requires.0 c.requires.1
    (next_sentinel c.args.self c.args.heap.now c.args.class c.requires.0) c.set_sentinel.ensures
    c.set_sentinel-2.ensures c.set_chunk_link.ensures c.set_field.ensures
    c.set_field-2.ensures
