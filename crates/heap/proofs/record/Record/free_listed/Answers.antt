-- `heap::record::Record::free_listed` meets its contract: tags, left bit and links are the rules' steps in their order (`free_listed_by`).
use native.Mathlib.Omega.{arith}
use Rattle.words.proofs.Laws.Sizes.{class_below}
use Rattle.heap.proofs.Joins.{free_listed_by}
use Rattle.heap.proofs.record.Record.free_listed.Goals as goal

pub link_chunk-requires : goal.link_chunk-requires
link_chunk-requires c =
    let class = class_below c.args.m in
    (omega (arith, c.chunk_size_to_list_index-class.ensures), omega (arith, c.from.ensures, c.requires))

pub returns : goal.returns
returns c =
    free_listed_by c.args.self c.link_chunk.result _ _ _ _ _ _ _ _ _ c.requires c.ranges.m.fits
    c.set_free_chunk_hdr_ftr.ensures c.hdr_to_right_hdr.ensures c.set_left_free.ensures
    c.chunk_size_to_list_index-class.ensures c.from.ensures c.link_chunk.ensures
