-- `heap::record::Record::one_chunk` meets its contract (`one_chunk_by`): one free chunk, the guard, and the chunk listed.
use mathlib.Core.Path.{refl}
use native.Mathlib.Omega.{arith}
use Prim.Native.Nat.{◌*◌, ◌-◌}
use lib.ListN.{length}
use Rattle.words.proofs.Laws.Sizes.{class_below}
use Rattle.heap.proofs.Answers.{one_chunk_by}
use Rattle.heap.proofs.record.Record.one_chunk.Goals as goal

pub link_chunk-requires : goal.link_chunk-requires
link_chunk-requires c =
    let class = class_below (4 * (length c.args.heap.now - 1)) in
    (omega (arith, c.chunk_size_to_list_index-class.ensures), omega arith)

pub returns : goal.returns
returns c =
    one_chunk_by c.args.self c.link_chunk.result _ _ _ _ _ _ _ _ (omega (arith, c.requires)) c.requires.1 refl refl
    c.set_free_chunk_hdr_ftr.ensures c.put.ensures
    c.chunk_size_to_list_index-class.ensures c.link_chunk.ensures
