-- `heap::record::Record::return_excess_to_free_list` meets its contract: a law for each way out; the rest's link fits, since the whole chunk's end does.
use native.Mathlib.Omega.{arith}
use Prim.Native.Nat.{◌<◌, ◌^◌}
use Rattle.words.proofs.Laws.Sizes.{class_below}
use Rattle.heap.proofs.Joins.{excess_whole, excess_cut}
use Rattle.heap.proofs.record.Record.return_excess_to_free_list.Goals as goal

pub returns-then-excess-lt-FREE_CHUNK_MIN_SIZE : goal.returns-then-excess-lt-FREE_CHUNK_MIN_SIZE
returns-then-excess-lt-FREE_CHUNK_MIN_SIZE c =
    let room : c.args.hdr.0 < 2 ^ 32 = omega (arith, c.requires) in
    excess_whole c.args.self _ _ _ _ _ _ _ room c.ranges.total.fits c.saturating_sub-excess.ensures c.if-excess-lt-FREE_CHUNK_MIN_SIZE.true
    c.hdr_to_right_hdr.ensures c.set_left_allocated.ensures

pub link_chunk-requires : goal.link_chunk-requires
link_chunk-requires c =
    let class = class_below c.saturating_sub-excess.result in
    let listed = c.chunk_size_to_list_index-class.ensures in
    let rest = c.hdr_to_right_hdr-rest.ensures in (
      omega (arith, listed),
      omega (arith, c.requires, c.from.ensures, rest, c.if-excess-lt-FREE_CHUNK_MIN_SIZE.false, c.saturating_sub-excess.ensures, c.ranges.size.fits),
    )

pub returns : goal.returns
returns c =
    excess_cut c.args.self c.link_chunk.result _ _ _ _ _ _ _ _ _ _ c.requires c.ranges.size.fits
    c.saturating_sub-excess.ensures c.if-excess-lt-FREE_CHUNK_MIN_SIZE.false c.hdr_to_right_hdr-rest.ensures
    c.set_free_chunk_hdr_ftr.ensures
    c.chunk_size_to_list_index-class.ensures c.from.ensures c.link_chunk.ensures
