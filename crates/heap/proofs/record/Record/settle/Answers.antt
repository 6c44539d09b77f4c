-- `heap::record::Record::settle` meets its contract: cached in a free place, or after the oldest one's release, whose sums soundness keeps in range.
use native.Mathlib.Omega.{arith}
use Rattle.heap.proofs.Answers.{settled_first, settle_safe, settled_next}
use Rattle.heap.proofs.record.Record.settle.Goals as goal

pub returns-then-k-places : goal.returns-then-k-places
returns-then-k-places c =
    let pre = c.requires in
    settled_first c.args.places c.args.self c.args.heap.now c.args.held c.args.l _ pre.0
    c.used_places-k.ensures c.with_cached.result c.put_last-more.result (omega (arith, c.well_formed)) pre.3 c.if-k-places.true pre.1
    c.put_last-more.ensures c.with_cached.ensures

pub release_chunk-a-requires : goal.release_chunk-a-requires
release_chunk-a-requires c =
    let pre = c.requires in
    settle_safe c.args.places c.args.self c.args.heap.now c.args.held c.args.l _ pre.0
    c.used_places-k.ensures c.if-k-places.false pre.2 _ _ c.from.ensures c.get_hdr_chunk_size-n.ensures

pub returns : goal.returns
returns c =
    let pre = c.requires in
    let next =
    settled_next c.args.places c.args.self c.args.heap.now c.args.held c.args.l _ pre.0
    c.used_places-k.ensures c.if-k-places.false pre.2 c.release_chunk-a.result c.count_out.result _
    c.put_last-newer.result c.left_out-others.result _ _ _ pre.1 in
    next c.from.ensures c.get_hdr_chunk_size-n.ensures c.release_chunk-a.ensures
    c.left_out-others.ensures c.saturating_sub.ensures c.put_last-newer.ensures c.count_out.ensures
