-- `steps::merge::merging` meets its contract: what the tags say of the neighbours, and the sums as machine words keep them (`merging_by`).
use Rattle.std.proofs.Common.{◌<◌, refl, arith}
use Rattle.steps.proofs.Neighbours.{merging_by}
use Rattle.steps.proofs.merge.merging.Goals as goal

pub returns : goal.returns
returns c =
    let below : c.args.l.0 < 65536 = omega (arith, c.well_formed) in
    merging_by c.args.heap.now _ _ _ _ _ _ _ _ _ _ _ below c.ranges.n.fits
    c.from-hdr.ensures c.hdr_to_right_hdr-next.ensures c.left_free-before.ensures c.right_free-after.ensures
    c.hdr_to_left_hdr-merged.ensures refl refl
    c.free_link.ensures c.free_link-2.ensures
