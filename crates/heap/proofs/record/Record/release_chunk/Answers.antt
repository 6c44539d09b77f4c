-- `heap::record::Record::release_chunk` meets its contract (`release_by`): merged, tagged, listed; its sums are in range by `Releasable` (`release_room`).
use Rattle.heap.proofs.Joins.{release_room, release_by}
use Rattle.heap.proofs.record.Record.release_chunk.Goals as goal

pub merge_neighbor_if_possible-a-requires : goal.merge_neighbor_if_possible-a-requires
merge_neighbor_if_possible-a-requires c =
    let room = release_room _ _ _ _ c.requires c.merging-g.ensures in
    (room.1, room.2)

pub free_listed-requires : goal.free_listed-requires
free_listed-requires c = (release_room _ _ _ _ c.requires c.merging-g.ensures).0

pub returns : goal.returns
returns c =
    release_by c.args.self c.merge_neighbor_if_possible-a.result c.free_listed.result _ _ _ _ _ _
    c.requires c.merging-g.ensures c.merge_neighbor_if_possible-a.ensures c.free_listed.ensures
