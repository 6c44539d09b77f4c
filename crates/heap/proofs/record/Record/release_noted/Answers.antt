-- `heap::record::Record::release_noted` meets its contract: three noted steps, one after the other (`release_in_log`); each leaves room for the next.
use native.Mathlib.Omega.{arith}
use Rattle.steps.proofs.Undone.{room_within, room_from, room_on}
use Rattle.heap.proofs.Joins.{release_room}
use Rattle.heap.proofs.Undoing.{release_in_log}
use Rattle.heap.proofs.record.Record.release_noted.Goals as goal

pub unlink_noted-a-requires : goal.unlink_noted-a-requires
unlink_noted-a-requires c = ((release_room _ _ _ _ c.requires.0 c.merging-g.ensures).1, room_within 9 2 _ _ _ (omega arith) c.requires.1)

pub unlink_noted-b-requires : goal.unlink_noted-b-requires
unlink_noted-b-requires c =
    let first = c.unlink_noted-a.ensures in
    let room = room_on 2 7 _ _ _ _ _ _ c.requires.1 c.unlink_noted-a.auto.heap first.long first.step.undoes in
    ((release_room _ _ _ _ c.requires.0 c.merging-g.ensures).2, room_from 2 _ _ _ _ (omega arith) (room_within 7 2 _ _ _ (omega arith) room))

pub free_noted-requires : goal.free_noted-requires
free_noted-requires c =
    let first = c.unlink_noted-a.ensures in
    let second = c.unlink_noted-b.ensures in
    let room = room_on 2 7 _ _ _ _ _ _ c.requires.1 c.unlink_noted-a.auto.heap first.long first.step.undoes in (
      (release_room _ _ _ _ c.requires.0 c.merging-g.ensures).0,
      room_on 2 5 _ _ _ _ _ _ (room_from 7 _ _ _ _ (omega arith) room) c.unlink_noted-b.auto.heap second.long second.step.undoes,
    )

pub returns : goal.returns
returns c =
    release_in_log c.args.self _ _ _ _ _ _ _ _ _ _ _ _ _ _ _ c.requires.0 c.merging-g.ensures
    c.unlink_noted-a.ensures (omega arith) c.unlink_noted-b.ensures c.free_noted.ensures
