-- `heap::record::Record::empty_cache` meets its contract; Invariants.antt says what its loop keeps.
use native.Mathlib.Omega.{arith}
use Rattle.heap.proofs.Emptying.{emptying_none, emptying_used, emptying_room, emptying_turn, emptying_done}
use Rattle.heap.proofs.record.Record.empty_cache.Goals as goal

pub loop-init : goal.loop-init
loop-init c =
    emptying_none c.args.self _ c.args.log.now _ c.requires.0 (omega (arith, c.well_formed)) c.used_places-n.ensures c.requires.1 c.requires.2

pub let_go-rec-requires : goal.let_go-rec-requires
let_go-rec-requires c = (
  c.loop.invariant.sound,
  emptying_used _ c.loop.rec _ _ _ _ _ _ c.loop.invariant (omega arith),
  emptying_room _ c.loop.rec _ _ _ _ _ _ c.loop.invariant (omega arith),
)

pub loop-preserved : goal.loop-preserved
loop-preserved c =
    emptying_turn _ c.loop.rec _ _ _ _ _ _ c.loop.invariant c.let_go-rec.result _ _
    (omega arith) c.let_go-rec.ensures c.let_go-rec.auto.heap

pub returns : goal.returns
returns c =
    emptying_done c.args.self c.loop.rec _ _ _ _ _ _ c.loop.invariant
    (omega arith)
