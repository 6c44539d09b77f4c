-- `steps::free::left_free` meets its contract: the flag says whether there is a free left neighbour, and its footer how long it is.
use Rattle.steps.proofs.Neighbours.{left_none, left_some}
use Rattle.steps.proofs.free.left_free.Goals as goal

pub returns-then-not-free : goal.returns-then-not-free
returns-then-not-free c = left_none _ _ _ c.is_left_free-free.ensures c.if-not-free.true

pub returns : goal.returns
returns c =
    left_some c.args.heap.now _ _ _ _ c.is_left_free-free.ensures c.if-not-free.false
    c.hdr_to_left_ftr.ensures c.word.ensures
