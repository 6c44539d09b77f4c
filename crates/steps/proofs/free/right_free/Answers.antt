-- `steps::free::right_free` meets its contract: the flag says whether the chunk is free, and its header how long it is.
use Rattle.steps.proofs.Neighbours.{right_none, right_some}
use Rattle.steps.proofs.free.right_free.Goals as goal

pub returns-then-not-free : goal.returns-then-not-free
returns-then-not-free c = right_none _ _ _ c.is_this_free-free.ensures c.if-not-free.true

pub returns : goal.returns
returns c = right_some _ _ _ _ c.is_this_free-free.ensures c.if-not-free.false c.get_hdr_chunk_size.ensures
