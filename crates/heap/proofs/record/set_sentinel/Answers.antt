-- `heap::record::set_sentinel` meets its contract: a link below 6 has a place in the array, any other has none.
use Rattle.heap.proofs.Joins.{stored_sentinel, stored_chunk}
use Rattle.heap.proofs.record.set_sentinel.Goals as goal

pub returns-then-k-lt6 : goal.returns-then-k-lt6
returns-then-k-lt6 c = rw (stored_sentinel _ _ _ c.if-k-lt6.true)

pub returns-else-k-lt6 : goal.returns-else-k-lt6
returns-else-k-lt6 c = rw (stored_chunk _ _ _ c.if-k-lt6.false)
