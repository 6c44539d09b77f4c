-- `make` meets its contract: other words than are lent are refused, and else it answers as making by value does, whose refusal leaves the record.
use Rattle.std.proofs.Common.{sym, arith}
use Rattle.door.proofs.Making.{over_other, over_made}
use Rattle.door.proofs.make.Goals as goal

pub returns-then-words-heap : goal.returns-then-words-heap
returns-then-words-heap c = rw (c.from-then-words-heap.ensures, c.from.ensures) (over_other _ _ (λ e. omega (arith, e, c.if-words-heap.true)))

pub returns : goal.returns
returns c =
    rw (c.from-3.ensures, c.from-2.ensures, c.unwrap_or.ensures)
    (over_made _ _ _ c.make-made.result _ (omega (arith, c.if-words-heap.false)) c.make-made.ensures)
