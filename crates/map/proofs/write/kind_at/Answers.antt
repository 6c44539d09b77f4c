-- `map::write::kind_at` meets its contract: a free chunk, a cached one, any other used one.
use Rattle.words.specs.Numbers.{numbers}
use Rattle.map.proofs.Writing.{kind_cached, kind_live}
use Rattle.map.proofs.write.kind_at.Goals as goal

pub returns-then-held : goal.returns-then-held
returns-then-held c =
    kind_cached c.args.heap.now (numbers c.args.cached) c.args.e _ _
    (rw c.from.ensures at c.is_this_free-free.ensures) c.if-free.false c.holds-held.ensures c.if-held.true

pub returns : goal.returns
returns c =
    kind_live c.args.heap.now (numbers c.args.cached) c.args.e _ _
    (rw c.from.ensures at c.is_this_free-free.ensures) c.if-free.false c.holds-held.ensures c.if-held.false
