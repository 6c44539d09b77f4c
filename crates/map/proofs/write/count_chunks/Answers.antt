-- `map::write::count_chunks` meets its contract: as many turns as chunks.
use mathlib.Core.Path.{◌≡◌, ◌∙◌}
use native.Mathlib.Omega.{arith}
use lib.ListN.{length}
use Rattle.map.specs.Writing.{chunks_in}
use Rattle.map.proofs.Writing.{drained}
use Rattle.map.proofs.write.count_chunks.Goals as goal

pub count-requires-clause-can : goal.count-requires-clause-can
unfolding chunks_in
count-requires-clause-can c = rw c.of.ensures (omega (arith, c.requires))

pub returns : goal.returns
unfolding chunks_in
returns c =
    let all = c.count.ensures.ran in
    let n : c.count.result ≡ length (chunks_in c.args.heap.now) = all.2 ∙ drained all.0 c.of.result all.1 ∙ rw c.of.ensures in
    omega (arith, n)
