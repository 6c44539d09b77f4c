-- The walk along the headers meets its contract: without fuel or at the guard none is left, else one more chunk is behind it.
use mathlib.Core.Path.{refl}
use Prim.Native.Nat.{◌+◌, ◌-◌, ◌≤◌}
use native.Mathlib.Omega.{arith}
use Rattle.words.specs.Tags.{at}
use Rattle.rules.specs.Rules.Chunks.{total}
use Rattle.rules.specs.Rules.Place.{tile}
use Rattle.map.proofs.Writing.{tile_out, tile_guard, tile_on, chunk_left}
use Rattle.map.proofs.chunks.ChunksIterator.next.Goals as goal

pub returns-then-self-eq0-clause-steps : goal.returns-then-self-eq0-clause-steps
returns-then-self-eq0-clause-steps c = tile_out _ _ _ (omega arith)

pub returns-then-len-eq0-clause-steps : goal.returns-then-len-eq0-clause-steps
returns-then-len-eq0-clause-steps c = tile_guard _ _ _ (rw c.from.ensures at c.get_hdr_chunk_size-len.ensures) _ (omega arith) c.if-len-eq0.true

pub overflow_add-self : goal.overflow_add-self
overflow_add-self c =
    let s = c.args.self.now in
    let after = chunk_left s.heap.now s.at _ (rw c.from.ensures at c.get_hdr_chunk_size-len.ensures) s.fuel (omega arith) c.if-len-eq0.false in
    omega (arith, after.bytes)

pub returns-clause-steps : goal.returns-clause-steps
returns-clause-steps c =
    let s = c.args.self.now in
    let here = rw c.from.ensures at c.get_hdr_chunk_size-len.ensures in
    (refl, here, tile_on s.heap.now s.at _ here s.fuel (omega arith) c.if-len-eq0.false, refl, refl)

pub returns-clause-goes : goal.returns-clause-goes
returns-clause-goes c =
    let s = c.args.self.now in
    let after = chunk_left s.heap.now s.at _ (rw c.from.ensures at c.get_hdr_chunk_size-len.ensures) s.fuel (omega arith) c.if-len-eq0.false in
    let in_time : s.at + c.get_hdr_chunk_size-len.result
    + total (tile (at s.heap.now) (s.fuel - 1) (s.at + c.get_hdr_chunk_size-len.result)) ≤ 262112 = omega (arith, after.bytes, c.requires) in
    record { on = λ f. (in_time, f, omega arith); keeps = in_time; rests = λ f. tt }
