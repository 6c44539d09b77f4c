-- `map::read::lay_rows` meets its contract. Invariant: once the lines of the bytes that are left are laid behind the first k rows, the room is what the
-- contract says; each row took nineteen bytes.
use mathlib.Core.Path.{◌≡◌}
use Prim.Native.Nat.{◌+◌, ◌*◌}
use lib.ListN.{length}
use Rattle.map.specs.Steps.{words_in}
use Rattle.map.specs.Calls.{over}
use Rattle.map.proofs.Reader.Laid.{laying}
use Rattle.map.proofs.read.lay_rows.Given as goal

abbrev pub invariant-loop-k : goal.invariant-loop-k
invariant-loop-k l = record {
  laid : over (words_in (length l.lines) l.lines) l.initial.room ≡ laying (length l.lines) l.k-iterator.count l.k-iterator.iter.rest.now l.room;
  whole : l.k-iterator.count * 19 + length l.k-iterator.iter.rest.now ≡ length l.lines;
  size : l.k-iterator.iter.size ≡ 19;
  kept : length l.room ≡ length l.initial.room;
}
