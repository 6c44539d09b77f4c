-- `map::write::write_lines` meets its contract. Invariant: the lines from here on, laid over the room as it is, give what all lines over the first room
-- give; and the room has a line's bytes for each chunk that is left.
use mathlib.Core.Path.{◌≡◌}
use Prim.Native.Nat.{◌+◌, ◌*◌, ◌≤◌}
use lib.ListN.{length}
use Rattle.words.specs.Numbers.{numbers}
use Rattle.cache.specs.Places.{cached_of}
use Rattle.map.specs.Rows.{lines_of}
use Rattle.map.specs.Layout.{map_of}
use Rattle.map.specs.Calls.{over}
use Rattle.map.specs.Writing.{chunks_in}
use Rattle.map.specs.Walk.{left_of}
use Rattle.map.proofs.Room.{over_from}
use Rattle.map.proofs.write.write_lines.Given as goal

abbrev pub invariant-loop-k : goal.invariant-loop-k
invariant-loop-k l = record {
  laid : over (lines_of (map_of (cached_of (numbers l.cached)) 0 (chunks_in l.heap))) l.initial.room
      ≡ over_from (l.k-iterator.count * 19) (lines_of (map_of (cached_of (numbers l.cached)) l.k-iterator.iter.at (left_of l.k-iterator.iter))) l.room;
  heap : l.k-iterator.iter.heap.now ≡ l.heap;
  roomy : l.k-iterator.count * 19 + 19 * length (left_of l.k-iterator.iter) ≤ length l.room;
}
