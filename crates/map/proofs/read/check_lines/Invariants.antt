-- `map::read::check_lines` meets its contract. Invariant: all lines count to what those of the bytes that are left count to, after n rows; each row
-- took nineteen bytes.
use mathlib.Core.Path.{◌≡◌}
use Prim.Native.Nat.{◌+◌, ◌*◌}
use lib.ListN.{length}
use Rattle.heap.specs.Kind.{places_of}
use Rattle.map.specs.Reading.{start, read_from}
use Rattle.map.specs.Steps.{counted}
use Rattle.map.proofs.Reader.AllLines.{tried}
use Rattle.map.proofs.read.check_lines.Given as goal

abbrev pub invariant-loop-n : goal.invariant-loop-n
invariant-loop-n l = record {
  counts : counted 0 (read_from 65529 (places_of l.kind) (length l.lines) start 1 l.lines)
      ≡ tried 65529 (places_of l.kind) l.p (length l.lines) l.n-iterator.count l.n-iterator.iter.rest.now;
  whole : l.n-iterator.count * 19 + length l.n-iterator.iter.rest.now ≡ length l.lines;
  size : l.n-iterator.iter.size ≡ 19;
}
