-- `feed::line::Begun::with_all` meets its contract. Invariant: the bytes that are left are still to be kept.
use mathlib.Core.Path.{◌≡◌}
use lib.ListN.{drop}
use Rattle.feed.specs.Reading.{text_of, keeps}
use Rattle.feed.proofs.line.Begun.with_all.Given as goal

abbrev pub invariant-loop-byte : goal.invariant-loop-byte
invariant-loop-byte l = keeps (text_of l.initial.next) l.first ≡ keeps (text_of l.next) (drop l.byte-index l.first)
