-- `cache::holds` meets its contract. Invariant: the number is listed exactly where it is listed from place i on.
use Rattle.std.proofs.Common.{◌≡◌, drop}
use Rattle.words.specs.Numbers.{numbers}
use Rattle.rules.specs.Rules.Calls.{listed}
use Rattle.cache.proofs.holds.Given as goal

abbrev pub invariant-loop-i : goal.invariant-loop-i
invariant-loop-i l = listed l.name (numbers l.c) ≡ listed l.name (drop l.i (numbers l.c))
