-- `cache::choice` meets its contract. Invariant: what is left to search from place k on, counted from there, is the whole search.
use Rattle.std.proofs.Common.{◌≡◌, ◌+◌, ◌-◌, drop}
use Rattle.words.specs.Numbers.{numbers}
use Rattle.words.specs.Tags.{at, length_of}
use Rattle.cache.specs.Places.{choice_of}
use Rattle.cache.proofs.choice.Given as goal

abbrev pub invariant-loop-k : goal.invariant-loop-k
invariant-loop-k l =
    choice_of (λ x. length_of (at l.heap (x - 6))) l.z (numbers l.c) ≡ l.k + choice_of (λ x. length_of (at l.heap (x - 6))) l.z (drop l.k (numbers l.c))
