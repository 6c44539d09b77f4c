-- `cache::used_places` meets its contract. Invariant: the places that are used from place k on, and these k, are all that are used.
use Rattle.std.proofs.Common.{◌≡◌, ◌+◌, drop}
use Rattle.words.specs.Numbers.{numbers}
use Rattle.cache.specs.Places.{used_places}
use Rattle.cache.proofs.used_places.Given as goal

abbrev pub invariant-loop-k : goal.invariant-loop-k
invariant-loop-k l = used_places (numbers l.c) ≡ l.k + used_places (drop l.k (numbers l.c))
