-- KINDS OF HEAP, as the calls take them: how many cache places each has.
use Rattle.std.specs.Prelude.{ℕ}
use Rattle.heap.specs.declared.kind.Kind.{Kind}
use Rattle.heap.specs.declared.kind.Kind.TheVariants.{One, Four}

-- how many cache places a kind has
abbrev pub places_of : Kind → ℕ
places_of One = 1
places_of Four = 4
