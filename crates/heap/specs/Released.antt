-- THE PARTS OF A RELEASE, which the rules compose: a neighbour leaves its list if it is free, and the merged chunk is tagged and listed. And the oldest
-- cached chunk let go.
use Rattle.std.specs.Prelude.{List, [], ◌∷◌, ℕ, ◌+◌, Option, Some, None}
use Rattle.words.specs.declared.names.Link.{Link}
use Rattle.words.specs.Sizes.{class_of}
use Rattle.words.specs.Tags.{right_of}
use Rattle.rules.specs.Rules.Steps.{unlink, link, clear_left, mark_free}
use Rattle.rules.specs.Rules.Calls.{let_go}
use Rattle.rules.specs.Rules.Making.{State}
use Rattle.heap.specs.Seen.{base}

-- a node, if there is one, leaves its list
unfoldable pub unlink_if : State → Option Link → State
unlink_if s None = s
unlink_if s (Some l) = unlink base s l.0

-- n bytes at word w become a free chunk: tags, the right neighbour's left bit cleared, and the head of their class list
unfoldable pub free_listed : State → ℕ → ℕ → State
free_listed s w n = link base (clear_left base (mark_free base s w n) (right_of w n)) (class_of n) (w + 6)

-- of the cached chunks ks the oldest let go, what tasks hold staying; nothing where there is none
unfoldable pub oldest_of : State → List ℕ → State
oldest_of s [] = s
oldest_of s (k ∷ ks) = let_go base s s.rest.in_use k ks

-- the oldest cached chunk let go
abbrev pub oldest_gone : State → State
oldest_gone s = oldest_of s s.rest.cached
