-- MAKING (document 01), for each link width: one free chunk, listed; the counters 0, the flag off, the cache empty; other words keep their contents.
use Rattle.std.specs.Prelude.{Bool, false, List, [], ◌∷◌, ℕ, ◌-◌, ◌*◌, ◌%◌, eqb, leb, length, replicate}
use Rattle.words.specs.Choice.{pick}
use Rattle.words.specs.Links.{Width}
use Rattle.rules.specs.Rules.Steps.{one_chunk}
use Rattle.rules.specs.Rules.State.{Heap, ops}
use Rattle.rules.specs.Rules.Calls.{Figures, Outcome, says}

-- record and words: two lists of six links, the words, the figures
abbrev pub State : Type 0
State = Heap Figures

-- six links that name their own sentinels
abbrev pub selves : List ℕ
selves = 0 ∷ 1 ∷ 2 ∷ 3 ∷ 4 ∷ 5 ∷ []

-- the figures of n words at the start
abbrev pub begun : ℕ → Figures
begun n = record { words = n; cached = []; in_use = 0; committed = 0; peak = 0; high = 0; flag = 0 }

-- the empty record over the words ws; and one with empty lists
abbrev pub empty : List ℕ → State
empty ws = record { prevs = replicate 6 0; nexts = replicate 6 0; words = ws; rest = begun 0 }

abbrev pub fresh : List ℕ → State
fresh ws = record { prevs = selves; nexts = selves; words = ws; rest = begun (length ws) }

-- an odd count of words, 5 to `most`
abbrev pub acceptedᵇ : ℕ → ℕ → Bool
acceptedᵇ most n = pick (leb 5 n) (pick (leb n most) (eqb (n % 2) 1) false) false

-- making by value: 0, or 6 with the empty record and the words as they were
unfoldable pub make : Width → ℕ → List ℕ → Outcome State
make W most ws = pick (acceptedᵇ most (length ws)) (says 0 0 0 (one_chunk (ops W) (fresh ws) (4 * (length ws - 1)))) (says 6 0 0 (empty ws))
