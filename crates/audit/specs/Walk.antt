-- WALKS OF THE TILING, as the code takes them: no part of what a sound heap is.
use Rattle.std.specs.Prelude.{◌≡◌, ℕ, zero, suc, ◌+◌, ◌-◌, ◌*◌, ◌/◌, ◌%◌, ◌≤◌, not, List, [], ◌∷◌, length, ◌==◌, nat_le, nat_lt, slice_index, Option, None, Some}
use Rattle.words.specs.Choice.{bit}
use Rattle.words.specs.Sizes.{class_of}
use Rattle.audit.specs.declared.Figures.{Figures}
use Rattle.audit.specs.declared.tiling.Seen.{Seen}
use Rattle.audit.specs.declared.tiling.Seen.TheVariants.{Free, Used}
use Rattle.audit.specs.declared.tiling.Tally.{Tally}
use Rattle.audit.specs.Layout.{pick, Chunk, free, used}

-- the length in a header h
abbrev pub bytes : ℕ → ℕ
bytes h = h / 8 * 8

-- what stands at word `at`, where `left` is 1 if what is left of it is used
unfoldable pub seen_at : List ℕ → ℕ → ℕ → Option Seen
seen_at ws at left =
    pick (nat_lt at (length ws))
    (pick (nat_le 16 (slice_index ws at))
    (pick (nat_lt (bytes (slice_index ws at) / 4) (length ws - at))
    (pick (slice_index ws at % 8 == 2 + left)
    (Some (Used (bytes (slice_index ws at))))
    (pick (not (left == 0))
    (pick (slice_index ws at % 8 == 1)
    (pick (slice_index ws (at + bytes (slice_index ws at) / 4 - 1) == bytes (slice_index ws at))
    (Some (Free (bytes (slice_index ws at)))) None) None) None)) None) None) None

-- THE WHOLE WALK: broken, or the sum of used lengths, the end of the last used chunk, and how many free chunks are of a class
pub data Tiled : Type 0 where
  Broken : Tiled
  Whole : ℕ → ℕ → ℕ → Tiled

-- what a turn does with what it saw
unfoldable pub turn : ℕ → (ℕ → ℕ → ℕ → ℕ → ℕ → Tiled) → ℕ → ℕ → ℕ → ℕ → Option Seen → Tiled
turn c go at sum top fr None = Broken
turn c go at sum top fr (Some (Free n)) = go (at + n / 4) 0 sum top (fr + bit (class_of n == c))
turn c go at sum top fr (Some (Used n)) = go (at + n / 4) 1 (sum + n) ((at + n / 4) * 4) fr

-- the walk from word `at` on, in at most this many turns, with the sums so far
unfoldable pub walk : ℕ → List ℕ → ℕ → ℕ → ℕ → ℕ → ℕ → ℕ → Tiled
walk zero ws c at left sum top fr = Broken
walk (suc f) ws c at left sum top fr =
    pick (nat_lt (at + 1) (length ws))
    (turn c (walk f ws c) at sum top fr (seen_at ws at left))
    (pick (slice_index ws at == 2 + left) (Whole sum top fr) Broken)

-- the walk of all words, for class c
unfoldable pub tiled_by : List ℕ → ℕ → Tiled
tiled_by ws c = walk (length ws) ws c 0 1 0 0 0

-- what a tally says of a class
unfoldable pub tallied : Option Tally → ℕ → Tiled
tallied None c = Broken
tallied (Some t) c = Whole t.sum t.top (slice_index t.frees c)

-- THE CHUNK AT A WORD of the tiling
unfoldable pub onto : (ℕ → ℕ → Option Seen) → ℕ → Option Seen → Option Seen
onto go at None = None
onto go at (Some (Free n)) = go (at + n / 4) 0
onto go at (Some (Used n)) = go (at + n / 4) 1

-- the search for word w from word `at` on, in at most this many turns
unfoldable pub chunk_from : ℕ → List ℕ → ℕ → ℕ → ℕ → Option Seen
chunk_from zero ws w at left = None
chunk_from (suc f) ws w at left =
    pick (nat_lt at w)
    (onto (chunk_from f ws w) at (seen_at ws at left))
    (pick (at == w) (seen_at ws at left) None)

-- the chunk whose header is word w
unfoldable pub chunk_of : List ℕ → ℕ → Option Seen
chunk_of ws w = chunk_from (suc (length ws)) ws w 0 1

-- the same search, on a layout
unfoldable pub chunk_in : List Chunk → ℕ → ℕ → Option Seen
chunk_in [] at w = None
chunk_in (free n ∷ cs) at w = pick (nat_lt at w) (chunk_in cs (at + n / 4) w) (pick (at == w) (Some (Free n)) None)
chunk_in (used n ∷ cs) at w = pick (nat_lt at w) (chunk_in cs (at + n / 4) w) (pick (at == w) (Some (Used n)) None)

-- WHAT IS HELD at a word: the length of the used chunk that was seen there, and 0 where none was
unfoldable pub length_seen : Option Seen → ℕ
length_seen None = 0
length_seen (Some (Free n)) = 0
length_seen (Some (Used n)) = n

-- of the chunk whose header is word w
unfoldable pub held_at : List ℕ → ℕ → ℕ
held_at ws w = length_seen (chunk_of ws w)

-- THE FIRST FREE CHUNK: past a used chunk the search goes on; it ends at a free one, or at the guard
unfoldable pub past_used : (ℕ → ℕ) → ℕ → Option Seen → ℕ
past_used go at None = at
past_used go at (Some (Free n)) = at
past_used go at (Some (Used n)) = go (at + n / 4)

-- its word, from word `at` on, in at most this many turns
unfoldable pub first_from : ℕ → List ℕ → ℕ → ℕ
first_from zero ws at = at
first_from (suc f) ws at = past_used (first_from f ws) at (seen_at ws at 1)

-- its word; the guard's where no chunk is free
unfoldable pub first_free : List ℕ → ℕ
first_free ws = first_from (length ws) ws 0

-- THE FIGURES, against n words, the sum of used lengths, what of it is cached, and the end of the last used chunk
pub record FiguresFit (f : Figures) (n sum held top : ℕ) : Type 0 where
  pub words : n ≡ f.words
  pub least : 5 ≤ n
  pub most : n ≤ 65529
  pub odd : n % 2 ≡ 1
  pub committed : f.committed ≡ sum
  pub in_use : f.in_use + held ≡ sum
  pub peak : f.committed ≤ f.peak
  pub high : f.peak ≤ f.high
  pub heap : f.high ≤ n * 4 - 4
  pub eights : f.high % 8 ≡ 0
  pub end : top ≤ f.high
  pub flag : f.fresh ≤ 1
