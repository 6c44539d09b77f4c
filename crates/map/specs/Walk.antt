-- THE WALK ALONG THE HEADERS, chunk after chunk: what the writer's iterator has left, and what a turn of it gives.
use Rattle.std.specs.Prelude.{◌≡◌, List, [], ◌∷◌, ℕ, ◌+◌, ◌/◌, ◌≤◌, length, Option, MatchOption}
use Rattle.std.specs.Borrow.{Bor}
use Rattle.words.specs.Tags.{at, length_of}
use Rattle.rules.specs.Rules.Chunks.{Chunk, total}
use Rattle.rules.specs.Rules.Place.{tile}
use Rattle.map.specs.declared.chunks.Chunks.{Chunks}
use Rattle.map.specs.Writing.{chunk_at}

-- the walk along the words, from the first header on
abbrev pub along : Bor (List ℕ) → Chunks
along heap = record { heap = heap; at = 0; fuel = length heap.now }

-- the chunks that are left
abbrev pub left_of : Chunks → List Chunk
left_of s = tile (at s.heap.now) s.fuel s.at

-- they end where those of the longest heap do, at the latest
abbrev pub InTime : Chunks → Type 0
InTime s = s.at + total (left_of s) ≤ 262112

-- a turn gives the next header's byte and its chunk's length, and leaves the chunks after it; or none is left
abbrev pub walks : Chunks → Option (ℕ × ℕ) → Chunks → Type 0
walks s r t = MatchOption r (left_of s ≡ [])
    (λ p. (p.0 ≡ s.at) × (p.1 ≡ length_of (at s.heap.now (s.at / 4))) × (left_of s ≡ chunk_at s.heap.now s.at ∷ left_of t)
    × (t.heap ≡ s.heap) × (t.at ≡ s.at + p.1))
