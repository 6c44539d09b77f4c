-- WRITING ROW BY ROW: what the writer's inner contracts cite. The claims need nothing of this file.
use Rattle.std.specs.Prelude.{true, false, List, ℕ, ◌*◌, ◌/◌, ◌≤◌, length}
use Rattle.words.specs.Choice.{pick}
use Rattle.words.specs.Tags.{at, length_of, freeᵇ}
use Rattle.rules.specs.Rules.Chunks.{Chunk, total}
use Rattle.rules.specs.Rules.Place.{tile}

-- the chunks of the words, as the headers give them
unfoldable pub chunks_in : List ℕ → List Chunk
chunks_in ws = tile (at ws) (length ws) 0

-- the chunk whose header stands at byte e
abbrev pub chunk_at : List ℕ → ℕ → Chunk
chunk_at ws e = record { len = length_of (at ws (e / 4)); used = pick (freeᵇ (at ws (e / 4))) false true }

-- the chunks end where those of the longest heap do, at the latest
abbrev pub Short : List ℕ → Type 0
Short ws = total (chunks_in ws) ≤ 262112

-- and the room has a line's bytes for each
abbrev pub Roomy : List ℕ → List ℕ → Type 0
Roomy ws room = 19 * length (chunks_in ws) ≤ length room
