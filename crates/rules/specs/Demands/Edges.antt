-- EDGES: the bytes at which chunks begin, and the guard's. A walk from byte 0 by the lengths in headers meets every live payload, once. Who walks needs these
-- laws of `Edge` and no more; proofs/Demands/Edges.antt proves them, for both link widths and any number of cache places.
use Rattle.std.specs.Prelude.{◌≡◌, List, ◌++◌, ℕ, ◌+◌, ◌-◌, ◌*◌, ◌/◌, ◌%◌, ◌≤◌, ◌<◌}
use Rattle.words.specs.Choice.{pick}
use Rattle.words.specs.Tags.{length_of, freeᵇ}
use Rattle.rules.specs.Rules.Ops.{Ops}
use Rattle.rules.specs.Rules.Chunks.{Chunk, total}
use Rattle.rules.specs.Rules.Calls.{Figures, name_of, listed}
use Rattle.rules.specs.Sound.Model.{Model}
use Rattle.rules.specs.Sound.Sound.{Shows, Sound}
use Rattle.rules.specs.Demands.Lives.{live_at}

module _ {S : Type 0} (op : Ops S Figures) (most places : ℕ) where
  -- the length in the header at byte e; and the same again if it is used and not cached, else 0
  abbrev pub length_seen : S → ℕ → ℕ
  length_seen s e = length_of (op.word s (e / 4))

  -- that length again if the chunk is used and not cached, else 0
  abbrev pub live_seen : S → ℕ → ℕ
  live_seen s e = pick (freeᵇ (op.word s (e / 4))) 0 (pick (listed (name_of e) (op.rest s).cached) 0 (length_seen s e))

  -- a chunk of a sound state begins at byte e, or the guard does
  pub record Edge (s : S) (e : ℕ) : Type 0 where
    pub shows : Model
    pub abs : Shows op most places s shows
    pub pre : List Chunk
    pub post : List Chunk
    pub is : shows.cs ≡ pre ++ post
    pub byte : e ≡ total pre

  -- THE LAWS: what a walk needs
  pub record Edges : Type 0 where
    pub first : (s : S) → Sound op most places s → Edge s 0
    -- at an edge before the guard: what is live there
    pub live : (s : S) (e : ℕ) → Edge s e → e < 4 * (op.count s - 1) → live_at op most places s (e + 4) ≡ live_seen s e
    -- nothing is live strictly inside its chunk
    pub between : (s : S) (e b : ℕ) → Edge s e → e < b → b < e + length_seen s e → live_at op most places s (b + 4) ≡ 0
    -- the chunk has at least 16 bytes, a multiple of 8, and ends at an edge
    pub next : (s : S) (e : ℕ) → Edge s e → e < 4 * (op.count s - 1)
        → (16 ≤ length_seen s e) × (length_seen s e % 8 ≡ 0) × (e + length_seen s e ≤ 4 * (op.count s - 1)) × Edge s (e + length_seen s e)
    -- all live payloads are there: 4 bytes after an edge
    pub all : (s : S) (p : ℕ) → Sound op most places s → 0 < live_at op most places s p → Edge s (p - 4)
