-- EDGES: a walk by the lengths in headers meets every live payload, once. Assumes nothing.
--     edge_first, edge_live, edge_between, edge_next, edge_all
use mathlib.Core.Path.{◌≡◌}
use mathlib.Core.List.{List}
use Prim.Native.Nat.{ℕ, ◌≤◌, ◌<◌, ◌+◌, ◌-◌, ◌*◌, ◌%◌}
use lib.ListN.{length}
use Rattle.heap.specs.declared.record.Record.{Record}
use Rattle.heap.specs.Seen.{seen, base}
use Rattle.heap.specs.Promises.{SoundIn, live_in}
use Rattle.rules.specs.Demands.Edges.{length_seen, live_seen, Edge}
use Rattle.rules.proofs.Demands.Edges.{narrow_edges}

module _ (places : ℕ) where
  -- a chunk of a sound heap begins at byte e, or its guard does; the length in the header there; and that length if it is live, else 0
  abbrev pub EdgeIn : Record → List ℕ → ℕ → Type 0
  EdgeIn r ws e = Edge base 65529 places (seen r ws) e

  -- the length in the header there
  abbrev pub length_in : Record → List ℕ → ℕ → ℕ
  length_in r ws e = length_seen base 65529 places (seen r ws) e

  -- that length if the chunk is live, else 0
  abbrev pub live_there : Record → List ℕ → ℕ → ℕ
  live_there r ws e = live_seen base 65529 places (seen r ws) e

  module _ (r : Record) (ws : List ℕ) where
    -- a chunk begins at byte 0
    pub edge_first : SoundIn places r ws
        → EdgeIn r ws 0
    edge_first h = (narrow_edges places).first (seen r ws) h

    -- what is live at an edge before the guard
    pub edge_live : (e : ℕ)
        → EdgeIn r ws e
        → e < 4 * (length ws - 1)
        → live_in r ws (e + 4) ≡ live_there r ws e
    edge_live e g l = (narrow_edges places).live (seen r ws) e g l

    -- nothing is live strictly inside its chunk
    pub edge_between : (e b : ℕ)
        → EdgeIn r ws e
        → e < b
        → b < e + length_in r ws e
        → live_in r ws (b + 4) ≡ 0
    edge_between e b g l h = (narrow_edges places).between (seen r ws) e b g l h

    -- the chunk has at least 16 bytes, a multiple of 8, and ends at an edge
    pub edge_next : (e : ℕ)
        → EdgeIn r ws e
        → e < 4 * (length ws - 1)
        → (16 ≤ length_in r ws e)
        × (length_in r ws e % 8 ≡ 0)
        × (e + length_in r ws e ≤ 4 * (length ws - 1))
        × EdgeIn r ws (e + length_in r ws e)
    edge_next e g l = (narrow_edges places).next (seen r ws) e g l

    -- every live payload begins 4 bytes after an edge
    pub edge_all : (p : ℕ)
        → SoundIn places r ws
        → 0 < live_in r ws p
        → EdgeIn r ws (p - 4)
    edge_all p h a = (narrow_edges places).all (seen r ws) p h a
