-- MAPS AND LAYOUTS (W-201): the map of chunks, and which lists of rows are maps, whatever the words of a heap hold.
use Rattle.std.specs.Prelude.{◌≡◌, not, List, [], ◌∷◌, ℕ, ◌+◌, ◌-◌, ◌*◌, ◌≤◌}
use Rattle.words.specs.Choice.{pick, bit}
use Rattle.rules.specs.Rules.Chunks.{Chunk, total, Legal, Calm}
use Rattle.rules.specs.Rules.Calls.{name_of, listed}
use Rattle.rules.specs.Sound.Sound.{Accepted}
use Rattle.map.specs.declared.kind.ChunkKind.{ChunkKind}
use Rattle.map.specs.declared.kind.ChunkKind.TheVariants.{Free, Live, Cached}
use Rattle.map.specs.declared.rows.Row.{Row}
use Rattle.map.specs.Rows.{row, is_free, is_cached}

-- the kind of the chunk at byte b, the chunks ks being cached
abbrev pub kind_of : List ℕ → ℕ → Chunk → ChunkKind
kind_of ks b c = pick c.used (pick (listed (name_of b) ks) Cached Live) Free

-- THE MAP of chunks from byte b on, left to right; the guard has no row
unfoldable pub map_of : List ℕ → ℕ → List Chunk → List Row
map_of ks b [] = []
map_of ks b (c ∷ cs) = row (kind_of ks b c) b c.len ∷ map_of ks (b + c.len) cs

-- the chunks that rows show
unfoldable pub chunks_of : List Row → List Chunk
chunks_of [] = []
chunks_of (r ∷ rs) = record { len = r.len; used = not (is_free r.kind) } ∷ chunks_of rs

-- how many of them are cached
unfoldable pub cached_in : List Row → ℕ
cached_in [] = 0
cached_in (r ∷ rs) = bit (is_cached r.kind) + cached_in rs

-- each chunk begins where the one before it ends, the first at byte b
abbrev pub InLine : ℕ → List Row → Type 0
InLine b [] = Unit {0}
InLine b (r ∷ rs) = (r.at ≡ b) × InLine (b + r.len) rs

-- WHICH ROWS ARE A MAP: they tile an accepted length with legal chunks, no two free ones touch, and no more are cached than there are places
pub record LegalMap (most places : ℕ) (rs : List Row) : Type 0 where
  pub words : ℕ
  pub accepted : Accepted most words
  pub fills : total (chunks_of rs) ≡ 4 * (words - 1)
  pub in_line : InLine 0 rs
  pub legal : Legal (chunks_of rs)
  pub calm : Calm (chunks_of rs)
  pub cached : cached_in rs ≤ places
