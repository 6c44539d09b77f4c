-- THE CLASS LISTS AGAINST CHUNKS: the free chunks by their links, and orders that hold exactly them, each in the list of its class.
use Rattle.std.specs.Prelude.{◌≡◌, List, [], ◌∷◌, ℕ, ◌+◌, ◌/◌, ◌<◌}
use Rattle.words.specs.Choice.{pick}
use Rattle.rules.specs.Rules.Lists.{Mem}
use Rattle.rules.specs.Rules.Chunks.{Chunk}

-- a free chunk: its link and its length
pub record Slot : Type 0 where
  pub name : ℕ
  pub len : ℕ

abbrev pub slot : ℕ → ℕ → Slot
slot x n = record { name = x; len = n }

-- the free ones of the chunks from byte b on
unfoldable pub frees : ℕ → List Chunk → List Slot
frees b [] = []
frees b (c ∷ cs) = pick c.used (frees (b + c.len) cs) (slot (b / 4 + 6) c.len ∷ frees (b + c.len) cs)

-- each of F is in the list of its class, and each list below 6 holds only such
pub record Exact (cls : ℕ → ℕ) (O : ℕ → List ℕ) (F : List Slot) : Type 0 where
  pub listed : (x n : ℕ) → Mem (slot x n) F → Mem x (O (cls n))
  pub only : (k x : ℕ) → k < 6 → Mem x (O k) → (n : ℕ) × Mem (slot x n) F × (cls n ≡ k)
