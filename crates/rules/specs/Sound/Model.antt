-- A MODEL: what a sound state shows, with no words and no links.
use Rattle.std.specs.Prelude.{List, ℕ}
use Rattle.rules.specs.Rules.Chunks.{Chunk}
use Rattle.rules.specs.Rules.Calls.{Figures}

-- the chunks left to right, the six orders of free ones, the figures
pub record Model : Type 0 where
  pub cs : List Chunk
  pub orders : ℕ → List ℕ
  pub figs : Figures
