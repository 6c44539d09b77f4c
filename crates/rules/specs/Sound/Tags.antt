-- TAGS AGAINST CHUNKS: the words f, from byte b on, show the chunks cs by headers, footers and the guard; l says whether what is left of them is used.
use Rattle.std.specs.Prelude.{◌≡◌, ◌⊎◌, Bool, false, List, [], ◌∷◌, ℕ, ◌+◌, ◌-◌, ◌*◌, ◌/◌}
use Rattle.words.specs.Choice.{bit}
use Rattle.rules.specs.Rules.Chunks.{Chunk}

-- what the header of the first chunk, or the guard, says but for its left bit
abbrev pub head_tag : List Chunk → ℕ
head_tag [] = 2
head_tag (c ∷ cs) = c.len + 2 * bit c.used

-- header by header, with the last word of each free chunk, up to the guard
abbrev pub Tags : (ℕ → ℕ) → ℕ → Bool → List Chunk → Type 0
Tags f b l [] = f (b / 4) ≡ 2 + bit l
Tags f b l (c ∷ cs) =
    (f (b / 4) ≡ c.len + 2 * bit c.used + bit l) × (c.used ≡ false → f ((b + c.len) / 4 - 1) ≡ c.len) × Tags f (b + c.len) c.used cs

-- word i is a header, the footer of a free chunk, or the guard
abbrev pub Tag : ℕ → List Chunk → ℕ → Type 0
Tag b [] i = i ≡ b / 4
Tag b (c ∷ cs) i = (i ≡ b / 4) ⊎ (((c.used ≡ false) × (i ≡ (b + c.len) / 4 - 1)) ⊎ Tag (b + c.len) cs i)
