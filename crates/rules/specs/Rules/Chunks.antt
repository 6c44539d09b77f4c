-- THE CHUNKS of a heap, left to right, as a list: what makes one sound, and what taking and releasing do to it, with no words and no links.
use Rattle.std.specs.Prelude.{◌≡◌, Bool, true, false, List, [], ◌∷◌, ℕ, zero, suc, ◌+◌, ◌-◌, ◌%◌, ◌≤◌, leb}
use Rattle.words.specs.Choice.{pick}

-- a length in bytes, and whether it is used
pub record Chunk : Type 0 where
  pub len : ℕ
  pub used : Bool

-- a free one and a used one of n bytes
abbrev pub free : ℕ → Chunk
free n = record { len = n; used = false }

abbrev pub busy : ℕ → Chunk
busy n = record { len = n; used = true }

-- the bytes of all, and of the used ones
abbrev pub total : List Chunk → ℕ
total [] = 0
total (c ∷ cs) = c.len + total cs

abbrev pub used_sum : List Chunk → ℕ
used_sum [] = 0
used_sum (c ∷ cs) = pick c.used c.len 0 + used_sum cs

-- a length is a multiple of 8 and at least 16
abbrev pub Legal : List Chunk → Type 0
Legal [] = Unit {0}
Legal (c ∷ cs) = (16 ≤ c.len) × (c.len % 8 ≡ 0) × Legal cs

-- the first chunk is used; so is the guard, where there is none
abbrev pub used_head : List Chunk → Bool
used_head [] = true
used_head (c ∷ cs) = c.used

-- no two free chunks touch: each is used, or what is right of it is
abbrev pub Calm : List Chunk → Type 0
Calm [] = Unit {0}
Calm (c ∷ cs) = (pick c.used true (used_head cs) ≡ true) × Calm cs

-- c in front of cs; two free chunks that would touch become one
unfoldable pub join : Chunk → List Chunk → List Chunk
join c [] = c ∷ []
join c (d ∷ cs) = pick (pick c.used true d.used) (c ∷ d ∷ cs) (free (c.len + d.len) ∷ cs)

-- RELEASING chunk i: it becomes free, and is merged with what it then touches: neither, left, right, both
unfoldable pub release : List Chunk → ℕ → List Chunk
release [] i = []
release (c ∷ cs) zero = join (free c.len) cs
release (c ∷ cs) (suc i) = join c (release cs i)

-- n bytes in front of cs used for s: the rest is a free chunk if at least 12 remain
unfoldable pub cut : ℕ → ℕ → List Chunk → List Chunk
cut n s cs = pick (leb (s + 12) n) (busy s ∷ free (n - s) ∷ cs) (busy n ∷ cs)

-- TAKING chunk i for s bytes
unfoldable pub taken : List Chunk → ℕ → ℕ → List Chunk
taken [] i s = []
taken (c ∷ cs) zero s = cut c.len s cs
taken (c ∷ cs) (suc i) s = c ∷ taken cs i s
