-- WHERE CHUNKS STAND, by byte: in a list of chunks, and as the headers tell.
use Rattle.std.specs.Prelude.{◌≡◌, true, false, List, [], ◌∷◌, ◌++◌, ℕ, zero, suc, ◌+◌, ◌-◌, ◌*◌, ◌/◌, ◌%◌, eqb, leb}
use Rattle.words.specs.Choice.{pick}
use Rattle.rules.specs.Rules.Chunks.{Chunk, busy, total}

-- A USED CHUNK of n bytes at byte b
pub record UsedAt (cs : List Chunk) (b n : ℕ) : Type 0 where
  pub pre : List Chunk
  pub post : List Chunk
  pub is : cs ≡ pre ++ busy n ∷ post
  pub byte : b ≡ total pre

-- the length of the chunk at byte b, and how many chunks are before it
unfoldable pub len_at : List Chunk → ℕ → ℕ
len_at [] b = 0
len_at (c ∷ cs) b = let r = len_at cs (b - c.len) in pick (eqb b 0) c.len r

unfoldable pub index_at : List Chunk → ℕ → ℕ
index_at [] b = 0
index_at (c ∷ cs) b = let r = suc (index_at cs (b - c.len)) in pick (eqb b 0) 0 r

-- the length of the used chunk that begins at byte b; 0 where none does
unfoldable pub used_at : List Chunk → ℕ → ℕ
used_at [] b = 0
used_at (c ∷ cs) b = pick (eqb b 0) (pick c.used c.len 0) (pick (leb c.len b) (used_at cs (b - c.len)) 0)

-- THE TILING: the chunks that the headers f give, from byte e on; at most `fuel` of them
unfoldable pub tile : (ℕ → ℕ) → ℕ → ℕ → List Chunk
tile f zero e = []
tile f (suc fuel) e =
    let n = f (e / 4) / 4 * 4 in
    pick (eqb n 0) [] (record { len = n; used = pick (eqb (f (e / 4) / 2 % 2) 0) false true } ∷ tile f fuel (e + n))

-- `used_at` along the headers f, from byte e on, as the code walks: proofs/Tiling/Place.antt has that it is `used_at` of the tiling
unfoldable pub used_walk : (ℕ → ℕ) → ℕ → ℕ → ℕ → ℕ
used_walk f zero e b = 0
used_walk f (suc fuel) e b =
    let n = f (e / 4) / 4 * 4 in
    let r = used_walk f fuel (e + n) (b - n) in
    let q = pick (leb n b) r 0 in
    let here = pick (eqb (f (e / 4) / 2 % 2) 0) 0 n in
    let more = pick (eqb b 0) here q in
    pick (eqb n 0) 0 more
