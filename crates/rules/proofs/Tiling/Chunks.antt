-- Laws of specs/Rules/Chunks.antt: what keeps free chunks from touching and lengths legal; the four merges around a place. Assumes nothing.
use mathlib.Core.Path.{◌≡◌, refl, sym, ap, ◌∙◌}
use mathlib.Core.Bool.{Bool, true, false}
use mathlib.Core.List.{List, [], ◌∷◌, ◌++◌}
use Prim.Native.Nat.{ℕ, zero, suc, ◌+◌, ◌-◌, ◌%◌, ◌≤◌}
use native.Mathlib.Nat.{add_assoc, zero-add, suc-add}
use native.Mathlib.Omega.{arith}
use lib.Dec.{leb}
use lib.ListN.{length, get_or}
use Rattle.words.specs.Choice.{pick}
use Rattle.rules.specs.Rules.Chunks.{Calm, Chunk, Legal, busy, cut, free, join, release, taken, total, used_head}
use Rattle.rules.specs.Sound.Test.{either}

pub join_calm : (c : Chunk) (cs : List Chunk) → Calm cs → Calm (join c cs)
unfolding join
join_calm c [] k = (go c.used, tt)
  where
    go : (b : Bool) → either b true ≡ true
    go true = refl
    go false = refl
join_calm c (d ∷ cs) k = go (either c.used d.used) refl
  where
    -- of two free ones the second has no free one on its right
    rest : (a b : Bool) → either a b ≡ false → either b (used_head cs) ≡ true → either false (used_head cs) ≡ true
    rest true b e h = absurd (let z : ◌≡◌ {A = ℕ} 0 1 = cc in omega arith)
    rest false true e h = absurd (let z : ◌≡◌ {A = ℕ} 0 1 = cc in omega arith)
    rest false false e h = h

    go : (b : Bool) → either c.used d.used ≡ b → Calm (pick b (c ∷ d ∷ cs) (free (c.len + d.len) ∷ cs))
    go true e = (e, k)
    go false e = (rest c.used d.used e k.0, k.1)

pub join_legal : (c : Chunk) (cs : List Chunk) → 16 ≤ c.len → c.len % 8 ≡ 0 → Legal cs → Legal (join c cs)
unfolding join
join_legal c [] a b l = (a, b, tt)
join_legal c (d ∷ cs) a b l = go (either c.used d.used)
  where
    go : (b : Bool) → Legal (pick b (c ∷ d ∷ cs) (free (c.len + d.len) ∷ cs))
    go true = (a, b, l)
    go false = (omega arith, omega arith, l.2)

pub release_calm : (cs : List Chunk) (i : ℕ) → Calm cs → Calm (release cs i)
unfolding release
release_calm [] i k = tt
release_calm (c ∷ cs) zero k = join_calm (free c.len) cs k.1
release_calm (c ∷ cs) (suc i) k = join_calm c (release cs i) (release_calm cs i k.1)

pub release_legal : (cs : List Chunk) (i : ℕ) → Legal cs → Legal (release cs i)
unfolding release
release_legal [] i l = tt
release_legal (c ∷ cs) zero l = join_legal (free c.len) cs l.0 l.1 l.2
release_legal (c ∷ cs) (suc i) l = join_legal c (release cs i) l.0 l.1 (release_legal cs i l.2)

taken_head : (cs : List Chunk) (i s : ℕ) → used_head cs ≡ true → used_head (taken cs i s) ≡ true
unfolding taken cut
taken_head [] i s e = refl
taken_head (c ∷ cs) zero s e = go (leb (s + 12) c.len)
  where
    go : (b : Bool) → used_head (pick b (busy s ∷ free (c.len - s) ∷ cs) (busy c.len ∷ cs)) ≡ true
    go true = refl
    go false = refl
taken_head (c ∷ cs) (suc i) s e = e

either_mono : (a b b' : Bool) → (b ≡ true → b' ≡ true) → either a b ≡ true → either a b' ≡ true
either_mono true b b' f e = refl
either_mono false b b' f e = f e

either_right : (a b : Bool) → a ≡ false → either a b ≡ true → b ≡ true
either_right true b e h = absurd (let z : ◌≡◌ {A = ℕ} 0 1 = cc in omega arith)
either_right false b e h = h

pub taken_calm : (cs : List Chunk) (i s : ℕ) → Calm cs → (get_or cs i (busy 0)).used ≡ false → Calm (taken cs i s)
unfolding taken cut
taken_calm [] i s k f = tt
taken_calm (c ∷ cs) zero s k f = go (leb (s + 12) c.len)
  where
    go : (b : Bool) → Calm (pick b (busy s ∷ free (c.len - s) ∷ cs) (busy c.len ∷ cs))
    go true = (refl, (either_right c.used (used_head cs) f k.0, k.1))
    go false = (refl, k.1)
taken_calm (c ∷ cs) (suc i) s k f =
    (either_mono c.used (used_head cs) (used_head (taken cs i s)) (taken_head cs i s) k.0, taken_calm cs i s k.1 f)

-- ---- around a place: cs is pre ++ .., and pre ends in a used chunk or is empty

abbrev pub used_last : List Chunk → Bool
used_last [] = true
used_last (c ∷ []) = c.used
used_last (c ∷ d ∷ cs) = used_last (d ∷ cs)

join_apart : (c d : Chunk) (cs : List Chunk) → either c.used d.used ≡ true → join c (d ∷ cs) ≡ c ∷ d ∷ cs
unfolding join
join_apart c d cs e = rw e refl

join_used : (c : Chunk) (cs : List Chunk) → c.used ≡ true → join c cs ≡ c ∷ cs
unfolding join
join_used c [] e = refl
join_used c (d ∷ cs) e = rw e refl

pub join_head : (n : ℕ) (cs : List Chunk) → used_head cs ≡ true → join (free n) cs ≡ free n ∷ cs
unfolding join
join_head n [] e = refl
join_head n (d ∷ cs) e = rw e refl

pub release_after : (pre cs : List Chunk) (i : ℕ) → Calm pre → used_last pre ≡ true → release (pre ++ cs) (length pre + i) ≡ pre ++ release cs i
unfolding release
release_after [] cs i k u = rw zero-add refl
release_after (c ∷ []) cs i k u = rw (suc-add, zero-add) (join_used c (release cs i) u)
release_after (c ∷ d ∷ pre) cs i k u =
    rw suc-add (ap (join c) (release_after (d ∷ pre) cs i k.1 u) ∙ join_apart c d (pre ++ release cs i) k.0)

-- THE FOUR MERGE CASES
module _ (pre post : List Chunk) (n : ℕ) (k : Calm pre) (u : used_last pre ≡ true) where
  pub merge_neither : used_head post ≡ true → release (pre ++ busy n ∷ post) (length pre + 0) ≡ pre ++ free n ∷ post
  unfolding release
  merge_neither h = release_after pre (busy n ∷ post) 0 k u ∙ ap (λ (t : List Chunk). pre ++ t) (join_head n post h)

  pub merge_right : (g : ℕ) → release (pre ++ busy n ∷ free g ∷ post) (length pre + 0) ≡ pre ++ free (n + g) ∷ post
  unfolding release join
  merge_right g = release_after pre (busy n ∷ free g ∷ post) 0 k u

  pub merge_left : (f : ℕ) → used_head post ≡ true → release (pre ++ free f ∷ busy n ∷ post) (length pre + 1) ≡ pre ++ free (f + n) ∷ post
  unfolding release join
  merge_left f h =
      release_after pre (free f ∷ busy n ∷ post) 1 k u ∙ ap (λ (t : List Chunk). pre ++ join (free f) t) (join_head n post h)

  pub merge_both : (f g : ℕ) → release (pre ++ free f ∷ busy n ∷ free g ∷ post) (length pre + 1) ≡ pre ++ free (f + (n + g)) ∷ post
  unfolding release join
  merge_both f g = release_after pre (free f ∷ busy n ∷ free g ∷ post) 1 k u

-- ---- places

pub total_append : (pre cs : List Chunk) → total (pre ++ cs) ≡ total pre + total cs
total_append [] cs = sym (zero-add (total cs))
total_append (c ∷ pre) cs = ap (λ (n : ℕ). c.len + n) (total_append pre cs) ∙ sym (add_assoc c.len (total pre) (total cs))
