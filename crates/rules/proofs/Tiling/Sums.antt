-- SUMS: a handout adds to the used bytes what it takes, and a release takes its chunk's length off. Assumes nothing.
use mathlib.Core.Path.{◌≡◌, refl, ap}
use mathlib.Core.Bool.{Bool, true, false}
use mathlib.Core.List.{List, [], ◌∷◌}
use Prim.Native.Nat.{ℕ, zero, suc, ◌+◌, ◌-◌, ◌<◌}
use native.Mathlib.Omega.{arith}
use native.Mathlib.Nat.{not-suc-le-zero, le_of_suc-le-suc}
use lib.Dec.{leb}
use lib.ListN.{length, get_or}
use Rattle.words.specs.Choice.{pick}
use Rattle.rules.specs.Rules.Chunks.{Chunk, free, busy, join, release, taken, cut, used_sum}
use Rattle.rules.specs.Sound.Test.{either}

join_used_sum : (c : Chunk) (cs : List Chunk) → used_sum (join c cs) ≡ pick c.used c.len 0 + used_sum cs
unfolding join
join_used_sum c [] = refl
join_used_sum c (d ∷ cs) = go c.used d.used refl refl
  where
    go : (u v : Bool) → c.used ≡ u → d.used ≡ v
        → used_sum (pick (either u v) (c ∷ d ∷ cs) (free (c.len + d.len) ∷ cs)) ≡ pick c.used c.len 0 + (pick d.used d.len 0 + used_sum cs)
    go true v p q = refl
    go false true p q = refl
    go false false p q = rw (p, q) (omega arith)

-- a release takes its chunk's length off
pub release_sum : (cs : List Chunk) (i : ℕ) → i < length cs → (get_or cs i (busy 0)).used ≡ true
    → used_sum (release cs i) + (get_or cs i (busy 0)).len ≡ used_sum cs
unfolding release
release_sum [] i h u = absurd (not-suc-le-zero h)
release_sum (c ∷ cs) zero h u =
    let r = join_used_sum (free c.len) cs in
    let q : pick c.used c.len 0 ≡ c.len = ap (λ (b : Bool). pick b c.len 0) u in
    omega arith
release_sum (c ∷ cs) (suc i) h u =
    let r = join_used_sum c (release cs i) in
    let q = release_sum cs i (le_of_suc-le-suc h) u in
    omega arith

-- a handout adds what it takes
pub taken_sum : (cs : List Chunk) (i z : ℕ) → i < length cs → (get_or cs i (busy 0)).used ≡ false
    → used_sum (taken cs i z) ≡ used_sum cs + pick (leb (z + 12) (get_or cs i (busy 0)).len) z (get_or cs i (busy 0)).len
unfolding taken cut
taken_sum [] i z h u = absurd (not-suc-le-zero h)
taken_sum (c ∷ cs) zero z h u = go (leb (z + 12) c.len) (ap (λ (b : Bool). pick b c.len 0) u)
  where
    go : (t : Bool) → pick c.used c.len 0 ≡ 0
        → used_sum (pick t (busy z ∷ free (c.len - z) ∷ cs) (busy c.len ∷ cs)) ≡ pick c.used c.len 0 + used_sum cs + pick t z c.len
    go true q = omega arith
    go false q = omega arith
taken_sum (c ∷ cs) (suc i) z h u = let q = taken_sum cs i z (le_of_suc-le-suc h) u in omega arith
