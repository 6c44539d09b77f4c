-- SIZES AND SUMS of a call: rounded sizes, the part of a chunk that is taken, free bytes on the left, and that what is used ends below high water.
-- Assumes nothing.
use mathlib.Core.Path.{◌≡◌, refl, ap}
use mathlib.Core.Logic.{◌⊎◌, inl, inr}
use mathlib.Core.Bool.{Bool, true, false}
use mathlib.Core.List.{List, [], ◌∷◌}
use Prim.Native.Nat.{ℕ, ◌+◌, ◌%◌, ◌≤◌}
use native.Mathlib.Omega.{arith}
use lib.Dec.{leb}
use borrow.Author.Tests.{leb-true}
use Rattle.words.specs.Choice.{pick}
use Rattle.rules.specs.Rules.Steps.{portion}
use Rattle.rules.specs.Rules.Chunks.{Chunk, total, Legal, used_sum}
use Rattle.rules.specs.Machine.Orders.{free_last}
use Rattle.words.specs.Sizes.{rounded_of}
use Rattle.rules.specs.Sound.Sound.{Under}

-- what is used ends at or before h: in use ≤ high water
under_sum : (h b : ℕ) (cs : List Chunk) → Under h b cs → (used_sum cs ≡ 0) ⊎ (b + used_sum cs ≤ h)
under_sum h b [] u = inl refl
under_sum h b (c ∷ cs) u = go c.used refl (under_sum h (b + c.len) cs u.1)
  where
    go : (t : Bool) → c.used ≡ t → (used_sum cs ≡ 0) ⊎ (b + c.len + used_sum cs ≤ h)
        → (pick c.used c.len 0 + used_sum cs ≡ 0) ⊎ (b + (pick c.used c.len 0 + used_sum cs) ≤ h)
    go true e (inl q) = let a = u.0 in let f : pick c.used (b + c.len) 0 ≡ b + c.len = ap (λ (t : Bool). pick t (b + c.len) 0) e in
        let g : pick c.used c.len 0 ≡ c.len = ap (λ (t : Bool). pick t c.len 0) e in inr (omega arith)
    go true e (inr q) = let g : pick c.used c.len 0 ≡ c.len = ap (λ (t : Bool). pick t c.len 0) e in inr (omega arith)
    go false e (inl q) = let g : pick c.used c.len 0 ≡ 0 = ap (λ (t : Bool). pick t c.len 0) e in inl (omega arith)
    go false e (inr q) = let g : pick c.used c.len 0 ≡ 0 = ap (λ (t : Bool). pick t c.len 0) e in inr (omega arith)

pub sum_under : (h : ℕ) (cs : List Chunk) → Under h 0 cs → used_sum cs ≤ h
sum_under h cs u = go (under_sum h 0 cs u)
  where
    go : (used_sum cs ≡ 0) ⊎ (0 + used_sum cs ≤ h) → used_sum cs ≤ h
    go (inl e) = omega arith
    go (inr e) = omega arith

pub r16 : (q : ℕ) → 16 ≤ rounded_of q
r16 q = omega arith

pub r8 : (q : ℕ) → rounded_of q % 8 ≡ 0
r8 q = omega arith

pub portion_8 : (n z : ℕ) → n % 8 ≡ 0 → z % 8 ≡ 0 → (portion n z % 8 ≡ 0)
portion_8 n z a b = go (leb (z + 12) n)
  where
    go : (t : Bool) → pick t z n % 8 ≡ 0
    go true = b
    go false = a

pub portion_le : (n z : ℕ) → portion n z ≤ n
portion_le n z = go (leb (z + 12) n) refl
  where
    go : (t : Bool) → leb (z + 12) n ≡ t → pick t z n ≤ n
    go true e = let h = leb-true (z + 12) n e in omega arith
    go false e = omega arith

pub portion_least : (k n z : ℕ) → k ≤ n → k ≤ z → k ≤ portion n z
portion_least k n z a b = go (leb (z + 12) n)
  where
    go : (t : Bool) → k ≤ pick t z n
    go true = b
    go false = a

pub free_last-8 : (f : ℕ) (cs : List Chunk) → f % 8 ≡ 0 → Legal cs → free_last f cs % 8 ≡ 0
free_last-8 f [] h l = h
free_last-8 f (c ∷ cs) h l = free_last-8 (pick c.used 0 c.len) cs (go c.used) l.2
  where
    go : (u : Bool) → pick u 0 c.len % 8 ≡ 0
    go true = refl
    go false = l.1

pub free_last-le : (f : ℕ) (cs : List Chunk) → free_last f cs ≤ f + total cs
free_last-le f [] = omega arith
free_last-le f (c ∷ cs) = go c.used (free_last-le (pick c.used 0 c.len) cs)
  where
    go : (u : Bool) → free_last (pick c.used 0 c.len) cs ≤ pick u 0 c.len + total cs → free_last (pick c.used 0 c.len) cs ≤ f + (c.len + total cs)
    go true r = omega arith
    go false r = omega arith
