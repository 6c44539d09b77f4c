-- The order of a class list is what following `next` from the sentinel gives, and nothing else. Assumes nothing.
use mathlib.Core.Path.{◌≡◌, refl, sym, ap, ◌∙◌, subst}
use mathlib.Core.List.Memᴰ
use mathlib.Core.List.{List, [], ◌∷◌}
use Prim.Native.Nat.{ℕ, zero, suc, ◌<◌}
use native.Mathlib.Nat.{not-suc-le-zero, le_of_suc-le-suc}
use lib.ListN.{length}
use borrow.Author.Tests.{eq-eqb, ne_eqb}
use Rattle.rules.specs.Rules.Lists.{Mem, Distinct, Seg, walk}

module _ (nx pv : ℕ → ℕ) where
  from : (k : ℕ) (xs : List ℕ) (a fuel : ℕ) → (Mem k xs → ⊥) → length xs < fuel → Seg nx pv a xs k → walk nx k fuel (nx a) ≡ xs
  unfolding walk
  from k xs a zero off h g = absurd (not-suc-le-zero h)
  from k [] a (suc fuel) off h g = rw (eq-eqb (nx a) k g.0) refl
  from k (x ∷ xs) a (suc fuel) off h g =
      rw g.0 (rw (ne_eqb x k (λ q. off (Memᴰ.head (sym q))))
      (ap (λ (t : List ℕ). x ∷ t) (from k xs x fuel (λ m. off (Memᴰ.tail m)) (le_of_suc-le-suc h) g.2)))

  pub walk_ring : (k : ℕ) (xs : List ℕ) (fuel : ℕ) → Distinct (k ∷ xs) → length xs < fuel → Seg nx pv k xs k → walk nx k fuel (nx k) ≡ xs
  walk_ring k xs fuel d h g = from k xs k fuel d.0 h g

  -- two orders of one list are one
  pub ring_unique : (k : ℕ) (xs ys : List ℕ) → (Mem k xs → ⊥) → (Mem k ys → ⊥) → (a : ℕ) → Seg nx pv a xs k → Seg nx pv a ys k → xs ≡ ys
  ring_unique k [] [] ox oy a g h = refl
  ring_unique k [] (y ∷ ys) ox oy a g h = absurd (oy (Memᴰ.head (sym g.0 ∙ h.0)))
  ring_unique k (x ∷ xs) [] ox oy a g h = absurd (ox (Memᴰ.head (sym h.0 ∙ g.0)))
  ring_unique k (x ∷ xs) (y ∷ ys) ox oy a g h =
      let q : x ≡ y = sym g.0 ∙ h.0 in
      let r = ring_unique k xs ys (λ m. ox (Memᴰ.tail m)) (λ m. oy (Memᴰ.tail m)) x g.2 (subst (λ (z : ℕ). Seg nx pv z ys k) (sym q) h.2) in
      λ i. q i ∷ r i
