-- The free chunks of a layout, and orders that hold exactly them, by class. Assumes nothing.
use mathlib.Core.Path.{◌≡◌, refl, sym, ap, ◌∙◌, subst}
use mathlib.Core.Logic.{◌≢◌, ◌⊎◌, inl, inr}
use mathlib.Core.Bool.{Bool, true, false}
use mathlib.Core.List.Memᴰ
use mathlib.Core.List.{List, [], ◌∷◌, ◌++◌}
use Prim.Native.Nat.{ℕ, ◌+◌, ◌/◌, ◌≤◌, ◌<◌}
use native.Mathlib.Nat.{add-zero, add_assoc}
use native.Mathlib.Omega.{arith}
use Rattle.words.specs.Choice.{pick}
use Rattle.rules.specs.Rules.Lists.{Mem, Distinct, put}
use Rattle.rules.proofs.Lists.Lists.{put_same, put_cases, mem_middle, gone}
use Rattle.rules.specs.Rules.Chunks.{Chunk, total, Legal}
use Rattle.rules.specs.Sound.Exact.{Exact, Slot, frees, slot}

pub frees_append : (b : ℕ) (pre cs : List Chunk) → frees b (pre ++ cs) ≡ frees b pre ++ frees (b + total pre) cs
unfolding frees
frees_append b [] cs = rw add-zero refl
frees_append b (c ∷ pre) cs =
    rw (frees_append (b + c.len) pre cs, add_assoc b c.len (total pre)) (go c.used)
  where
    go : (t : Bool) → pick t (frees (b + c.len) pre ++ frees (b + (c.len + total pre)) cs)
        (slot (b / 4 + 6) c.len ∷ (frees (b + c.len) pre ++ frees (b + (c.len + total pre)) cs))
        ≡ pick t (frees (b + c.len) pre) (slot (b / 4 + 6) c.len ∷ frees (b + c.len) pre) ++ frees (b + (c.len + total pre)) cs
    go true = refl
    go false = refl

-- each name is past where its part of the heap begins, and before its end
pub frees_from : (b : ℕ) (cs : List Chunk) → Legal cs → (t : Slot) → Mem t (frees b cs) → (b / 4 + 6 ≤ t.name) × (t.name + 4 ≤ (b + total cs) / 4 + 6)
unfolding frees
frees_from b [] l t m = absurd (Memᴰ.not-nil m)
frees_from b (c ∷ cs) l t m = go (λ m'. frees_from (b + c.len) cs l.2 t m') c.used m
  where
    Bounds : Type 0
    Bounds = (b / 4 + 6 ≤ t.name) × (t.name + 4 ≤ (b + (c.len + total cs)) / 4 + 6)

    go : (Mem t (frees (b + c.len) cs) → ((b + c.len) / 4 + 6 ≤ t.name) × (t.name + 4 ≤ (b + c.len + total cs) / 4 + 6))
        → (u : Bool) → Mem t (pick u (frees (b + c.len) cs) (slot (b / 4 + 6) c.len ∷ frees (b + c.len) cs)) → Bounds
    go f true m' = let r = f m' in omega arith
    go f false (Memᴰ.head e) = let q : t.name ≡ b / 4 + 6 = ap (λ (z : Slot). z.name) e in let a = l.0 in omega arith
    go f false (Memᴰ.tail m') = let r = f m' in omega arith

abbrev pub Alone : ℕ → List Slot → Type 0
Alone x F = (t : Slot) → Mem t F → t.name ≢ x

pub in_middle : (t : Slot) (F : List Slot) (u : Slot) (G : List Slot) → Mem t (F ++ u ∷ G) → (t ≡ u) ⊎ Mem t (F ++ G)
in_middle t [] u G m = Memᴰ.cases_cons m
in_middle t (v ∷ F) u G (Memᴰ.head e) = inr (Memᴰ.head e)
in_middle t (v ∷ F) u G (Memᴰ.tail m) = go (in_middle t F u G m)
  where
    go : (t ≡ u) ⊎ Mem t (F ++ G) → (t ≡ u) ⊎ Mem t (v ∷ (F ++ G))
    go (inl e) = inl e
    go (inr n) = inr (Memᴰ.tail n)

pub in_wide : (t : Slot) (F : List Slot) (u : Slot) (G : List Slot) → Mem t (F ++ G) → Mem t (F ++ u ∷ G)
in_wide t [] u G m = Memᴰ.tail m
in_wide t (v ∷ F) u G (Memᴰ.head e) = Memᴰ.head e
in_wide t (v ∷ F) u G (Memᴰ.tail m) = Memᴰ.tail (in_wide t F u G m)

mem_middle_cases : (y : ℕ) (ys : List ℕ) (x : ℕ) (zs : List ℕ) → Mem y (ys ++ x ∷ zs) → (y ≡ x) ⊎ Mem y (ys ++ zs)
mem_middle_cases y [] x zs m = Memᴰ.cases_cons m
mem_middle_cases y (v ∷ ys) x zs (Memᴰ.head e) = inr (Memᴰ.head e)
mem_middle_cases y (v ∷ ys) x zs (Memᴰ.tail m) = go (mem_middle_cases y ys x zs m)
  where
    go : (y ≡ x) ⊎ Mem y (ys ++ zs) → (y ≡ x) ⊎ Mem y (v ∷ (ys ++ zs))
    go (inl e) = inl e
    go (inr n) = inr (Memᴰ.tail n)

module _ (cls : ℕ → ℕ) (O : ℕ → List ℕ) (F G : List Slot) (x n : ℕ) (alone : Alone x (F ++ G)) where
  -- a chunk leaves the layout's free ones, and its list
  pub exact_remove : (ys zs : List ℕ) → O (cls n) ≡ ys ++ x ∷ zs → Distinct (ys ++ x ∷ zs) → Exact cls O (F ++ slot x n ∷ G)
      → Exact cls (put O (cls n) (ys ++ zs)) (F ++ G)
  exact_remove ys zs is d e = record {
    listed = λ y m i. put_cases O (cls n) (ys ++ zs) (λ j xs. Mem y (O j) → Mem y xs)
        (λ a. keep y m i (mem_middle_cases y ys x zs (subst (λ (t : List ℕ). Mem y t) is a))) (λ j h a. a) (cls m)
        (e.listed y m (in_wide (slot y m) F (slot x n) G i));
    only = λ k y hk. put_cases O (cls n) (ys ++ zs) (λ j xs. j < 6 → Mem y xs → (m : ℕ) × Mem (slot y m) (F ++ G) × (cls m ≡ j))
        (λ hj a. let r = e.only (cls n) y hj (subst (λ (t : List ℕ). Mem y t) (sym is) (mem_middle y ys x zs a)) in
        own y a r.0 r.2 (in_middle (slot y r.0) F (slot x n) G r.1))
        (λ j h hj a. let r = e.only j y hj a in others y j h r.0 r.2 (in_middle (slot y r.0) F (slot x n) G r.1))
        k hk;
  }
    where
      keep : (y m : ℕ) → Mem (slot y m) (F ++ G) → (y ≡ x) ⊎ Mem y (ys ++ zs) → Mem y (ys ++ zs)
      keep y m i (inl q) = absurd (alone (slot y m) i q)
      keep y m i (inr a) = a

      own : (y : ℕ) → Mem y (ys ++ zs) → (m : ℕ) → cls m ≡ cls n → (slot y m ≡ slot x n) ⊎ Mem (slot y m) (F ++ G)
          → (m : ℕ) × Mem (slot y m) (F ++ G) × (cls m ≡ cls n)
      own y a m q (inl s) = absurd (gone ys x zs d (subst (λ (z : ℕ). Mem z (ys ++ zs)) (ap (λ (t : Slot). t.name) s) a))
      own y a m q (inr i) = (m, i, q)

      others : (y j : ℕ) → j ≢ cls n → (m : ℕ) → cls m ≡ j → (slot y m ≡ slot x n) ⊎ Mem (slot y m) (F ++ G) → (m : ℕ) × Mem (slot y m) (F ++ G) × (cls m ≡ j)
      others y j h m q (inl s) = absurd (h (sym q ∙ ap (λ (t : Slot). cls t.len) s))
      others y j h m q (inr i) = (m, i, q)

  -- a chunk becomes free, and goes to the head of its list
  pub exact_add : Exact cls O (F ++ G) → Exact cls (put O (cls n) (x ∷ O (cls n))) (F ++ slot x n ∷ G)
  exact_add e = record {
    listed = λ y m i. new y m (in_middle (slot y m) F (slot x n) G i);
    only = λ k y hk. put_cases O (cls n) (x ∷ O (cls n)) (λ j xs. j < 6 → Mem y xs → (m : ℕ) × Mem (slot y m) (F ++ slot x n ∷ G) × (cls m ≡ j))
        (λ hj a. own y hj a) (λ j h hj a. old y j (e.only j y hj a)) k hk;
  }
    where
      old : (y j : ℕ) → (m : ℕ) × Mem (slot y m) (F ++ G) × (cls m ≡ j) → (m : ℕ) × Mem (slot y m) (F ++ slot x n ∷ G) × (cls m ≡ j)
      old y j r = (r.0, in_wide (slot y r.0) F (slot x n) G r.1, r.2)

      own : (y : ℕ) → cls n < 6 → Mem y (x ∷ O (cls n)) → (m : ℕ) × Mem (slot y m) (F ++ slot x n ∷ G) × (cls m ≡ cls n)
      own y hj (Memᴰ.head q) = (n, Memᴰ.append_right F (Memᴰ.head (ap (λ (z : ℕ). slot z n) q)), refl)
      own y hj (Memᴰ.tail a) = old y (cls n) (e.only (cls n) y hj a)

      new : (y m : ℕ) → (slot y m ≡ slot x n) ⊎ Mem (slot y m) (F ++ G) → Mem y (put O (cls n) (x ∷ O (cls n)) (cls m))
      new y m (inl s) =
          subst (λ (t : Slot). Mem t.name (put O (cls n) (x ∷ O (cls n)) (cls t.len))) (sym s)
          (rw (put_same O (cls n) (x ∷ O (cls n))) (Memᴰ.head refl))
      new y m (inr i) = put_cases O (cls n) (x ∷ O (cls n)) (λ j xs. Mem y (O j) → Mem y xs) (λ a. Memᴰ.tail a) (λ j h a. a) (cls m) (e.listed y m i)
