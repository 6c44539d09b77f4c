-- THE CACHE, as a list: the oldest chunk that serves, what is listed, and one more at its end. Assumes nothing.
use mathlib.Core.Path.{◌≡◌, refl, sym, ap, ◌∙◌, subst}
use mathlib.Core.Logic.{◌⊎◌, inl, inr}
use mathlib.Core.Bool.{Bool, true, false}
use mathlib.Core.List.Memᴰ
use mathlib.Core.List.{List, [], ◌∷◌, ◌++◌}
use Prim.Native.Nat.{ℕ, ◌+◌, ◌<◌}
use native.Mathlib.Omega.{arith}
use lib.Dec.{eqb}
use lib.ListN.{length}
use borrow.Author.Tests.{eqb-true, eqb-false}
use Rattle.words.specs.Choice.{pick}
use Rattle.rules.specs.Rules.Lists.{Mem, Distinct}
use Rattle.rules.specs.Rules.Calls.{Chosen, none, one, behind, serves, choose, listed}
use Rattle.rules.proofs.Tiling.LiveSums.{sum_by}

-- what was chosen serves, is one of ks, and the others are the rest of ks, all different from it, and all sums say so, and none before it serves; where none
-- is chosen none serves
abbrev pub Picked : (ℕ → ℕ) → ℕ → List ℕ → Chosen → Type 0
Picked size z ks none = (y : ℕ) → Mem y ks → serves (size y) z ≡ false
Picked size z ks (one x xs) =
    (serves (size x) z ≡ true) × Mem x ks × ((y : ℕ) → Mem y xs → Mem y ks) × (Distinct ks → Distinct (x ∷ xs)) × (length xs < length ks)
    × ((f : ℕ → ℕ) → sum_by f ks ≡ f x + sum_by f xs)
    × ((os : List ℕ) × (ys : List ℕ) × (ks ≡ os ++ x ∷ ys) × ((y : ℕ) → Mem y os → serves (size y) z ≡ false))

pub choose_picked : (size : ℕ → ℕ) (z : ℕ) (ks : List ℕ) → Picked size z ks (choose size z ks)
unfolding choose
choose_picked size z [] = λ y m. absurd (Memᴰ.not-nil m)
choose_picked size z (k ∷ ks) = go (serves (size k) z) refl (choose size z ks) (choose_picked size z ks)
  where
    wide : (x : ℕ) (xs : List ℕ) → ((y : ℕ) → Mem y xs → Mem y ks) → (y : ℕ) → Mem y (k ∷ xs) → Mem y (k ∷ ks)
    wide x xs f y (Memᴰ.head e) = Memᴰ.head e
    wide x xs f y (Memᴰ.tail m) = Memᴰ.tail (f y m)

    apart : (x : ℕ) (xs : List ℕ) → Mem x ks → (Mem k ks → ⊥) → (Mem x xs → ⊥) → Mem x (k ∷ xs) → ⊥
    apart x xs i f g (Memᴰ.head e) = f (subst (λ (y : ℕ). Mem y ks) e i)
    apart x xs i f g (Memᴰ.tail m) = g m

    all : serves (size k) z ≡ false → (os : List ℕ) → ((y : ℕ) → Mem y os → serves (size y) z ≡ false) → (y : ℕ) → Mem y (k ∷ os) → serves (size y) z ≡ false
    all e os f y (Memᴰ.head q) = ap (λ (x : ℕ). serves (size x) z) q ∙ e
    all e os f y (Memᴰ.tail m) = f y m

    go : (t : Bool) → serves (size k) z ≡ t → (r : Chosen) → Picked size z ks r → Picked size z (k ∷ ks) (pick t (one k ks) (behind k r))
    go true e r p = (e, Memᴰ.head refl, λ y m. Memᴰ.tail m, λ d. d, omega arith, λ f. refl, ([], ks, refl, λ y m. absurd (Memᴰ.not-nil m)))
    go false e none p = all e ks p
    go false e (one x xs) p = let q = p.4 in let o = p.6 in (
      p.0,
      Memᴰ.tail p.1,
      wide x xs p.2,
      λ d. (apart x xs p.1 d.0 (p.3 d.1).0, (λ m. d.0 (p.2 k m), (p.3 d.1).1)),
      omega arith,
      λ f. let q = p.5 f in omega arith,
      (k ∷ o.0, o.1, ap (λ (t : List ℕ). k ∷ t) o.2, all e o.0 o.3),
    )

pub choose_same : (f g : ℕ → ℕ) (z : ℕ) (ks : List ℕ) → ((x : ℕ) → Mem x ks → f x ≡ g x) → choose f z ks ≡ choose g z ks
unfolding choose
choose_same f g z [] h = refl
choose_same f g z (k ∷ ks) h =
    rw (h k (Memᴰ.head refl)) (ap (λ (r : Chosen). pick (serves (g k) z) (one k ks) (behind k r)) (choose_same f g z ks (λ x m. h x (Memᴰ.tail m))))

pub listed_false : (x : ℕ) (ks : List ℕ) → listed x ks ≡ false → Mem x ks → ⊥
unfolding listed
listed_false x [] e m = Memᴰ.not-nil m
listed_false x (k ∷ ks) e m = go (λ f i. listed_false x ks f i) (eqb x k) refl e m
  where
    go : (listed x ks ≡ false → Mem x ks → ⊥) → (t : Bool) → eqb x k ≡ t → pick t true (listed x ks) ≡ false → Mem x (k ∷ ks) → ⊥
    go r true q f i = let z : ◌≡◌ {A = ℕ} 0 1 = cc in omega arith
    go r false q f (Memᴰ.head i) = eqb-false x k q i
    go r false q f (Memᴰ.tail i) = r f i

pub listed_true : (x : ℕ) (ks : List ℕ) → listed x ks ≡ true → Mem x ks
unfolding listed
listed_true x [] e = absurd (let z : ◌≡◌ {A = ℕ} 0 1 = cc in omega arith)
listed_true x (k ∷ ks) e = go (λ f. listed_true x ks f) (eqb x k) refl e
  where
    go : (listed x ks ≡ true → Mem x ks) → (t : Bool) → eqb x k ≡ t → pick t true (listed x ks) ≡ true → Mem x (k ∷ ks)
    go r true q f = Memᴰ.head (eqb-true x k q)
    go r false q f = Memᴰ.tail (r f)

pub distinct_snoc : (ks : List ℕ) (x : ℕ) → Distinct ks → (Mem x ks → ⊥) → Distinct (ks ++ x ∷ [])
distinct_snoc [] x d h = (λ m. Memᴰ.not-nil m, tt)
distinct_snoc (k ∷ ks) x d h = (λ m. go (Memᴰ.append_cases ks m), distinct_snoc ks x d.1 (λ m. h (Memᴰ.tail m)))
  where
    go : Mem k ks ⊎ Mem k (x ∷ []) → ⊥
    go (inl m) = d.0 m
    go (inr m) = h (Memᴰ.head (sym (Memᴰ.eq_of_singleton m)))
