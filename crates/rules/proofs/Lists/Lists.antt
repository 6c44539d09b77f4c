-- Lists of node names: membership, each once, one member taken out, and one entry of a family of lists replaced.
-- Assumes nothing.
use mathlib.Core.Path.{◌≡◌, refl, sym, ap, subst}
use mathlib.Core.Logic.{◌≢◌}
use mathlib.Core.List.Memᴰ
use mathlib.Core.List.{List, [], ◌∷◌, ◌++◌}
use Prim.Native.Nat.{ℕ}
use native.Mathlib.Decide.{ℕ_discrete}
use borrow.Author.Tests.{eq-eqb, ne_eqb}
use Rattle.rules.specs.Rules.Lists.{Distinct, Mem, put, remove}

pub put_same : (O : ℕ → List ℕ) (k : ℕ) (xs : List ℕ) → put O k xs k ≡ xs
unfolding put
put_same O k xs = rw (eq-eqb k k refl) refl

pub put_other : (O : ℕ → List ℕ) (k : ℕ) (xs : List ℕ) (j : ℕ) → j ≢ k → put O k xs j ≡ O j
unfolding put
put_other O k xs j h = rw (ne_eqb j k h) refl

-- membership in parts
pub mem_middle : (x : ℕ) (ys : List ℕ) (c : ℕ) (zs : List ℕ) → Mem x (ys ++ zs) → Mem x (ys ++ c ∷ zs)
mem_middle x [] c zs m = Memᴰ.tail m
mem_middle x (y ∷ ys) c zs (Memᴰ.head e) = Memᴰ.head e
mem_middle x (y ∷ ys) c zs (Memᴰ.tail m) = Memᴰ.tail (mem_middle x ys c zs m)

pub mem_at : (ys : List ℕ) (c : ℕ) (zs : List ℕ) → Mem c (ys ++ c ∷ zs)
mem_at ys c zs = Memᴰ.append_right ys (Memᴰ.head refl)

pub mem_after : {x : ℕ} (ys : List ℕ) (c : ℕ) {zs : List ℕ} → Mem x zs → Mem x (ys ++ c ∷ zs)
mem_after ys c m = Memᴰ.append_right ys (Memᴰ.tail m)

-- what stands before a place stands at no later one
pub before_after : (xs ys : List ℕ) (x : ℕ) → Distinct (xs ++ ys) → Mem x xs → Mem x ys → ⊥
before_after [] ys x d h m = elim h [ ]
before_after (y ∷ xs) ys x d (Memᴰ.head e) m = d.0 (Memᴰ.append_right xs (subst (λ (z : ℕ). Mem z ys) e m))
before_after (y ∷ xs) ys x d (Memᴰ.tail n) m = before_after xs ys x d.1 n m

pub distinct_left : (xs ys : List ℕ) → Distinct (xs ++ ys) → Distinct xs
distinct_left [] ys d = tt
distinct_left (x ∷ xs) ys d = (λ m. d.0 (Memᴰ.append_left ys m), distinct_left xs ys d.1)

pub distinct_right : (xs ys : List ℕ) → Distinct (xs ++ ys) → Distinct ys
distinct_right [] ys d = d
distinct_right (x ∷ xs) ys d = distinct_right xs ys d.1

pub distinct_middle : (ys : List ℕ) (c : ℕ) (zs : List ℕ) → Distinct (ys ++ c ∷ zs) → Distinct (ys ++ zs)
distinct_middle [] c zs d = d.1
distinct_middle (y ∷ ys) c zs d = (λ m. d.0 (mem_middle y ys c zs m), distinct_middle ys c zs d.1)

-- the member taken out is no longer there
pub gone : (ys : List ℕ) (c : ℕ) (zs : List ℕ) → Distinct (ys ++ c ∷ zs) → Mem c (ys ++ zs) → ⊥
gone [] c zs d m = d.0 m
gone (y ∷ ys) c zs d (Memᴰ.head e) = d.0 (subst (λ (z : ℕ). Mem z (ys ++ c ∷ zs)) e (mem_at ys c zs))
gone (y ∷ ys) c zs d (Memᴰ.tail m) = gone ys c zs d.1 m

pub remove_middle : (ys : List ℕ) (c : ℕ) (zs : List ℕ) → (Mem c ys → ⊥) → remove c (ys ++ c ∷ zs) ≡ ys ++ zs
unfolding remove
remove_middle [] c zs h = rw (eq-eqb c c refl) refl
remove_middle (y ∷ ys) c zs h =
    rw (ne_eqb y c (λ e. h (Memᴰ.head (sym e)))) (ap (λ (r : List ℕ). y ∷ r) (remove_middle ys c zs (λ m. h (Memᴰ.tail m))))

-- a member, and the list around it
pub record Around (c : ℕ) (xs : List ℕ) : Type 0 where
  pub front : List ℕ
  pub back : List ℕ
  pub is : xs ≡ front ++ c ∷ back

pub around : (c : ℕ) (xs : List ℕ) → Mem c xs → Around c xs
around c [] h = elim h [ ]
around c (x ∷ xs) (Memᴰ.head e) = record { front = []; back = xs; is = ap (λ (z : ℕ). z ∷ xs) (sym e) }
around c (x ∷ xs) (Memᴰ.tail m) =
    let r = around c xs m in record { front = x ∷ r.front; back = r.back; is = ap (λ (t : List ℕ). x ∷ t) r.is }

-- a fact of every list of the family, by cases: the list put there, and the others
pub put_cases : (O : ℕ → List ℕ) (k : ℕ) (xs : List ℕ) (P : ℕ → List ℕ → Type 0) → P k xs → ((j : ℕ) → j ≢ k → P j (O j)) → (j : ℕ) → P j (put O k xs j)
put_cases O k xs P a b j = go (ℕ_discrete j k)
  where
    go : Dec (j ≡ k) → P j (put O k xs j)
    go (yes e) = subst (λ (z : ℕ). P z (put O k xs z)) (sym e) (rw (put_same O k xs) a)
    go (no h) = rw (put_other O k xs j h) (b j h)
