-- FIRST FIT: along the links as along the orders, what is found, and how many were compared.
--     find_counts    what is found stands at place `compared - 1`, all before it are shorter; where none is found all were compared
--     search_walk    following the links through the lists is searching their orders, one after the other; the heap's length is fuel enough
--     no_more        distinct numbers that all stand in a list are no more than it has
-- Assumes nothing.
use mathlib.Core.Path.{◌≡◌, refl, sym, ap, ◌∙◌, subst}
use mathlib.Core.Logic.{◌⊎◌, inl, inr}
use mathlib.Core.Bool.{Bool, true, false}
use mathlib.Core.List.Memᴰ
use mathlib.Core.List.{List, [], ◌∷◌, ◌++◌}
use Prim.Native.Nat.{ℕ, zero, suc, ◌+◌, ◌-◌, ◌≤◌, ◌<◌}
use native.Mathlib.Nat.{le_of_suc-le-suc}
use native.Mathlib.Omega.{arith}
use native.Mathlib.Decide.{ℕ_discrete}
use lib.Dec.{leb}
use lib.ListN.{length, length-append}
use borrow.Author.Tests.{eq-eqb, ne_eqb, leb-true, leb-false}
use Rattle.words.specs.Choice.{pick}
use Rattle.rules.specs.Rules.Lists.{Mem, Distinct, Seg}
use Rattle.rules.proofs.Lists.Lists.{around}
use Rattle.rules.specs.Rules.Search.{Found, at, nowhere, lost, find, find_walk, in_turn, or_else, search_all}

-- ---- one list

pub find_walk_lem : (nx pv size : ℕ → ℕ) (z k : ℕ) (xs : List ℕ) (a fuel c : ℕ) → (Mem k xs → ⊥) → length xs ≤ fuel → Seg nx pv a xs k
    → find_walk nx size z k fuel (nx a) c ≡ find size z xs c
unfolding find find_walk
find_walk_lem nx pv size z k [] a zero c off h g = rw (eq-eqb (nx a) k g.0) refl
find_walk_lem nx pv size z k [] a (suc fuel) c off h g = rw (eq-eqb (nx a) k g.0) refl
find_walk_lem nx pv size z k (x ∷ xs) a zero c off h g = absurd (omega arith)
find_walk_lem nx pv size z k (x ∷ xs) a (suc fuel) c off h g =
    let rest = find_walk_lem nx pv size z k xs x fuel (suc c) (λ m. off (Memᴰ.tail m)) (le_of_suc-le-suc h) g.2 in
    rw g.0 (rw (ne_eqb x k (λ q. off (Memᴰ.head (sym q)))) (ap (λ (r : Found). pick (leb z (size x)) (at x (suc c)) r) rest))

pub find_same : (size size' : ℕ → ℕ) (z : ℕ) (xs : List ℕ) (c : ℕ) → ((x : ℕ) → Mem x xs → size x ≡ size' x) → find size z xs c ≡ find size' z xs c
unfolding find
find_same size size' z [] c h = refl
find_same size size' z (x ∷ xs) c h =
    let rest = find_same size size' z xs (suc c) (λ y m. h y (Memᴰ.tail m)) in
    rw (h x (Memᴰ.head refl)) (ap (λ (r : Found). pick (leb z (size' x)) (at x (suc c)) r) rest)

pub find-append : (size : ℕ → ℕ) (z : ℕ) (xs ys : List ℕ) (c : ℕ) → find size z (xs ++ ys) c ≡ or_else (find size z xs c) (λ d. find size z ys d)
unfolding find
find-append size z [] ys c = refl
find-append size z (x ∷ xs) ys c = go (leb z (size x)) (find-append size z xs ys (suc c))
  where
    go : (t : Bool) → find size z (xs ++ ys) (suc c) ≡ or_else (find size z xs (suc c)) (λ d. find size z ys d)
        → pick t (at x (suc c)) (find size z (xs ++ ys) (suc c)) ≡ or_else (pick t (at x (suc c)) (find size z xs (suc c))) (λ d. find size z ys d)
    go true e = refl
    go false e = e

find_none : (size : ℕ → ℕ) (z c : ℕ) → find size z [] c ≡ nowhere c
unfolding find
find_none size z c = refl

-- what is found is a member and has z; where nothing is found no member has z
abbrev pub Fits : (ℕ → ℕ) → ℕ → List ℕ → Found → Type 0
Fits size z xs (at x c) = Mem x xs × (z ≤ size x)
Fits size z xs (nowhere c) = (x : ℕ) → Mem x xs → size x < z
Fits size z xs lost = ⊥

pub find_fits : (size : ℕ → ℕ) (z : ℕ) (xs : List ℕ) (c : ℕ) → Fits size z xs (find size z xs c)
unfolding find
find_fits size z [] c = λ x m. absurd (Memᴰ.not-nil m)
find_fits size z (x ∷ xs) c = go (leb z (size x)) refl (find size z xs (suc c)) (find_fits size z xs (suc c))
  where
    none : size x < z → ((y : ℕ) → Mem y xs → size y < z) → (y : ℕ) → Mem y (x ∷ xs) → size y < z
    none h f y (Memᴰ.head e) = subst (λ (u : ℕ). size u < z) (sym e) h
    none h f y (Memᴰ.tail m) = f y m

    more : size x < z → (r : Found) → Fits size z xs r → Fits size z (x ∷ xs) r
    more h (at y n) f = (Memᴰ.tail f.0, f.1)
    more h (nowhere n) f = none h f
    more h lost f = f

    go : (b : Bool) → leb z (size x) ≡ b → (r : Found) → Fits size z xs r → Fits size z (x ∷ xs) (pick b (at x (suc c)) r)
    go true e r f = (Memᴰ.head refl, leb-true z (size x) e)
    go false e r f = more (leb-false z (size x) e) r f

-- how many were compared, c before this list
abbrev pub Counts : (ℕ → ℕ) → ℕ → List ℕ → ℕ → Found → Type 0
Counts size z xs c (nowhere d) = d ≡ c + length xs
Counts size z xs c (at x d) = (front : List ℕ) × (back : List ℕ) × (xs ≡ front ++ x ∷ back) × (d ≡ c + length front + 1) × ((y : ℕ) → Mem y front → size y < z)
Counts size z xs c lost = ⊥

pub find_counts : (size : ℕ → ℕ) (z : ℕ) (xs : List ℕ) (c : ℕ) → Counts size z xs c (find size z xs c)
unfolding find
find_counts size z [] c = omega arith
find_counts size z (x ∷ xs) c = go (leb z (size x)) refl (find size z xs (suc c)) (find_counts size z xs (suc c))
  where
    all : (front : List ℕ) → size x < z → ((y : ℕ) → Mem y front → size y < z) → (y : ℕ) → Mem y (x ∷ front) → size y < z
    all front h f y (Memᴰ.head e) = subst (λ (u : ℕ). size u < z) (sym e) h
    all front h f y (Memᴰ.tail m) = f y m

    go : (t : Bool) → leb z (size x) ≡ t → (r : Found) → Counts size z xs (suc c) r → Counts size z (x ∷ xs) c (pick t (at x (suc c)) r)
    go true e r f = ([], xs, refl, omega arith, λ y m. absurd (Memᴰ.not-nil m))
    go false e (nowhere d) f = omega arith
    go false e (at y d) f = let q = f.3 in
        (x ∷ f.0, f.1, ap (λ (t : List ℕ). x ∷ t) f.2, omega arith, all f.0 (leb-false z (size x) e) f.4)
    go false e lost f = f

-- ---- lists in turn

pub in_turn_lem : (O : ℕ → List ℕ) (n k x : ℕ) → Mem x (in_turn O n k) → (j : ℕ) × (k ≤ j) × (j < k + n) × Mem x (O j)
unfolding in_turn
in_turn_lem O zero k x m = absurd (Memᴰ.not-nil m)
in_turn_lem O (suc n) k x m = go (λ i. in_turn_lem O n (suc k) x i) (Memᴰ.append_cases (O k) m)
  where
    go : (Mem x (in_turn O n (suc k)) → (j : ℕ) × (suc k ≤ j) × (j < suc k + n) × Mem x (O j)) → Mem x (O k) ⊎ Mem x (in_turn O n (suc k))
        → (j : ℕ) × (k ≤ j) × (j < k + suc n) × Mem x (O j)
    go f (inl i) = (k, omega arith, omega arith, i)
    go f (inr i) = let r = f i in let a = r.1 in let b = r.2 in (r.0, omega arith, omega arith, r.3)

pub turn_in : (O : ℕ → List ℕ) (n k x j : ℕ) → k ≤ j → j < k + n → Mem x (O j) → Mem x (in_turn O n k)
unfolding in_turn
turn_in O zero k x j a b m = absurd (omega arith)
turn_in O (suc n) k x j a b m = go (λ p q. turn_in O n (suc k) x j p q m) (ℕ_discrete j k)
  where
    go : (suc k ≤ j → j < suc k + n → Mem x (in_turn O n (suc k))) → Dec (j ≡ k) → Mem x (O k ++ in_turn O n (suc k))
    go f (yes e) = Memᴰ.append_left _ (subst (λ (i : ℕ). Mem x (O i)) e m)
    go f (no q) = Memᴰ.append_right (O k) (f (omega arith) (omega arith))

distinct_append : (xs ys : List ℕ) → Distinct xs → Distinct ys → ((x : ℕ) → Mem x xs → Mem x ys → ⊥) → Distinct (xs ++ ys)
distinct_append [] ys d e h = e
distinct_append (x ∷ xs) ys d e h = (λ m. go (Memᴰ.append_cases xs m), distinct_append xs ys d.1 e (λ y a b. h y (Memᴰ.tail a) b))
  where
    go : Mem x xs ⊎ Mem x ys → ⊥
    go (inl i) = d.0 i
    go (inr i) = h x (Memᴰ.head refl) i

pub turn_distinct : (O : ℕ → List ℕ) (n k : ℕ) → ((j : ℕ) → j < k + n → Distinct (O j))
    → ((i j x : ℕ) → i < k + n → j < k + n → Mem x (O i) → Mem x (O j) → i ≡ j)
    → Distinct (in_turn O n k)
unfolding in_turn
turn_distinct O zero k d h = tt
turn_distinct O (suc n) k d h =
    distinct_append (O k) (in_turn O n (suc k)) (d k (omega arith))
    (turn_distinct O n (suc k) (λ j q. d j (omega arith)) (λ i j x p q a b. h i j x (omega arith) (omega arith) a b))
    (λ x a b. let r = in_turn_lem O n (suc k) x b in let lo = r.1 in let hi = r.2 in let e = h k r.0 x (omega arith) (omega arith) a r.3 in omega arith)

-- lists that agree, in turn
pub turn_same : (O P : ℕ → List ℕ) (n k : ℕ) → ((j : ℕ) → j < k + n → O j ≡ P j) → in_turn O n k ≡ in_turn P n k
unfolding in_turn
turn_same O P zero k h = refl
turn_same O P (suc n) k h =
    ap (λ (xs : List ℕ). xs ++ in_turn O n (suc k)) (h k (omega arith)) ∙ ap (λ (xs : List ℕ). P k ++ xs) (turn_same O P n (suc k) (λ j q. h j (omega arith)))

-- THE WHOLE SEARCH along the links is the search along the orders: no more than N are listed
module _ (nx pv size size' : ℕ → ℕ) (z N : ℕ) (O : ℕ → List ℕ) where
  pub search_walk : (n k c : ℕ) → ((j : ℕ) → j < k + n → (Mem j (O j) → ⊥) × Seg nx pv j (O j) j × ((x : ℕ) → Mem x (O j) → size x ≡ size' x))
      → c + length (in_turn O n k) ≤ N
      → search_all (λ j d. find_walk nx size z j (N - d) (nx j) d) n k c ≡ find size' z (in_turn O n k) c
  unfolding search_all in_turn
  search_walk zero k c g h = sym (find_none size' z c)
  search_walk (suc n) k c g h =
      let l = length-append (O k) (in_turn O n (suc k)) in
      let p = g k (omega arith) in
      let e : find_walk nx size z k (N - c) (nx k) c ≡ find size' z (O k) c =
      find_walk_lem nx pv size z k (O k) k (N - c) c p.0 (omega arith) p.1 ∙ find_same size size' z (O k) c p.2 in
      rw e (go (find size' z (O k) c) (find_counts size' z (O k) c) (λ d q. search_walk n (suc k) d (λ j b. g j (omega arith)) (omega arith)) ∙ sym
      (find-append size' z (O k) (in_turn O n (suc k)) c))
    where
      go : (r : Found) → Counts size' z (O k) c r
          → ((d : ℕ) → d ≡ c + length (O k) → search_all (λ j d. find_walk nx size z j (N - d) (nx j) d) n (suc k) d ≡ find size' z (in_turn O n (suc k)) d)
          → or_else r (λ d. search_all (λ j d. find_walk nx size z j (N - d) (nx j) d) n (suc k) d) ≡ or_else r (λ d. find size' z (in_turn O n (suc k)) d)
      go (at x d) f rest = refl
      go (nowhere d) f rest = rest d f
      go lost f rest = refl

-- ---- distinct numbers in a list are no more than it has

length_middle : (ys : List ℕ) (c : ℕ) (zs : List ℕ) → length (ys ++ c ∷ zs) ≡ suc (length (ys ++ zs))
length_middle [] c zs = refl
length_middle (y ∷ ys) c zs = ap suc (length_middle ys c zs)

mem_but : (x : ℕ) (ys : List ℕ) (c : ℕ) (zs : List ℕ) → Mem x (ys ++ c ∷ zs) → (x ≡ c → ⊥) → Mem x (ys ++ zs)
mem_but x [] c zs (Memᴰ.head e) h = absurd (h e)
mem_but x [] c zs (Memᴰ.tail m) h = m
mem_but x (y ∷ ys) c zs (Memᴰ.head e) h = Memᴰ.head e
mem_but x (y ∷ ys) c zs (Memᴰ.tail m) h = Memᴰ.tail (mem_but x ys c zs m h)

pub no_more : (xs ys : List ℕ) → Distinct xs → ((x : ℕ) → Mem x xs → Mem x ys) → length xs ≤ length ys
no_more [] ys d h = omega arith
no_more (x ∷ xs) ys d h =
    let a = around x ys (h x (Memᴰ.head refl)) in
    let l : length ys ≡ suc (length (a.front ++ a.back)) = ap length a.is ∙ length_middle a.front x a.back in
    let r = no_more xs (a.front ++ a.back) d.1
    (λ y m. mem_but y a.front x a.back (subst (λ (t : List ℕ). Mem y t) a.is (h y (Memᴰ.tail m)))
    (λ e. d.0 (subst (λ (u : ℕ). Mem u xs) e m))) in
    omega arith
