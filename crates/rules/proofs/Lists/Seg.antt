-- A run of a doubly linked list, over two bare functions: from a by `nx` through xs to b, with `pv` going back the same way.
-- A ring is a run from its sentinel to itself. Assumes nothing.
use mathlib.Core.Path.{◌≡◌, refl, sym, ap, ◌∙◌, subst}
use mathlib.Core.Logic.{◌≢◌}
use mathlib.Core.List.Memᴰ
use mathlib.Core.List.{List, [], ◌∷◌, ◌++◌, append-nil}
use Prim.Native.Nat.{ℕ}
use Rattle.rules.specs.Rules.Lists.{Mem, Distinct, Seg}
use Rattle.rules.proofs.Lists.Lists.{mem_after, before_after, distinct_left, distinct_right}

module _ (nx pv : ℕ → ℕ) where
  pub seg_fst : (a : ℕ) (ys : List ℕ) (c : ℕ) (zs : List ℕ) (b : ℕ) → Seg nx pv a (ys ++ c ∷ zs) b → Seg nx pv a ys c
  seg_fst a [] c zs b g = (g.0, g.1)
  seg_fst a (y ∷ ys) c zs b g = (g.0, g.1, seg_fst y ys c zs b g.2)

  pub seg_snd : (a : ℕ) (ys : List ℕ) (c : ℕ) (zs : List ℕ) (b : ℕ) → Seg nx pv a (ys ++ c ∷ zs) b → Seg nx pv c zs b
  seg_snd a [] c zs b g = g.2
  seg_snd a (y ∷ ys) c zs b g = seg_snd y ys c zs b g.2

  pub seg_join : (a : ℕ) (ys : List ℕ) (c : ℕ) (zs : List ℕ) (b : ℕ) → Seg nx pv a ys c → Seg nx pv c zs b → Seg nx pv a (ys ++ c ∷ zs) b
  seg_join a [] c zs b g h = (g.0, g.1, h)
  seg_join a (y ∷ ys) c zs b g h = (g.0, g.1, seg_join y ys c zs b g.2 h)

  -- the one before the end
  pub seg_last : (a : ℕ) (ys : List ℕ) (c : ℕ) → Seg nx pv a ys c → Mem (pv c) (a ∷ ys)
  seg_last a [] c g = Memᴰ.head g.1
  seg_last a (y ∷ ys) c g = Memᴰ.tail (seg_last y ys c g.2)

  -- the one after the start
  pub seg_head : (a : ℕ) (ys : List ℕ) (c : ℕ) → Seg nx pv a ys c → Mem (nx a) (c ∷ ys)
  seg_head a [] c g = Memᴰ.head g.0
  seg_head a (y ∷ ys) c g = Memᴰ.tail (Memᴰ.head g.0)

mem_shift : {x b y : ℕ} {ys : List ℕ} → Mem x (b ∷ ys) → Mem x (b ∷ y ∷ ys)
mem_shift (Memᴰ.head e) = Memᴰ.head e
mem_shift (Memᴰ.tail m) = Memᴰ.tail (Memᴰ.tail m)

module _ (nx pv nx' pv' : ℕ → ℕ) where
  -- links that agree on a run's nodes leave the run as it is
  pub seg_frame : (a : ℕ) (xs : List ℕ) (b : ℕ) → ((x : ℕ) → Mem x (a ∷ xs) → nx' x ≡ nx x) → ((x : ℕ) → Mem x (b ∷ xs) → pv' x ≡ pv x)
      → Seg nx pv a xs b → Seg nx' pv' a xs b
  seg_frame a [] b f h g = (f a (Memᴰ.head refl) ∙ g.0, h b (Memᴰ.head refl) ∙ g.1)
  seg_frame a (x ∷ xs) b f h g = (
    f a (Memᴰ.head refl) ∙ g.0,
    h x (Memᴰ.tail (Memᴰ.head refl)) ∙ g.1,
    seg_frame x xs b (λ y m. f y (Memᴰ.tail m)) (λ y m. h y (mem_shift m)) g.2,
  )

  -- the run up to c, turned at its last node p to end at n instead
  pub seg_turn : (a : ℕ) (ys : List ℕ) (c p n : ℕ) → pv c ≡ p → nx' p ≡ n → pv' n ≡ p → Distinct (a ∷ ys)
      → ((x : ℕ) → Mem x (a ∷ ys) → x ≢ p → nx' x ≡ nx x) → ((x : ℕ) → Mem x ys → pv' x ≡ pv x)
      → Seg nx pv a ys c → Seg nx' pv' a ys n
  seg_turn a [] c p n e en ep d f h g =
      let q : a ≡ p = sym g.1 ∙ e in (ap nx' q ∙ en, ep ∙ sym q)
  seg_turn a (y ∷ ys) c p n e en ep d f h g = (
    f a (Memᴰ.head refl) (λ q. d.0 (subst (λ (z : ℕ). Mem z (y ∷ ys)) (e ∙ sym q) (seg_last nx pv y ys c g.2))) ∙ g.0,
    h y (Memᴰ.head refl) ∙ g.1,
    seg_turn y ys c p n e en ep d.1 (λ x m. f x (Memᴰ.tail m)) (λ x m. h x (Memᴰ.tail m)) g.2,
  )

  -- LINK AT THE HEAD, over bare functions
  pub link_seg : (k c : ℕ) (xs : List ℕ) → Distinct (k ∷ xs) → (Mem c (k ∷ xs) → ⊥)
      → nx' k ≡ c → nx' c ≡ nx k → pv' (nx k) ≡ c → pv' c ≡ k
      → ((x : ℕ) → Mem x (k ∷ xs) → x ≢ k → nx' x ≡ nx x) → ((x : ℕ) → Mem x (k ∷ xs) → x ≢ nx k → pv' x ≡ pv x)
      → Seg nx pv k xs k → Seg nx' pv' k (c ∷ xs) k
  link_seg k c [] d fr e1 e2 e3 e4 f h g = (e1, e4, (e2 ∙ g.0, ap pv' (sym g.0) ∙ e3))
  link_seg k c (x ∷ xs) d fr e1 e2 e3 e4 f h g = (
    e1,
    e4,
    (
      e2 ∙ g.0,
      ap pv' (sym g.0) ∙ e3,
      seg_frame x xs k
          (λ y m. f y (Memᴰ.tail m) (λ q. d.0 (subst (λ (z : ℕ). Mem z (x ∷ xs)) q m)))
          (λ y m. h y (mem_shift m) (λ q. off y (q ∙ g.0) m))
          g.2,
    ),
  )
    where
      off : (y : ℕ) → y ≡ x → Mem y (k ∷ xs) → ⊥
      off y q (Memᴰ.head e) = d.0 (Memᴰ.head (sym e ∙ q))
      off y q (Memᴰ.tail m) = d.1.0 (subst (λ (z : ℕ). Mem z xs) q m)

  -- UNLINK, over bare functions: c stands between ys and zs
  pub unlink_seg : (k : ℕ) (ys : List ℕ) (c : ℕ) (zs : List ℕ) → Distinct (k ∷ (ys ++ c ∷ zs))
      → nx' (pv c) ≡ nx c → pv' (nx c) ≡ pv c
      → ((x : ℕ) → Mem x (k ∷ (ys ++ c ∷ zs)) → x ≢ pv c → nx' x ≡ nx x) → ((x : ℕ) → Mem x (k ∷ (ys ++ c ∷ zs)) → x ≢ nx c → pv' x ≡ pv x)
      → Seg nx pv k (ys ++ c ∷ zs) k → Seg nx' pv' k (ys ++ zs) k
  unlink_seg k ys c [] d en ep f h g =
      let r = seg_snd nx pv k ys c [] k g in
      subst (λ (t : List ℕ). Seg nx' pv' k t k) (sym (append-nil ys))
      (subst (λ (z : ℕ). Seg nx' pv' k ys z) r.0
      (seg_turn k ys c (pv c) (nx c) refl en ep (distinct_left (k ∷ ys) (c ∷ []) d)
      (λ x m. f x (Memᴰ.append_left (c ∷ []) m))
      (λ x m. h x (Memᴰ.append_left (c ∷ []) (Memᴰ.tail m)) (λ q. d.0 (Memᴰ.append_left (c ∷ []) (subst (λ (z : ℕ). Mem z ys) (q ∙ r.0) m))))
      (seg_fst nx pv k ys c [] k g)))
  unlink_seg k ys c (z ∷ zs) d en ep f h g =
      let r = seg_snd nx pv k ys c (z ∷ zs) k g in
      let front : Seg nx' pv' k ys z =
      subst (λ (t : ℕ). Seg nx' pv' k ys t) r.0
      (seg_turn k ys c (pv c) (nx c) refl en ep (distinct_left (k ∷ ys) (c ∷ z ∷ zs) d)
      (λ x m. f x (Memᴰ.append_left (c ∷ z ∷ zs) m))
      (λ x m. h x (Memᴰ.append_left (c ∷ z ∷ zs) (Memᴰ.tail m))
      (λ q. before_after ys (c ∷ z ∷ zs) x d.1 m (Memᴰ.tail (Memᴰ.head (q ∙ r.0)))))
      (seg_fst nx pv k ys c (z ∷ zs) k g)) in
      seg_join nx' pv' k ys z zs k front
      (seg_frame z zs k
      (λ x m. f x (Memᴰ.tail (mem_after ys c m)) (λ q. before_after (k ∷ ys) (c ∷ z ∷ zs) x d
      (subst (λ (t : ℕ). Mem t (k ∷ ys)) (sym q) (seg_last nx pv k ys c (seg_fst nx pv k ys c (z ∷ zs) k g))) (Memᴰ.tail m)))
      (λ x m. h x (wide x m) (λ q. off x (q ∙ r.0) m))
      r.2)
    where
      wide : (x : ℕ) → Mem x (k ∷ zs) → Mem x (k ∷ (ys ++ c ∷ z ∷ zs))
      wide x (Memᴰ.head e) = Memᴰ.head e
      wide x (Memᴰ.tail m) = Memᴰ.tail (mem_after ys c (Memᴰ.tail m))

      dz : Distinct (z ∷ zs)
      dz = (distinct_right ys (c ∷ z ∷ zs) d.1).1

      off : (x : ℕ) → x ≡ z → Mem x (k ∷ zs) → ⊥
      off x q (Memᴰ.head e) = d.0 (mem_after ys c (Memᴰ.head (sym e ∙ q)))
      off x q (Memᴰ.tail m) = dz.0 (subst (λ (t : ℕ). Mem t zs) q m)

  -- two states with one order have the same links on it: what demand 3 asks of a free chunk's links
  pub seg_agree : (a : ℕ) (xs : List ℕ) (b : ℕ) → Seg nx pv a xs b → Seg nx' pv' a xs b
      → ((x : ℕ) → Mem x (a ∷ xs) → nx x ≡ nx' x) × ((x : ℕ) → Mem x (b ∷ xs) → pv x ≡ pv' x)
  seg_agree a [] b g h = (
    λ x m. let e = Memᴰ.eq_of_singleton m in ap nx e ∙ g.0 ∙ sym h.0 ∙ ap nx' (sym e),
    λ x m. let e = Memᴰ.eq_of_singleton m in ap pv e ∙ g.1 ∙ sym h.1 ∙ ap pv' (sym e),
  )
  seg_agree a (y ∷ ys) b g h = let r = seg_agree y ys b g.2 h.2 in (fwd r.0, bwd r.1)
    where
      fwd : ((x : ℕ) → Mem x (y ∷ ys) → nx x ≡ nx' x) → (x : ℕ) → Mem x (a ∷ y ∷ ys) → nx x ≡ nx' x
      fwd f x (Memᴰ.head e) = ap nx e ∙ g.0 ∙ sym h.0 ∙ ap nx' (sym e)
      fwd f x (Memᴰ.tail m) = f x m

      bwd : ((x : ℕ) → Mem x (b ∷ ys) → pv x ≡ pv' x) → (x : ℕ) → Mem x (b ∷ y ∷ ys) → pv x ≡ pv' x
      bwd f x (Memᴰ.head e) = f x (Memᴰ.head e)
      bwd f x (Memᴰ.tail (Memᴰ.head e)) = ap pv e ∙ g.1 ∙ sym h.1 ∙ ap pv' (sym e)
      bwd f x (Memᴰ.tail (Memᴰ.tail m)) = f x (Memᴰ.tail m)
