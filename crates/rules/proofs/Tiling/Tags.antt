-- Headers, footers and the guard: the words f, from byte b on, show the chunks cs; l says whether what is left of them is used.
-- Assumes nothing.
use mathlib.Core.Path.{◌≡◌, refl, sym, ap, ◌∙◌}
use mathlib.Core.Logic.{inl, inr}
use mathlib.Core.Bool.{Bool, true, false}
use mathlib.Core.List.Memᴰ
use mathlib.Core.List.{List, [], ◌∷◌, ◌++◌}
use Prim.Native.Nat.{ℕ, ◌+◌, ◌-◌, ◌/◌, ◌≤◌, ◌<◌}
use native.Mathlib.Nat.{add-zero, add_assoc}
use native.Mathlib.Omega.{arith}
use Rattle.words.specs.Choice.{pick, bit}
use Rattle.rules.specs.Rules.Lists.{Mem}
use Rattle.rules.specs.Rules.Chunks.{Chunk, free, total, Legal, Calm}
use Rattle.rules.specs.Sound.Test.{either}
use Rattle.rules.proofs.Tiling.Chunks.{used_last}
use Rattle.rules.specs.Sound.Exact.{Slot, slot, frees}
use Rattle.rules.proofs.Tiling.Exact.{frees_from}
use Rattle.rules.specs.Sound.Tags.{Tag, Tags, head_tag}

-- a free chunk's last word is its length
abbrev pub Foot : (ℕ → ℕ) → ℕ → Chunk → Type 0
Foot f b c = c.used ≡ false → f ((b + c.len) / 4 - 1) ≡ c.len

-- the same of a front part, with no guard
abbrev pub Front : (ℕ → ℕ) → ℕ → Bool → List Chunk → Type 0
Front f b l [] = Unit {0}
Front f b l (c ∷ cs) = (f (b / 4) ≡ head_tag (c ∷ cs) + bit l) × Foot f b c × Front f (b + c.len) c.used cs

-- whether what is left of the part after cs is used
abbrev pub last_used : Bool → List Chunk → Bool
last_used l [] = l
last_used l (c ∷ cs) = last_used c.used cs

pub calm_front : (pre cs : List Chunk) → Calm (pre ++ cs) → Calm pre
calm_front [] cs k = tt
calm_front (c ∷ []) cs k = (go c.used, tt)
  where
    go : (b : Bool) → either b true ≡ true
    go true = refl
    go false = refl
calm_front (c ∷ d ∷ pre) cs k = (k.0, calm_front (d ∷ pre) cs k.1)

-- what stands before a free chunk is used
pub calm_last : (pre : List Chunk) (f : ℕ) (cs : List Chunk) → Calm (pre ++ free f ∷ cs) → used_last pre ≡ true
calm_last [] f cs k = refl
calm_last (c ∷ []) f cs k = go c.used k.0
  where
    go : (b : Bool) → either b false ≡ true → b ≡ true
    go true e = refl
    go false e = e
calm_last (c ∷ d ∷ pre) f cs k = calm_last (d ∷ pre) f cs k.1

used_last_lem : (l : Bool) (c : Chunk) (pre : List Chunk) → used_last (c ∷ pre) ≡ last_used l (c ∷ pre)
used_last_lem l c [] = refl
used_last_lem l c (d ∷ pre) = used_last_lem c.used d pre

pub last_used_lem : (pre : List Chunk) → used_last pre ≡ true → last_used true pre ≡ true
last_used_lem [] u = refl
last_used_lem (c ∷ pre) u = sym (used_last_lem true c pre) ∙ u

pub calm_left : (pre : List Chunk) (f : ℕ) (cs : List Chunk) → Calm (pre ++ free f ∷ cs) → last_used true pre ≡ true
calm_left pre f cs k = last_used_lem pre (calm_last pre f cs k)

pub tags_front : (f : ℕ → ℕ) (b : ℕ) (l : Bool) (pre cs : List Chunk) → Tags f b l (pre ++ cs) → Front f b l pre
tags_front f b l [] cs t = tt
tags_front f b l (c ∷ pre) cs t = (t.0, t.1, tags_front f (b + c.len) c.used pre cs t.2)

pub tags_back : (f : ℕ → ℕ) (b : ℕ) (l : Bool) (pre cs : List Chunk) → Tags f b l (pre ++ cs) → Tags f (b + total pre) (last_used l pre) cs
tags_back f b l [] cs t = rw add-zero t
tags_back f b l (c ∷ pre) cs t = rw (← (add_assoc b c.len (total pre))) (tags_back f (b + c.len) c.used pre cs t.2)

pub tags_join : (f : ℕ → ℕ) (b : ℕ) (l : Bool) (pre cs : List Chunk) → Front f b l pre → Tags f (b + total pre) (last_used l pre) cs → Tags f b l (pre ++ cs)
tags_join f b l [] cs u t = rw add-zero at t
tags_join f b l (c ∷ pre) cs u t = (u.0, u.1, tags_join f (b + c.len) c.used pre cs u.2 (rw (← (add_assoc b c.len (total pre))) at t))

pub tag_from : (b : ℕ) (cs : List Chunk) (i : ℕ) → Legal cs → Tag b cs i → b / 4 ≤ i
tag_from b [] i l t = omega arith
tag_from b (c ∷ cs) i l (inl e) = omega arith
tag_from b (c ∷ cs) i l (inr (inl e)) = let a = l.0 in omega arith
tag_from b (c ∷ cs) i l (inr (inr t)) = let r = tag_from (b + c.len) cs i l.2 t in omega arith

pub tags_frame : (f f' : ℕ → ℕ) (b : ℕ) (l : Bool) (cs : List Chunk) → ((i : ℕ) → Tag b cs i → f' i ≡ f i) → Tags f b l cs → Tags f' b l cs
tags_frame f f' b l [] h t = h (b / 4) refl ∙ t
tags_frame f f' b l (c ∷ cs) h t = (
  h (b / 4) (inl refl) ∙ t.0,
  λ e. h ((b + c.len) / 4 - 1) (inr (inl (e, refl))) ∙ t.1 e,
  tags_frame f f' (b + c.len) c.used cs (λ i u. h i (inr (inr u))) t.2,
)

pub front_below : (f f' : ℕ → ℕ) (b : ℕ) (l : Bool) (pre : List Chunk) → Legal pre
    → ((i : ℕ) → i < (b + total pre) / 4 → f' i ≡ f i) → Front f b l pre → Front f' b l pre
front_below f f' b l [] g h t = tt
front_below f f' b l (c ∷ pre) g h t =
    let a = g.0 in (
      h (b / 4) (omega arith) ∙ t.0,
      λ e. h ((b + c.len) / 4 - 1) (omega arith) ∙ t.1 e,
      front_below f f' (b + c.len) c.used pre g.2 (λ i u. h i (omega arith)) t.2,
    )

pub tags_above : (f f' : ℕ → ℕ) (b : ℕ) (l : Bool) (cs : List Chunk) → Legal cs → ((i : ℕ) → b / 4 ≤ i → f' i ≡ f i) → Tags f b l cs → Tags f' b l cs
tags_above f f' b l cs g h t = tags_frame f f' b l cs (λ i u. h i (tag_from b cs i g u)) t

-- the right neighbour's left bit is written
pub tags_left : (f f' : ℕ → ℕ) (b : ℕ) (l l' : Bool) (cs : List Chunk) → Legal cs → f' (b / 4) ≡ head_tag cs + bit l' → ((i : ℕ) → b / 4 < i → f' i ≡ f i)
    → Tags f b l cs → Tags f' b l' cs
tags_left f f' b l l' [] g e h t = e
tags_left f f' b l l' (c ∷ cs) g e h t =
    let a = g.0 in
    (e, λ u. h ((b + c.len) / 4 - 1) (omega arith) ∙ t.1 u, tags_above f f' (b + c.len) c.used cs g.2 (λ i u. h i (omega arith)) t.2)

pub tags_head : (f : ℕ → ℕ) (b : ℕ) (l : Bool) (cs : List Chunk) → Tags f b l cs → f (b / 4) ≡ head_tag cs + bit l
tags_head f b l [] t = t
tags_head f b l (c ∷ cs) t = t.0

-- no tag stands in a word that a free chunk keeps links in
pub tag_free : (b : ℕ) (cs : List Chunk) → Legal cs → (i : ℕ) → Tag b cs i → (t : Slot) → Mem t (frees b cs) → t.name < i + 6 → i + 4 ≤ t.name → ⊥
unfolding frees
tag_free b [] l i g t m p q = Memᴰ.not-nil m
tag_free b (c ∷ cs) l i g t m p q = go (λ u m'. tag_free (b + c.len) cs l.2 i u t m' p q) c.used m g
  where
    a : 16 ≤ c.len
    a = l.0

    after : Tag (b + c.len) cs i → (b + c.len) / 4 ≤ i
    after u = tag_from (b + c.len) cs i l.2 u

    deep : (Tag (b + c.len) cs i → Mem t (frees (b + c.len) cs) → ⊥) → Mem t (frees (b + c.len) cs) → Tag b (c ∷ cs) i → ⊥
    deep f m' (inl e) = let r = frees_from (b + c.len) cs l.2 t m' in let a' = a in omega arith
    deep f m' (inr (inl e)) = let r = frees_from (b + c.len) cs l.2 t m' in let a' = a in omega arith
    deep f m' (inr (inr u)) = f u m'

    here : t.name ≡ b / 4 + 6 → Tag b (c ∷ cs) i → ⊥
    here e (inl e') = omega arith
    here e (inr (inl e')) = let a' = a in omega arith
    here e (inr (inr u)) = let r = after u in let a' = a in omega arith

    go : (Tag (b + c.len) cs i → Mem t (frees (b + c.len) cs) → ⊥)
        → (u : Bool) → Mem t (pick u (frees (b + c.len) cs) (slot (b / 4 + 6) c.len ∷ frees (b + c.len) cs)) → Tag b (c ∷ cs) i → ⊥
    go f true m' g' = deep f m' g'
    go f false (Memᴰ.head e) g' = here (ap (λ (z : Slot). z.name) e) g'
    go f false (Memᴰ.tail m') g' = deep f m' g'

-- words that differ only where free chunks keep links show the same tags
pub tags_owned : (f f' : ℕ → ℕ) (b : ℕ) (l : Bool) (cs : List Chunk) → Legal cs
    → ((i : ℕ) → ((t : Slot) → Mem t (frees b cs) → t.name < i + 6 → i + 4 ≤ t.name → ⊥) → f' i ≡ f i) → Tags f b l cs → Tags f' b l cs
tags_owned f f' b l cs g h t = tags_frame f f' b l cs (λ i u. h i (tag_free b cs g i u)) t

-- two heaps that show one layout have the same tags
pub tags_agree : (f f' : ℕ → ℕ) (b : ℕ) (l : Bool) (cs : List Chunk) → Tags f b l cs → Tags f' b l cs → (i : ℕ) → Tag b cs i → f i ≡ f' i
tags_agree f f' b l [] t u i e = ap f e ∙ t ∙ sym u ∙ ap f' (sym e)
tags_agree f f' b l (c ∷ cs) t u i (inl e) = ap f e ∙ t.0 ∙ sym u.0 ∙ ap f' (sym e)
tags_agree f f' b l (c ∷ cs) t u i (inr (inl e)) = ap f e.1 ∙ t.1 e.0 ∙ sym (u.1 e.0) ∙ ap f' (sym e.1)
tags_agree f f' b l (c ∷ cs) t u i (inr (inr g)) = tags_agree f f' (b + c.len) c.used cs t.2 u.2 i g
