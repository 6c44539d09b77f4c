-- A task's store into a live payload leaves a whole heap whole, with the same model; and the words determine the layout. Assumes nothing.
use mathlib.Core.Path.{◌≡◌, refl, sym, ap, ◌∙◌, subst}
use mathlib.Core.Bool.{Bool, true, false}
use mathlib.Core.List.{List, [], ◌∷◌, ◌++◌}
use Prim.Native.Nat.{ℕ, ◌+◌, ◌*◌, ◌/◌, ◌%◌, ◌≤◌, ◌<◌}
use native.Mathlib.Omega.{arith}
use Rattle.rules.specs.Rules.Ops.{Ops}
use Rattle.rules.proofs.Steps.Store.{LinkStore}
use Rattle.rules.specs.Rules.Chunks.{Chunk, busy, total, Legal}
use Rattle.rules.specs.Sound.Exact.{frees}
use Rattle.rules.proofs.Tiling.Exact.{frees_append}
use Rattle.words.specs.Choice.{bit}
use Rattle.rules.specs.Sound.Tags.{Tags}
use Rattle.rules.proofs.Tiling.Tags.{tags_back, tags_head}
use Rattle.rules.proofs.Steps.Part.{Part, legal_front, legal_back, retag, write_rings, outside}
use Rattle.rules.proofs.Steps.Calls.{Whole}

-- word i lies in the payload of a used chunk
pub record Payload (cs : List Chunk) (i : ℕ) : Type 0 where
  pub pre : List Chunk
  pub size : ℕ
  pub post : List Chunk
  pub is : cs ≡ pre ++ busy size ∷ post
  pub low : (0 + total pre) / 4 < i
  pub high : i < (0 + total pre + size) / 4

module _ {S R : Type 0} {op : Ops S R} (L : LinkStore op) (cls : ℕ → ℕ) (cls6 : (n : ℕ) → cls n < 6) (s : S) (O : ℕ → List ℕ) where
  pub write_at : (pre : List Chunk) (n : ℕ) (post : List Chunk) (i v : ℕ) → (0 + total pre) / 4 < i → i < (0 + total pre + n) / 4
      → Whole L cls cls6 s O (pre ++ busy n ∷ post) → Whole L cls cls6 (op.set_word s i v) O (pre ++ busy n ∷ post)
  unfolding frees
  write_at pre n post i v h k w =
      let e : frees 0 (pre ++ busy n ∷ post) ≡ frees 0 pre ++ frees (0 + total pre + n) post = frees_append 0 pre (busy n ∷ post) in
      let p : Part L cls s O (pre ++ busy n ∷ post) (outside L cls cls6 pre post O n) = subst (λ F. Part L cls s O (pre ++ busy n ∷ post) F) e w in
      let l = legal_back pre (busy n ∷ post) w.legal in
      let lp = legal_front pre (busy n ∷ post) w.legal in
      let t = tags_back (op.word s) 0 true pre (busy n ∷ post) w.tags in
      subst (λ F. Part L cls (op.set_word s i v) O (pre ++ busy n ∷ post) F) (sym e)
      (retag L cls cls6 pre post O s (op.set_word s i v) (busy n ∷ []) (busy n ∷ []) n (omega arith) (omega arith) (l.0, l.1, tt) p
      (write_rings L cls cls6 pre post O s n i v lp l.2 p.exact (omega arith) (omega arith) p.rings)
      (λ j q. L.word-set_word' s i v j (omega arith))
      (λ j q. L.word-set_word' s i v j (omega arith))
      (L.word-set_word' s i v ((0 + total pre + n) / 4) (omega arith) ∙ tags_head (op.word s) (0 + total pre + n) true post t.2)
      (L.word-set_word' s i v ((0 + total pre) / 4) (omega arith) ∙ t.0, λ q. absurd (let z : ◌≡◌ {A = ℕ} 0 1 = cc in omega arith), tt))

  pub live_write : (cs : List Chunk) (i v : ℕ) → Payload cs i → Whole L cls cls6 s O cs → Whole L cls cls6 (op.set_word s i v) O cs
  live_write cs i v p w = rw p.is (write_at p.pre p.size p.post i v p.low p.high (rw p.is at w))

-- one word, one chunk: the header tells length and use
chunk_eq : (c d : Chunk) (l : Bool) → c.len % 8 ≡ 0 → d.len % 8 ≡ 0 → c.len + 2 * bit c.used + bit l ≡ d.len + 2 * bit d.used + bit l → c ≡ d
chunk_eq c d l c8 d8 e = go c.used refl d.used refl
  where
    len : (x y : ℕ) → x ≤ 1 → y ≤ 1 → c.len + 2 * x ≡ d.len + 2 * y → (c.len ≡ d.len) × (x ≡ y)
    len x y hx hy q = let k : c.len / 8 ≡ d.len / 8 = omega arith in (omega arith, omega arith)

    off : (x y : ℕ) → bit c.used ≡ x → bit d.used ≡ y → c.len + 2 * x ≡ d.len + 2 * y
    off x y p q = omega arith

    go : (u : Bool) → c.used ≡ u → (v : Bool) → d.used ≡ v → c ≡ d
    go true p true q = let r = (len 1 1 (omega arith) (omega arith) (off 1 1 (ap bit p) (ap bit q))).0 in λ i. record { len = r i; used = (p ∙ sym q) i }
    go false p false q = let r = (len 0 0 (omega arith) (omega arith) (off 0 0 (ap bit p) (ap bit q))).0 in λ i. record { len = r i; used = (p ∙ sym q) i }
    go true p false q = absurd (let r = (len 1 0 (omega arith) (omega arith) (off 1 0 (ap bit p) (ap bit q))).1 in omega arith)
    go false p true q = absurd (let r = (len 0 1 (omega arith) (omega arith) (off 0 1 (ap bit p) (ap bit q))).1 in omega arith)

-- THE LAYOUT IS IN THE WORDS: two layouts of one length that the words show are one
pub tags_unique : (f : ℕ → ℕ) (b : ℕ) (l : Bool) (cs ds : List Chunk) → Legal cs → Legal ds → total cs ≡ total ds → Tags f b l cs → Tags f b l ds → cs ≡ ds
tags_unique f b l [] [] p q e t u = refl
tags_unique f b l [] (d ∷ ds) p q e t u = let a = q.0 in absurd (omega arith)
tags_unique f b l (c ∷ cs) [] p q e t u = let a = p.0 in absurd (omega arith)
tags_unique f b l (c ∷ cs) (d ∷ ds) p q e t u =
    let r : c ≡ d = chunk_eq c d l p.1 q.1 (sym t.0 ∙ u.0) in
    let n : c.len ≡ d.len = ap (λ (x : Chunk). x.len) r in
    let v : Tags f (b + c.len) c.used ds = subst (λ (x : Chunk). Tags f (b + x.len) x.used ds) (sym r) u.2 in
    let w = tags_unique f (b + c.len) c.used cs ds p.2 q.2 (omega arith) t.2 v in
    λ i. r i ∷ w i
