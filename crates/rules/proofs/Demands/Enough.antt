-- Soundness can be tested: what of it need not be tested follows, and the rest is decided on the one candidate that the words and links give.
-- Assumes nothing.
use mathlib.Core.Path.{◌≡◌, refl, sym, ap, ◌∙◌, subst}
use mathlib.Core.Bool.{Bool, true, false}
use mathlib.Core.List.Memᴰ
use mathlib.Core.List.{List, [], ◌∷◌, ◌++◌}
use Prim.Native.Nat.{ℕ, zero, suc, ◌+◌, ◌*◌, ◌/◌, ◌%◌, ◌≤◌, ◌<◌}
use native.Mathlib.Nat.{not-suc-le-zero, le_of_suc-le-suc}
use native.Mathlib.Omega.{arith}
use lib.Dec.{eqb}
use lib.ListN.{length, length-append}
use borrow.Author.Tests.{ne_eqb}
use Rattle.words.proofs.Laws.Choice.{bit_small}
use Rattle.words.specs.Choice.{pick, bit}
use Rattle.rules.specs.Rules.Lists.{Mem, Distinct, Seg}
use Rattle.rules.proofs.Lists.Lists.{around}
use Rattle.rules.proofs.Lists.Seg.{seg_snd}
use Rattle.rules.proofs.Lists.Walk.{ring_unique}
use Rattle.rules.specs.Rules.Ops.{Ops}
use Rattle.rules.proofs.Steps.Store.{LinkStore}
use Rattle.rules.specs.Rules.Chunks.{Chunk, free, total, Legal}
use Rattle.rules.proofs.Tiling.Chunks.{total_append}
use Rattle.rules.specs.Sound.Exact.{Slot, slot, frees, Exact}
use Rattle.rules.proofs.Tiling.Exact.{frees_from}
use Rattle.rules.specs.Sound.Tags.{Tags}
use Rattle.rules.proofs.Steps.Part.{legal_front, legal_back}
use Rattle.rules.proofs.Steps.Calls.{Whole, total_8}
use Rattle.rules.proofs.Tiling.Place.{free_at, header_len, header_used}
use Rattle.rules.specs.Rules.Place.{tile}

-- a ring that does not pass its sentinel has each node once: no test
pub seg_distinct : (nx pv : ℕ → ℕ) (k : ℕ) (xs : List ℕ) (a : ℕ) → (Mem k xs → ⊥) → Seg nx pv a xs k → Distinct xs
seg_distinct nx pv k [] a h g = tt
seg_distinct nx pv k (x ∷ xs) a h g = (twice, seg_distinct nx pv k xs x (λ m. h (Memᴰ.tail m)) g.2)
  where
    twice : Mem x xs → ⊥
    twice m =
        let r = around x xs m in
        let s : Seg nx pv x (r.front ++ x ∷ r.back) k = rw r.is at g.2 in
        let off : Mem k (r.front ++ x ∷ r.back) → ⊥ = λ i. h (Memᴰ.tail (subst (λ t. Mem k t) (sym r.is) i)) in
        let e = ring_unique nx pv k (r.front ++ x ∷ r.back) r.back off (λ i. off (mem_after' r.front x i)) x s
        (seg_snd nx pv x r.front x r.back k s) in
        let l : length (r.front ++ x ∷ r.back) ≡ length r.back = ap length e in
        let y = length-append r.front (x ∷ r.back) in
        omega arith
      where
        mem_after' : (ys : List ℕ) (c : ℕ) {zs : List ℕ} → Mem k zs → Mem k (ys ++ c ∷ zs)
        mem_after' [] c m = Memᴰ.tail m
        mem_after' (y ∷ ys) c m = Memᴰ.tail (mem_after' ys c m)

-- a name stands for one length: no test
pub slot_unique : (b : ℕ) (cs : List Chunk) → Legal cs → (x n m : ℕ) → Mem (slot x n) (frees b cs) → Mem (slot x m) (frees b cs) → n ≡ m
unfolding frees
slot_unique b [] l x n m i j = absurd (Memᴰ.not-nil i)
slot_unique b (c ∷ cs) l x n m i j = go (λ i j. slot_unique (b + c.len) cs l.2 x n m i j) c.used i j
  where
    later : (k : ℕ) → Mem (slot x k) (frees (b + c.len) cs) → b / 4 + 6 < x
    later k i = let r = frees_from (b + c.len) cs l.2 (slot x k) i in let a = l.0 in omega arith

    go : (Mem (slot x n) (frees (b + c.len) cs) → Mem (slot x m) (frees (b + c.len) cs) → n ≡ m)
        → (u : Bool) → Mem (slot x n) (pick u (frees (b + c.len) cs) (slot (b / 4 + 6) c.len ∷ frees (b + c.len) cs))
        → Mem (slot x m) (pick u (frees (b + c.len) cs) (slot (b / 4 + 6) c.len ∷ frees (b + c.len) cs)) → n ≡ m
    go f true i j = f i j
    go f false (Memᴰ.head p) (Memᴰ.head q) = ap (λ (t : Slot). t.len) p ∙ sym (ap (λ (t : Slot). t.len) q)
    go f false (Memᴰ.head p) (Memᴰ.tail j) = let a = later m j in let q : x ≡ b / 4 + 6 = ap (λ (t : Slot). t.name) p in absurd (omega arith)
    go f false (Memᴰ.tail i) (Memᴰ.head q) = let a = later n i in let p : x ≡ b / 4 + 6 = ap (λ (t : Slot). t.name) q in absurd (omega arith)
    go f false (Memᴰ.tail i) (Memᴰ.tail j) = f i j

module _ {S R : Type 0} {op : Ops S R} (L : LinkStore op) (cls : ℕ → ℕ) (cls6 : (n : ℕ) → cls n < 6) where
  -- WHAT IS ENOUGH: the tiling's tags, each list's mirrored links, and that the lists hold exactly the free chunks
  pub enough : (s : S) (O : ℕ → List ℕ) (cs : List Chunk) → L.Good s → Legal cs → total cs ≡ L.bytes → Tags (op.word s) 0 true cs
      → ((k : ℕ) → k < 6 → Seg (op.next s) (op.prev s) k (O k) k) → Exact cls O (frees 0 cs) → Whole L cls cls6 s O cs
  enough s O cs g l z t r e = record {
    rings = record {
      good = g;
      ring = r;
      node = node;
      once = λ k h. seg_distinct (op.next s) (op.prev s) k (O k) k (λ m. let b = (node k h k m).1 in omega arith) (r k h);
      apart = λ k j x hk hj m n. let p = e.only k x hk m in let q = e.only j x hj n in
          sym p.2 ∙ ap cls (slot_unique 0 cs l x p.0 q.0 p.1 q.1) ∙ q.2;
    };
    exact = e;
    sub = λ t m. m;
    legal = l;
    size = z;
    tags = t;
  }
    where
      node : (k : ℕ) → k < 6 → (x : ℕ) → Mem x (O k) → L.Node x × (6 ≤ x)
      node k h x m =
          let p = e.only k x h m in
          let f = free_at 0 cs (slot x p.0) p.1 in
          let l' = rw f.is at l in
          let a = legal_back f.pre (free p.0 ∷ f.post) l' in
          let a16 : 16 ≤ p.0 = a.0 in
          let t8 = total_8 f.pre (legal_front f.pre (free p.0 ∷ f.post) l') in
          let y = total_append f.pre (free p.0 ∷ f.post) in
          let w : total (f.pre ++ free p.0 ∷ f.post) ≡ L.bytes = sym (ap total f.is) ∙ z in (
            subst (λ (v : ℕ). L.Node v) (sym f.named) (L.fit (0 + total f.pre) (omega arith) (omega arith)),
            (let q : x ≡ (0 + total f.pre) / 4 + 6 = f.named in omega arith),
          )

pub tile_tags : (f : ℕ → ℕ) (fuel e : ℕ) (l : Bool) (cs : List Chunk) → Legal cs → length cs < fuel → Tags f e l cs → tile f fuel e ≡ cs
unfolding tile
tile_tags f zero e l cs g h t = absurd (not-suc-le-zero h)
tile_tags f (suc fuel) e l [] g h t =
    let k = bit_small l in
    let z : f (e / 4) / 4 * 4 ≡ 0 = header_len (f (e / 4)) 0 1 (bit l) refl (omega arith) k (let q : f (e / 4) ≡ 2 + bit l = t in omega arith) in
    rw z refl
tile_tags f (suc fuel) e l (c ∷ cs) g h t =
    let kl = bit_small l in
    let ku = bit_small c.used in
    let n16 : 16 ≤ c.len = g.0 in
    let z : f (e / 4) / 4 * 4 ≡ c.len = header_len (f (e / 4)) c.len (bit c.used) (bit l) g.1 ku kl t.0 in
    let u : f (e / 4) / 2 % 2 ≡ bit c.used = header_used (f (e / 4)) c.len (bit c.used) (bit l) g.1 ku kl t.0 in
    rw (z, u, ne_eqb c.len 0 (omega arith), tile_tags f fuel (e + c.len) c.used cs g.2 (le_of_suc-le-suc h) t.2) (go c.used refl)
  where
    go : (v : Bool) → c.used ≡ v → ◌≡◌ {A = List Chunk} (record { len = c.len; used = pick (eqb (bit c.used) 0) false true } ∷ cs) (c ∷ cs)
    go true e = λ i. record { len = c.len; used = (ap (λ (b : Bool). pick (eqb (bit b) 0) false true) e ∙ sym e) i } ∷ cs
    go false e = λ i. record { len = c.len; used = (ap (λ (b : Bool). pick (eqb (bit b) 0) false true) e ∙ sym e) i } ∷ cs
