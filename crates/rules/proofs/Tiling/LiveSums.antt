-- WHAT TASKS HOLD: the sum of live lengths and the sum of cached ones make the sum of used lengths; so a chunk cached or uncached moves its length from
-- one to the other. Assumes nothing.
--     live_and_held     live lengths and cached lengths make up the used ones
--     held_same, held_last     the cached lengths after the chunks, or the cache, changed
use mathlib.Core.Path.{◌≡◌, refl, sym, ap, subst, ◌∙◌}
use mathlib.Core.Logic.{◌≢◌}
use mathlib.Core.Bool.{false}
use mathlib.Core.List.Memᴰ
use mathlib.Core.List.{List, [], ◌∷◌, ◌++◌}
use Prim.Native.Nat.{ℕ, ◌+◌, ◌-◌, ◌≤◌, ◌<◌}
use native.Mathlib.Omega.{arith}
use lib.Dec.{eqb}
use lib.ListN.{length}
use borrow.Author.Tests.{ne_eqb, eq-eqb}
use Rattle.words.specs.Choice.{pick}
use Rattle.rules.specs.Rules.Lists.{Mem, Distinct}
use Rattle.rules.specs.Rules.Chunks.{Chunk, busy, total, Legal, used_sum}
use Rattle.rules.specs.Rules.Place.{used_at}
use Rattle.rules.proofs.Tiling.Place.{used_at_lem}
use Rattle.rules.specs.Rules.Calls.{byte_of, name_of, listed}
use Rattle.rules.specs.Sound.Sound.{live_sum}

-- the sum of f over numbers
abbrev pub sum_by : (ℕ → ℕ) → List ℕ → ℕ
sum_by f [] = 0
sum_by f (k ∷ ks) = f k + sum_by f ks

-- the sum of cached lengths
abbrev pub held_sum : List ℕ → List Chunk → ℕ
held_sum ks cs = sum_by (λ (k : ℕ). used_at cs (byte_of k)) ks

-- a member's part of a sum
pub sum_has : (f : ℕ → ℕ) (x : ℕ) (ks : List ℕ) → Mem x ks → f x ≤ sum_by f ks
sum_has f x [] h = elim h [ ]
sum_has f x (k ∷ ks) (Memᴰ.head e) = let q : f x ≡ f k = ap f e in omega arith
sum_has f x (k ∷ ks) (Memᴰ.tail i) = let r = sum_has f x ks i in omega arith

-- the same lengths, the same sum
pub held_same : (ks : List ℕ) (cs ds : List Chunk) → ((x : ℕ) → Mem x ks → used_at cs (byte_of x) ≡ used_at ds (byte_of x)) → held_sum ks cs ≡ held_sum ks ds
held_same [] cs ds h = refl
held_same (k ∷ ks) cs ds h =
    let a = h k (Memᴰ.head refl) in
    let b = held_same ks cs ds (λ x i. h x (Memᴰ.tail i)) in
    omega arith

-- one more cached at the end
pub held_last : (ks : List ℕ) (k : ℕ) (cs : List Chunk) → held_sum (ks ++ k ∷ []) cs ≡ held_sum ks cs + used_at cs (byte_of k)
held_last [] k cs = omega arith
held_last (x ∷ ks) k cs = let r = held_last ks k cs in omega arith

-- nothing cached: all used ones are live
live_all : (b : ℕ) (cs : List Chunk) → live_sum [] b cs ≡ used_sum cs
unfolding listed
live_all b [] = refl
live_all b (c ∷ cs) = ap (λ (n : ℕ). pick c.used c.len 0 + n) (live_all (b + c.len) cs)

-- a name before all of these chunks changes nothing
live_behind : (k : ℕ) (ks : List ℕ) (b : ℕ) (cs : List Chunk) → k < name_of b → live_sum (k ∷ ks) b cs ≡ live_sum ks b cs
unfolding listed
live_behind k ks b [] h = refl
live_behind k ks b (c ∷ cs) h =
    let n : eqb (name_of b) k ≡ false = ne_eqb (name_of b) k (omega arith) in
    rw (n, live_behind k ks (b + c.len) cs (omega arith)) refl

-- the chunk of that name moves from the live ones to the cached ones
pub live_less : (k : ℕ) (ks : List ℕ) (b : ℕ) (pre : List Chunk) (n : ℕ) (post : List Chunk)
    → Legal (pre ++ busy n ∷ post) → listed k ks ≡ false → name_of (b + total pre) ≡ k
    → live_sum (k ∷ ks) b (pre ++ busy n ∷ post) + n ≡ live_sum ks b (pre ++ busy n ∷ post)
unfolding listed
live_less k ks b [] n post l u e =
    let a : 16 ≤ n = l.0 in
    let f : name_of b ≡ k = ap (λ (x : ℕ). name_of x) (omega arith) ∙ e in
    let g : listed (name_of b) ks ≡ false = ap (λ (x : ℕ). listed x ks) f ∙ u in
    rw (eq-eqb (name_of b) k f, g, live_behind k ks (b + n) post (omega arith)) (omega arith)
live_less k ks b (c ∷ pre) n post l u e =
    let a : 16 ≤ c.len = l.0 in
    let f : name_of (b + c.len + total pre) ≡ k = ap (λ (x : ℕ). name_of x) (omega arith) ∙ e in
    let m : eqb (name_of b) k ≡ false = ne_eqb (name_of b) k (omega arith) in
    let r = live_less k ks (b + c.len) pre n post l.2 u f in
    rw m (omega arith)

-- a cached chunk's link, by its byte
name_of_byte : (k : ℕ) → 6 ≤ k → name_of (byte_of k) ≡ k
name_of_byte k h = omega arith

-- no member is not listed
listed_not : (k : ℕ) (ks : List ℕ) → (Mem k ks → ⊥) → listed k ks ≡ false
unfolding listed
listed_not k [] h = refl
listed_not k (x ∷ ks) h = rw (ne_eqb k x (λ e. h (Memᴰ.head e)), listed_not k ks (λ i. h (Memᴰ.tail i))) refl

-- live lengths and cached lengths make up the used ones
pub live_and_held : (ks : List ℕ) (cs : List Chunk) → Legal cs → Distinct ks → ((x : ℕ) → Mem x ks → (6 ≤ x) × (0 < used_at cs (byte_of x)))
    → live_sum ks 0 cs + held_sum ks cs ≡ used_sum cs
live_and_held [] cs l d h = let e = live_all 0 cs in omega arith
live_and_held (k ∷ ks) cs l d h =
    let p = h k (Memᴰ.head refl) in
    let q : used_at cs (byte_of k) ≢ 0 = λ e. absurd (let z = p.1 in omega arith) in
    let u = used_at_lem cs (byte_of k) q in
    let f : name_of (0 + total u.pre) ≡ k = ap (λ (x : ℕ). name_of x) (let y = u.byte in omega arith) ∙ name_of_byte k p.0 in
    let o = u.is in
    let r = live_less k ks 0 u.pre (used_at cs (byte_of k)) u.post (subst Legal o l) (listed_not k ks d.0) f in
    let t : live_sum (k ∷ ks) 0 cs + used_at cs (byte_of k) ≡ live_sum ks 0 cs =
    ap (λ (w : List Chunk). live_sum (k ∷ ks) 0 w + used_at cs (byte_of k)) o ∙ r ∙ sym (ap (λ (w : List Chunk). live_sum ks 0 w) o) in
    let v = live_and_held ks cs l d.1 (λ x i. h x (Memᴰ.tail i)) in
    omega arith
