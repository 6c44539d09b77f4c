-- Where chunks stand: by name in the free ones, and by byte, on the layout and as the tags tell. Assumes nothing.
use mathlib.Core.Path.{◌≡◌, refl, sym, ap, ◌∙◌}
use mathlib.Core.Logic.{◌≢◌}
use mathlib.Core.Bool.{Bool, true, false}
use mathlib.Core.List.Memᴰ
use mathlib.Core.List.{List, [], ◌∷◌, ◌++◌}
use Prim.Native.Nat.{ℕ, zero, suc, ◌+◌, ◌-◌, ◌*◌, ◌/◌, ◌%◌, ◌≤◌, ◌<◌}
use native.Mathlib.Nat.{not-suc-le-zero, le_of_suc-le-suc, add-zero, sub-zero}
use native.Mathlib.Omega.{arith}
use lib.Dec.{eqb, leb}
use lib.Arith.{digits_mod}
use lib.ListN.{length}
use borrow.Author.Tests.{eq-eqb, ne_eqb, eqb-true, leb-true, le-leb}
use Rattle.words.proofs.Laws.Choice.{bit_small}
use Rattle.words.specs.Choice.{pick, bit}
use Rattle.rules.specs.Rules.Lists.{Mem}
use Rattle.rules.specs.Rules.Chunks.{Chunk, free, busy, total, Legal}
use Rattle.rules.specs.Sound.Exact.{Slot, slot, frees}
use Rattle.rules.specs.Sound.Tags.{Tags}
use Rattle.rules.specs.Rules.Place.{UsedAt, index_at, len_at, used_at, tile, used_walk}

-- a free chunk, and the layout around it
pub record FreeAt (b : ℕ) (cs : List Chunk) (t : Slot) : Type 0 where
  pub pre : List Chunk
  pub post : List Chunk
  pub is : cs ≡ pre ++ free t.len ∷ post
  pub named : t.name ≡ (b + total pre) / 4 + 6

pub free_at : (b : ℕ) (cs : List Chunk) (t : Slot) → Mem t (frees b cs) → FreeAt b cs t
unfolding frees
free_at b [] t m = absurd (Memᴰ.not-nil m)
free_at b (c ∷ cs) t m = go c.used refl m (λ i. free_at (b + c.len) cs t i)
  where
    deep : FreeAt (b + c.len) cs t → FreeAt b (c ∷ cs) t
    deep r = record {
      pre = c ∷ r.pre;
      post = r.post;
      is = ap (λ (u : List Chunk). c ∷ u) r.is;
      named = r.named ∙ ap (λ (n : ℕ). n / 4 + 6) (omega arith);
    }

    go : (u : Bool) → c.used ≡ u → Mem t (pick u (frees (b + c.len) cs) (slot (b / 4 + 6) c.len ∷ frees (b + c.len) cs))
        → (Mem t (frees (b + c.len) cs) → FreeAt (b + c.len) cs t) → FreeAt b (c ∷ cs) t
    go true e i f = deep (f i)
    go false e (Memᴰ.head q) f = record {
      pre = [];
      post = cs;
      is = λ j. record { len = (sym (ap (λ (s : Slot). s.len) q)) j; used = e j } ∷ cs;
      named = ap (λ (s : Slot). s.name) q ∙ ap (λ (n : ℕ). n / 4 + 6) (sym (add-zero b));
    }
    go false e (Memᴰ.tail i) f = deep (f i)

pub len_at_lem : (pre : List Chunk) (c : Chunk) (post : List Chunk) (b : ℕ) → Legal pre → b ≡ total pre → len_at (pre ++ c ∷ post) b ≡ c.len
unfolding len_at
len_at_lem [] c post b l e = rw (eq-eqb b 0 e) refl
len_at_lem (d ∷ pre) c post b l e = let a = l.0 in rw (ne_eqb b 0 (omega arith)) (len_at_lem pre c post (b - d.len) l.2 (omega arith))

pub index_at_lem : (pre : List Chunk) (c : Chunk) (post : List Chunk) (b : ℕ) → Legal pre → b ≡ total pre → index_at (pre ++ c ∷ post) b ≡ length pre
unfolding index_at
index_at_lem [] c post b l e = rw (eq-eqb b 0 e) refl
index_at_lem (d ∷ pre) c post b l e = let a = l.0 in rw (ne_eqb b 0 (omega arith)) (ap suc (index_at_lem pre c post (b - d.len) l.2 (omega arith)))

pub header_len : (h n u l : ℕ) → n % 8 ≡ 0 → u ≤ 1 → l ≤ 1 → h ≡ n + 2 * u + l → h / 4 * 4 ≡ n
header_len h n u l n8 hu hl e = let k : h / 4 ≡ 2 * (n / 8) = omega arith in omega arith

pub header_used : (h n u l : ℕ) → n % 8 ≡ 0 → u ≤ 1 → l ≤ 1 → h ≡ n + 2 * u + l → h / 2 % 2 ≡ u
header_used h n u l n8 hu hl e =
    let k : h / 2 ≡ 2 * (n / 8) * 2 + u = omega arith in
    ap (λ (x : ℕ). x % 2) k ∙ digits_mod (2 * (n / 8)) (omega arith)

-- the code's walk is `used_at` of the tiling, whatever the headers
pub used_tile : (f : ℕ → ℕ) (fuel e b : ℕ) → used_walk f fuel e b ≡ used_at (tile f fuel e) b
unfolding used_walk used_at tile
used_tile f zero e b = refl
used_tile f (suc fuel) e b =
    rw (used_tile f fuel (e + f (e / 4) / 4 * 4) (b - f (e / 4) / 4 * 4)) (go (eqb (f (e / 4) / 4 * 4) 0) (eqb (f (e / 4) / 2 % 2) 0))
  where
    n : ℕ
    n = f (e / 4) / 4 * 4

    rest : List Chunk
    rest = tile f fuel (e + n)

    go : (t v : Bool) → pick t 0 (pick (eqb b 0) (pick v 0 n) (pick (leb n b) (used_at rest (b - n)) 0))
        ≡ used_at (pick t [] (record { len = n; used = pick v false true } ∷ rest)) b
    go true v = refl
    go false true = refl
    go false false = refl

-- where there is a length a used chunk begins
pub used_at_lem : (cs : List Chunk) (b : ℕ) → used_at cs b ≢ 0 → UsedAt cs b (used_at cs b)
unfolding used_at
used_at_lem [] b h = absurd (h refl)
used_at_lem (c ∷ cs) b h = go (eqb b 0) refl c.used refl (leb c.len b) refl h (λ k. used_at_lem cs (b - c.len) k)
  where
    r : ℕ
    r = used_at cs (b - c.len)

    go : (t : Bool) → eqb b 0 ≡ t → (u : Bool) → c.used ≡ u → (v : Bool) → leb c.len b ≡ v → pick t (pick u c.len 0) (pick v r 0) ≢ 0
        → (r ≢ 0 → UsedAt cs (b - c.len) r) → UsedAt (c ∷ cs) b (pick t (pick u c.len 0) (pick v r 0))
    go true e true d v g k f = record { pre = []; post = cs; is = λ i. record { len = c.len; used = d i } ∷ cs; byte = eqb-true b 0 e }
    go true e false d v g k f = absurd (k refl)
    go false e u d false g k f = absurd (k refl)
    go false e u d true g k f =
        let q = f k in
        let h = leb-true c.len b g in
        let y = q.byte in
        record { pre = c ∷ q.pre; post = q.post; is = ap (λ (x : List Chunk). c ∷ x) q.is; byte = omega arith }

-- a used chunk past a front part
pub used_skip : (pre cs : List Chunk) (c : ℕ) → Legal pre → total pre ≤ c → used_at (pre ++ cs) c ≡ used_at cs (c - total pre)
unfolding used_at
used_skip [] cs c l h = ap (used_at cs) (sym (sub-zero c))
used_skip (d ∷ pre) cs c l h =
    let a = l.0 in
    let e : c - d.len - total pre ≡ c - (d.len + total pre) = omega arith in
    rw (ne_eqb c 0 (omega arith), le-leb d.len c (omega arith)) (used_skip pre cs (c - d.len) l.2 (omega arith) ∙ ap (used_at cs) e)
