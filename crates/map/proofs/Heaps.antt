-- THE MAP OF A HEAP: rows tell the chunks, and the map of a sound state's chunks is legal. Assumes nothing.
--     chunks_of_map     the rows of chunks tell those chunks
--     in_line_lem           they stand in line
--     few_cached        no more of them are cached than the cache holds
--     cached_same       of two caches with the same map, what one holds the other holds
--     map_legal         the map of legal chunks is legal
--     chunks_shown      the headers of a sound state give its model's chunks, for any edition
use mathlib.Core.Path.{◌≡◌, refl, sym, ap, ◌∙◌}
use mathlib.Core.Bool.{Bool, true, false, not}
use mathlib.Core.List.{List, [], ◌∷◌}
use Prim.Native.Nat.{ℕ, suc, ◌+◌, ◌-◌, ◌*◌, ◌≤◌, ◌<◌}
use native.Mathlib.Omega.{arith}
use lib.Dec.{eqb, leb}
use lib.ListN.{length}
use borrow.Author.Tests.{eqb-true, leb-true, le-leb, lt-leb}
use Rattle.words.specs.Choice.{pick, bit}
use Rattle.rules.specs.Rules.Chunks.{Chunk, total, Legal, Calm}
use Rattle.rules.specs.Rules.Ops.{Ops}
use Rattle.rules.specs.Rules.Lists.{Mem}
use Rattle.rules.specs.Rules.Place.{used_at, tile}
use Rattle.rules.specs.Rules.Calls.{Figures, byte_of, name_of, listed}
use Rattle.rules.specs.Sound.Model.{Model}
use Rattle.rules.specs.Sound.Sound.{Accepted, CacheRight, Shows}
use Rattle.rules.specs.Sound.Test.{candidate}
use Rattle.rules.proofs.Steps.Store.{Edition}
use Rattle.rules.proofs.Demands.Cache.{listed_true, listed_false}
use Rattle.rules.proofs.Demands.Decide.{shows_candidate, layout_unique}
use Rattle.map.specs.declared.kind.ChunkKind.{ChunkKind}
use Rattle.map.specs.declared.kind.ChunkKind.TheVariants.{Free, Live, Cached}
use Rattle.map.specs.declared.rows.Row.{Row}
use Rattle.map.specs.Rows.{is_free, is_cached}
use Rattle.map.specs.Layout.{map_of, chunks_of, cached_in, InLine, LegalMap}

-- ---- kinds

-- a kind tells whether the chunk is used
kind_used : (u l : Bool) → not (is_free (pick u (pick l Cached Live) Free)) ≡ u
kind_used true true = refl
kind_used true false = refl
kind_used false l = refl

-- and is cached only where the cache lists it
kind_cached : (u l : Bool) → bit (is_cached (pick u (pick l Cached Live) Free)) ≤ bit l
kind_cached true true = omega arith
kind_cached true false = omega arith
kind_cached false true = omega arith
kind_cached false false = omega arith

-- ---- rows of chunks

-- they tell those chunks
pub chunks_of_map : (ks : List ℕ) (b : ℕ) (cs : List Chunk) → chunks_of (map_of ks b cs) ≡ cs
unfolding map_of chunks_of
chunks_of_map ks b [] = refl
chunks_of_map ks b (c ∷ cs) =
    let e = kind_used c.used (listed (name_of b) ks) in
    let r = chunks_of_map ks (b + c.len) cs in
    λ i. record { len = c.len; used = e i } ∷ r i

-- they stand in line
pub in_line_lem : (ks : List ℕ) (b : ℕ) (cs : List Chunk) → InLine b (map_of ks b cs)
unfolding map_of
in_line_lem ks b [] = tt
in_line_lem ks b (c ∷ cs) = (refl, in_line_lem ks (b + c.len) cs)

-- how many of ks are x or more
unfoldable above : ℕ → List ℕ → ℕ
above x [] = 0
above x (k ∷ ks) = bit (leb x k) + above x ks

bit_one : (t : Bool) → bit t ≤ 1
bit_one true = omega arith
bit_one false = omega arith

above_few : (x : ℕ) (ks : List ℕ) → above x ks ≤ length ks
unfolding above
above_few x [] = omega arith
above_few x (k ∷ ks) = omega (arith, bit_one (leb x k), above_few x ks)

-- y or more is x or more
bit_less : (x y k : ℕ) → x ≤ y → bit (leb y k) ≤ bit (leb x k)
bit_less x y k h = go (leb y k) refl
  where
    go : (t : Bool) → leb y k ≡ t → bit t ≤ bit (leb x k)
    go true e = rw (le-leb x k (omega (arith, leb-true y k e))) (omega arith)
    go false e = omega arith

above_less : (x y : ℕ) (ks : List ℕ) → x ≤ y → above y ks ≤ above x ks
unfolding above
above_less x y [] h = omega arith
above_less x y (k ∷ ks) h = omega (arith, bit_less x y k h, above_less x y ks h)

-- x itself is one more
above_more : (x y : ℕ) (ks : List ℕ) → x < y → listed x ks ≡ true → suc (above y ks) ≤ above x ks
unfolding above listed
above_more x y [] h e = absurd (let z : ◌≡◌ {A = ℕ} 0 1 = cc in omega arith)
above_more x y (k ∷ ks) h e = go (λ f. above_more x y ks h f) (eqb x k) refl e
  where
    go : (listed x ks ≡ true → suc (above y ks) ≤ above x ks) → (t : Bool) → eqb x k ≡ t → pick t true (listed x ks) ≡ true
        → suc (bit (leb y k) + above y ks) ≤ bit (leb x k) + above x ks
    go ih true q e =
        let s = eqb-true x k q in
        let a : leb y k ≡ false = lt-leb y k (omega arith) in
        let b : leb x k ≡ true = le-leb x k (omega arith) in
        let m = above_less x y ks (omega arith) in
        rw (a, b) (omega arith)
    go ih false q e = omega (arith, ih e, bit_less x y k (omega arith))

above_listed : (x y : ℕ) (ks : List ℕ) → x < y → bit (listed x ks) + above y ks ≤ above x ks
above_listed x y ks h = go (listed x ks) refl
  where
    go : (t : Bool) → listed x ks ≡ t → bit t + above y ks ≤ above x ks
    go true e = omega (arith, above_more x y ks h e)
    go false e = omega (arith, above_less x y ks (omega arith))

-- each cached row is one of ks, and those after it are others: their names are larger
few_above : (ks : List ℕ) (b : ℕ) (cs : List Chunk) → Legal cs → cached_in (map_of ks b cs) ≤ above (name_of b) ks
unfolding map_of cached_in
few_above ks b [] l = omega arith
few_above ks b (c ∷ cs) l =
    let n : 16 ≤ c.len = l.0 in
    let more : name_of b < name_of (b + c.len) = omega arith in
    omega (arith, kind_cached c.used (listed (name_of b) ks), few_above ks (b + c.len) cs l.2, above_listed (name_of b) (name_of (b + c.len)) ks more)

-- no more rows are cached than the cache holds
pub few_cached : (ks : List ℕ) (b : ℕ) (cs : List Chunk) → Legal cs → cached_in (map_of ks b cs) ≤ length ks
few_cached ks b cs l = omega (arith, few_above ks b cs l, above_few (name_of b) ks)

-- ---- the map tells the cache

-- of two caches that give a used chunk the same kind, both list it or neither
kind_tells : (k j : Bool) → pick k Cached Live ≡ pick j Cached Live → k ≡ j
kind_tells true true e = refl
kind_tells true false e = cc
kind_tells false true e = cc
kind_tells false false e = refl

-- the first row's kind, and the rows after it
abbrev first_kind : List Row → ChunkKind
first_kind [] = Free
first_kind (r ∷ rs) = r.kind

abbrev others : List Row → List Row
others [] = []
others (r ∷ rs) = rs

-- so where the maps are the same, they list the same used chunks
listed_same : (ks js : List ℕ) (b : ℕ) (cs : List Chunk) (d : ℕ) → map_of ks b cs ≡ map_of js b cs → 0 < used_at cs d
    → listed (name_of (b + d)) ks ≡ listed (name_of (b + d)) js
unfolding map_of used_at
listed_same ks js b [] d e h = absurd (omega arith)
listed_same ks js b (c ∷ cs) d e h =
    go (λ f. listed_same ks js (b + c.len) cs (d - c.len) (ap others e) f) (eqb d 0) refl (leb c.len d) refl c.used h (ap first_kind e)
  where
    go : (0 < used_at cs (d - c.len) → listed (name_of (b + c.len + (d - c.len))) ks ≡ listed (name_of (b + c.len + (d - c.len))) js)
        → (t : Bool) → eqb d 0 ≡ t → (l : Bool) → leb c.len d ≡ l → (u : Bool) → 0 < pick t (pick u c.len 0) (pick l (used_at cs (d - c.len)) 0)
        → pick u (pick (listed (name_of b) ks) Cached Live) Free ≡ pick u (pick (listed (name_of b) js) Cached Live) Free
        → listed (name_of (b + d)) ks ≡ listed (name_of (b + d)) js
    go ih true q l p true f k =
        let z = eqb-true d 0 q in
        let n : b + d ≡ b = omega arith in
        rw n (kind_tells (listed (name_of b) ks) (listed (name_of b) js) k)
    go ih true q l p false f k = absurd (omega arith)
    go ih false q true p u f k = let z = leb-true c.len d p in let n : b + d ≡ b + c.len + (d - c.len) = omega arith in rw n (ih f)
    go ih false q false p u f k = absurd (omega arith)

-- and what one cache holds, the other holds too
pub cached_same : (places : ℕ) (ks js : List ℕ) (cs : List Chunk) → CacheRight places ks cs → map_of ks 0 cs ≡ map_of js 0 cs
    → (x : ℕ) → Mem x ks → Mem x js
cached_same places ks js cs r e x m = go (listed x ks) refl
  where
    same : listed x ks ≡ listed x js
    same =
        let u = r.used x m in
        let n : name_of (0 + byte_of x) ≡ x = omega (arith, u.0) in
        rw n at (listed_same ks js 0 cs (byte_of x) e u.1)

    go : (t : Bool) → listed x ks ≡ t → Mem x js
    go true q = listed_true x js (sym same ∙ q)
    go false q = absurd (listed_false x ks q m)

-- ---- the map is legal

pub map_legal : (most places n : ℕ) (ks : List ℕ) (cs : List Chunk) → Accepted most n → total cs ≡ 4 * (n - 1) → Legal cs → Calm cs → length ks ≤ places
    → LegalMap most places (map_of ks 0 cs)
map_legal most places n ks cs a f l c r =
    let e = chunks_of_map ks 0 cs in
    record {
      words = n;
      accepted = a;
      fills = ap total e ∙ f;
      in_line = in_line_lem ks 0 cs;
      legal = rw e l;
      calm = rw e c;
      cached = omega (arith, few_cached ks 0 cs l);
    }

-- ---- what a sound state's headers give

module _ {S : Type 0} {op : Ops S Figures} {most places : ℕ} (E : Edition op most places) (s : S) (m : Model) (h : Shows op most places s m) where
  pub chunks_shown : tile (op.word s) (op.count s) 0 ≡ m.cs
  unfolding candidate
  chunks_shown = layout_unique E s (candidate op most places s) m (shows_candidate E s m h) h

  pub map_shown : (ks : List ℕ) → length ks ≤ places → LegalMap most places (map_of ks 0 m.cs)
  map_shown ks r = map_legal most places (op.count s) ks m.cs h.accepted h.fills h.legal h.calm r
