-- THE LONGEST FREE CHUNK: letting chunks go makes it no shorter, since a free chunk stays one or becomes part of one. So what does not fit after the cache is
-- emptied did not fit before. Assumes nothing.
use mathlib.Core.Path.{refl, sym, subst}
use mathlib.Core.Bool.{Bool, true, false}
use mathlib.Core.List.Memᴰ
use mathlib.Core.List.{List, [], ◌∷◌, ◌++◌}
use Prim.Native.Nat.{ℕ, zero, suc, ◌+◌, ◌/◌, max, ◌≤◌, ◌<◌}
use native.Mathlib.Omega.{arith}
use Rattle.words.specs.Choice.{pick}
use Rattle.rules.specs.Rules.Lists.{Mem}
use Rattle.rules.specs.Rules.Chunks.{Chunk, free, join, release}
use Rattle.rules.specs.Sound.Exact.{slot, frees}
use Rattle.rules.specs.Rules.Place.{index_at}
use Rattle.rules.proofs.Tiling.Place.{free_at}
use Rattle.rules.specs.Rules.Calls.{byte_of}
use Rattle.rules.specs.Sound.Model.{Model}
use Rattle.rules.specs.Machine.Machine.{gave_m, empty_cache_m, without_cache_m}
use Rattle.rules.specs.Demands.FreeRuns.{longest}
use Rattle.rules.proofs.Demands.Released.{let_go_m}

join_longest : (c : Chunk) (cs : List Chunk) → longest (c ∷ cs) ≤ longest (join c cs)
unfolding join
join_longest c [] = omega arith
join_longest c (d ∷ cs) = go c.used d.used
  where
    go : (u v : Bool) → max (pick u 0 c.len) (max (pick v 0 d.len) (longest cs))
        ≤ longest (pick (pick u true v) (record { len = c.len; used = u } ∷ record { len = d.len; used = v } ∷ cs) (free (c.len + d.len) ∷ cs))
    go true v = omega arith
    go false true = omega arith
    go false false = omega arith

-- RELEASING a chunk makes the longest free one no shorter
pub release_longest : (cs : List Chunk) (i : ℕ) → longest cs ≤ longest (release cs i)
unfolding release
release_longest [] i = omega arith
release_longest (c ∷ cs) zero = go c.used (join_longest (free c.len) cs)
  where
    go : (u : Bool) → max c.len (longest cs) ≤ longest (join (free c.len) cs) → max (pick u 0 c.len) (longest cs) ≤ longest (join (free c.len) cs)
    go true h = omega arith
    go false h = omega arith
release_longest (c ∷ cs) (suc i) = let a = join_longest c (release cs i) in let b = release_longest cs i in omega arith

-- nor does emptying the cache
pub empty_cache_longest : (ks : List ℕ) (m : Model) → longest m.cs ≤ longest (empty_cache_m m ks).cs
unfolding empty_cache_m gave_m
empty_cache_longest [] m = omega arith
empty_cache_longest (k ∷ ks) m =
    let a = release_longest m.cs (index_at m.cs (byte_of k)) in
    let b = empty_cache_longest ks (let_go_m m k ks) in
    omega arith

-- against the free chunks by name: none is longer, and where all are shorter than t so is the longest
pub free_longest : (b : ℕ) (cs : List Chunk) (x n : ℕ) → Mem (slot x n) (frees b cs) → n ≤ longest cs
free_longest b cs x n i = let f = free_at b cs (slot x n) i in subst (λ ds. n ≤ longest ds) (sym f.is) (has f.pre f.post)
  where
    has : (pre post : List Chunk) → n ≤ longest (pre ++ free n ∷ post)
    has [] post = omega arith
    has (c ∷ pre) post = let a = has pre post in omega arith

pub longest_short : (b t : ℕ) (cs : List Chunk) → 0 < t → ((x n : ℕ) → Mem (slot x n) (frees b cs) → n < t) → longest cs < t
unfolding frees
longest_short b t [] p f = p
longest_short b t (c ∷ cs) p f = go c.used f (λ g. longest_short (b + c.len) t cs p g)
  where
    go : (u : Bool) → ((x n : ℕ) → Mem (slot x n) (pick u (frees (b + c.len) cs) (slot (b / 4 + 6) c.len ∷ frees (b + c.len) cs)) → n < t)
        → (((x n : ℕ) → Mem (slot x n) (frees (b + c.len) cs) → n < t) → longest cs < t) → max (pick u 0 c.len) (longest cs) < t
    go true g r = let a = r g in omega arith
    go false g r = let a = r (λ x n i. g x n (Memᴰ.tail i)) in let h = g (b / 4 + 6) c.len (Memᴰ.head refl) in omega arith

-- NO FIT AFTER EMPTYING IS NO FIT BEFORE: where every free chunk of the merged layout is shorter than t, every free chunk is
pub none_before : (m : Model) (t : ℕ) → 0 < t → ((x n : ℕ) → Mem (slot x n) (frees 0 (without_cache_m m).cs) → n < t) → (x n : ℕ)
    → Mem (slot x n) (frees 0 m.cs) → n < t
none_before m t p f x n i =
    let a = free_longest 0 m.cs x n i in
    let b = empty_cache_longest m.figs.cached m in
    let c = longest_short 0 t (without_cache_m m).cs p f in
    omega arith
