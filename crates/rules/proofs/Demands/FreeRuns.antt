-- WHAT EMPTYING THE CACHE MAKES, seen in the layout: the free chunks of the merged layout are the runs of touching chunks that are free or cached, each with
-- its place and its length. So a person sees from the chunks alone what could be served. Assumes nothing.
use mathlib.Core.Path.{◌≡◌, refl, sym, ap, ◌∙◌, subst}
use mathlib.Core.Logic.{◌⊎◌, inl, inr}
use mathlib.Core.Bool.{Bool, true, false}
use mathlib.Core.List.Memᴰ
use mathlib.Core.List.{List, [], ◌∷◌, ◌++◌}
use Prim.Native.Nat.{ℕ, ◌+◌, ◌-◌, ◌*◌, ◌%◌, max, ◌≤◌, ◌<◌}
use native.Mathlib.Omega.{arith}
use native.Mathlib.Nat.{add_assoc, add-zero, zero-add}
use lib.Dec.{eqb}
use lib.ListN.{length}
use borrow.Author.Tests.{eqb-true, eq-eqb, ne_eqb}
use Rattle.words.specs.Choice.{pick}
use Rattle.words.specs.Sizes.{rounded_of, threshold_of}
use Rattle.words.proofs.Laws.Sizes.{threshold_from}
use Rattle.rules.specs.Rules.Lists.{Mem}
use Rattle.rules.specs.Rules.Ops.{Ops}
use Rattle.rules.specs.Rules.Chunks.{Chunk, free, busy, total, Legal, Calm, used_head, join, release}
use Rattle.rules.specs.Sound.Exact.{Slot, slot, frees}
use Rattle.rules.specs.Rules.Calls.{Figures, byte_of, name_of, listed, let_go}
use Rattle.rules.specs.Sound.Model.{Model}
use Rattle.rules.specs.Machine.Machine.{gave_m, empty_cache_m, without_cache_m}
use Rattle.rules.specs.Demands.FreeRuns.{ended, longest_run, runs_from, free_runs, greatest, longest, Inside}
use Rattle.rules.specs.Sound.Sound.{Shows}
use Rattle.rules.specs.Demands.Meaning.{NoneServes, hand}
use Rattle.rules.proofs.Steps.Part.{legal_front, legal_back}
use Rattle.rules.proofs.Tiling.Place.{free_at}
use Rattle.rules.proofs.Tiling.Named.{byte_at}
use Rattle.rules.proofs.Steps.Store.{Edition}
use Rattle.rules.proofs.Demands.Longest.{free_longest, longest_short}
use Rattle.rules.proofs.Demands.Released.{let_go_m, oldest, oldest_gone_lem}
use Rattle.rules.proofs.Demands.LetGo.{place}
use Rattle.rules.proofs.Demands.Answers.{no_fit-exact}

-- nothing cached and no two free chunks touch: a run is a free chunk
runs_free : (e a : ℕ) (cs : List Chunk) → Legal cs → Calm cs → (a ≡ 0) ⊎ (used_head cs ≡ true) → runs_from [] e a cs ≡ ended e a (frees (e + a) cs)
unfolding runs_from listed frees
runs_free e a [] l k h = refl
runs_free e a (c ∷ cs) l k h = go c.used h k.0 (λ d b q. runs_free d b cs l.2 k.1 q)
  where
    go : (u : Bool) → (a ≡ 0) ⊎ (u ≡ true) → pick u true (used_head cs) ≡ true
        → ((d b : ℕ) → (b ≡ 0) ⊎ (used_head cs ≡ true) → runs_from [] d b cs ≡ ended d b (frees (d + b) cs))
        → pick (pick u false true) (runs_from [] e (a + c.len) cs) (ended e a (runs_from [] (e + a + c.len) 0 cs))
        ≡ ended e a (pick u (frees (e + a + c.len) cs) (slot (name_of (e + a)) c.len ∷ frees (e + a + c.len) cs))
    go true q i f = ap (ended e a) (f (e + a + c.len) 0 (inl refl) ∙ ap (λ (b : ℕ). frees b cs) (add-zero (e + a + c.len)))
    go false (inl q) i f =
        let p : 16 ≤ c.len = l.0 in
        rw (q, f e (0 + c.len) (inr i), zero-add c.len, add-zero e, ne_eqb c.len 0 (omega arith)) refl
    go false (inr q) i f = absurd (let z : ◌≡◌ {A = ℕ} 0 1 = cc in omega arith)

-- two free chunks that become one: the runs stay
runs_join : (ks : List ℕ) (e a : ℕ) (c : Chunk) (cs : List Chunk) → runs_from ks e a (join c cs) ≡ runs_from ks e a (c ∷ cs)
unfolding runs_from join
runs_join ks e a c [] = refl
runs_join ks e a c (d ∷ cs) = go c.used d.used
  where
    go : (u v : Bool)
        → runs_from ks e a (pick (pick u true v) (record { len = c.len; used = u } ∷ record { len = d.len; used = v } ∷ cs) (free (c.len + d.len) ∷ cs))
        ≡ runs_from ks e a (record { len = c.len; used = u } ∷ record { len = d.len; used = v } ∷ cs)
    go true v = refl
    go false true = refl
    go false false = rw (← (add_assoc a c.len d.len)) refl

-- past the chunk k it does not matter whether k is cached
runs_past : (k : ℕ) (ks : List ℕ) (e a : ℕ) (cs : List Chunk) → byte_of k + 4 ≤ e + a → 6 ≤ k → runs_from (k ∷ ks) e a cs ≡ runs_from ks e a cs
unfolding runs_from listed
runs_past k ks e a [] h k6 = refl
runs_past k ks e a (c ∷ cs) h k6 =
    rw (ne_eqb (name_of (e + a)) k (omega arith), runs_past k ks e (a + c.len) cs (omega arith) k6, runs_past k ks (e + a + c.len) 0 cs (omega arith) k6) refl

-- A CACHED CHUNK RELEASED: the runs stay
runs_gone : (k : ℕ) (ks : List ℕ) (e a : ℕ) (pre : List Chunk) (n : ℕ) (post : List Chunk) → byte_of k ≡ e + a + total pre → (e + a) % 8 ≡ 0 → 6 ≤ k
    → Legal (pre ++ busy n ∷ post)
    → runs_from (k ∷ ks) e a (pre ++ busy n ∷ post) ≡ runs_from ks e a (release (pre ++ busy n ∷ post) (length pre))
unfolding runs_from listed release
runs_gone k ks e a [] n post q b8 k6 l =
    let p : 16 ≤ n = l.0 in
    rw (eq-eqb (name_of (e + a)) k (omega arith)) (runs_past k ks e (a + n) post (omega arith) k6) ∙ sym (runs_join ks e a (free n) post)
runs_gone k ks e a (c ∷ pre) n post q b8 k6 l =
    let p : 16 ≤ c.len = l.0 in
    let r : c.len % 8 ≡ 0 = l.1 in
    let on = runs_gone k ks e (a + c.len) pre n post (omega arith) (omega arith) k6 l.2 in
    let off = runs_gone k ks (e + a + c.len) 0 pre n post (omega arith) (omega arith) k6 l.2 in
    rw (ne_eqb (name_of (e + a)) k (omega arith), on, off) refl ∙ sym (runs_join ks e a c (release (pre ++ busy n ∷ post) (length pre)))

-- A RUN HOLDS ITS CHUNKS: a run of a bytes that has begun at byte e lies inside one of the runs
run_grows : (ks : List ℕ) (e a : ℕ) (cs : List Chunk) → 0 < a → Inside (runs_from ks e a cs) e a
unfolding runs_from
run_grows ks e a [] p = rw (ne_eqb a 0 (omega arith)) (e, a, Memᴰ.head refl, omega arith, omega arith)
run_grows ks e a (c ∷ cs) p = go (pick c.used (listed (name_of (e + a)) ks) true) (run_grows ks e (a + c.len) cs (omega arith))
  where
    go : (t : Bool) → Inside (runs_from ks e (a + c.len) cs) e (a + c.len)
        → Inside (pick t (runs_from ks e (a + c.len) cs) (ended e a (runs_from ks (e + a + c.len) 0 cs))) e a
    go true r = let u = r.4 in (r.0, r.1, r.2, r.3, omega arith)
    go false r = rw (ne_eqb a 0 (omega arith)) (e, a, Memᴰ.head refl, omega arith, omega arith)

-- and so does a chunk that is free or cached
run_holds : (ks : List ℕ) (e a : ℕ) (pre : List Chunk) (c : Chunk) (post : List Chunk) → pick c.used (listed (name_of (e + a + total pre)) ks) true ≡ true
    → 0 < c.len → Inside (runs_from ks e a (pre ++ c ∷ post)) (e + a + total pre) c.len
unfolding runs_from
run_holds ks e a [] c post o p =
    let z : e + a + 0 ≡ e + a = add-zero (e + a) in
    let o' : pick c.used (listed (name_of (e + a)) ks) true ≡ true = ap (λ (b : ℕ). pick c.used (listed (name_of b) ks) true) (sym z) ∙ o in
    rw o' (let r = run_grows ks e (a + c.len) post (omega arith) in let u = r.3 in let v = r.4 in (r.0, r.1, r.2, omega arith, omega arith))
run_holds ks e a (d ∷ pre) c post o p =
    let x : e + (a + d.len) + total pre ≡ e + a + (d.len + total pre) = omega arith in
    let y : e + a + d.len + 0 + total pre ≡ e + a + (d.len + total pre) = omega arith in
    go (pick d.used (listed (name_of (e + a)) ks) true)
    (run_holds ks e (a + d.len) pre c post (ap (λ (b : ℕ). pick c.used (listed (name_of b) ks) true) x ∙ o) p)
    (run_holds ks (e + a + d.len) 0 pre c post (ap (λ (b : ℕ). pick c.used (listed (name_of b) ks) true) y ∙ o) p)
  where
    behind : (t : Bool) (F : List Slot) → Inside F (e + a + d.len + 0 + total pre) c.len
        → Inside (pick t F (slot (name_of e) a ∷ F)) (e + a + (d.len + total pre)) c.len
    behind true F r = let u = r.3 in let v = r.4 in (r.0, r.1, r.2, omega arith, omega arith)
    behind false F r = let u = r.3 in let v = r.4 in (r.0, r.1, Memᴰ.tail r.2, omega arith, omega arith)

    go : (t : Bool) → Inside (runs_from ks e (a + d.len) (pre ++ c ∷ post)) (e + (a + d.len) + total pre) c.len
        → Inside (runs_from ks (e + a + d.len) 0 (pre ++ c ∷ post)) (e + a + d.len + 0 + total pre) c.len
        → Inside (pick t (runs_from ks e (a + d.len) (pre ++ c ∷ post)) (ended e a (runs_from ks (e + a + d.len) 0 (pre ++ c ∷ post))))
        (e + a + (d.len + total pre)) c.len
    go true r q = let u = r.3 in let v = r.4 in (r.0, r.1, r.2, omega arith, omega arith)
    go false r q = behind (eqb a 0) (runs_from ks (e + a + d.len) 0 (pre ++ c ∷ post)) q

-- the longest free chunk is the greatest of the free lengths
pub longest_greatest : (b : ℕ) (cs : List Chunk) → greatest (frees b cs) ≡ longest cs
unfolding frees
longest_greatest b [] = refl
longest_greatest b (c ∷ cs) = go c.used (longest_greatest (b + c.len) cs)
  where
    go : (u : Bool) → greatest (frees (b + c.len) cs) ≡ longest cs
        → greatest (pick u (frees (b + c.len) cs) (slot (name_of b) c.len ∷ frees (b + c.len) cs)) ≡ max (pick u 0 c.len) (longest cs)
    go true r = omega arith
    go false r = omega arith

-- the greatest length of a run and others
greatest_ended : (e a : ℕ) (F : List Slot) → greatest (ended e a F) ≡ max a (greatest F)
greatest_ended e a F = go (eqb a 0) refl
  where
    go : (t : Bool) → eqb a 0 ≡ t → greatest (pick t F (slot (name_of e) a ∷ F)) ≡ max a (greatest F)
    go true q = let z = eqb-true a 0 q in omega arith
    go false q = refl

-- the longest run is the greatest of the runs' lengths
longest_among : (ks : List ℕ) (e a : ℕ) (cs : List Chunk) → longest_run ks (e + a) a cs ≡ greatest (runs_from ks e a cs)
unfolding longest_run runs_from
longest_among ks e a [] = let r = greatest_ended e a [] in omega arith
longest_among ks e a (c ∷ cs) =
    let on = ap (λ (b : ℕ). longest_run ks b (a + c.len) cs) (add_assoc e a c.len) ∙ longest_among ks e (a + c.len) cs in
    let off = ap (λ (b : ℕ). longest_run ks b 0 cs) (sym (add-zero (e + a + c.len))) ∙ longest_among ks (e + a + c.len) 0 cs in
    rw (on, off) (go (pick c.used (listed (name_of (e + a)) ks) true))
  where
    go : (t : Bool) → pick t (greatest (runs_from ks e (a + c.len) cs)) (max a (greatest (runs_from ks (e + a + c.len) 0 cs)))
        ≡ greatest (pick t (runs_from ks e (a + c.len) cs) (ended e a (runs_from ks (e + a + c.len) 0 cs)))
    go true = refl
    go false = sym (greatest_ended e a (runs_from ks (e + a + c.len) 0 cs))

module _ {S : Type 0} {op : Ops S Figures} {most places : ℕ} (E : Edition op most places) where
  abbrev Sh : S → Model → Type 0
  Sh = Shows op most places

  emptied_runs : (ks : List ℕ) (s : S) (m : Model) → Sh s m → m.figs.cached ≡ ks → runs_from ks 0 0 m.cs ≡ frees 0 (empty_cache_m m ks).cs
  unfolding empty_cache_m gave_m
  emptied_runs [] s m h e = runs_free 0 0 m.cs h.legal h.calm (inl refl)
  emptied_runs (k ∷ ks) s m h e =
      let u = oldest E s m k ks h e in
      let p = place m k ks h.legal u.0 u.1 in
      let b = p.byte in
      ap (runs_from (k ∷ ks) 0 0) p.was ∙ runs_gone k ks 0 0 p.pre p.size p.post (omega arith) refl u.0 p.legal
      ∙ ap (runs_from ks 0 0) (sym p.is)
      ∙ emptied_runs ks (let_go op s (op.rest s).in_use k ks) (let_go_m m k ks) (oldest_gone_lem E s m k ks h e) refl

  -- THE FREE CHUNKS OF THE MERGED LAYOUT ARE THE RUNS, by place and length
  pub runs_are_free : (s : S) (m : Model) → Sh s m → free_runs m ≡ frees 0 (without_cache_m m).cs
  runs_are_free s m h = emptied_runs m.figs.cached s m h refl

  -- so its longest free chunk is the longest run
  pub longest_run_lem : (s : S) (m : Model) → Sh s m → greatest (free_runs m) ≡ longest (without_cache_m m).cs
  longest_run_lem s m h = ap greatest (runs_are_free s m h) ∙ longest_greatest 0 (without_cache_m m).cs

  -- NO FIT BY RUNS: every free chunk of the merged layout is shorter than t exactly if every run is
  pub runs_short : (s : S) (m : Model) (t : ℕ) → Sh s m
      → (((x n : ℕ) → Mem (slot x n) (frees 0 (without_cache_m m).cs) → n < t) → (x n : ℕ) → Mem (slot x n) (free_runs m) → n < t)
      × (((x n : ℕ) → Mem (slot x n) (free_runs m) → n < t) → (x n : ℕ) → Mem (slot x n) (frees 0 (without_cache_m m).cs) → n < t)
  runs_short s m t h =
      let e = runs_are_free s m h in
      (λ f x n i. f x n (subst (Mem (slot x n)) e i), λ f x n i. f x n (subst (Mem (slot x n)) (sym e) i))

  -- and exactly if the longest run is
  pub longest_run_short : (s : S) (m : Model) (t : ℕ) → Sh s m → 0 < t
      → (((x n : ℕ) → Mem (slot x n) (frees 0 (without_cache_m m).cs) → n < t) → greatest (free_runs m) < t)
      × (greatest (free_runs m) < t → (x n : ℕ) → Mem (slot x n) (frees 0 (without_cache_m m).cs) → n < t)
  longest_run_short s m t h p =
      let e = longest_run_lem s m h in (
        λ f. let a = longest_short 0 t (without_cache_m m).cs p f in omega arith,
        λ q x n i. let a = free_longest 0 (without_cache_m m).cs x n i in omega arith,
      )

  -- NO FIT, SEEN IN THE LAYOUT, where it may ever fit: 3 exactly where no cached chunk serves and the longest run does not reach the threshold
  pub no_fit-by_runs : (s : S) (m : Model) → Sh s m → (size : ℕ) → 0 < size → size ≤ 4294967284
      → let z = rounded_of size in
      threshold_of z ≤ 4 * (m.figs.words - 1)
      → ((hand op most places s size).number ≡ 3 → NoneServes m z × (longest_run m.figs.cached 0 0 m.cs < threshold_of z))
      × (NoneServes m z × (longest_run m.figs.cached 0 0 m.cs < threshold_of z) → (hand op most places s size).number ≡ 3)
  no_fit-by_runs s m h size lo hi may =
      let t = threshold_from (rounded_of size) in
      let e = longest_among m.figs.cached 0 0 m.cs ∙ longest_run_lem s m h in
      let k = no_fit-exact E s m h size lo hi in (
        λ n. let f = k.0 n in let g = longest_short 0 (threshold_of (rounded_of size)) (without_cache_m m).cs (omega arith) f.lists in (f.cache, omega arith),
        λ f. let q = f.1 in
            k.1 (record { may = may; cache = f.0; lists = λ x n i. (let g = free_longest 0 (without_cache_m m).cs x n i in omega arith) }),
      )

  -- EVERY FREE CHUNK LIES INSIDE one of the merged layout
  pub free_inside : (s : S) (m : Model) → Sh s m → (x n : ℕ) → Mem (slot x n) (frees 0 m.cs) → Inside (frees 0 (without_cache_m m).cs) (byte_of x) n
  free_inside s m h x n i =
      let f = free_at 0 m.cs (slot x n) i in
      let l = subst Legal f.is h.legal in
      let lp = legal_front f.pre (free n ∷ f.post) l in
      let n16 : 16 ≤ n = (legal_back f.pre (free n ∷ f.post) l).0 in
      let b = byte_at f.pre x lp f.named in
      let r = run_holds m.figs.cached 0 0 f.pre (free n) f.post refl (omega arith) in
      let q = subst (λ F. Inside F (0 + 0 + total f.pre) n) (ap (runs_from m.figs.cached 0 0) (sym f.is) ∙ runs_are_free s m h) r in
      let u = q.3 in
      let v = q.4 in
      (q.0, q.1, q.2, omega arith, omega arith)
