-- PAYLOADS ARRIVE EMPTY: what is handed out is a live payload whose words are all 0, and so alike in two heaps that showed one model. Assumes nothing.
use mathlib.Core.Path.{◌≡◌, sym, ap, ◌∙◌, subst}
use mathlib.Core.Bool.{Bool, true, false}
use mathlib.Core.List.{List, ◌∷◌, ◌++◌}
use Prim.Native.Nat.{ℕ, ◌+◌, ◌-◌, ◌*◌, ◌/◌, ◌%◌, ◌≤◌, ◌<◌}
use native.Mathlib.Omega.{arith}
use native.Mathlib.Nat.{zero-add}
use lib.Dec.{eqb, ltb}
use Rattle.words.specs.Choice.{pick}
use Rattle.words.specs.Sizes.{class_of, rounded_of}
use Rattle.words.proofs.Laws.Sizes.{class_below}
use Rattle.rules.specs.Rules.Lists.{Mem}
use Rattle.rules.specs.Rules.Ops.{Ops}
use Rattle.rules.specs.Rules.Steps.{portion, length_at, take_chunk, emptied}
use Rattle.rules.specs.Rules.Chunks.{Chunk, free, busy, total, Legal}
use Rattle.rules.specs.Sound.Exact.{slot}
use Rattle.rules.specs.Rules.Search.{Found, at, nowhere, lost}
use Rattle.rules.specs.Rules.Place.{UsedAt, len_at, used_at}
use Rattle.rules.specs.Rules.Calls.{Figures, Outcome, says, byte_of, name_of, Chosen, none, one, choose, counted, without_cache, from_merged, from_list, from_cache}
use Rattle.rules.specs.Rules.Calls.{never, serve, hand_out}
use Rattle.rules.specs.Sound.Model.{Model}
use Rattle.rules.specs.Machine.Machine.{size_m, took_m, searched, search_m, without_cache_m, from_merged_m, from_list_m, from_cache_m, hand_out_m}
use Rattle.rules.specs.Sound.Sound.{Shows}
use Rattle.rules.specs.Sound.Test.{soundᵇ}
use Rattle.rules.specs.Demands.Meaning.{LiveAt, Holds, hand}
use Rattle.rules.proofs.Steps.Store.{Edition}
use Rattle.rules.proofs.Tiling.Chunks.{total_append}
use Rattle.rules.proofs.Steps.Emptying.{emptied_in_lem}
use Rattle.rules.proofs.Steps.Part.{legal_front, legal_back}
use Rattle.rules.proofs.Tiling.Facts.{free_there}
use Rattle.rules.proofs.Tiling.Place.{free_at, used_at_lem}
use Rattle.rules.proofs.Lists.Search.{find_fits, Fits}
use Rattle.rules.proofs.Tiling.Named.{size_at, byte_at}
use Rattle.rules.proofs.Demands.Shown.{L, whole, bytes, uncached, used_size, met_free, search_same, choose_cached}
use Rattle.rules.proofs.Demands.Taken.{took, took_used}
use Rattle.rules.proofs.Demands.Released.{without_cache_shows}
use Rattle.rules.proofs.Demands.Cache.{choose_picked, Picked}
use Rattle.rules.proofs.Demands.Numbers.{portion_least, r16, r8}
use Rattle.rules.proofs.Demands.Decide.{sound_true, true_sound, layout_unique, figures_unique}
use Rattle.rules.proofs.Demands.Cases.{hand_cases}
use Rattle.rules.proofs.Demands.Answers.{hand_follows, used_there}

module _ {S : Type 0} {op : Ops S Figures} {most places : ℕ} (E : Edition op most places) where
  abbrev Sh : S → Model → Type 0
  Sh = Shows op most places

  -- at p the model m has a live payload, and in the state t its words are 0
  abbrev Arrived : S → Model → ℕ → Type 0
  Arrived t m p = (n : ℕ) × LiveAt m p n × ((i : ℕ) → Holds p n i → op.word t i ≡ 0)

  -- an emptied chunk that is not cached
  emptied_arrives : (t : S) (m : Model) → Sh t m → (x k : ℕ) → 6 ≤ x → used_at m.cs (byte_of x) ≡ k → 0 < k → (Mem x m.figs.cached → ⊥)
      → Arrived (emptied op t (x - 6) k) m (byte_of x + 4)
  emptied_arrives t m h x k x6 e pos out =
      let b : byte_of x + 4 - 4 ≡ byte_of x = omega arith in
      let u = used_at_lem m.cs (byte_of x) (omega arith) in
      let x' : name_of (byte_of x + 4 - 4) ≡ x = omega arith in (
        k,
        (omega arith, rw b (subst (UsedAt m.cs (byte_of x)) e u), λ q. out (subst (λ (y : ℕ). Mem y m.figs.cached) x' q)),
        zero,
      )
    where
      zero : (i : ℕ) → Holds (byte_of x + 4) k i → op.word (emptied op t (x - 6) k) i ≡ 0
      zero i p =
          let u = used_at_lem m.cs (byte_of x) (omega arith) in
          let n = used_at m.cs (byte_of x) in
          let g = u.byte in
          let f : total (u.pre ++ busy n ∷ u.post) ≡ 4 * (op.count t - 1) = sym (ap total u.is) ∙ h.fills in
          let a = total_append u.pre (busy n ∷ u.post) in
          let y = bytes E t m h in
          let lo = p.0 in
          let hi = p.1 in
          emptied_in_lem (L E t m h) t (x - 6) k i (whole E t m h).rings.good ((L E t m h).inw i (omega arith)) (omega arith) (omega arith)

  took_arrives : (s : S) (pre : List Chunk) (n : ℕ) (post : List Chunk) (O : ℕ → List ℕ) (f : Figures) (x z : ℕ) → 16 ≤ z → z % 8 ≡ 0
      → x ≡ (0 + total pre) / 4 + 6
      → Sh s (record { cs = pre ++ free n ∷ post; orders = O; figs = f })
      → Arrived
      (emptied op (op.set_rest (take_chunk op s (x - 6) (length_at op s x) z)
      (counted (op.rest s) (portion (length_at op s x) z) (byte_of x + portion (length_at op s x) z)))
      (x - 6) (portion (length_at op s x) z))
      (took_m (record { cs = pre ++ free n ∷ post; orders = O; figs = f }) x (len_at (pre ++ free n ∷ post) (byte_of x)) z) (byte_of x + 4)
  unfolding took_m
  took_arrives s pre n post O f x z z16 z8 e h =
      let m : Model = record { cs = pre ++ free n ∷ post; orders = O; figs = f } in
      let lp = legal_front pre (free n ∷ post) h.legal in
      let n16 : 16 ≤ n = (legal_back pre (free n ∷ post) h.legal).0 in
      let y : length_at op s x ≡ n = size_at (L E s m h) class_of class_below s O pre n post x e (whole E s m h) in
      let b : byte_of x ≡ total pre = byte_at pre x lp e ∙ zero-add (total pre) in
      emptied_arrives _ _ (took E s pre n post O f x z z16 z8 e h) x (portion (length_at op s x) z) (omega arith) (took_used E s pre n post O f x z e h)
      (portion_least 1 (length_at op s x) z (omega arith) (omega arith))
      (λ q. let u = (h.cache.used x q).1 in let v = ap (used_at (pre ++ free n ∷ post)) b ∙ free_there pre n post lp in omega arith)

  -- what is served, arrives
  abbrev Served : Outcome S → Outcome Model → Type 0
  Served o q = o.number ≡ 0 → Arrived o.after q.after o.value

  module _ (s : S) (m : Model) (h : Sh s m) where
    found_arrives : (z x c : ℕ) → 16 ≤ z → z % 8 ≡ 0 → Mem x (searched m z) → Served (from_list op s z (at x c)) (from_list_m m z (at x c))
    unfolding from_list
    found_arrives z x c z16 z8 i = λ q.
        let r = met_free E s m h z x i in
        let g = free_at 0 m.cs (slot x r.0) r.1 in
        subst (λ cs. Sh s (record { cs = cs; orders = m.orders; figs = m.figs })
        → Arrived
        (emptied op (op.set_rest (take_chunk op s (x - 6) (length_at op s x) z)
        (counted (op.rest s) (portion (length_at op s x) z) (byte_of x + portion (length_at op s x) z)))
        (x - 6) (portion (length_at op s x) z))
        (took_m (record { cs = cs; orders = m.orders; figs = m.figs }) x (len_at cs (byte_of x)) z) (byte_of x + 4))
        (sym g.is) (λ w. took_arrives s g.pre r.0 g.post m.orders m.figs x z z16 z8 g.named w) h

  module _ (s : S) (m : Model) (h : Sh s m) where
    merged_arrives : (z c : ℕ) → 16 ≤ z → z % 8 ≡ 0 → (r : Found) → Fits (size_m (without_cache_m m)) z (searched (without_cache_m m) z) r
        → Served (from_merged op s z c r) (from_merged_m m z c r)
    unfolding from_merged from_list
    merged_arrives z c z16 z8 (nowhere d) f = λ q. absurd (let u : ◌≡◌ {A = ℕ} 3 0 = q in omega arith)
    merged_arrives z c z16 z8 lost f = absurd f
    merged_arrives z c z16 z8 (at x d) f = found_arrives (without_cache op s) (without_cache_m m) (without_cache_shows E s m h) z x (c + d) z16 z8 f.0

    listed_arrives : (z : ℕ) → 16 ≤ z → z % 8 ≡ 0 → (r : Found) → Fits (size_m m) z (searched m z) r → Served (from_list op s z r) (from_list_m m z r)
    unfolding from_list
    listed_arrives z z16 z8 (nowhere c) f =
        rw (search_same E (without_cache op s) (without_cache_m m) (without_cache_shows E s m h) z)
        (merged_arrives z c z16 z8 (search_m (without_cache_m m) z) (find_fits (size_m (without_cache_m m)) z (searched (without_cache_m m) z) 0))
    listed_arrives z z16 z8 lost f = absurd f
    listed_arrives z z16 z8 (at x c) f = found_arrives s m h z x c z16 z8 f.0

    serve_arrives : (z : ℕ) → 16 ≤ z → z % 8 ≡ 0 → Served (serve op s z) (from_cache_m m z (choose (size_m m) z m.figs.cached))
    unfolding serve from_cache
    serve_arrives z z16 z8 = rw (choose_cached E s m h z) (go (choose (size_m m) z m.figs.cached) (choose_picked (size_m m) z m.figs.cached))
      where
        go : (c : Chosen) → Picked (size_m m) z m.figs.cached c → Served (from_cache op s z c) (from_cache_m m z c)
        go (one x ks) p = λ q.
            let u = h.cache.used x p.1 in
            let up = u.1 in
            let y = used_size E s m h x u.0 u.1 in
            let d = p.3 h.cache.once in
            emptied_arrives _ _ (uncached E s m h z x ks p) x (length_at op s x) u.0 (sym y) (omega arith) d.0
        go none p = rw (search_same E s m h z) (listed_arrives z z16 z8 (search_m m z) (find_fits (size_m m) z (searched m z) 0))

    hand_arrives : (size : ℕ) → Served (hand op most places s size) (hand_out_m m size)
    unfolding hand_out hand_out_m
    hand_arrives size = rw (true_sound E s (m, h), ← h.words) (go (eqb size 0) (ltb 4294967284 size) (never m.figs.words (rounded_of size)))
      where
        go : (a b c : Bool)
            → Served (pick a (says 1 0 0 s) (pick b (says 2 0 0 s) (pick c (says 8 0 0 s) (serve op s (rounded_of size)))))
            (pick a (says 1 0 0 m) (pick b (says 2 0 0 m) (pick c (says 8 0 0 m)
            (from_cache_m m (rounded_of size) (choose (size_m m) (rounded_of size) m.figs.cached)))))
        go true b c = λ q. absurd (let u : ◌≡◌ {A = ℕ} 1 0 = q in omega arith)
        go false true c = λ q. absurd (let u : ◌≡◌ {A = ℕ} 2 0 = q in omega arith)
        go false false true = λ q. absurd (let u : ◌≡◌ {A = ℕ} 8 0 = q in omega arith)
        go false false false = serve_arrives (rounded_of size) (r16 size) (r8 size)

  -- only a sound state is served
  served_sound : (s : S) (size : ℕ) → (hand op most places s size).number ≡ 0 → soundᵇ op most places s ≡ true
  served_sound s size =
      hand_cases op places (soundᵇ op most places) s size (λ o. o.number ≡ 0 → soundᵇ op most places s ≡ true)
      (λ e q. absurd (let u : ◌≡◌ {A = ℕ} 1 0 = q in omega arith)) (λ e q. absurd (let u : ◌≡◌ {A = ℕ} 2 0 = q in omega arith))
      (λ a b e q. absurd (let u : ◌≡◌ {A = ℕ} 5 0 = q in omega arith)) (λ a b e k q. e) (λ a b e k q. e)

  -- two models with one layout and the same figures
  live_same : (m n : Model) (p k : ℕ) → m.cs ≡ n.cs → m.figs ≡ n.figs → LiveAt m p k → LiveAt n p k
  live_same m n p k c f a = (
    a.0,
    subst (λ cs. UsedAt cs (p - 4) k) c a.1,
    λ q. a.2 (subst (λ (g : Figures). Mem (name_of (p - 4)) g.cached) (sym f) q),
  )

  -- one chunk begins at a byte
  long_same : (m : Model) → Legal m.cs → (p k n : ℕ) → LiveAt m p k → LiveAt m p n → k ≡ n
  long_same m l p k n a b = sym (long k a.1) ∙ long n b.1
    where
      long : (z : ℕ) → UsedAt m.cs (p - 4) z → used_at m.cs (p - 4) ≡ z
      long z u =
          ap (used_at m.cs) u.byte ∙ ap (λ cs. used_at cs (total u.pre)) u.is
          ∙ used_there u.pre z u.post (legal_front u.pre (busy z ∷ u.post) (subst Legal u.is l))

  -- PAYLOADS ARRIVE EMPTY
  pub arrives_empty : (s : S) (m : Model) (size : ℕ) → (hand op most places s size).number ≡ 0 → Sh (hand op most places s size).after m
      → Arrived (hand op most places s size).after m (hand op most places s size).value
  arrives_empty s m size z h =
      let w = sound_true E s (served_sound s size z) in
      let n : Model = (hand_out_m w.0 size).after in
      let g = (hand_follows E s w.0 w.1 size).after in
      let a = hand_arrives s w.0 w.1 size z in
      let c = layout_unique E (hand op most places s size).after n m g h in
      (a.0, live_same n m _ a.0 c (figures_unique E (hand op most places s size).after n m g h) a.1, a.2)

  -- AND ALIKE
  pub alike_at_handout : (s t : S) (m k : Model) (size : ℕ) → Sh s m → Sh t m → (hand op most places s size).number ≡ 0
      → Sh (hand op most places s size).after k
      → (n i : ℕ) → LiveAt k (hand op most places s size).value n → Holds (hand op most places s size).value n i
      → op.word (hand op most places s size).after i ≡ op.word (hand op most places t size).after i
  alike_at_handout s t m k size hs ht z hk n i l p =
      let a = hand_follows E s m hs size in
      let b = hand_follows E t m ht size in
      let w : Model = (hand_out_m m size).after in
      let v : (hand op most places s size).value ≡ (hand op most places t size).value = a.value ∙ sym b.value in
      let x = arrives_empty s k size z hk in
      let y = arrives_empty t w size (b.number ∙ sym a.number ∙ z) b.after in
      let c = layout_unique E (hand op most places s size).after k w hk a.after in
      let g = figures_unique E (hand op most places s size).after k w hk a.after in
      let nx = long_same k hk.legal (hand op most places s size).value n x.0 l x.1 in
      let lw = subst (λ (q : ℕ). LiveAt w q n) v (live_same k w (hand op most places s size).value n c g l) in
      let ny = long_same w a.after.legal (hand op most places t size).value n y.0 lw y.1 in
      x.2 i (subst (λ (q : ℕ). Holds (hand op most places s size).value q i) nx p)
      ∙ sym (y.2 i (subst (λ (q : ℕ). Holds q y.0 i) v (subst (λ (q : ℕ). Holds (hand op most places s size).value q i) ny p)))
