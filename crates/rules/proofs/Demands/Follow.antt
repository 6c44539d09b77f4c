-- THE RULES ON STATES FOLLOW THE RULES WITHOUT MEMORY, cache and figures included; so soundness is kept. Assumes nothing.
use mathlib.Core.Path.{◌≡◌, refl, sym, ap, ◌∙◌, subst}
use mathlib.Core.Logic.{◌≢◌, ◌⊎◌, inl, inr}
use mathlib.Core.Bool.{Bool, true, false}
use mathlib.Core.List.Memᴰ
use mathlib.Core.List.{List, [], ◌∷◌, ◌++◌}
use Prim.Native.Nat.{ℕ, suc, ◌+◌, ◌-◌, ◌%◌, ◌≤◌, ◌<◌}
use native.Mathlib.Omega.{arith}
use lib.Dec.{eqb, leb, ltb}
use lib.ListN.{length, length-append}
use borrow.Author.Tests.{eqb-false, leb-true}
use Rattle.words.specs.Choice.{pick}
use Rattle.rules.specs.Rules.Lists.{Mem, Distinct}
use Rattle.rules.specs.Rules.Ops.{Ops}
use Rattle.rules.specs.Rules.Steps.{portion, length_at, take_chunk, emptied}
use Rattle.rules.proofs.Steps.Store.{Edition}
use Rattle.rules.specs.Rules.Chunks.{busy, Legal}
use Rattle.rules.specs.Sound.Exact.{slot}
use Rattle.rules.proofs.Steps.Part.{legal_front}
use Rattle.rules.proofs.Steps.Calls.{total_8}
use Rattle.rules.specs.Rules.Search.{Found, at, nowhere, lost}
use Rattle.rules.proofs.Lists.Search.{find_fits, Fits}
use Rattle.rules.specs.Rules.Place.{len_at, used_at}
use Rattle.rules.proofs.Tiling.Place.{free_at, used_at_lem}
use Rattle.words.specs.Sizes.{rounded_of}
use Rattle.rules.proofs.Demands.Enough.{tile_tags}
use Rattle.rules.specs.Rules.Calls.{Figures, Outcome, says, byte_of, name_of, Chosen, none, one, never, choose, listed, with_cached}
use Rattle.rules.specs.Rules.Calls.{counted, let_go, without_cache, from_merged, from_list, from_cache, serve, hand_out, live}
use Rattle.rules.specs.Rules.Calls.{settled, take_back}
use Rattle.rules.specs.Sound.Model.{Model}
use Rattle.rules.specs.Machine.Machine.{size_m, took_m, searched, search_m, gave_m, without_cache_m, from_merged_m, from_list_m, from_cache_m}
use Rattle.rules.specs.Machine.Machine.{hand_out_m, live_m, settled_m, take_back_m}
use Rattle.rules.specs.Sound.Sound.{live_sum, Shows}
use Rattle.rules.proofs.Tiling.LiveSums.{held_last}
use Rattle.rules.proofs.Demands.Cache.{Picked, choose_picked, listed_false, distinct_snoc}
use Rattle.rules.proofs.Demands.Numbers.{r16, r8}
use Rattle.rules.proofs.Demands.Shown.{model, few, search_same, met_free, used_size, choose_cached, live_held, in_use_held, recached, uncached, emptied_shows}
use Rattle.rules.proofs.Demands.Taken.{took_emptied}
use Rattle.rules.proofs.Demands.Released.{let_go_shows, without_cache_shows}

-- an outcome on states follows one on models
pub record Follows {S : Type 0} (op : Ops S Figures) (most places : ℕ) (o : Outcome S) (q : Outcome Model) : Type 0 where
  pub number : o.number ≡ q.number
  pub value : o.value ≡ q.value
  pub compared : o.compared ≡ q.compared
  pub after : Shows op most places o.after q.after

module _ {S : Type 0} {op : Ops S Figures} {most places : ℕ} (E : Edition op most places) where
  abbrev Sh : S → Model → Type 0
  Sh = Shows op most places

  abbrev F : Outcome S → Outcome Model → Type 0
  F = Follows op most places

  module _ (s : S) (m : Model) (h : Sh s m) where
    pub settles : (v : ℕ) (ks : List ℕ) → ((x : ℕ) → Mem x ks → (6 ≤ x) × (0 < used_at m.cs (byte_of x))) → Distinct ks → length ks ≤ suc places
        → v ≡ live_sum ks 0 m.cs → Sh (settled op places s v ks) (settled_m places m v ks)
    unfolding settled
    settles v [] us d q ve = h
    settles v (k ∷ ks) us d q ve = go (leb (length (k ∷ ks)) places) refl
      where
        go : (t : Bool) → leb (length (k ∷ ks)) places ≡ t
            → Sh (pick t (op.set_rest s (with_cached (op.rest s) v (k ∷ ks))) (let_go op s v k ks))
            (pick t (model m.cs m.orders (with_cached m.figs v (k ∷ ks))) (gave_m m v ks (byte_of k) (size_m m k)))
        go true e = recached E s m h v (k ∷ ks) (record { used = us; once = d; room = leb-true (length (k ∷ ks)) places e }) ve
        go false e = let_go_shows E s m h v k ks us d (omega arith) ve

    -- HANDING OUT from a list: what was found
    pub took_follows : (z x c : ℕ) → 16 ≤ z → z % 8 ≡ 0 → Mem x (searched m z) → F (from_list op s z (at x c)) (from_list_m m z (at x c))
    unfolding from_list
    took_follows z x c z16 z8 i =
        let r = met_free E s m h z x i in
        let g = free_at 0 m.cs (slot x r.0) r.1 in
        record {
          number = refl;
          value = refl;
          compared = refl;
          after = subst (λ cs. Sh s (model cs m.orders m.figs)
              → Sh (emptied op (op.set_rest (take_chunk op s (x - 6) (length_at op s x) z)
              (counted (op.rest s) (portion (length_at op s x) z) (byte_of x + portion (length_at op s x) z))) (x - 6) (portion (length_at op s x) z))
              (took_m (model cs m.orders m.figs) x (len_at cs (byte_of x)) z))
              (sym g.is) (λ q. took_emptied E s g.pre r.0 g.post m.orders m.figs x z z16 z8 g.named q) h;
        }

  module _ (s : S) (m : Model) (h : Sh s m) where
    -- the cache emptied
    pub merged_follows : (z c : ℕ) → 16 ≤ z → z % 8 ≡ 0 → (r : Found) → Fits (size_m (without_cache_m m)) z (searched (without_cache_m m) z) r
        → F (from_merged op s z c r) (from_merged_m m z c r)
    unfolding from_merged from_list
    merged_follows z c z16 z8 (nowhere d) f = record { number = refl; value = refl; compared = refl; after = h }
    merged_follows z c z16 z8 (at x d) f = took_follows (without_cache op s) (without_cache_m m) (without_cache_shows E s m h) z x (c + d) z16 z8 f.0
    merged_follows z c z16 z8 lost f = absurd f

    -- one after the other
    pub lists_follow : (z : ℕ) → 16 ≤ z → z % 8 ≡ 0 → (r : Found) → Fits (size_m m) z (searched m z) r → F (from_list op s z r) (from_list_m m z r)
    unfolding from_list
    lists_follow z z16 z8 (nowhere c) f =
        rw (search_same E (without_cache op s) (without_cache_m m) (without_cache_shows E s m h) z)
        (merged_follows z c z16 z8 (search_m (without_cache_m m) z) (find_fits (size_m (without_cache_m m)) z (searched (without_cache_m m) z) 0))
    lists_follow z z16 z8 (at x c) f = took_follows s m h z x c z16 z8 f.0
    lists_follow z z16 z8 lost f = absurd f

    pub serve_follows : (z : ℕ) → 16 ≤ z → z % 8 ≡ 0 → F (serve op s z) (from_cache_m m z (choose (size_m m) z m.figs.cached))
    unfolding serve from_cache
    serve_follows z z16 z8 = rw (choose_cached E s m h z) (go (choose (size_m m) z m.figs.cached) (choose_picked (size_m m) z m.figs.cached))
      where
        go : (c : Chosen) → Picked (size_m m) z m.figs.cached c → F (from_cache op s z c) (from_cache_m m z c)
        go (one x ks) p = record {
          number = refl;
          value = refl;
          compared = refl;
          after =
              let u = h.cache.used x p.1 in
              let up = u.1 in
              let y = used_size E s m h x u.0 u.1 in
              emptied_shows E _ _ (uncached E s m h z x ks p) x (length_at op s x) u.0 (sym y) (omega arith);
        }
        go none p =
            rw (search_same E s m h z) (lists_follow z z16 z8 (search_m m z) (find_fits (size_m m) z (searched m z) 0))

    pub hand_out-follows : (sound : S → Bool) → sound s ≡ true → (size : ℕ) → F (hand_out op sound s size) (hand_out_m m size)
    unfolding hand_out hand_out_m
    hand_out-follows sound ok size = rw (ok, ← h.words) (go (eqb size 0) (ltb 4294967284 size) (never m.figs.words (rounded_of size)))
      where
        go : (a b c : Bool)
            → F (pick a (says 1 0 0 s) (pick b (says 2 0 0 s) (pick c (says 8 0 0 s) (serve op s (rounded_of size)))))
            (pick a (says 1 0 0 m) (pick b (says 2 0 0 m) (pick c (says 8 0 0 m)
            (from_cache_m m (rounded_of size) (choose (size_m m) (rounded_of size) m.figs.cached)))))
        go true b c = record { number = refl; value = refl; compared = refl; after = h }
        go false true c = record { number = refl; value = refl; compared = refl; after = h }
        go false false true = record { number = refl; value = refl; compared = refl; after = h }
        go false false false = serve_follows (rounded_of size) (r16 size) (r8 size)

    pub live_same : (p : ℕ) → live op s p ≡ live_m m p
    unfolding live live_m
    live_same p =
        let c = few E s m h in
        let n = h.accepted.0 in
        rw (h.figs, tile_tags (op.word s) (op.count s) 0 true m.cs h.legal (omega arith) h.tags) refl

    -- what is taken back is a used chunk, not cached
    pub live_is : (p : ℕ) → live_m m p ≢ 0
        → (byte_of (name_of (p - 4)) ≡ p - 4) × (0 < used_at m.cs (p - 4)) × (Mem (name_of (p - 4)) m.figs.cached → ⊥) × (4 ≤ p)
    unfolding live_m
    live_is p q = go (leb 4 p) refl (listed (name_of (p - 4)) m.figs.cached) refl q
      where
        go : (t : Bool) → leb 4 p ≡ t → (v : Bool) → listed (name_of (p - 4)) m.figs.cached ≡ v → pick t (pick v 0 (used_at m.cs (p - 4))) 0 ≢ 0
            → (byte_of (name_of (p - 4)) ≡ p - 4) × (0 < used_at m.cs (p - 4)) × (Mem (name_of (p - 4)) m.figs.cached → ⊥) × (4 ≤ p)
        go false e v g n = absurd (n refl)
        go true e true g n = absurd (n refl)
        go true e false g n =
            let u = used_at_lem m.cs (p - 4) n in
            let t8 = total_8 u.pre (legal_front u.pre (busy (used_at m.cs (p - 4)) ∷ u.post) (subst Legal u.is h.legal)) in
            let b = u.byte in
            (omega arith, omega arith, listed_false (name_of (p - 4)) m.figs.cached g, leb-true 4 p e)

    pub live_len : (p : ℕ) → live_m m p ≢ 0 → live_m m p ≡ used_at m.cs (p - 4)
    unfolding live_m
    live_len p = go (leb 4 p) (listed (name_of (p - 4)) m.figs.cached)
      where
        go : (t v : Bool) → pick t (pick v 0 (used_at m.cs (p - 4))) 0 ≢ 0 → pick t (pick v 0 (used_at m.cs (p - 4))) 0 ≡ used_at m.cs (p - 4)
        go true true k = absurd (k refl)
        go true false k = refl
        go false v k = absurd (k refl)

    -- the cached ones and a live one
    pub snoc_used : (p : ℕ) → live_m m p ≢ 0 → (x : ℕ) → Mem x (m.figs.cached ++ name_of (p - 4) ∷ []) → (6 ≤ x) × (0 < used_at m.cs (byte_of x))
    snoc_used p k x i = go (Memᴰ.append_cases m.figs.cached i) (live_is p k)
      where
        go : Mem x m.figs.cached ⊎ Mem x (name_of (p - 4) ∷ [])
            → (byte_of (name_of (p - 4)) ≡ p - 4) × (0 < used_at m.cs (p - 4)) × (Mem (name_of (p - 4)) m.figs.cached → ⊥) × (4 ≤ p)
            → (6 ≤ x) × (0 < used_at m.cs (byte_of x))
        go (inl j) v = h.cache.used x j
        go (inr j) v =
            let q = Memᴰ.eq_of_singleton j in
            (omega arith, subst (λ (t : ℕ). 0 < used_at m.cs t) (sym (ap byte_of q ∙ v.0)) v.1)

    -- its length moves from what tasks hold to the cache
    pub live_last : (p : ℕ) → live_m m p ≢ 0 → live_sum (m.figs.cached ++ name_of (p - 4) ∷ []) 0 m.cs + live_m m p ≡ m.figs.in_use
    live_last p k =
        let v = live_is p k in
        let r = live_held E s m h (m.figs.cached ++ name_of (p - 4) ∷ []) (snoc_used p k)
        (distinct_snoc m.figs.cached (name_of (p - 4)) h.cache.once v.2) in
        let l = held_last m.figs.cached (name_of (p - 4)) m.cs in
        let o = in_use_held E s m h in
        let b : used_at m.cs (byte_of (name_of (p - 4))) ≡ used_at m.cs (p - 4) = ap (used_at m.cs) v.0 in
        let n = live_len p k in
        omega arith

    pub take_back-follows : (sound : S → Bool) → sound s ≡ true → (p : ℕ) → F (take_back op places sound s p) (take_back_m places m p)
    unfolding take_back take_back_m
    take_back-follows sound ok p = rw (ok, live_same p, h.figs) (go (eqb (live_m m p) 0) refl)
      where
        go : (t : Bool) → eqb (live_m m p) 0 ≡ t
            → F (pick t (says 4 0 0 s) (says 0 0 0 (settled op places s (m.figs.in_use - live_m m p) (m.figs.cached ++ name_of (p - 4) ∷ []))))
            (pick t (says 4 0 0 m) (says 0 0 0 (settled_m places m (m.figs.in_use - live_m m p) (m.figs.cached ++ name_of (p - 4) ∷ []))))
        go true e = record { number = refl; value = refl; compared = refl; after = h }
        go false e =
            let v = live_is p (eqb-false (live_m m p) 0 e) in
            record {
              number = refl;
              value = refl;
              compared = refl;
              after = settles s m h (m.figs.in_use - live_m m p) (m.figs.cached ++ name_of (p - 4) ∷ [])
                  (snoc_used p (eqb-false (live_m m p) 0 e))
                  (distinct_snoc m.figs.cached (name_of (p - 4)) h.cache.once v.2)
                  (let y = length-append m.figs.cached (name_of (p - 4) ∷ []) in let z = h.cache.room in omega arith)
                  (let l = live_last p (eqb-false (live_m m p) 0 e) in omega arith);
            }
