-- HOW A CALL CAN END, case by case: on states, and on models. Each lemma shows a property of the outcome from what each way out yields. Assumes nothing.
use mathlib.Core.Path.{◌≡◌, refl, subst}
use mathlib.Core.Logic.{◌≢◌}
use mathlib.Core.Bool.{Bool, true, false}
use mathlib.Core.List.{List, [], ◌∷◌, ◌++◌}
use Prim.Native.Nat.{ℕ, ◌+◌, ◌-◌, ◌*◌, ◌≤◌, ◌<◌}
use native.Mathlib.Omega.{arith}
use lib.Dec.{eqb, ltb}
use borrow.Author.Tests.{eqb-true, eqb-false, ltb-true, ltb-false}
use Rattle.words.specs.Choice.{pick}
use Rattle.words.specs.Sizes.{rounded_of, threshold_of}
use Rattle.rules.specs.Rules.Ops.{Ops}
use Rattle.rules.specs.Rules.Steps.{length_at}
use Rattle.rules.specs.Rules.Search.{Found, at, nowhere, lost}
use Rattle.rules.proofs.Lists.Search.{find_fits, Fits}
use Rattle.rules.specs.Rules.Calls.{Figures, Outcome, says, byte_of, name_of, Chosen, none, one, never, choose, with_cached, without_cache, first_fit, from_merged}
use Rattle.rules.specs.Rules.Calls.{from_list, from_cache, serve, hand_out, live, settled, take_back}
use Rattle.rules.specs.Sound.Model.{Model}
use Rattle.rules.specs.Machine.Machine.{size_m, took_m, searched, search_m, without_cache_m, from_merged_m, from_list_m, from_cache_m, hand_out_m, live_m, settled_m}
use Rattle.rules.specs.Machine.Machine.{take_back_m}
use Rattle.rules.proofs.Demands.Cache.{choose_picked, Picked}

module _ {S : Type 0} (op : Ops S Figures) (places : ℕ) (sound : S → Bool) (s : S) where
  -- HANDING OUT: 1, 2, 5, 8, or served
  pub hand_cases : (size : ℕ) (P : Outcome S → Type 0) → (size ≡ 0 → P (says 1 0 0 s)) → (4294967284 < size → P (says 2 0 0 s))
      → (0 < size → size ≤ 4294967284 → sound s ≡ false → P (says 5 0 0 s))
      → (0 < size → size ≤ 4294967284 → sound s ≡ true → 4 * (op.count s - 1) < threshold_of (rounded_of size) → P (says 8 0 0 s))
      → (0 < size → size ≤ 4294967284 → sound s ≡ true → threshold_of (rounded_of size) ≤ 4 * (op.count s - 1) → P (serve op s (rounded_of size)))
      → P (hand_out op sound s size)
  unfolding hand_out
  hand_cases size P zero large bad unfit fine = go (eqb size 0) refl (ltb 4294967284 size) refl (sound s) refl (never (op.count s) (rounded_of size)) refl
    where
      go : (a : Bool) → eqb size 0 ≡ a → (b : Bool) → ltb 4294967284 size ≡ b → (t : Bool) → sound s ≡ t → (v : Bool)
          → never (op.count s) (rounded_of size) ≡ v
          → P (pick a (says 1 0 0 s) (pick b (says 2 0 0 s) (pick t (pick v (says 8 0 0 s) (serve op s (rounded_of size))) (says 5 0 0 s))))
      go true e b f t g v i = zero (eqb-true size 0 e)
      go false e true f t g v i = large (ltb-true 4294967284 size f)
      go false e false f false g v i = let n = eqb-false size 0 e in bad (omega arith) (ltb-false 4294967284 size f) g
      go false e false f true g true i = let n = eqb-false size 0 e in unfit (omega arith) (ltb-false 4294967284 size f) g (ltb-true _ _ i)
      go false e false f true g false i = let n = eqb-false size 0 e in fine (omega arith) (ltb-false 4294967284 size f) g (ltb-false _ _ i)

  -- served: from the cache or a list; or no fit; or the search is lost
  pub serve_cases : (z : ℕ) (P : Outcome S → Type 0) → ((x : ℕ) (t : S) → P (says 0 (byte_of x + 4) 0 t)) → ((x c : ℕ) (t : S) → P (says 0 (byte_of x + 4) c t))
      → ((c : ℕ) → P (says 3 0 c s)) → P (says 5 0 0 s)
      → P (serve op s z)
  unfolding serve from_cache from_list from_merged
  serve_cases z P cache list short off = served (choose (length_at op s) z (op.rest s).cached)
    where
      again : (c : ℕ) (r : Found) → P (from_merged op s z c r)
      again c (at x d) = list x (c + d) _
      again c (nowhere d) = short (c + d)
      again c lost = off

      listed : (r : Found) → P (from_list op s z r)
      listed (at x c) = list x c _
      listed (nowhere c) = again c (first_fit op (without_cache op s) z)
      listed lost = off

      served : (c : Chosen) → P (from_cache op s z c)
      served (one x ks) = cache x _
      served none = listed (first_fit op s z)

  -- TAKING BACK: 5, 4, or done
  pub back_cases : (p : ℕ) (P : Outcome S → Type 0) → (sound s ≡ false → P (says 5 0 0 s)) → (sound s ≡ true → live op s p ≡ 0 → P (says 4 0 0 s))
      → (sound s ≡ true → live op s p ≢ 0 → P
      (says 0 0 0 (settled op places s ((op.rest s).in_use - live op s p) ((op.rest s).cached ++ name_of (p - 4) ∷ [])))) → P
      (take_back op places sound s p)
  unfolding take_back
  back_cases p P bad cold done = go (sound s) refl (eqb (live op s p) 0) refl
    where
      go : (t : Bool) → sound s ≡ t → (v : Bool) → eqb (live op s p) 0 ≡ v
          → P (pick t (pick v (says 4 0 0 s) (says 0 0 0
          (settled op places s ((op.rest s).in_use - live op s p) ((op.rest s).cached ++ name_of (p - 4) ∷ [])))) (says 5 0 0 s))
      go true e true f = cold e (eqb-true (live op s p) 0 f)
      go true e false f = done e (eqb-false (live op s p) 0 f)
      go false e v f = bad e

module _ (m : Model) where
  -- the same without memory
  pub hand_m-cases : (size : ℕ) (P : Outcome Model → Type 0) → (size ≡ 0 → P (says 1 0 0 m)) → (4294967284 < size → P (says 2 0 0 m))
      → (0 < size → size ≤ 4294967284 → 4 * (m.figs.words - 1) < threshold_of (rounded_of size) → P (says 8 0 0 m))
      → (0 < size → size ≤ 4294967284 → threshold_of (rounded_of size) ≤ 4 * (m.figs.words - 1)
      → P (from_cache_m m (rounded_of size) (choose (size_m m) (rounded_of size) m.figs.cached)))
      → P (hand_out_m m size)
  unfolding hand_out_m
  hand_m-cases size P zero large unfit fine = go (eqb size 0) refl (ltb 4294967284 size) refl (never m.figs.words (rounded_of size)) refl
    where
      go : (a : Bool) → eqb size 0 ≡ a → (b : Bool) → ltb 4294967284 size ≡ b → (v : Bool) → never m.figs.words (rounded_of size) ≡ v
          → P (pick a (says 1 0 0 m) (pick b (says 2 0 0 m) (pick v (says 8 0 0 m)
          (from_cache_m m (rounded_of size) (choose (size_m m) (rounded_of size) m.figs.cached)))))
      go true e b f v i = zero (eqb-true size 0 e)
      go false e true f v i = large (ltb-true 4294967284 size f)
      go false e false f true i = let n = eqb-false size 0 e in unfit (omega arith) (ltb-false 4294967284 size f) (ltb-true _ _ i)
      go false e false f false i = let n = eqb-false size 0 e in fine (omega arith) (ltb-false 4294967284 size f) (ltb-false _ _ i)

  pub serve_m-cases : (z : ℕ) (P : Outcome Model → Type 0)
      → ((x : ℕ) (ks : List ℕ) → Picked (size_m m) z m.figs.cached (one x ks) → P
      (says 0 (byte_of x + 4) 0 (record { cs = m.cs; orders = m.orders; figs = with_cached m.figs (m.figs.in_use + size_m m x) ks })))
      → (Picked (size_m m) z m.figs.cached none → (x c : ℕ) → search_m m z ≡ at x c → P (says 0 (byte_of x + 4) c (took_m m x (size_m m x) z)))
      → (Picked (size_m m) z m.figs.cached none → (c : ℕ) → search_m m z ≡ nowhere c → (x d : ℕ) → search_m (without_cache_m m) z ≡ at x d
      → P (says 0 (byte_of x + 4) (c + d) (took_m (without_cache_m m) x (size_m (without_cache_m m) x) z)))
      → (Picked (size_m m) z m.figs.cached none → (c : ℕ) → search_m m z ≡ nowhere c → (d : ℕ) → search_m (without_cache_m m) z ≡ nowhere d
      → P (says 3 0 (c + d) m))
      → P (from_cache_m m z (choose (size_m m) z m.figs.cached))
  serve_m-cases z P cache list merged short = served (choose (size_m m) z m.figs.cached) (choose_picked (size_m m) z m.figs.cached)
    where
      again : Picked (size_m m) z m.figs.cached none → (c : ℕ) → search_m m z ≡ nowhere c → (r : Found) → search_m (without_cache_m m) z ≡ r
          → P (from_merged_m m z c r)
      again p c e (at x d) g = merged p c e x d g
      again p c e (nowhere d) g = short p c e d g
      again p c e lost g =
          let n = without_cache_m m in
          absurd (subst (Fits (size_m n) z (searched n z)) g (find_fits (size_m n) z (searched n z) 0))

      listed : Picked (size_m m) z m.figs.cached none → (r : Found) → search_m m z ≡ r → P (from_list_m m z r)
      listed p (at x c) e = list p x c e
      listed p (nowhere c) e = again p c e (search_m (without_cache_m m) z) refl
      listed p lost e = absurd (subst (Fits (size_m m) z (searched m z)) e (find_fits (size_m m) z (searched m z) 0))

      served : (c : Chosen) → Picked (size_m m) z m.figs.cached c → P (from_cache_m m z c)
      served (one x ks) p = cache x ks p
      served none p = listed p (search_m m z) refl

  pub back_m-cases : (places p : ℕ) (P : Outcome Model → Type 0) → (live_m m p ≡ 0 → P (says 4 0 0 m))
      → (live_m m p ≢ 0 → P (says 0 0 0 (settled_m places m (m.figs.in_use - live_m m p) (m.figs.cached ++ name_of (p - 4) ∷ [])))) → P (take_back_m places m p)
  unfolding take_back_m
  back_m-cases places p P cold done = go (eqb (live_m m p) 0) refl
    where
      go : (v : Bool) → eqb (live_m m p) 0 ≡ v → P
          (pick v (says 4 0 0 m) (says 0 0 0 (settled_m places m (m.figs.in_use - live_m m p) (m.figs.cached ++ name_of (p - 4) ∷ []))))
      go true f = cold (eqb-true (live_m m p) 0 f)
      go false f = done (eqb-false (live_m m p) 0 f)
