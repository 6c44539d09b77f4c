-- DEMANDS 1 AND 2, for every link width and number of cache places. Assumes nothing.
use mathlib.Core.Path.{◌≡◌, refl, sym, ap, ◌∙◌, subst}
use mathlib.Core.Logic.{◌≢◌, ◌⊎◌, inl, inr}
use mathlib.Core.Bool.{Bool, true, false}
use mathlib.Core.List.Memᴰ
use mathlib.Core.List.{List, [], ◌∷◌, ◌++◌}
use Prim.Native.Nat.{ℕ, ◌+◌, ◌-◌, ◌*◌, ◌/◌, ◌≤◌, ◌<◌}
use native.Mathlib.Omega.{arith}
use lib.ListN.{length}
use borrow.Author.Tests.{le-leb, lt-leb}
use Rattle.words.specs.Choice.{pick}
use Rattle.words.specs.Sizes.{class_of, rounded_of, threshold_of}
use Rattle.rules.specs.Rules.Lists.{Mem}
use Rattle.rules.specs.Rules.Ops.{Ops}
use Rattle.rules.specs.Rules.Chunks.{Chunk, free, busy, total, Legal}
use Rattle.rules.specs.Sound.Exact.{slot, frees}
use Rattle.rules.proofs.Steps.Part.{legal_front, legal_back}
use Rattle.rules.proofs.Steps.Calls.{total_8}
use Rattle.rules.specs.Rules.Search.{Found, at, nowhere}
use Rattle.rules.proofs.Lists.Search.{find_fits, Fits, find_counts, Counts}
use Rattle.rules.specs.Rules.Place.{len_at, used_at}
use Rattle.rules.proofs.Tiling.Place.{free_at, len_at_lem, used_at_lem, used_skip}
use Rattle.words.proofs.Laws.Sizes.{class_below, threshold_from}
use Rattle.rules.proofs.Tiling.Fits.{none_fits, some_fits, few_compared, five_listed, Few}
use Rattle.rules.proofs.Demands.Longest.{none_before}
use Rattle.rules.specs.Rules.Calls.{Figures, byte_of, name_of, none, listed, without_cache}
use Rattle.rules.specs.Sound.Model.{Model}
use Rattle.rules.specs.Machine.Machine.{size_m, searched, search_m, without_cache_m, hand_out_m, live_m, take_back_m}
use Rattle.rules.specs.Sound.Sound.{Shows, Sound}
use Rattle.rules.specs.Sound.Test.{soundᵇ}
use Rattle.rules.specs.Demands.Meaning.{NoFit, FromCache, Met, FromList, FromMerged, LiveAt, hand, back}
use Rattle.rules.proofs.Steps.Store.{Edition}
use Rattle.rules.proofs.Demands.Cache.{Picked, listed_true}
use Rattle.rules.proofs.Demands.Released.{without_cache_shows}
use Rattle.rules.proofs.Demands.Follow.{Follows, hand_out-follows, take_back-follows, live_is}
use Rattle.rules.proofs.Demands.Cases.{hand_cases, serve_cases, back_cases, hand_m-cases, serve_m-cases, back_m-cases}
use Rattle.rules.proofs.Demands.Decide.{sound_true, true_sound}

module _ {S : Type 0} (op : Ops S Figures) (most places : ℕ) (s : S) where
  abbrev sound : S → Bool
  sound = soundᵇ op most places

  -- DEMAND 1: answers, refusals, what is returned, on any state
  pub hand_numbers : (size : ℕ) → Mem (hand op most places s size).number (0 ∷ 1 ∷ 2 ∷ 3 ∷ 5 ∷ 8 ∷ [])
  hand_numbers size =
      hand_cases op places sound s size (λ o. Mem o.number (0 ∷ 1 ∷ 2 ∷ 3 ∷ 5 ∷ 8 ∷ []))
      (λ e. second) (λ e. Memᴰ.tail second) (λ a b e. fifth) (λ a b e k. Memᴰ.tail (Memᴰ.tail (Memᴰ.tail (Memᴰ.tail second))))
      (λ a b e k. serve_cases op places sound s (rounded_of size) (λ o. Mem o.number (0 ∷ 1 ∷ 2 ∷ 3 ∷ 5 ∷ 8 ∷ [])) (λ x t. Memᴰ.head refl)
      (λ x c t. Memᴰ.head refl) (λ c. Memᴰ.tail (Memᴰ.tail second)) fifth)
    where
      second : {a b : ℕ} {xs : List ℕ} → Mem b (a ∷ b ∷ xs)
      second = Memᴰ.tail (Memᴰ.head refl)

      fifth : Mem {A = ℕ} 5 (0 ∷ 1 ∷ 2 ∷ 3 ∷ 5 ∷ 8 ∷ [])
      fifth = Memᴰ.tail (Memᴰ.tail (Memᴰ.tail second))

  pub back_numbers : (p : ℕ) → Mem (back op most places s p).number (0 ∷ 4 ∷ 5 ∷ [])
  back_numbers p =
      back_cases op places sound s p (λ o. Mem o.number (0 ∷ 4 ∷ 5 ∷ [])) (λ e. Memᴰ.tail (Memᴰ.tail (Memᴰ.head refl)))
      (λ e f. Memᴰ.tail (Memᴰ.head refl)) (λ e f. Memᴰ.head refl)

  pub hand_refused : (size : ℕ) → (hand op most places s size).number ≢ 0 → (hand op most places s size).after ≡ s
  hand_refused size =
      hand_cases op places sound s size (λ o. o.number ≢ 0 → o.after ≡ s) (λ e h. refl) (λ e h. refl) (λ a b e h. refl) (λ a b e k h. refl)
      (λ a b e k. serve_cases op places sound s (rounded_of size) (λ o. o.number ≢ 0 → o.after ≡ s) (λ x t h. absurd (h refl)) (λ x c t h. absurd (h refl))
      (λ c h. refl) (λ h. refl))

  pub back_refused : (p : ℕ) → (back op most places s p).number ≢ 0 → (back op most places s p).after ≡ s
  back_refused p = back_cases op places sound s p (λ o. o.number ≢ 0 → o.after ≡ s) (λ e h. refl) (λ e f h. refl) (λ e f h. absurd (h refl))

  pub hand_returned : (size : ℕ) → (hand op most places s size).number ≢ 0
      → ((hand op most places s size).value ≡ 0) × ((hand op most places s size).number ≢ 3 → (hand op most places s size).compared ≡ 0)
  hand_returned size =
      hand_cases op places sound s size (λ o. o.number ≢ 0 → (o.value ≡ 0) × (o.number ≢ 3 → o.compared ≡ 0)) (λ e h. (refl, λ n. refl))
      (λ e h. (refl, λ n. refl)) (λ a b e h. (refl, λ n. refl)) (λ a b e k h. (refl, λ n. refl))
      (λ a b e k. serve_cases op places sound s (rounded_of size) (λ o. o.number ≢ 0 → (o.value ≡ 0) × (o.number ≢ 3 → o.compared ≡ 0))
      (λ x t h. absurd (h refl)) (λ x c t h. absurd (h refl)) (λ c h. (refl, λ n. absurd (n refl))) (λ h. (refl, λ n. refl)))

  pub back_returned : (p : ℕ) → ((back op most places s p).value ≡ 0) × ((back op most places s p).compared ≡ 0)
  back_returned p = back_cases op places sound s p (λ o. (o.value ≡ 0) × (o.compared ≡ 0)) (λ e. (refl, refl)) (λ e f. (refl, refl)) (λ e f. (refl, refl))

  -- 1 AND 2 EXACTLY, on any state
  pub hand_zero : (size : ℕ) → ((hand op most places s size).number ≡ 1 → size ≡ 0) × (size ≡ 0 → (hand op most places s size).number ≡ 1)
  hand_zero size =
      hand_cases op places sound s size (λ o. (o.number ≡ 1 → size ≡ 0) × (size ≡ 0 → o.number ≡ 1))
      (λ e. (λ n. e, λ z. refl))
      (λ e. (λ n. absurd (let u : ◌≡◌ {A = ℕ} 2 1 = n in omega arith), λ z. absurd (omega arith)))
      (λ a b e. (λ n. absurd (let u : ◌≡◌ {A = ℕ} 5 1 = n in omega arith), λ z. absurd (omega arith)))
      (λ a b e k. (λ n. absurd (let u : ◌≡◌ {A = ℕ} 8 1 = n in omega arith), λ z. absurd (omega arith)))
      (λ a b e k. serve_cases op places sound s (rounded_of size) (λ o. (o.number ≡ 1 → size ≡ 0) × (size ≡ 0 → o.number ≡ 1))
      (λ x t. (λ n. absurd (let u : ◌≡◌ {A = ℕ} 0 1 = n in omega arith), λ z. absurd (omega arith)))
      (λ x c t. (λ n. absurd (let u : ◌≡◌ {A = ℕ} 0 1 = n in omega arith), λ z. absurd (omega arith)))
      (λ c. (λ n. absurd (let u : ◌≡◌ {A = ℕ} 3 1 = n in omega arith), λ z. absurd (omega arith)))
      (λ n. absurd (let u : ◌≡◌ {A = ℕ} 5 1 = n in omega arith), λ z. absurd (omega arith)))

  pub hand_large : (size : ℕ) → ((hand op most places s size).number ≡ 2 → 4294967284 < size) × (4294967284 < size → (hand op most places s size).number ≡ 2)
  hand_large size =
      hand_cases op places sound s size (λ o. (o.number ≡ 2 → 4294967284 < size) × (4294967284 < size → o.number ≡ 2))
      (λ e. (λ n. absurd (let u : ◌≡◌ {A = ℕ} 1 2 = n in omega arith), λ z. absurd (omega arith)))
      (λ e. (λ n. e, λ z. refl))
      (λ a b e. (λ n. absurd (let u : ◌≡◌ {A = ℕ} 5 2 = n in omega arith), λ z. absurd (omega arith)))
      (λ a b e k. (λ n. absurd (let u : ◌≡◌ {A = ℕ} 8 2 = n in omega arith), λ z. absurd (omega arith)))
      (λ a b e k. serve_cases op places sound s (rounded_of size) (λ o. (o.number ≡ 2 → 4294967284 < size) × (4294967284 < size → o.number ≡ 2))
      (λ x t. (λ n. absurd (let u : ◌≡◌ {A = ℕ} 0 2 = n in omega arith), λ z. absurd (omega arith)))
      (λ x c t. (λ n. absurd (let u : ◌≡◌ {A = ℕ} 0 2 = n in omega arith), λ z. absurd (omega arith)))
      (λ c. (λ n. absurd (let u : ◌≡◌ {A = ℕ} 3 2 = n in omega arith), λ z. absurd (omega arith)))
      (λ n. absurd (let u : ◌≡◌ {A = ℕ} 5 2 = n in omega arith), λ z. absurd (omega arith)))

-- a free chunk's length by its name, and its class
pub slot_size : (cs : List Chunk) (x n : ℕ) → Legal cs → Mem (slot x n) (frees 0 cs) → len_at cs (byte_of x) ≡ n
slot_size cs x n l i =
    let f = free_at 0 cs (slot x n) i in
    let lp = legal_front f.pre (free n ∷ f.post) (subst Legal f.is l) in
    let t8 = total_8 f.pre lp in
    let y : x ≡ (0 + total f.pre) / 4 + 6 = f.named in
    let k : total f.pre / 4 ≡ 2 * (total f.pre / 8) = omega arith in
    let b : byte_of x ≡ total f.pre = omega arith in
    ap (λ ds. len_at ds (byte_of x)) f.is ∙ len_at_lem f.pre (free n) f.post (byte_of x) lp b

-- the used chunk at the end of a front part
pub used_there : (pre : List Chunk) (n : ℕ) (post : List Chunk) → Legal pre → used_at (pre ++ busy n ∷ post) (total pre) ≡ n
unfolding used_at
used_there pre n post l =
    let e : total pre - total pre ≡ 0 = omega arith in
    used_skip pre (busy n ∷ post) (total pre) l (omega arith) ∙ ap (used_at (busy n ∷ post)) e

module _ {S : Type 0} {op : Ops S Figures} {most places : ℕ} (E : Edition op most places) where
  module _ (s : S) (m : Model) (h : Shows op most places s m) where
    pub hand_follows : (size : ℕ) → Follows op most places (hand op most places s size) (hand_out_m m size)
    hand_follows size = hand_out-follows E s m h (soundᵇ op most places) (true_sound E s (m, h)) size

    pub back_follows : (p : ℕ) → Follows op most places (back op most places s p) (take_back_m places m p)
    back_follows p = take_back-follows E s m h (soundᵇ op most places) (true_sound E s (m, h)) p

    classed : (j x : ℕ) → j < 6 → Mem x (m.orders j) → class_of (size_m m x) ≡ j
    classed j x q i = let r = h.exact.only j x q i in ap class_of (slot_size m.cs x r.0 h.legal r.1) ∙ r.2

    -- ONE SEARCH. Nothing found: no free chunk reaches the threshold
    none_reaches : (z c : ℕ) → search_m m z ≡ nowhere c → (x n : ℕ) → Mem (slot x n) (frees 0 m.cs) → n < threshold_of z
    none_reaches z c e x n i =
        subst (λ (k : ℕ). k < threshold_of z) (slot_size m.cs x n h.legal i)
        (none_fits (size_m m) m.orders classed z c e (class_of n) x (class_below n) (h.exact.listed x n i))

    -- what is found is a free chunk that reaches it
    one_reaches : (z x c : ℕ) → search_m m z ≡ at x c → (n : ℕ) × Mem (slot x n) (frees 0 m.cs) × (threshold_of z ≤ n)
    one_reaches z x c e =
        let g = some_fits (size_m m) m.orders classed z x c e in
        let r = h.exact.only g.0 x g.1 g.2 in
        let y = slot_size m.cs x r.0 h.legal r.1 in
        let b = g.3 in
        (r.0, r.1, omega arith)

    -- how many it meets, and where what it finds stands among them
    counts : (z : ℕ) (r : Found) → search_m m z ≡ r → Counts (size_m m) z (searched m z) 0 r
    counts z r e = subst (Counts (size_m m) z (searched m z) 0) e (find_counts (size_m m) z (searched m z) 0)

    fits : (z : ℕ) (r : Found) → search_m m z ≡ r → Fits (size_m m) z (searched m z) r
    fits z r e = subst (Fits (size_m m) z (searched m z)) e (find_fits (size_m m) z (searched m z) 0)

    meets : (z x c : ℕ) → search_m m z ≡ at x c → Met m z (byte_of x + 4) c
    meets z x c e =
        let k = counts z (at x c) e in
        let d = k.3 in (
          x,
          record {
            before = k.0;
            after = k.1;
            is = k.2;
            failed = λ y i. lt-leb z (size_m m y) (k.4 y i);
            passed = le-leb z (size_m m x) (fits z (at x c) e).1;
          },
          omega arith,
          refl,
        )

    -- COMPARED in it: below 512 none, or 1 where one is found; from 512 on, where none is, all of list 5
    few : (z : ℕ) → z < 512 → (r : Found) → search_m m z ≡ r → Few r 0
    few z q r e = subst (λ (f : Found). Few f 0) e (few_compared (size_m m) m.orders classed z q)

    five : (z c : ℕ) → 512 ≤ z → search_m m z ≡ nowhere c → c ≡ length (m.orders 5)
    five z c q e =
        let k : c ≡ 0 + length (searched m z) = counts z (nowhere c) e in
        let l = five_listed (size_m m) m.orders classed z q in
        omega arith

  -- SOUNDNESS IS KEPT
  pub hand_sound : (s : S) (size : ℕ) → Sound op most places s → Sound op most places (hand op most places s size).after
  hand_sound s size h = ((hand_out_m h.0 size).after, (hand_follows s h.0 h.1 size).after)

  pub back_sound : (s : S) (p : ℕ) → Sound op most places s → Sound op most places (back op most places s p).after
  back_sound s p h = ((take_back_m places h.0 p).after, (back_follows s h.0 h.1 p).after)

  module _ (s : S) (m : Model) (h : Shows op most places s m) where
    -- a property of answer, value and compared count, shown of the model's outcome
    on_model : (size : ℕ) (P : ℕ → ℕ → ℕ → Type 0) → P (hand_out_m m size).number (hand_out_m m size).value (hand_out_m m size).compared
        → P (hand op most places s size).number (hand op most places s size).value (hand op most places s size).compared
    on_model size P p = let f = hand_follows s m h size in rw (f.number, f.value, f.compared) p

    -- the state with its cache emptied, and what it shows
    abbrev bare : S
    bare = without_cache op s

    abbrev merged : Model
    merged = without_cache_m m

    bare_shows : Shows op most places bare merged
    bare_shows = without_cache_shows E s m h

    -- what the second search finds
    pub from_merged_lem : (z c : ℕ) → Picked (size_m m) z m.figs.cached none → search_m m z ≡ nowhere c → (x d : ℕ) → search_m merged z ≡ at x d
        → FromMerged m z (byte_of x + 4) (c + d)
    from_merged_lem z c p e x d g =
        let l : c ≡ 0 + length (searched m z) = counts s m h z (nowhere c) e in
        (p, fits s m h z (nowhere c) e, d, meets bare merged bare_shows z x d g, omega arith)

    -- NO FIT EXACTLY, for all sizes
    pub no_fit-exact : (size : ℕ) → 0 < size → size ≤ 4294967284
        → ((hand op most places s size).number ≡ 3 → NoFit m (rounded_of size)) × (NoFit m (rounded_of size) → (hand op most places s size).number ≡ 3)
    no_fit-exact size lo hi =
        on_model size (λ n v c. (n ≡ 3 → NoFit m z) × (NoFit m z → n ≡ 3))
        (hand_m-cases m size (λ o. (o.number ≡ 3 → NoFit m z) × (NoFit m z → o.number ≡ 3)) (λ e. absurd (omega arith)) (λ e. absurd (omega arith))
        (λ a b k. (λ n. absurd (let u : ◌≡◌ {A = ℕ} 8 3 = n in omega arith), λ f. absurd (let u = f.may in omega arith)))
        (λ a b k. serve_m-cases m z (λ o. (o.number ≡ 3 → NoFit m z) × (NoFit m z → o.number ≡ 3))
        (λ x ks p. (
          λ n. absurd (let u : ◌≡◌ {A = ℕ} 0 3 = n in omega arith),
          λ f. absurd
              (let u : true ≡ false = sym p.0 ∙ f.cache x p.1 in let z : ◌≡◌ {A = ℕ} 0 1 = cc in omega arith),
        ))
        (λ p x c e. (λ n. absurd (let u : ◌≡◌ {A = ℕ} 0 3 = n in omega arith), λ f. absurd (first x c e f)))
        (λ p c e x d g. (λ n. absurd (let u : ◌≡◌ {A = ℕ} 0 3 = n in omega arith), λ f. absurd (second x d g f)))
        (λ p c e d g. (λ n. record { may = k; cache = p; lists = none_reaches bare merged bare_shows z d g }, λ f. refl))))
      where
        z : ℕ
        z = rounded_of size

        -- what the first search finds would fit after emptying too
        first : (x c : ℕ) → search_m m z ≡ at x c → NoFit m z → ⊥
        first x c e f =
            let r = one_reaches s m h z x c e in
            let a = r.2 in
            let t = threshold_from z in
            let b = none_before m (threshold_of z) (omega arith) f.lists x r.0 r.1 in
            omega arith

        second : (x d : ℕ) → search_m merged z ≡ at x d → NoFit m z → ⊥
        second x d e f =
            let r = one_reaches bare merged bare_shows z x d e in
            let a = r.2 in
            let b = f.lists x r.0 r.1 in
            omega arith

    -- A POSITION in the rules' search
    abbrev Placed : ℕ → ℕ → ℕ → ℕ → Type 0
    Placed z n v c = n ≡ 0 → (c ≡ 0 → FromCache m z v) × (0 < c → FromList m z v c ⊎ FromMerged m z v c)

    pub position : (size : ℕ)
        → Placed (rounded_of size) (hand op most places s size).number (hand op most places s size).value (hand op most places s size).compared
    position size =
        on_model size (Placed z) (hand_m-cases m size (λ o. Placed z o.number o.value o.compared)
        (λ e n. absurd (let u : ◌≡◌ {A = ℕ} 1 0 = n in omega arith)) (λ e n. absurd (let u : ◌≡◌ {A = ℕ} 2 0 = n in omega arith))
        (λ a b k n. absurd (let u : ◌≡◌ {A = ℕ} 8 0 = n in omega arith))
        (λ a b k. serve_m-cases m z (λ o. Placed z o.number o.value o.compared)
        (λ x ks p n. let o = p.6 in (
          λ c. (x, record { before = o.0; after = o.1; is = o.2; failed = o.3; passed = p.0 }, refl),
          λ c. absurd (omega arith),
        ))
        (λ p x c e n. let f = meets s m h z x c e in let k = f.2 in (λ q. absurd (omega arith), λ q. inl (p, f)))
        (λ p c e x d g n. let f = meets bare merged bare_shows z x d g in let k = f.2 in
        (λ q. absurd (omega arith), λ q. inr (from_merged_lem z c p e x d g)))
        (λ p c e d g n. absurd (let u : ◌≡◌ {A = ℕ} 3 0 = n in omega arith))))
      where
        z : ℕ
        z = rounded_of size

    -- COMPARED, both searches together: at most 1 below 512, and 0 where nothing fits; from 512 on, where nothing fits, both lists 5
    pub compared_small : (size : ℕ) → rounded_of size < 512 → (hand op most places s size).compared ≤ 1
    compared_small size q =
        on_model size (λ n v c. c ≤ 1) (hand_m-cases m size (λ o. o.compared ≤ 1) (λ e. omega arith) (λ e. omega arith) (λ a b k. omega arith)
        (λ a b k. serve_m-cases m z (λ o. o.compared ≤ 1) (λ x ks p. omega arith) (λ p x c e. let f : c ≡ 1 = few s m h z q (at x c) e in omega arith)
        (λ p c e x d g. let f = none c e in let k : d ≡ 1 = few bare merged bare_shows z q (at x d) g in omega arith)
        (λ p c e d g. let f = none c e in let k : d ≡ 0 = few bare merged bare_shows z q (nowhere d) g in omega arith)))
      where
        z : ℕ
        z = rounded_of size

        none : (c : ℕ) → search_m m z ≡ nowhere c → c ≡ 0
        none c e = few s m h z q (nowhere c) e

    pub compared_small_refused : (size : ℕ) → rounded_of size < 512 → (hand op most places s size).number ≡ 3 → (hand op most places s size).compared ≡ 0
    compared_small_refused size q =
        on_model size (λ n v c. n ≡ 3 → c ≡ 0) (hand_m-cases m size (λ o. o.number ≡ 3 → o.compared ≡ 0) (λ e n. refl) (λ e n. refl) (λ a b k n. refl)
        (λ a b k. serve_m-cases m (rounded_of size) (λ o. o.number ≡ 3 → o.compared ≡ 0) (λ x ks p n. refl)
        (λ p x c e n. absurd (let u : ◌≡◌ {A = ℕ} 0 3 = n in omega arith)) (λ p c e x d g n. absurd (let u : ◌≡◌ {A = ℕ} 0 3 = n in omega arith))
        (λ p c e d g n. let f : c ≡ 0 = few s m h (rounded_of size) q (nowhere c) e in
        let k : d ≡ 0 = few bare merged bare_shows (rounded_of size) q (nowhere d) g in omega arith)))

    pub compared_large_refused : (size : ℕ) → 512 ≤ rounded_of size → (hand op most places s size).number ≡ 3
        → (hand op most places s size).compared ≡ length (m.orders 5) + length ((without_cache_m m).orders 5)
    compared_large_refused size q =
        on_model size (λ n v c. n ≡ 3 → c ≡ both) (hand_m-cases m size (λ o. o.number ≡ 3 → o.compared ≡ both)
        (λ e n. absurd (let u : ◌≡◌ {A = ℕ} 1 3 = n in omega arith)) (λ e n. absurd (let u : ◌≡◌ {A = ℕ} 2 3 = n in omega arith))
        (λ a b k n. absurd (let u : ◌≡◌ {A = ℕ} 8 3 = n in omega arith))
        (λ a b k. serve_m-cases m (rounded_of size) (λ o. o.number ≡ 3 → o.compared ≡ both)
        (λ x ks p n. absurd (let u : ◌≡◌ {A = ℕ} 0 3 = n in omega arith)) (λ p x c e n. absurd (let u : ◌≡◌ {A = ℕ} 0 3 = n in omega arith))
        (λ p c e x d g n. absurd (let u : ◌≡◌ {A = ℕ} 0 3 = n in omega arith))
        (λ p c e d g n. let i = five s m h (rounded_of size) c q e in let j = five bare merged bare_shows (rounded_of size) d q g in omega arith)))
      where
        both : ℕ
        both = length (m.orders 5) + length ((without_cache_m m).orders 5)

    -- NOT LIVE EXACTLY
    pub not_live-exact : (p : ℕ) → ((back op most places s p).number ≡ 4 → (n : ℕ) → LiveAt m p n → ⊥) × (((n : ℕ) → LiveAt m p n → ⊥)
        → (back op most places s p).number ≡ 4)
    unfolding live_m
    not_live-exact p =
        rw (back_follows s m h p).number
        (back_m-cases m places p (λ o. (o.number ≡ 4 → (n : ℕ) → LiveAt m p n → ⊥) × (((n : ℕ) → LiveAt m p n → ⊥) → o.number ≡ 4))
        (λ e. (λ z n a. alive n a e, λ f. refl))
        (λ e. (λ z n a. let u : ◌≡◌ {A = ℕ} 0 4 = z in omega arith, λ f. absurd (f (used_at m.cs (p - 4)) (there e)))))
      where
        alive : (n : ℕ) → LiveAt m p n → live_m m p ≢ 0
        alive n a e =
            let w = a.1 in
            let l = subst Legal w.is h.legal in
            let n16 : 16 ≤ n = (legal_back w.pre (busy n ∷ w.post) l).0 in
            let u : used_at m.cs (p - 4) ≡ n = ap (λ (t : ℕ). used_at m.cs t) w.byte ∙ ap (λ cs. used_at cs (total w.pre)) w.is
            ∙ used_there w.pre n w.post (legal_front w.pre (busy n ∷ w.post) l) in
            go (listed (name_of (p - 4)) m.figs.cached) refl u n16 (rw (le-leb 4 p a.0) at e)
          where
            go : (v : Bool) → listed (name_of (p - 4)) m.figs.cached ≡ v → used_at m.cs (p - 4) ≡ n → 16 ≤ n → pick v 0 (used_at m.cs (p - 4)) ≡ 0 → ⊥
            go true q u n16 e = a.2 (listed_true (name_of (p - 4)) m.figs.cached q)
            go false q u n16 e = omega arith

        there : live_m m p ≢ 0 → LiveAt m p (used_at m.cs (p - 4))
        there e =
            let v = live_is E s m h p e in
            let w = v.1 in
            (v.3, used_at_lem m.cs (p - 4) (omega arith), v.2)

    -- A SOUND STATE IS NOT CALLED DAMAGED
    pub hand_fine : (size : ℕ) → (hand op most places s size).number ≢ 5
    hand_fine size =
        on_model size (λ n v c. n ≢ 5) (hand_m-cases m size (λ o. o.number ≢ 5) (λ e n. let u : ◌≡◌ {A = ℕ} 1 5 = n in omega arith)
        (λ e n. let u : ◌≡◌ {A = ℕ} 2 5 = n in omega arith) (λ a b k n. let u : ◌≡◌ {A = ℕ} 8 5 = n in omega arith)
        (λ a b k. serve_m-cases m (rounded_of size) (λ o. o.number ≢ 5) (λ x ks p n. let u : ◌≡◌ {A = ℕ} 0 5 = n in omega arith)
        (λ p x c e n. let u : ◌≡◌ {A = ℕ} 0 5 = n in omega arith) (λ p c e x d g n. let u : ◌≡◌ {A = ℕ} 0 5 = n in omega arith)
        (λ p c e d g n. let u : ◌≡◌ {A = ℕ} 3 5 = n in omega arith)))

    pub back_fine : (p : ℕ) → (back op most places s p).number ≢ 5
    back_fine p =
        rw (back_follows s m h p).number
        (back_m-cases m places p (λ o. o.number ≢ 5) (λ e n. let u : ◌≡◌ {A = ℕ} 4 5 = n in omega arith) (λ e n. let u : ◌≡◌ {A = ℕ} 0 5 = n in omega arith))

  -- AND ONE THAT IS NOT SOUND IS
  pub hand_damaged : (s : S) (size : ℕ) → 0 < size → size ≤ 4294967284 → (Sound op most places s → ⊥) → (hand op most places s size).number ≡ 5
  hand_damaged s size p q h =
      hand_cases op places (soundᵇ op most places) s size (λ o. o.number ≡ 5) (λ e. absurd (omega arith)) (λ e. absurd (omega arith)) (λ a b e. refl)
      (λ a b e k. absurd (h (sound_true E s e))) (λ a b e k. absurd (h (sound_true E s e)))

  pub back_damaged : (s : S) (p : ℕ) → (Sound op most places s → ⊥) → (back op most places s p).number ≡ 5
  back_damaged s p h =
      back_cases op places (soundᵇ op most places) s p (λ o. o.number ≡ 5) (λ e. refl) (λ e f. absurd (h (sound_true E s e)))
      (λ e f. absurd (h (sound_true E s e)))
