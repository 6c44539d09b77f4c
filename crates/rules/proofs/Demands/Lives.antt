-- WHAT IS LIVE after each call, payload by payload; that live payloads stay apart and inside the heap. Assumes nothing.
use mathlib.Core.Path.{◌≡◌, refl, sym, ap, ◌∙◌, subst}
use mathlib.Core.Logic.{◌≢◌, ◌⊎◌, inl, inr}
use mathlib.Core.Bool.{Bool, true, false}
use mathlib.Core.List.Memᴰ
use mathlib.Core.List.{List, [], ◌∷◌, ◌++◌}
use Prim.Native.Nat.{ℕ, ◌+◌, ◌-◌, ◌*◌, ◌/◌, ◌%◌, ◌≤◌, ◌<◌}
use native.Mathlib.Omega.{arith}
use native.Mathlib.Decide.{ℕ_discrete}
use lib.Dec.{leb}
use lib.ListN.{length}
use borrow.Author.Tests.{leb-true, leb-false, le-leb, lt-leb}
use Rattle.words.specs.Choice.{pick}
use Rattle.words.specs.Links.{narrow, wide}
use Rattle.words.specs.Sizes.{rounded_of}
use Rattle.rules.specs.Rules.Lists.{Mem}
use Rattle.rules.specs.Rules.Ops.{Ops}
use Rattle.rules.specs.Rules.State.{ops}
use Rattle.rules.specs.Rules.Chunks.{Chunk, free, busy, total, Legal, taken, release}
use Rattle.rules.proofs.Tiling.Chunks.{total_append}
use Rattle.rules.specs.Sound.Exact.{slot}
use Rattle.rules.specs.Rules.Place.{len_at, used_at, index_at}
use Rattle.rules.proofs.Tiling.Place.{free_at, used_at_lem, index_at_lem, len_at_lem, used_skip}
use Rattle.rules.proofs.Steps.Part.{legal_front, legal_back}
use Rattle.rules.proofs.Steps.Calls.{total_8}
use Rattle.rules.proofs.Steps.Store.{Edition}
use Rattle.rules.specs.Rules.Search.{at}
use Rattle.rules.specs.Rules.Search as rule
use Rattle.rules.proofs.Lists.Search.{find_fits, Fits, find_counts, Counts}
use Rattle.rules.specs.Rules.Steps.{portion}
use Rattle.rules.specs.Rules.Calls.{Figures, Outcome, byte_of, name_of, Chosen, none, one, behind, serves, choose, listed, with_cached, counted}
use Rattle.rules.specs.Rules.Calls.{without_cache_f, without_cache}
use Rattle.rules.specs.Sound.Model.{Model}
use Rattle.rules.specs.Machine.Machine.{size_m, took_m, searched, search_m, gave_m, without_cache_m, from_merged_m, from_list_m, from_cache_m, hand_out_m, live_m, settled_m}
use Rattle.rules.specs.Machine.Machine.{take_back_m}
use Rattle.rules.specs.Sound.Sound.{Shows, Sound}
use Rattle.rules.specs.Sound.Test.{soundᵇ}
use Rattle.rules.specs.Demands.Meaning.{hand, back}
use Rattle.rules.specs.Demands.Lives.{live_at, HandedOut, TakenBack, Inside, Apart, Lives}
use Rattle.rules.proofs.Demands.Answers.{hand_follows, back_follows}
use Rattle.rules.proofs.Demands.Cache.{Picked, choose_picked, listed_true, listed_false}
use Rattle.rules.proofs.Demands.Numbers.{r16}
use Rattle.rules.proofs.Demands.Shown.{met_free}
use Rattle.rules.proofs.Demands.Released.{without_cache_shows}
use Rattle.rules.proofs.Demands.Follow.{live_same, live_is, live_len, snoc_used}
use Rattle.rules.proofs.Demands.LetGo.{without_cache_figures, empty_cache_live}
use Rattle.rules.proofs.Demands.Cases.{hand_cases, back_cases, hand_m-cases, back_m-cases}
use Rattle.rules.proofs.Demands.Decide.{sound_true}
use Rattle.rules.proofs.Tiling.Facts.{taken_used, taken_there, taken_only, free_there, release_used, release_gone, used_len, inside}
use Rattle.rules.proofs.Demands.Proved.{narrow_edition, wide_edition}

-- ---- layouts

-- TAKING the free chunk at total pre leaves every other place as it was
taken_away : (pre : List Chunk) (n : ℕ) (post : List Chunk) (z b : ℕ) → Legal (pre ++ free n ∷ post) → 16 ≤ z → b ≢ total pre
    → used_at (taken (pre ++ free n ∷ post) (length pre) z) b ≡ used_at (pre ++ free n ∷ post) b
taken_away pre n post z b l z16 d =
    go (ℕ_discrete (used_at (pre ++ free n ∷ post) b) 0) (ℕ_discrete (used_at (taken (pre ++ free n ∷ post) (length pre) z) b) 0)
  where
    clash : used_at (pre ++ free n ∷ post) b ≡ 0 → (b ≡ total pre) ⊎ (used_at (pre ++ free n ∷ post) b ≢ 0) → ⊥
    clash e (inl q) = d q
    clash e (inr q) = q e

    go : Dec (used_at (pre ++ free n ∷ post) b ≡ 0) → Dec (used_at (taken (pre ++ free n ∷ post) (length pre) z) b ≡ 0)
        → used_at (taken (pre ++ free n ∷ post) (length pre) z) b ≡ used_at (pre ++ free n ∷ post) b
    go (no e) t = taken_used pre n post z b l z16 e
    go (yes e) (yes f) = f ∙ sym e
    go (yes e) (no f) = absurd (clash e (taken_only pre n post z b l z16 f))

-- a used chunk begins at a multiple of 8
used_8 : (cs : List Chunk) (b : ℕ) → Legal cs → used_at cs b ≢ 0 → b % 8 ≡ 0
used_8 cs b l k =
    let u = used_at_lem cs b k in
    ap (λ (x : ℕ). x % 8) u.byte ∙ total_8 u.pre (legal_front u.pre (busy (used_at cs b) ∷ u.post) (subst Legal u.is l))

-- ---- live, by what is used and what is cached

-- below offset 4 nothing is live
live_low : (m : Model) (p : ℕ) → p < 4 → live_m m p ≡ 0
unfolding live_m
live_low m p h = rw (lt-leb 4 p h) refl

-- what is cached is not live
live_cached : (m : Model) (p : ℕ) → Mem (name_of (p - 4)) m.figs.cached → live_m m p ≡ 0
unfolding live_m
live_cached m p i = go (leb 4 p) (listed (name_of (p - 4)) m.figs.cached) refl
  where
    go : (t v : Bool) → listed (name_of (p - 4)) m.figs.cached ≡ v → pick t (pick v 0 (used_at m.cs (p - 4))) 0 ≡ 0
    go true true e = refl
    go true false e = absurd (listed_false (name_of (p - 4)) m.figs.cached e i)
    go false v e = refl

-- where no used chunk begins nothing is live
pub live_unused : (m : Model) (p : ℕ) → used_at m.cs (p - 4) ≡ 0 → live_m m p ≡ 0
unfolding live_m
live_unused m p u = go (leb 4 p) (listed (name_of (p - 4)) m.figs.cached)
  where
    go : (t v : Bool) → pick t (pick v 0 (used_at m.cs (p - 4))) 0 ≡ 0
    go true true = refl
    go true false = u
    go false v = refl

-- a used chunk that is not cached is live
pub live_used : (m : Model) (p : ℕ) → 4 ≤ p → (Mem (name_of (p - 4)) m.figs.cached → ⊥) → live_m m p ≡ used_at m.cs (p - 4)
unfolding live_m
live_used m p p4 c = rw (le-leb 4 p p4) (go (listed (name_of (p - 4)) m.figs.cached) refl)
  where
    go : (v : Bool) → listed (name_of (p - 4)) m.figs.cached ≡ v → pick v 0 (used_at m.cs (p - 4)) ≡ used_at m.cs (p - 4)
    go true e = absurd (c (listed_true (name_of (p - 4)) m.figs.cached e))
    go false e = refl

-- the same used chunk, cached in both or in neither
live_alike : (m n : Model) (q : ℕ) → (4 ≤ q → used_at n.cs (q - 4) ≡ used_at m.cs (q - 4))
    → (4 ≤ q → used_at m.cs (q - 4) ≢ 0 → (Mem (name_of (q - 4)) n.figs.cached → Mem (name_of (q - 4)) m.figs.cached)
    × (Mem (name_of (q - 4)) m.figs.cached → Mem (name_of (q - 4)) n.figs.cached))
    → live_m n q ≡ live_m m q
live_alike m n q u c = low (leb 4 q) refl
  where
    held : 4 ≤ q → used_at m.cs (q - 4) ≢ 0 → (v : Bool) → listed (name_of (q - 4)) m.figs.cached ≡ v → live_m n q ≡ live_m m q
    held a k true e = let i = listed_true (name_of (q - 4)) m.figs.cached e in live_cached n q ((c a k).1 i) ∙ sym (live_cached m q i)
    held a k false e =
        let f = listed_false (name_of (q - 4)) m.figs.cached e in
        live_used n q a (λ i. f ((c a k).0 i)) ∙ u a ∙ sym (live_used m q a f)

    used : 4 ≤ q → Dec (used_at m.cs (q - 4) ≡ 0) → live_m n q ≡ live_m m q
    used a (yes e) = live_unused n q (u a ∙ e) ∙ sym (live_unused m q e)
    used a (no k) = held a k (listed (name_of (q - 4)) m.figs.cached) refl

    low : (t : Bool) → leb 4 q ≡ t → live_m n q ≡ live_m m q
    low true e = used (leb-true 4 q e) (ℕ_discrete (used_at m.cs (q - 4)) 0)
    low false e = live_low n q (leb-false 4 q e) ∙ sym (live_low m q (leb-false 4 q e))

-- ---- the cache: what is not chosen stays

-- after the choice every other cached chunk is still cached
Rest : List ℕ → Chosen → Type 0
Rest ks none = Unit {0}
Rest ks (one x xs) = (y : ℕ) → Mem y ks → (y ≡ x) ⊎ Mem y xs

-- choosing leaves the others cached
choose_rest : (size : ℕ → ℕ) (z : ℕ) (ks : List ℕ) → Rest ks (choose size z ks)
unfolding choose Rest
choose_rest size z [] = tt
choose_rest size z (k ∷ ks) = go (serves (size k) z) (choose size z ks) (choose_rest size z ks)
  where
    here : (y : ℕ) → Mem y (k ∷ ks) → (y ≡ k) ⊎ Mem y ks
    here y (Memᴰ.head e) = inl e
    here y (Memᴰ.tail i) = inr i

    deep : (x : ℕ) (xs : List ℕ) → ((y : ℕ) → Mem y ks → (y ≡ x) ⊎ Mem y xs) → (y : ℕ) → Mem y (k ∷ ks) → (y ≡ x) ⊎ Mem y (k ∷ xs)
    deep x xs f y (Memᴰ.head e) = inr (Memᴰ.head e)
    deep x xs f y (Memᴰ.tail i) = on (f y i)
      where
        on : (y ≡ x) ⊎ Mem y xs → (y ≡ x) ⊎ Mem y (k ∷ xs)
        on (inl e) = inl e
        on (inr j) = inr (Memᴰ.tail j)

    go : (t : Bool) (c : Chosen) → Rest ks c → Rest (k ∷ ks) (pick t (one k ks) (behind k c))
    go true c r = here
    go false none r = tt
    go false (one x xs) r = deep x xs r

-- what serves z bytes has them, and at most 512 more
serves_both : (n z : ℕ) → serves n z ≡ true → (z ≤ n) × (n ≤ z + 512)
serves_both n z e = go (leb z n) refl e
  where
    go : (t : Bool) → leb z n ≡ t → pick t (leb n (z + 512)) false ≡ true → (z ≤ n) × (n ≤ z + 512)
    go true f g = (leb-true z n f, leb-true n (z + 512) g)
    go false f g = absurd (let u : ◌≡◌ {A = ℕ} 0 1 = cc in omega arith)

-- what is kept of a chunk for z bytes has them, and at most 512 more
portion_most : (n z : ℕ) → z ≤ n → (z ≤ portion n z) × (portion n z ≤ z + 512)
portion_most n z h = go (leb (z + 12) n) refl
  where
    go : (t : Bool) → leb (z + 12) n ≡ t → (z ≤ pick t z n) × (pick t z n ≤ z + 512)
    go true e = (omega arith, omega arith)
    go false e = let q = leb-false (z + 12) n e in (h, omega arith)

-- the same on models
record NewM (m n : Model) (z v : ℕ) : Type 0 where
  new : live_m m v ≡ 0
  enough : z ≤ live_m n v
  slack : live_m n v ≤ z + 512
  others : (q : ℕ) → q ≢ v → live_m n q ≡ live_m m q

-- what is taken back is live no more, and the others stay
record GoneM (m n : Model) (p : ℕ) : Type 0 where
  gone : live_m n p ≡ 0
  others : (q : ℕ) → q ≢ p → live_m n q ≡ live_m m q

module _ {S : Type 0} {op : Ops S Figures} {most places : ℕ} (E : Edition op most places) (s : S) (m : Model) (h : Shows op most places s m) where
  -- HANDED OUT from the cache
  from_cache_lem : (z x : ℕ) (ks : List ℕ) (i : ℕ) → Picked (size_m m) z m.figs.cached (one x ks) → Rest m.figs.cached (one x ks)
      → NewM m (record { cs = m.cs; orders = m.orders; figs = with_cached m.figs i ks }) z (byte_of x + 4)
      × (live_m (record { cs = m.cs; orders = m.orders; figs = with_cached m.figs i ks }) (byte_of x + 4) ≡ size_m m x)
  unfolding Rest
  from_cache_lem z x ks i p rest =
      let u = h.cache.used x p.1 in
      let x6 = u.0 in
      let y = used_len m.cs (byte_of x) h.legal u.1 in
      let b : byte_of x + 4 - 4 ≡ byte_of x = omega arith in
      let n : name_of (byte_of x + 4 - 4) ≡ x = omega arith in
      let own : live_m M (byte_of x + 4) ≡ size_m m x = live_used M (byte_of x + 4) (omega arith) (λ j. (p.3 h.cache.once).0 (subst (λ (t : ℕ). Mem t ks) n j))
      ∙ ap (used_at m.cs) b ∙ sym y in
      let sv = serves_both (size_m m x) z p.0 in
      let s0 = sv.0 in
      let s1 = sv.1 in (
        record {
          new = live_cached m (byte_of x + 4) (subst (λ (t : ℕ). Mem t m.figs.cached) (sym n) p.1);
          enough = omega arith;
          slack = omega arith;
          others = λ q d. live_alike m M q (λ a. refl) (λ a k.
              (λ j. p.2 (name_of (q - 4)) j, λ j. stays q d a x6 (used_8 m.cs (q - 4) h.legal k) (rest (name_of (q - 4)) j)));
        },
        own,
      )
    where
      M : Model
      M = record { cs = m.cs; orders = m.orders; figs = with_cached m.figs i ks }

      stays : (q : ℕ) → q ≢ byte_of x + 4 → 4 ≤ q → 6 ≤ x → (q - 4) % 8 ≡ 0 → (name_of (q - 4) ≡ x) ⊎ Mem (name_of (q - 4)) ks → Mem (name_of (q - 4)) ks
      stays q d a x6 q8 (inl e) = absurd (d (omega arith))
      stays q d a x6 q8 (inr j) = j

  -- from a list
  from_list_lem : (z x c : ℕ) → 16 ≤ z → search_m m z ≡ at x c
      → NewM m (took_m m x (size_m m x) z) z (byte_of x + 4) × (live_m (took_m m x (size_m m x) z) (byte_of x + 4) ≡ portion (size_m m x) z)
  unfolding took_m
  from_list_lem z x c z16 e =
      let f : Mem x (searched m z) × (z ≤ size_m m x) = subst (Fits (size_m m) z (searched m z)) e (find_fits (size_m m) z (searched m z) 0) in
      let w = met_free E s m h z x f.0 in
      let n = w.0 in
      let a = free_at 0 m.cs (slot x n) w.1 in
      let l = subst Legal a.is h.legal in
      let lp = legal_front a.pre (free n ∷ a.post) l in
      let t8 = total_8 a.pre lp in
      let nm : x ≡ (0 + total a.pre) / 4 + 6 = a.named in
      let k4 : total a.pre / 4 ≡ 2 * (total a.pre / 8) = omega arith in
      let bx : byte_of x ≡ total a.pre = omega arith in
      let sz : size_m m x ≡ n = ap (λ cs. len_at cs (byte_of x)) a.is ∙ len_at_lem a.pre (free n) a.post (byte_of x) lp bx in
      let ix : index_at m.cs (byte_of x) ≡ length a.pre = ap (λ cs. index_at cs (byte_of x)) a.is ∙ index_at_lem a.pre (free n) a.post
      (byte_of x) lp bx in
      let cs' : taken m.cs (index_at m.cs (byte_of x)) z ≡ taken (a.pre ++ free n ∷ a.post) (length a.pre) z =
      ap (λ (i : ℕ). taken m.cs i z) ix ∙ ap (λ cs. taken cs (length a.pre) z) a.is in
      let own : used_at (taken m.cs (index_at m.cs (byte_of x)) z) (byte_of x) ≡ portion n z = ap (λ cs. used_at cs (byte_of x)) cs'
      ∙ ap (used_at (taken (a.pre ++ free n ∷ a.post) (length a.pre) z)) bx ∙ taken_there a.pre n a.post z lp in
      let none : used_at m.cs (byte_of x) ≡ 0 = ap (λ cs. used_at cs (byte_of x)) a.is ∙ ap (used_at (a.pre ++ free n ∷ a.post)) bx ∙ free_there
      a.pre n a.post lp in
      let b : byte_of x + 4 - 4 ≡ byte_of x = omega arith in
      let nx : name_of (byte_of x + 4 - 4) ≡ x = omega arith in
      let mine : live_m (took_m m x (size_m m x) z) (byte_of x + 4) ≡ portion n z = live_used (took_m m x (size_m m x) z) (byte_of x + 4) (omega arith)
      (λ j. let u = h.cache.used x (subst (λ (t : ℕ). Mem t m.figs.cached) nx j) in let v = u.1 in omega arith)
      ∙ ap (used_at (taken m.cs (index_at m.cs (byte_of x)) z)) b ∙ own in
      let pm = portion_most n z (let g = f.1 in omega arith) in
      let p0 = pm.0 in
      let p1 = pm.1 in (
        record {
          new = live_unused m (byte_of x + 4) (ap (used_at m.cs) b ∙ none);
          enough = omega arith;
          slack = omega arith;
          others = λ q d. live_alike m (took_m m x (size_m m x) z) q
              (λ g. ap (λ cs. used_at cs (q - 4)) cs' ∙ taken_away a.pre n a.post z (q - 4) l z16 (λ y. d (omega arith)) ∙ ap (λ cs. used_at cs (q - 4))
              (sym a.is))
              (λ g k. (λ j. j, λ j. j));
        },
        mine ∙ ap (λ (t : ℕ). portion t z) (sym sz),
      )

  -- something was compared for it, and what the figures are
  listed_model : (z x c : ℕ) → 16 ≤ z → search_m m z ≡ at x c
      → let l = live_m (took_m m x (size_m m x) z) (byte_of x + 4) in
      NewM m (took_m m x (size_m m x) z) z (byte_of x + 4) × (0 < c) × ((took_m m x (size_m m x) z).figs ≡ counted m.figs l (byte_of x + 4 - 4 + l))
  unfolding took_m
  listed_model z x c z16 e =
      let w = from_list_lem z x c z16 e in
      let k : Counts (size_m m) z (searched m z) 0 (at x c) = subst (Counts (size_m m) z (searched m z) 0) e (find_counts (size_m m) z (searched m z) 0) in
      let d = k.3 in
      let b : byte_of x ≡ byte_of x + 4 - 4 = omega arith in (
        w.0,
        omega arith,
        ap (λ (l : ℕ). counted m.figs l (byte_of x + l)) (sym w.1)
            ∙ ap (λ (t : ℕ). counted m.figs (live_m (took_m m x (size_m m x) z) (byte_of x + 4)) (t + live_m (took_m m x (size_m m x) z) (byte_of x + 4))) b,
      )

module _ {S : Type 0} {op : Ops S Figures} {most places : ℕ} (E : Edition op most places) (s : S) (m : Model) (h : Shows op most places s m) where
  -- EMPTYING changes nothing live
  merged_live : (q : ℕ) → live_m (without_cache_m m) q ≡ live_m m q
  merged_live q = empty_cache_live E m.figs.cached s m q h refl

  -- nor the figures but committed and the cache
  merged_figures : (without_cache_m m).figs ≡ without_cache_f m.figs
  merged_figures = sym (without_cache_shows E s m h).figs ∙ without_cache_figures E s m h ∙ ap without_cache_f h.figs

  -- HANDED OUT: with it how long it is, and what the figures are
  abbrev ServedM : ℕ → Outcome Model → Type 0
  ServedM z o =
      let l = live_m o.after o.value in
      o.number ≡ 0 → NewM m o.after z o.value
      × (o.compared ≡ 0 → o.after.figs ≡ with_cached m.figs (m.figs.in_use + l) o.after.figs.cached)
      × (0 < o.compared
      → (o.after.figs ≡ counted m.figs l (o.value - 4 + l)) ⊎ (o.after.figs ≡ counted (without_cache_f m.figs) l (o.value - 4 + l)))

  -- a handout of the rules without memory does it
  handed_model : (size : ℕ) → ServedM (rounded_of size) (hand_out_m m size)
  handed_model size =
      hand_m-cases m size (ServedM z) (λ e n. absurd (let u : ◌≡◌ {A = ℕ} 1 0 = n in omega arith)) (λ e n. absurd (let u : ◌≡◌ {A = ℕ} 2 0 = n in omega arith))
      (λ a b k n. absurd (let u : ◌≡◌ {A = ℕ} 8 0 = n in omega arith))
      (λ a b k. served (choose (size_m m) z m.figs.cached) (choose_picked (size_m m) z m.figs.cached) (choose_rest (size_m m) z m.figs.cached))
    where
      z : ℕ
      z = rounded_of size

      n : Model
      n = without_cache_m m

      again : (c : ℕ) (f : rule.Found) → search_m n z ≡ f → ServedM z (from_merged_m m z c f)
      again c (at x d) e k =
          let w = listed_model E (without_cache op s) n (without_cache_shows E s m h) z x d (r16 size) e in
          let v = w.0 in
          let l = live_m (took_m n x (size_m n x) z) (byte_of x + 4) in
          let d0 = w.1 in (
            record { new = sym (merged_live (byte_of x + 4)) ∙ v.new; enough = v.enough; slack = v.slack; others = λ q y. v.others q y ∙ merged_live q },
            λ y. absurd (omega arith),
            λ y. inr (w.2 ∙ ap (λ (g : Figures). counted g l (byte_of x + 4 - 4 + l)) merged_figures),
          )
      again c (rule.nowhere d) e k = absurd (let u : ◌≡◌ {A = ℕ} 3 0 = k in omega arith)
      again c rule.lost e k = absurd (let u : ◌≡◌ {A = ℕ} 5 0 = k in omega arith)

      found : (f : rule.Found) → search_m m z ≡ f → ServedM z (from_list_m m z f)
      found (at x c) e k = let w = listed_model E s m h z x c (r16 size) e in let c0 = w.1 in (w.0, λ y. absurd (omega arith), λ y. inl w.2)
      found (rule.nowhere c) e k = again c (search_m n z) refl k
      found rule.lost e k = absurd (let u : ◌≡◌ {A = ℕ} 5 0 = k in omega arith)

      served : (c : Chosen) → Picked (size_m m) z m.figs.cached c → Rest m.figs.cached c → ServedM z (from_cache_m m z c)
      served (one x ks) p r = λ k. let w = from_cache_lem E s m h z x ks (m.figs.in_use + size_m m x) p r in (
        w.0,
        λ c. ap (λ (l : ℕ). with_cached m.figs (m.figs.in_use + l) ks) (sym w.1),
        λ c. absurd (let u : ◌<◌ 0 0 = c in omega arith),
      )
      served none p r = found (search_m m z) refl

  -- TAKEN BACK
  module _ (p : ℕ) (alive : live_m m p ≢ 0) where
    v : (byte_of (name_of (p - 4)) ≡ p - 4) × (0 < used_at m.cs (p - 4)) × (Mem (name_of (p - 4)) m.figs.cached → ⊥) × (4 ≤ p)
    v = live_is E s m h p alive

    p8 : (p - 4) % 8 ≡ 0
    p8 = used_8 m.cs (p - 4) h.legal (let q = v.1 in λ e. omega arith)

    -- the name of a used chunk's byte tells the byte
    same_name : (q : ℕ) → 4 ≤ q → (q - 4) % 8 ≡ 0 → name_of (q - 4) ≡ name_of (p - 4) → q ≡ p
    same_name q q4 q8 e = let a = v.3 in let b = p8 in omega arith

    -- the cached ones and this one
    ends_in : (q : ℕ) → Mem q (m.figs.cached ++ name_of (p - 4) ∷ []) → Mem q m.figs.cached ⊎ (q ≡ name_of (p - 4))
    ends_in q i = go (Memᴰ.append_cases m.figs.cached i)
      where
        go : Mem q m.figs.cached ⊎ Mem q (name_of (p - 4) ∷ []) → Mem q m.figs.cached ⊎ (q ≡ name_of (p - 4))
        go (inl j) = inl j
        go (inr j) = inr (Memᴰ.eq_of_singleton j)

    module _ (i k : ℕ) (ks : List ℕ) (is : m.figs.cached ++ name_of (p - 4) ∷ [] ≡ k ∷ ks) where
      into : (q : ℕ) → Mem q (m.figs.cached ++ name_of (p - 4) ∷ []) → Mem q (k ∷ ks)
      into q j = subst (λ (t : List ℕ). Mem q t) is j

      out : (q : ℕ) → q ≢ p → 4 ≤ q → (q - 4) % 8 ≡ 0 → Mem (name_of (q - 4)) (k ∷ ks) → Mem (name_of (q - 4)) m.figs.cached
      out q d a q8 j = go (ends_in (name_of (q - 4)) (subst (λ (t : List ℕ). Mem (name_of (q - 4)) t) (sym is) j))
        where
          go : Mem (name_of (q - 4)) m.figs.cached ⊎ (name_of (q - 4) ≡ name_of (p - 4)) → Mem (name_of (q - 4)) m.figs.cached
          go (inl t) = t
          go (inr e) = absurd (d (same_name q a q8 e))

      own : Mem (name_of (p - 4)) (k ∷ ks)
      own = into (name_of (p - 4)) (Memᴰ.append_right m.figs.cached (Memᴰ.head refl))

      -- only cached
      abbrev M : Model
      M = record { cs = m.cs; orders = m.orders; figs = with_cached m.figs i (k ∷ ks) }

      only_cached : GoneM m M p
      only_cached = record {
        gone = live_cached M p own;
        others = λ q d. live_alike m M q (λ a. refl) (λ a u.
            (out q d a (used_8 m.cs (q - 4) h.legal u), λ j. into (name_of (q - 4)) (Memᴰ.append_left (name_of (p - 4) ∷ []) j)));
      }

      -- the oldest is released
      abbrev G : Model
      G = gave_m m i ks (byte_of k) (size_m m k)

      oldest_released : GoneM m G p
      unfolding gave_m
      oldest_released =
          let ku = snoc_used E s m h p alive k (subst (λ (t : List ℕ). Mem k t) (sym is) (Memᴰ.head refl)) in
          let kn : used_at m.cs (byte_of k) ≢ 0 = (let w = ku.1 in λ e. omega arith) in
          let u = used_at_lem m.cs (byte_of k) kn in
          let n = used_at m.cs (byte_of k) in
          let l = subst Legal u.is h.legal in
          let lp = legal_front u.pre (busy n ∷ u.post) l in
          let bk : byte_of k ≡ total u.pre = u.byte in
          let ix : index_at m.cs (byte_of k) ≡ length u.pre = ap (λ cs. index_at cs (byte_of k)) u.is ∙ index_at_lem u.pre (busy n) u.post
          (byte_of k) lp bk in
          let cs' : release m.cs (index_at m.cs (byte_of k)) ≡ release (u.pre ++ busy n ∷ u.post) (length u.pre) =
          ap (λ (j : ℕ). release m.cs j) ix ∙ ap (λ cs. release cs (length u.pre)) u.is in
          finish ku.0
          (λ c d. ap (λ cs. used_at cs c) cs' ∙ release_used u.pre n u.post c l (λ y. d (y ∙ sym bk)) ∙ ap (λ cs. used_at cs c) (sym u.is))
          (ap (λ cs. used_at cs (byte_of k)) cs' ∙ ap (used_at (release (u.pre ++ busy n ∷ u.post) (length u.pre))) bk ∙ release_gone u.pre n u.post l)
          (used_8 m.cs (byte_of k) h.legal kn)
        where
          finish : 6 ≤ k → ((c : ℕ) → c ≢ byte_of k → used_at G.cs c ≡ used_at m.cs c) → used_at G.cs (byte_of k) ≡ 0 → byte_of k % 8 ≡ 0 → GoneM m G p
          finish k6 away gone k8 = record { gone = mine own; others = λ q d. other q d (ℕ_discrete (q - 4) (byte_of k)) (leb 4 q) refl }
            where
              mine : Mem (name_of (p - 4)) (k ∷ ks) → live_m G p ≡ 0
              mine (Memᴰ.head e) = live_unused G p (ap (used_at G.cs) (sym v.0 ∙ ap byte_of e) ∙ gone)
              mine (Memᴰ.tail j) = live_cached G p j

              keeps : (q : ℕ) → 4 ≤ q → (q - 4) % 8 ≡ 0 → q - 4 ≢ byte_of k → Mem (name_of (q - 4)) (k ∷ ks) → Mem (name_of (q - 4)) ks
              keeps q a q8 d (Memᴰ.head e) = absurd (d (omega arith))
              keeps q a q8 d (Memᴰ.tail j) = j

              other : (q : ℕ) → q ≢ p → Dec (q - 4 ≡ byte_of k) → (t : Bool) → leb 4 q ≡ t → live_m G q ≡ live_m m q
              other q d e false f = live_low G q (leb-false 4 q f) ∙ sym (live_low m q (leb-false 4 q f))
              other q d (yes e) true f =
                  let nk : name_of (q - 4) ≡ k = omega arith in
                  live_unused G q (ap (used_at G.cs) e ∙ gone)
                  ∙ sym (live_cached m q (out q d (leb-true 4 q f) (ap (λ (t : ℕ). t % 8) e ∙ k8) (Memᴰ.head nk)))
              other q d (no e) true f =
                  live_alike m G q (λ a. away (q - 4) e)
                  (λ a u. let q8 = used_8 m.cs (q - 4) h.legal u in
                  (λ j. out q d a q8 (Memᴰ.tail j), λ j. keeps q a q8 e (into (name_of (q - 4)) (Memᴰ.append_left (name_of (p - 4) ∷ []) j))))

  -- a free that is done, on models
  abbrev BackM : ℕ → Outcome Model → Type 0
  BackM p o = o.number ≡ 0 → (0 < live_m m p) × GoneM m o.after p

  -- taking back of the rules without memory does it
  taken_model : (p : ℕ) → BackM p (take_back_m places m p)
  taken_model p = back_m-cases m places p (BackM p) (λ e n. absurd (let u : ◌≡◌ {A = ℕ} 4 0 = n in omega arith)) (λ a n. (omega arith, done a))
    where
      done : (a : live_m m p ≢ 0) → GoneM m (settled_m places m (m.figs.in_use - live_m m p) (m.figs.cached ++ name_of (p - 4) ∷ [])) p
      done a = go (m.figs.cached ++ name_of (p - 4) ∷ []) refl
        where
          go : (ks : List ℕ) → m.figs.cached ++ name_of (p - 4) ∷ [] ≡ ks → GoneM m (settled_m places m (m.figs.in_use - live_m m p) ks) p
          go [] e = absurd (Memᴰ.not-nil (subst (λ (t : List ℕ). Mem (name_of (p - 4)) t) e (Memᴰ.append_right m.figs.cached (Memᴰ.head refl))))
          go (k ∷ ks) e = on (leb (length (k ∷ ks)) places)
            where
              on : (t : Bool) → GoneM m (pick t (record { cs = m.cs; orders = m.orders; figs = with_cached m.figs (m.figs.in_use - live_m m p) (k ∷ ks) })
                  (gave_m m (m.figs.in_use - live_m m p) ks (byte_of k) (size_m m k))) p
              on true = only_cached p a (m.figs.in_use - live_m m p) k ks e
              on false = oldest_released p a (m.figs.in_use - live_m m p) k ks e

  -- PLACES
  placed : (p : ℕ) → live_m m p ≢ 0 → (4 ≤ p) × (p % 8 ≡ 4) × (16 ≤ live_m m p) × (live_m m p % 8 ≡ 0) × (p + live_m m p ≤ 4 * op.count s)
  placed p a =
      let w = live_is E s m h p a in
      let p4 = w.3 in
      let n = live_len E s m h p a in
      let k : used_at m.cs (p - 4) ≢ 0 = (let q = w.1 in λ e. omega arith) in
      let u = used_at_lem m.cs (p - 4) k in
      let c = used_at m.cs (p - 4) in
      let l = subst Legal u.is h.legal in
      let lb = legal_back u.pre (busy c ∷ u.post) l in
      let l16 : 16 ≤ c = lb.0 in
      let l8 : c % 8 ≡ 0 = lb.1 in
      let t8 = total_8 u.pre (legal_front u.pre (busy c ∷ u.post) l) in
      let b = u.byte in
      let ta = total_append u.pre (busy c ∷ u.post) in
      let tf : total (u.pre ++ busy c ∷ u.post) ≡ 4 * (op.count s - 1) = sym (ap total u.is) ∙ h.fills in
      let e5 = h.accepted.0 in
      (p4, omega arith, omega arith, ap (λ (t : ℕ). t % 8) n ∙ l8, omega arith)

  -- of two used chunks the lower one ends where the other begins, or before
  separate : (p q : ℕ) → live_m m p ≢ 0 → live_m m q ≢ 0 → p < q → p + live_m m p ≤ q
  separate p q a b lt =
      let wp = live_is E s m h p a in
      let wq = live_is E s m h q b in
      let p4 = wp.3 in
      let n = live_len E s m h p a in
      let k : used_at m.cs (p - 4) ≢ 0 = (let t = wp.1 in λ e. omega arith) in
      let u = used_at_lem m.cs (p - 4) k in
      let c = used_at m.cs (p - 4) in
      let l = subst Legal u.is h.legal in
      let lp = legal_front u.pre (busy c ∷ u.post) l in
      let bt = u.byte in
      let sk = used_skip u.pre (busy c ∷ u.post) (q - 4) lp (omega arith) in
      let uq : 0 < used_at (busy c ∷ u.post) (q - 4 - total u.pre) = subst (λ (t : ℕ). 0 < t) (ap (λ cs. used_at cs (q - 4)) u.is ∙ sk) wq.1 in
      let r = after_first c u.post (q - 4 - total u.pre) (omega arith) uq in
      omega arith
    where
      after_first : (c : ℕ) (cs : List Chunk) (b : ℕ) → 0 < b → 0 < used_at (busy c ∷ cs) b → c ≤ b
      after_first c cs b b0 w = go (leb c b) refl
        where
          go : (t : Bool) → leb c b ≡ t → c ≤ b
          go true e = leb-true c b e
          go false e = absurd (let z = inside (busy c) cs b b0 (leb-false c b e) in omega arith)

-- ---- on states

module _ {S : Type 0} {op : Ops S Figures} {most places : ℕ} (E : Edition op most places) where
  -- what is served was sound
  pub served_sound : (s : S) (size : ℕ) → (hand op most places s size).number ≡ 0 → Sound op most places s
  served_sound s size n = sound_true E s (hand_cases op places (soundᵇ op most places) s size (λ o. o.number ≡ 0 → soundᵇ op most places s ≡ true)
      (λ e z. absurd (let u : ◌≡◌ {A = ℕ} 1 0 = z in omega arith)) (λ e z. absurd (let u : ◌≡◌ {A = ℕ} 2 0 = z in omega arith))
      (λ a b e z. absurd (let u : ◌≡◌ {A = ℕ} 5 0 = z in omega arith)) (λ a b e k z. e) (λ a b e k z. e) n)

  -- what is taken back was sound
  pub settled_sound : (s : S) (p : ℕ) → (back op most places s p).number ≡ 0 → Sound op most places s
  settled_sound s p n = sound_true E s (back_cases op places (soundᵇ op most places) s p (λ o. o.number ≡ 0 → soundᵇ op most places s ≡ true)
      (λ e z. absurd (let u : ◌≡◌ {A = ℕ} 5 0 = z in omega arith)) (λ e f z. e) (λ e f z. e) n)

  -- live as the model tells it
  pub live_shown : (s : S) (m : Model) → Shows op most places s m → (q : ℕ) → live_at op most places s q ≡ live_m m q
  live_shown s m h q = live_same E s m h q

  -- a handout, on states
  pub handed_out : HandedOut op most places
  handed_out s size n =
      let k = served_sound s size n in
      let m = k.0 in
      let h = k.1 in
      let f = hand_follows E s m h size in
      let t = (hand op most places s size).after in
      let w = (handed_model E s m h size (sym f.number ∙ n)).0 in
      let v = f.value in
      let after : (q : ℕ) → live_at op most places t q ≡ live_m (hand_out_m m size).after q = live_shown t (hand_out_m m size).after f.after in
      let own : live_at op most places t (hand op most places s size).value ≡ live_m (hand_out_m m size).after (hand_out_m m size).value =
      ap (live_at op most places t) v ∙ after (hand_out_m m size).value in
      let e = w.enough in
      let c = w.slack in
      record {
        new = ap (live_at op most places s) v ∙ live_shown s m h (hand_out_m m size).value ∙ w.new;
        enough = omega arith;
        slack = omega arith;
        others = λ q d. after q ∙ w.others q (λ y. d (y ∙ sym v)) ∙ sym (live_shown s m h q);
      }

  -- taking back, on states
  pub taken_back : TakenBack op most places
  taken_back s p n =
      let k = settled_sound s p n in
      let m = k.0 in
      let h = k.1 in
      let f = back_follows E s m h p in
      let t = (back op most places s p).after in
      let w = taken_model E s m h p (sym f.number ∙ n) in
      let after : (q : ℕ) → live_at op most places t q ≡ live_m (take_back_m places m p).after q = live_shown t (take_back_m places m p).after f.after in
      record {
        was = subst (λ (x : ℕ). 0 < x) (sym (live_shown s m h p)) w.0;
        gone = after p ∙ w.1.gone;
        others = λ q d. after q ∙ w.1.others q d ∙ sym (live_shown s m h q);
      }

  -- no live payload leaves the heap
  pub inside_heap : Inside op most places
  inside_heap s p k a =
      let e = live_shown s k.0 k.1 p in
      let w = placed E s k.0 k.1 p (λ z. (let y = a in omega arith)) in
      let w2 = w.2 in
      let w4 = w.4 in
      record { low = w.0; place = w.1; least = omega arith; eights = ap (λ (t : ℕ). t % 8) e ∙ w.3; inside = omega arith }

  -- no two overlap
  pub live_apart : Apart op most places
  live_apart s p q k a b lt =
      let e = live_shown s k.0 k.1 p in
      let f = live_shown s k.0 k.1 q in
      let w = separate E s k.0 k.1 p q (λ z. (let y = a in omega arith)) (λ z. (let y = b in omega arith)) lt in
      omega arith

  -- the figures after a handout
  pub handed_figures_lem : (s : S) (size : ℕ) → (hand op most places s size).number ≡ 0
      → ((hand op most places s size).compared ≡ 0
      → op.rest (hand op most places s size).after
      ≡ with_cached (op.rest s) ((op.rest s).in_use + live_at op most places (hand op most places s size).after (hand op most places s size).value)
      (op.rest (hand op most places s size).after).cached)
      × (0 < (hand op most places s size).compared
      → (op.rest (hand op most places s size).after
      ≡ counted (op.rest s) (live_at op most places (hand op most places s size).after (hand op most places s size).value)
      ((hand op most places s size).value - 4 + live_at op most places (hand op most places s size).after (hand op most places s size).value))
      ⊎ (op.rest (hand op most places s size).after
      ≡ counted (without_cache_f (op.rest s)) (live_at op most places (hand op most places s size).after (hand op most places s size).value)
      ((hand op most places s size).value - 4 + live_at op most places (hand op most places s size).after (hand op most places s size).value)))
  handed_figures_lem s size n =
      let k = served_sound s size n in
      let m = k.0 in
      let h = k.1 in
      let f = hand_follows E s m h size in
      let w = handed_model E s m h size (sym f.number ∙ n) in
      rw (
        f.value,
        f.compared,
        f.after.figs,
        live_shown (hand op most places s size).after (hand_out_m m size).after f.after
            (hand_out_m m size).value,
        h.figs,
      ) (w.1, w.2)

  -- the claims, together
  pub lives : Lives op most places
  lives = record { handed = handed_out; taken = taken_back; inside = inside_heap; apart = live_apart }

-- BOTH WIDTHS
pub narrow_lives : (places : ℕ) → Lives (ops {R = Figures} narrow) 65529 places
narrow_lives places = lives (narrow_edition places)

-- with wide links
pub wide_lives : (places : ℕ) → Lives (ops {R = Figures} wide) 4194303 places
wide_lives places = lives (wide_edition places)
