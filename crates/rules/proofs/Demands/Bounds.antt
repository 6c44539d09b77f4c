-- BOUNDS for the code: what a sound state's readings keep to, so that no sum leaves its type and no index the heap. Conclusions speak of the state alone.
--     found_fits      the chunk that a search finds: where it lies, its length, what in use becomes, how many were compared
--     never_lost      a search on a sound state does not run out;  nowhere_short: nor does it compare more than a quarter of the words
--     cached_fits     a cached chunk;  cached_held: together with what tasks hold;  release_fits: the free bytes on its two sides
--     live_fits       the offset of a live chunk's payload;  live_held: its length is in use
--     figures_fit     the word count and the figures
-- Each for a state that shows a model, and (name with ᵇ) for one that the test says yes to. Assumes nothing.
use mathlib.Core.Path.{◌≡◌, refl, sym, ap, ◌∙◌, subst}
use mathlib.Core.Logic.{◌≢◌}
use mathlib.Core.Bool.{Bool, true, false}
use mathlib.Core.List.{List, [], ◌∷◌, ◌++◌}
use Prim.Native.Nat.{ℕ, ◌+◌, ◌-◌, ◌*◌, ◌/◌, ◌%◌, ◌≤◌, ◌<◌}
use native.Mathlib.Omega.{arith}
use lib.Dec.{lit<}
use lib.Arith.{digits_mod}
use lib.ListN.{length, length-append}
use Rattle.words.specs.Choice.{pick}
use Rattle.words.specs.Tags.{right_of}
use Rattle.words.specs.Sizes.{class_of, start_of}
use Rattle.rules.specs.Rules.Lists.{Mem}
use Rattle.rules.specs.Rules.Ops.{Ops}
use Rattle.rules.specs.Rules.Steps.{length_at, left_free, right_free}
use Rattle.rules.specs.Rules.Chunks.{Chunk, free, busy, total, Legal, used_sum}
use Rattle.rules.proofs.Tiling.Chunks.{total_append}
use Rattle.rules.specs.Sound.Exact.{slot, frees}
use Rattle.rules.specs.Sound.Tags.{Tags}
use Rattle.rules.proofs.Tiling.Tags.{tags_back}
use Rattle.rules.proofs.Steps.Part.{legal_front, legal_back}
use Rattle.rules.proofs.Steps.Calls.{Whole, total_8}
use Rattle.rules.specs.Machine.Orders.{free_head}
use Rattle.rules.proofs.Steps.Release.{right_read}
use Rattle.rules.specs.Rules.Search.{at, nowhere, lost}
use Rattle.rules.proofs.Lists.Search.{find_fits, Fits, find_counts, Counts}
use Rattle.rules.specs.Rules.Place.{used_at}
use Rattle.rules.proofs.Tiling.Place.{free_at, used_at_lem}
use Rattle.words.proofs.Laws.Sizes.{class_below}
use Rattle.rules.proofs.Tiling.Named.{size_at, listed_few}
use Rattle.rules.specs.Rules.Calls.{Figures, byte_of, name_of, first_fit, live}
use Rattle.rules.specs.Sound.Model.{Model}
use Rattle.rules.specs.Machine.Machine.{size_m, searched}
use Rattle.rules.specs.Sound.Sound.{Accepted, Shows}
use Rattle.rules.specs.Sound.Test.{soundᵇ}
use Rattle.rules.proofs.Steps.Store.{Edition}
use Rattle.rules.proofs.Demands.Shown.{L, whole, few, walked_fit, walked_same, search_same, met_free, met_size, used_size, in_use_held}
use Rattle.rules.proofs.Demands.Released.{left_there}
use Rattle.rules.proofs.Demands.Follow.{live_same, live_is, live_last}
use Rattle.rules.proofs.Tiling.LiveSums.{sum_has}
use Rattle.rules.proofs.Demands.Decide.{sound_true}

-- ---- sums of a layout

-- a free chunk's bytes are not in use; a used chunk's are
free_room : (pre : List Chunk) (n : ℕ) (post : List Chunk) → used_sum (pre ++ free n ∷ post) + n ≤ total (pre ++ free n ∷ post)
free_room [] n post = let r = used_le post in omega arith
  where
    used_le : (cs : List Chunk) → used_sum cs ≤ total cs
    used_le [] = omega arith
    used_le (c ∷ cs) = go c.used (used_le cs)
      where
        go : (u : Bool) → used_sum cs ≤ total cs → pick u c.len 0 + used_sum cs ≤ c.len + total cs
        go true r = omega arith
        go false r = omega arith
free_room (c ∷ pre) n post = go c.used (free_room pre n post)
  where
    go : (u : Bool) → used_sum (pre ++ free n ∷ post) + n ≤ total (pre ++ free n ∷ post)
        → pick u c.len 0 + used_sum (pre ++ free n ∷ post) + n ≤ c.len + total (pre ++ free n ∷ post)
    go true r = omega arith
    go false r = omega arith

busy_room : (pre : List Chunk) (n : ℕ) (post : List Chunk) → n ≤ used_sum (pre ++ busy n ∷ post)
busy_room [] n post = omega arith
busy_room (c ∷ pre) n post = let r = busy_room pre n post in omega arith

head_8 : (cs : List Chunk) → Legal cs → (free_head cs % 8 ≡ 0) × (free_head cs ≤ total cs)
head_8 [] l = (refl, omega arith)
head_8 (c ∷ cs) l = go c.used
  where
    go : (u : Bool) → (pick u 0 c.len % 8 ≡ 0) × (pick u 0 c.len ≤ c.len + total cs)
    go true = (refl, omega arith)
    go false = (l.1, omega arith)

twice : (w q : ℕ) → w ≡ q * 2 + 0 → w % 2 ≡ 0
twice w q e = ap (λ (j : ℕ). j % 2) e ∙ digits_mod q (lit< tt)

-- ---- what is shown

module _ {S : Type 0} (op : Ops S Figures) (s : S) where
  -- the chunk that link x names, found for z bytes after c comparisons
  pub record FoundFits (z x c : ℕ) : Type 0 where
    pub named : 6 ≤ x
    pub reaches : z ≤ length_at op s x
    pub least : 16 ≤ length_at op s x
    pub eights : length_at op s x % 8 ≡ 0
    pub even : (x - 6) % 2 ≡ 0
    pub inside : (x - 6) + length_at op s x / 4 < op.count s
    pub room : (op.rest s).committed + length_at op s x ≤ 4 * (op.count s - 1)
    pub counted : c ≤ op.count s / 4

  -- the cached chunk that link x names
  pub record CachedFits (x : ℕ) : Type 0 where
    pub named : 6 ≤ x
    pub least : 16 ≤ length_at op s x
    pub eights : length_at op s x % 8 ≡ 0
    pub even : (x - 6) % 2 ≡ 0
    pub inside : (x - 6) + length_at op s x / 4 < op.count s
    pub counted : length_at op s x ≤ (op.rest s).committed

  -- what is free on the two sides of n bytes at word w
  pub record ReleaseFits (w n : ℕ) : Type 0 where
    pub left_eights : left_free op s w % 8 ≡ 0
    pub right_eights : right_free op s (right_of w n) % 8 ≡ 0
    pub left : left_free op s w / 4 ≤ w
    pub right : w + n / 4 + right_free op s (right_of w n) / 4 < op.count s

  -- the payload offset p of a live chunk
  pub record LiveFits (p : ℕ) : Type 0 where
    pub low : 4 ≤ p
    pub eights : (p - 4) % 8 ≡ 0
    pub inside : (p - 4) / 4 + 1 < op.count s

  -- the count, and the figures under it
  pub record FiguresFit (most : ℕ) : Type 0 where
    pub accepted : Accepted most (op.count s)
    pub words : (op.rest s).words ≡ op.count s
    pub in_use : (op.rest s).in_use ≤ (op.rest s).committed
    pub committed : (op.rest s).committed ≤ (op.rest s).peak
    pub peak : (op.rest s).peak ≤ (op.rest s).high
    pub high : (op.rest s).high ≤ 4 * (op.count s - 1)
    pub eights : (op.rest s).high % 8 ≡ 0

module _ {S : Type 0} {op : Ops S Figures} {most places : ℕ} (E : Edition op most places) where
  module _ (s : S) (m : Model) (h : Shows op most places s m) where
    pub figures_fit : FiguresFit op s most
    figures_fit =
        let w : (op.rest s).words ≡ m.figs.words = ap (λ (r : Figures). r.words) h.figs in
        let i : (op.rest s).in_use ≡ m.figs.in_use = ap (λ (r : Figures). r.in_use) h.figs in
        let k : (op.rest s).committed ≡ m.figs.committed = ap (λ (r : Figures). r.committed) h.figs in
        let j = in_use_held E s m h in
        let d = h.right.committed in
        let p : (op.rest s).peak ≡ m.figs.peak = ap (λ (r : Figures). r.peak) h.figs in
        let g : (op.rest s).high ≡ m.figs.high = ap (λ (r : Figures). r.high) h.figs in
        let a = h.right.peak in
        let b = h.right.high in
        let c = h.right.heap in
        record {
          accepted = h.accepted;
          words = w ∙ h.words;
          in_use = omega arith;
          committed = omega arith;
          peak = omega arith;
          high = omega arith;
          eights = ap (λ (j : ℕ). j % 8) g
              ∙ h.right.eights;
        }

    -- ---- searching

    met_few : (z c : ℕ) → c ≤ length (searched m z) → c ≤ op.count s / 4
    met_few z c q =
        let l = listed_few (L E s m h) class_of class_below s m.orders m.cs (whole E s m h) (6 - start_of z) (start_of z) (omega arith) in
        let f = few E s m h in
        omega arith

    pub never_lost : (z : ℕ) → first_fit op s z ≡ lost → ⊥
    never_lost z e = subst (Fits (size_m m) z (searched m z)) (sym (search_same E s m h z) ∙ e) (find_fits (size_m m) z (searched m z) 0)

    pub nowhere_short : (z c : ℕ) → first_fit op s z ≡ nowhere c → c ≤ op.count s / 4
    nowhere_short z c e =
        let q : c ≡ 0 + length (searched m z) = subst (Counts (size_m m) z (searched m z) 0) (sym (search_same E s m h z) ∙ e)
        (find_counts (size_m m) z (searched m z) 0) in
        met_few z c (omega arith)

    -- a free chunk, and its place
    free_place : (z x c n : ℕ) → z ≤ length_at op s x → c ≤ op.count s / 4 → Mem (slot x n) (frees 0 m.cs) → FoundFits op s z x c
    free_place z x c n zn cn i =
        let f = free_at 0 m.cs (slot x n) i in
        let w = subst (λ cs. Whole (L E s m h) class_of class_below s m.orders cs) f.is (whole E s m h) in
        let l = legal_back f.pre (free n ∷ f.post) w.legal in
        let t8 = total_8 f.pre (legal_front f.pre (free n ∷ f.post) w.legal) in
        let y : length_at op s x ≡ n = size_at (L E s m h) class_of class_below s m.orders f.pre n f.post x f.named w in
        let b : x ≡ (0 + total f.pre) / 4 + 6 = f.named in
        let k : total f.pre / 4 ≡ 2 * (total f.pre / 8) = omega arith in
        let n8 : n % 8 ≡ 0 = l.1 in
        let n16 : 16 ≤ n = l.0 in
        let a = total_append f.pre (free n ∷ f.post) in
        let e : total (f.pre ++ free n ∷ f.post) ≡ 4 * (op.count s - 1) = sym (ap total f.is) ∙ h.fills in
        let u = free_room f.pre n f.post in
        let v : m.figs.committed ≡ used_sum (f.pre ++ free n ∷ f.post) = h.right.committed ∙ ap used_sum f.is in
        let g : (op.rest s).committed ≡ m.figs.committed = ap (λ (r : Figures). r.committed) h.figs in
        let ev : x - 6 ≡ total f.pre / 8 * 2 + 0 = omega arith in
        record {
          named = omega arith;
          reaches = zn;
          least = omega arith;
          eights = ap (λ (j : ℕ). j % 8) y ∙ n8;
          even = twice (x - 6)
              (total f.pre / 8) ev;
          inside = omega arith;
          room = omega arith;
          counted = cn;
        }

    pub found_fits : (z x c : ℕ) → first_fit op s z ≡ at x c → FoundFits op s z x c
    found_fits z x c e =
        let q = sym (search_same E s m h z) ∙ e in
        let f : Mem x (searched m z) × (z ≤ size_m m x) = subst (Fits (size_m m) z (searched m z)) q (find_fits (size_m m) z (searched m z) 0) in
        let k : Counts (size_m m) z (searched m z) 0 (at x c) = subst (Counts (size_m m) z (searched m z) 0) q (find_counts (size_m m) z (searched m z) 0) in
        let r = met_free E s m h z x f.0 in
        let y = met_size E s m h z x f.0 in
        let l : length (searched m z) ≡ length k.0 + (length k.1 + 1) = ap length k.2 ∙ length-append k.0 (x ∷ k.1) ∙ omega arith in
        let d = k.3 in
        let g = f.1 in
        free_place z x c r.0 (omega arith) (met_few z c (omega arith)) r.1

    -- ---- the cache

    -- a used chunk, and its place
    used_place : (x : ℕ) → 6 ≤ x → 0 < used_at m.cs (byte_of x) → CachedFits op s x × ReleaseFits op s (x - 6) (length_at op s x)
    used_place x x6 p =
        let n = used_at m.cs (byte_of x) in
        let u = used_at_lem m.cs (byte_of x) (omega arith) in
        let lg = subst Legal u.is h.legal in
        let tg = subst (λ cs. Tags (op.word s) 0 true cs) u.is h.tags in
        let l = legal_back u.pre (busy n ∷ u.post) lg in
        let t8 = total_8 u.pre (legal_front u.pre (busy n ∷ u.post) lg) in
        let y : length_at op s x ≡ n = used_size E s m h x x6 p in
        let b : (x - 6) * 4 ≡ total u.pre = u.byte in
        let n8 : n % 8 ≡ 0 = l.1 in
        let n16 : 16 ≤ n = l.0 in
        let a = total_append u.pre (busy n ∷ u.post) in
        let e : total (u.pre ++ busy n ∷ u.post) ≡ 4 * (op.count s - 1) = sym (ap total u.is) ∙ h.fills in
        let v = busy_room u.pre n u.post in
        let i : m.figs.committed ≡ used_sum (u.pre ++ busy n ∷ u.post) = h.right.committed ∙ ap used_sum u.is in
        let g : (op.rest s).committed ≡ m.figs.committed = ap (λ (r : Figures). r.committed) h.figs in
        let lt = left_there E (L E s m h) s u.pre n u.post x u.byte x6 lg tg in
        let at' : right_of (x - 6) (length_at op s x) ≡ (0 + total u.pre + n) / 4 = omega arith in
        let rt : right_free op s (right_of (x - 6) (length_at op s x)) ≡ free_head u.post =
        ap (λ (j : ℕ). right_free op s j) at' ∙ right_read (L E s m h) class_of class_below s (0 + total u.pre + n) u.post l.2
        (tags_back (op.word s) 0 true u.pre (busy n ∷ u.post) tg).2 in
        let hd = head_8 u.post l.2 in
        let hd1 = hd.1 in
        let ev : x - 6 ≡ total u.pre / 8 * 2 + 0 = omega arith in (
          record {
            named = x6;
            least = omega arith;
            eights = ap (λ (j : ℕ). j % 8) y ∙ n8;
            even = twice (x - 6)
                (total u.pre / 8) ev;
            inside = omega arith;
            counted = omega arith;
          },
          record { left_eights = lt.0; right_eights = ap (λ (j : ℕ). j % 8) rt ∙ hd.0; left = lt.1; right = omega arith },
        )

    cached_place : (x : ℕ) → Mem x (op.rest s).cached → CachedFits op s x × ReleaseFits op s (x - 6) (length_at op s x)
    cached_place x i = let u = h.cache.used x (subst (λ (r : Figures). Mem x r.cached) h.figs i) in used_place x u.0 u.1

    pub cached_fits : (x : ℕ) → Mem x (op.rest s).cached → CachedFits op s x
    cached_fits x i = (cached_place x i).0

    -- tasks hold it no more than the rest of what is committed
    pub cached_held : (x : ℕ) → Mem x (op.rest s).cached → (op.rest s).in_use + length_at op s x ≤ (op.rest s).committed
    cached_held x i =
        let j : Mem x m.figs.cached = subst (λ (r : Figures). Mem x r.cached) h.figs i in
        let u = h.cache.used x j in
        let y = used_size E s m h x u.0 u.1 in
        let b = sum_has (λ (k : ℕ). used_at m.cs (byte_of k)) x m.figs.cached j in
        let o = in_use_held E s m h in
        let d = h.right.committed in
        let f : (op.rest s).in_use ≡ m.figs.in_use = ap (λ (r : Figures). r.in_use) h.figs in
        let g : (op.rest s).committed ≡ m.figs.committed = ap (λ (r : Figures). r.committed) h.figs in
        omega arith

    pub release_fits : (x : ℕ) → Mem x (op.rest s).cached → ReleaseFits op s (x - 6) (length_at op s x)
    release_fits x i = (cached_place x i).1

    -- ---- taking back

    pub live_fits : (p : ℕ) → live op s p ≢ 0 → LiveFits op s p
    live_fits p q =
        let v = live_is E s m h p (λ e. q (live_same E s m h p ∙ e)) in
        let w = v.1 in
        let u = used_at_lem m.cs (p - 4) (omega arith) in
        let lg = subst Legal u.is h.legal in
        let n16 : 16 ≤ used_at m.cs (p - 4) = (legal_back u.pre (busy (used_at m.cs (p - 4)) ∷ u.post) lg).0 in
        let t8 = total_8 u.pre (legal_front u.pre (busy (used_at m.cs (p - 4)) ∷ u.post) lg) in
        let b = u.byte in
        let a = total_append u.pre (busy (used_at m.cs (p - 4)) ∷ u.post) in
        let e : total (u.pre ++ busy (used_at m.cs (p - 4)) ∷ u.post) ≡ 4 * (op.count s - 1) = sym (ap total u.is) ∙ h.fills in
        let p4 = v.3 in
        record { low = p4; eights = omega arith; inside = omega arith }

    pub live_held : (p : ℕ) → live op s p ≢ 0 → live op s p ≤ (op.rest s).in_use
    live_held p q =
        let e = live_same E s m h p in
        let l = live_last E s m h p (λ r. q (e ∙ r)) in
        let f : (op.rest s).in_use ≡ m.figs.in_use = ap (λ (r : Figures). r.in_use) h.figs in
        omega arith

    -- a live chunk's own header and neighbours, as of a cached one: with no cache place it is released at once
    pub live_place : (p : ℕ) → live op s p ≢ 0
        → CachedFits op s (name_of (p - 4)) × ReleaseFits op s (name_of (p - 4) - 6) (length_at op s (name_of (p - 4)))
    live_place p q =
        let v = live_is E s m h p (λ e. q (live_same E s m h p ∙ e)) in
        used_place (name_of (p - 4)) (omega arith) (subst (λ (b : ℕ). 0 < used_at m.cs b) (sym v.0) v.1)

  -- the same of a state that the test says yes to
  module _ (s : S) (ok : soundᵇ op most places s ≡ true) where
    pub figures_fitᵇ : FiguresFit op s most
    figures_fitᵇ = let h = sound_true E s ok in figures_fit s h.0 h.1

    -- the search as the code walks finds what the rules' search finds
    pub walked_fitᵇ : (z : ℕ) → walked_fit op s z ≡ first_fit op s z
    walked_fitᵇ z = let h = sound_true E s ok in walked_same E s h.0 h.1 z ∙ sym (search_same E s h.0 h.1 z)

    pub never_lostᵇ : (z : ℕ) → first_fit op s z ≡ lost → ⊥
    never_lostᵇ = let h = sound_true E s ok in never_lost s h.0 h.1

    pub nowhere_shortᵇ : (z c : ℕ) → first_fit op s z ≡ nowhere c → c ≤ op.count s / 4
    nowhere_shortᵇ = let h = sound_true E s ok in nowhere_short s h.0 h.1

    pub found_fitsᵇ : (z x c : ℕ) → first_fit op s z ≡ at x c → FoundFits op s z x c
    found_fitsᵇ = let h = sound_true E s ok in found_fits s h.0 h.1

    pub cached_fitsᵇ : (x : ℕ) → Mem x (op.rest s).cached → CachedFits op s x
    cached_fitsᵇ = let h = sound_true E s ok in cached_fits s h.0 h.1

    pub release_fitsᵇ : (x : ℕ) → Mem x (op.rest s).cached → ReleaseFits op s (x - 6) (length_at op s x)
    release_fitsᵇ = let h = sound_true E s ok in release_fits s h.0 h.1

    pub cached_heldᵇ : (x : ℕ) → Mem x (op.rest s).cached → (op.rest s).in_use + length_at op s x ≤ (op.rest s).committed
    cached_heldᵇ = let h = sound_true E s ok in cached_held s h.0 h.1

    pub live_heldᵇ : (p : ℕ) → live op s p ≢ 0 → live op s p ≤ (op.rest s).in_use
    live_heldᵇ = let h = sound_true E s ok in live_held s h.0 h.1

    pub live_fitsᵇ : (p : ℕ) → live op s p ≢ 0 → LiveFits op s p
    live_fitsᵇ = let h = sound_true E s ok in live_fits s h.0 h.1

    pub live_placeᵇ : (p : ℕ) → live op s p ≢ 0
        → CachedFits op s (name_of (p - 4)) × ReleaseFits op s (name_of (p - 4) - 6) (length_at op s (name_of (p - 4)))
    live_placeᵇ = let h = sound_true E s ok in live_place s h.0 h.1
