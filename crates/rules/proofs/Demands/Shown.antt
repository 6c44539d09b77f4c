-- WHAT A STATE SHOWS: from a whole heap to what is shown, and back; what is read of such a state; the cache changed, a payload emptied. Assumes nothing.
use mathlib.Core.Path.{◌≡◌, sym, ap, ◌∙◌, subst, fun_ext}
use mathlib.Core.Bool.{true}
use mathlib.Core.List.{List, ◌∷◌, ◌++◌}
use Prim.Native.Nat.{ℕ, ◌+◌, ◌-◌, ◌*◌, ◌/◌, ◌≤◌, ◌<◌}
use native.Mathlib.Omega.{arith}
use lib.ListN.{length}
use Rattle.words.proofs.Laws.Choice.{bit_small}
use Rattle.words.specs.Choice.{bit}
use Rattle.rules.specs.Rules.Lists.{Mem, Distinct, Seg, walk}
use Rattle.rules.specs.Rules.Ops.{Ops}
use Rattle.rules.specs.Rules.Steps.{length_at, emptied}
use Rattle.rules.proofs.Steps.Store.{LinkStore, Edition}
use Rattle.rules.proofs.Lists.Rings.{ring_once}
use Rattle.rules.proofs.Lists.Walk.{walk_ring}
use Rattle.rules.specs.Rules.Chunks.{Chunk, busy, total, Legal, Calm, used_sum}
use Rattle.rules.specs.Sound.Exact.{slot, frees}
use Rattle.rules.specs.Sound.Tags.{Tags}
use Rattle.rules.proofs.Tiling.Tags.{last_used, tags_back}
use Rattle.rules.proofs.Steps.Part.{legal_back}
use Rattle.rules.proofs.Steps.Calls.{Whole}
use Rattle.rules.proofs.Steps.Emptying.{empty_whole, emptied_rest}
use Rattle.rules.specs.Rules.Search.{Found, find, find_walk, search_all}
use Rattle.rules.proofs.Lists.Search.{find_same, in_turn_lem, turn_same, search_walk}
use Rattle.rules.specs.Rules.Place.{used_at}
use Rattle.rules.proofs.Tiling.Place.{used_at_lem, header_len}
use Rattle.words.specs.Sizes.{class_of, start_of}
use Rattle.words.proofs.Laws.Sizes.{class_below}
use Rattle.rules.proofs.Demands.Enough.{enough}
use Rattle.rules.proofs.Tiling.Named.{chunks_few, size_same, order_few, listed_few}
use Rattle.rules.specs.Rules.Calls.{Figures, byte_of, one, choose, with_cached}
use Rattle.rules.specs.Rules.Calls.{first_fit}
use Rattle.rules.specs.Sound.Model.{Model}
use Rattle.rules.specs.Machine.Machine.{size_m, searched, search_m}
use Rattle.rules.specs.Sound.Sound.{Accepted, live_sum, CacheRight, FiguresRight, Shows}
use Rattle.rules.proofs.Tiling.LiveSums.{held_sum, live_and_held}
use Rattle.rules.proofs.Tiling.Facts.{used_len}
use Rattle.rules.proofs.Demands.Cache.{Picked, choose_same}

abbrev pub model : List Chunk → (ℕ → List ℕ) → Figures → Model
model cs O f = record { cs = cs; orders = O; figs = f }

-- THE SEARCH AS THE CODE WALKS, along the links: n words list at most n / 4 chunks, and no more are compared
module _ {S : Type 0} (op : Ops S Figures) where
  unfoldable pub walked_fit : S → ℕ → Found
  walked_fit s z = search_all (λ j c. find_walk (op.next s) (length_at op s) z j (op.count s / 4 - c) (op.next s j) c) (6 - start_of z) (start_of z) 0

module _ {S : Type 0} {op : Ops S Figures} {most places : ℕ} (E : Edition op most places) where
  abbrev Sh : S → Model → Type 0
  Sh = Shows op most places

  -- from a whole heap BACK to what a state shows
  pub shown : (n : ℕ) (a : Accepted most n) (t : S) (m : Model) → Whole (E.store n a) class_of class_below t m.orders m.cs → Calm m.cs
      → op.rest t ≡ m.figs → m.figs.words ≡ n
      → CacheRight places m.figs.cached m.cs → FiguresRight m.figs (4 * (n - 1)) m.cs → Sh t m
  shown n a t m w k r e c f =
      let b = E.bytes n a in
      let q = (E.store n a).good_count t w.rings.good in
      let y : op.count t ≡ n = omega arith in
      record {
        six = (E.store n a).good_six t w.rings.good;
        figs = r;
        words = e ∙ sym y;
        accepted = subst (Accepted most) (sym y) a;
        legal = w.legal;
        fills = w.size ∙ b ∙ ap (λ (x : ℕ). 4 * (x - 1)) (sym y);
        tags = w.tags;
        calm = k;
        lists = w.rings.ring;
        exact = w.exact;
        cache = c;
        right = subst (λ (x : ℕ). FiguresRight m.figs (4 * (x - 1)) m.cs) (sym y) f;
      }

  pub whole_rest : (L : LinkStore op) (s : S) (r : Figures) (O : ℕ → List ℕ) (cs : List Chunk) → Whole L class_of class_below s O cs
      → Whole L class_of class_below (op.set_rest s r) O cs
  whole_rest L s r O cs w = record {
    rings = record {
      good = L.good-set_rest s r w.rings.good;
      ring = λ k h. subst (λ f. Seg f (op.prev (op.set_rest s r)) k (O k) k) (sym (fun_ext (λ x. L.next-set_rest s r x)))
          (subst (λ g. Seg (op.next s) g k (O k) k) (sym (fun_ext (λ x. L.prev-set_rest s r x))) (w.rings.ring k h));
      node = w.rings.node;
      once = w.rings.once;
      apart = w.rings.apart;
    };
    exact = w.exact;
    sub = w.sub;
    legal = w.legal;
    size = w.size;
    tags = subst (λ f. Tags f 0 true cs) (sym (fun_ext (λ i. L.word-set_rest s r i))) w.tags;
  }

  module _ (s : S) (m : Model) (h : Sh s m) where
    abbrev pub L : LinkStore op
    L = E.store (op.count s) h.accepted

    pub bytes : L.bytes ≡ 4 * (op.count s - 1)
    bytes = E.bytes (op.count s) h.accepted

    -- INTO a whole heap
    pub whole : Whole L class_of class_below s m.orders m.cs
    whole =
        enough L class_of class_below s m.orders m.cs (L.good_is s bytes h.accepted.0 h.six) h.legal (h.fills ∙ sym bytes) h.tags
        h.lists h.exact

    -- a chunk takes at least 16 bytes
    pub few : length m.cs ≤ op.count s / 4
    few = let c = chunks_few m.cs h.legal in let q = h.fills in omega arith

    -- the lists, followed, are the orders
    walked_is : (k : ℕ) → k < 6 → walk (op.next s) k (op.count s) (op.next s k) ≡ m.orders k
    walked_is k q =
        let o = order_few L class_of class_below s m.orders m.cs whole k q in
        let c = few in
        let n = h.accepted.0 in
        walk_ring (op.next s) (op.prev s) k (m.orders k) (op.count s) (ring_once L s m.orders whole.rings k q) (omega arith) (h.lists k q)

    -- SEARCH: along the lists as along the orders
    pub search_same : (z : ℕ) → first_fit op s z ≡ search_m m z
    unfolding first_fit
    search_same z =
        let t = turn_same (λ k. walk (op.next s) k (op.count s) (op.next s k)) m.orders (6 - start_of z) (start_of z)
        (λ j q. walked_is j (omega arith)) in
        ap (λ (xs : List ℕ). find (length_at op s) z xs 0) t
        ∙ find_same (length_at op s) (size_m m) z (searched m z) 0 (λ x i. let r = in_turn_lem m.orders (6 - start_of z) (start_of z) x i in
        size_same L class_of class_below s m.orders m.cs whole r.0 (let p = r.2 in omega arith) x r.3)

    -- and so as the code walks
    pub walked_same : (z : ℕ) → walked_fit op s z ≡ search_m m z
    unfolding walked_fit
    walked_same z =
        let l = listed_few L class_of class_below s m.orders m.cs whole (6 - start_of z) (start_of z) (omega arith) in
        let c = few in
        search_walk (op.next s) (op.prev s) (length_at op s) (size_m m) z (op.count s / 4) m.orders (6 - start_of z) (start_of z) 0
        (λ j q. let hj : j < 6 = omega arith in (
          (ring_once L s m.orders whole.rings j hj).0,
          h.lists j hj,
          size_same L class_of class_below s m.orders m.cs whole j hj,
        ))
        (omega arith)

    -- a chunk that a search meets is a free one
    pub met_free : (z x : ℕ) → Mem x (searched m z) → (n : ℕ) × Mem (slot x n) (frees 0 m.cs)
    met_free z x i =
        let t = in_turn_lem m.orders (6 - start_of z) (start_of z) x i in
        let r = h.exact.only t.0 x (let p = t.2 in omega arith) t.3 in
        (r.0, r.1)

    pub met_size : (z x : ℕ) → Mem x (searched m z) → length_at op s x ≡ size_m m x
    met_size z x i =
        let t = in_turn_lem m.orders (6 - start_of z) (start_of z) x i in
        size_same L class_of class_below s m.orders m.cs whole t.0 (let p = t.2 in omega arith) x t.3

    -- a used chunk's length, read from its header
    pub used_size : (x : ℕ) → 6 ≤ x → 0 < used_at m.cs (byte_of x) → length_at op s x ≡ used_at m.cs (byte_of x)
    used_size x h6 p =
        let n = used_at m.cs (byte_of x) in
        let u = used_at_lem m.cs (byte_of x) (omega arith) in
        let l = legal_back u.pre (busy n ∷ u.post) (subst Legal u.is h.legal) in
        let t = tags_back (op.word s) 0 true u.pre (busy n ∷ u.post) (subst (λ cs. Tags (op.word s) 0 true cs) u.is h.tags) in
        let y : (x - 6) * 4 ≡ total u.pre = u.byte in
        let q : x - 6 ≡ (0 + total u.pre) / 4 = omega arith in
        ap (λ (i : ℕ). op.word s i / 4 * 4) q ∙ header_len (op.word s ((0 + total u.pre) / 4)) n 1 (bit (last_used true u.pre)) l.1 (omega arith)
        (bit_small (last_used true u.pre)) t.0

    pub used_same : (x : ℕ) → 6 ≤ x → 0 < used_at m.cs (byte_of x) → length_at op s x ≡ size_m m x
    used_same x h6 p = used_size x h6 p ∙ sym (used_len m.cs (byte_of x) h.legal p)

    pub choose_cached : (z : ℕ) → choose (length_at op s) z (op.rest s).cached ≡ choose (size_m m) z m.figs.cached
    choose_cached z =
        ap (λ (r : Figures). choose (length_at op s) z r.cached) h.figs
        ∙ choose_same (length_at op s) (size_m m) z m.figs.cached (λ x i. let u = h.cache.used x i in used_same x u.0 u.1)

    -- live and cached lengths, of the chunks as they are
    pub live_held : (ks : List ℕ) → ((x : ℕ) → Mem x ks → (6 ≤ x) × (0 < used_at m.cs (byte_of x))) → Distinct ks
        → live_sum ks 0 m.cs + held_sum ks m.cs ≡ used_sum m.cs
    live_held ks us d = live_and_held ks m.cs h.legal d us

    pub in_use_held : m.figs.in_use + held_sum m.figs.cached m.cs ≡ used_sum m.cs
    in_use_held = let e = live_held m.figs.cached h.cache.used h.cache.once in let i = h.right.in_use in omega arith

    -- only the cache changes, and with it what tasks hold
    pub recached : (i : ℕ) (ks : List ℕ) → CacheRight places ks m.cs → i ≡ live_sum ks 0 m.cs
        → Sh (op.set_rest s (with_cached (op.rest s) i ks)) (model m.cs m.orders (with_cached m.figs i ks))
    recached i ks c e =
        rw h.figs
        (shown (op.count s) h.accepted (op.set_rest s (with_cached m.figs i ks)) (model m.cs m.orders (with_cached m.figs i ks))
        (whole_rest L s (with_cached m.figs i ks) m.orders m.cs whole) h.calm
        (L.rest-set_rest s (with_cached m.figs i ks) (E.fit (op.count s) h.accepted (with_cached m.figs i ks) c.room (λ x i. (c.used x i).0)))
        h.words c
        (record {
          in_use = e;
          committed = h.right.committed;
          peak = h.right.peak;
          high = h.right.high;
          heap = h.right.heap;
          eights = h.right.eights;
          ends = h.right.ends;
          flag = h.right.flag;
        }))

    -- a cached chunk is handed out: tasks hold its length too
    pub uncached : (z x : ℕ) (ks : List ℕ) → Picked (size_m m) z m.figs.cached (one x ks)
        → Sh (op.set_rest s (with_cached (op.rest s) ((op.rest s).in_use + length_at op s x) ks))
        (model m.cs m.orders (with_cached m.figs (m.figs.in_use + size_m m x) ks))
    uncached z x ks p =
        let u = h.cache.used x p.1 in
        let y = used_size x u.0 u.1 in
        let l = used_len m.cs (byte_of x) h.legal u.1 in
        let o = in_use_held in
        let t = p.5 (λ (k : ℕ). used_at m.cs (byte_of k)) in
        let d = (p.3 h.cache.once).1 in
        let us : (y : ℕ) → Mem y ks → (6 ≤ y) × (0 < used_at m.cs (byte_of y)) = λ y i. h.cache.used y (p.2 y i) in
        let r = live_held ks us d in
        let f : (op.rest s).in_use ≡ m.figs.in_use = ap (λ (r : Figures). r.in_use) h.figs in
        let e : m.figs.in_use + size_m m x ≡ (op.rest s).in_use + length_at op s x = omega arith in
        subst (λ (v : ℕ). Sh (op.set_rest s (with_cached (op.rest s) v ks))
        (model m.cs m.orders (with_cached m.figs (m.figs.in_use + size_m m x) ks))) e
        (recached (m.figs.in_use + size_m m x) ks (let q = p.4 in let v = h.cache.room in record { used = us; once = d; room = omega arith }) (omega arith))

    -- the payload of a used chunk is emptied: the model stays
    pub emptied_shows : (x n : ℕ) → 6 ≤ x → used_at m.cs (byte_of x) ≡ n → 0 < n → Sh (emptied op s (x - 6) n) m
    emptied_shows x n x6 e p =
        let u = used_at_lem m.cs (byte_of x) (omega arith) in
        let c : m.cs ≡ u.pre ++ busy n ∷ u.post = u.is ∙ ap (λ (k : ℕ). u.pre ++ busy k ∷ u.post) e in
        let b : (x - 6) * 4 ≡ total u.pre = u.byte in
        let w = empty_whole L class_of class_below m.orders u.pre n u.post s (x - 6) (omega arith)
        (subst (λ cs. Whole L class_of class_below s m.orders cs) c whole) in
        shown (op.count s) h.accepted (emptied op s (x - 6) n) m
        (subst (λ cs. Whole L class_of class_below (emptied op s (x - 6) n) m.orders cs) (sym c) w)
        h.calm (emptied_rest L s (x - 6) n ∙ h.figs) h.words h.cache h.right
