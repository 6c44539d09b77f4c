-- A CHUNK RELEASED leaves a state that shows the model with it released; and so the cache emptied. Assumes nothing.
use mathlib.Core.Path.{◌≡◌, refl, sym, ap, ◌∙◌, subst}
use mathlib.Core.Logic.{◌≢◌}
use mathlib.Core.Bool.{true}
use mathlib.Core.List.Memᴰ
use mathlib.Core.List.{List, [], ◌∷◌, ◌++◌}
use Prim.Native.Nat.{ℕ, suc, ◌+◌, ◌-◌, ◌/◌, ◌%◌, ◌≤◌, ◌<◌}
use native.Mathlib.Omega.{arith}
use native.Mathlib.Nat.{zero-add}
use lib.ListN.{length, drop}
use lib.Seq.{take-append_seam}
use Rattle.rules.specs.Rules.Lists.{Mem, Distinct}
use Rattle.rules.specs.Rules.Ops.{Ops}
use Rattle.rules.specs.Rules.Steps.{length_at, release_chunk, left_free}
use Rattle.rules.proofs.Tiling.Bytes.{release_step, release_words}
use Rattle.rules.proofs.Steps.Store.{LinkStore, Edition}
use Rattle.rules.specs.Rules.Chunks.{Chunk, busy, total, Legal, release}
use Rattle.rules.proofs.Tiling.Chunks.{release_calm, release_legal}
use Rattle.rules.specs.Sound.Tags.{Tags}
use Rattle.rules.proofs.Steps.Part.{legal_front}
use Rattle.rules.specs.Machine.Orders.{merged_orders, free_last, free_head}
use Rattle.rules.proofs.Steps.Release.{release_refines, left_read}
use Rattle.rules.specs.Rules.Place.{len_at, used_at}
use Rattle.rules.proofs.Tiling.Place.{len_at_lem, index_at_lem, used_at_lem}
use Rattle.words.specs.Sizes.{class_of}
use Rattle.words.proofs.Laws.Sizes.{class_below}
use Rattle.rules.specs.Rules.Calls.{Figures, byte_of}
use Rattle.rules.specs.Rules.Calls.{released, let_go, empty_cache, without_cache}
use Rattle.rules.specs.Sound.Model.{Model}
use Rattle.rules.specs.Machine.Machine.{size_m, gave_m, empty_cache_m, without_cache_m}
use Rattle.rules.specs.Sound.Sound.{live_sum, CacheRight, Shows}
use Rattle.rules.proofs.Tiling.LiveSums.{held_same, live_and_held}
use Rattle.rules.proofs.Tiling.Facts.{release_used, used_len, release_sums, under_release}
use Rattle.rules.proofs.Demands.Numbers.{free_last-8, free_last-le}
use Rattle.rules.proofs.Demands.Shown.{model, shown, whole_rest, L, whole, used_same}

drop_seam : (pre : List Chunk) (c : Chunk) (post : List Chunk) → drop (suc (length pre)) (pre ++ c ∷ post) ≡ post
drop_seam [] c post = refl
drop_seam (d ∷ pre) c post = drop_seam pre c post

-- the cached chunk k released, ks staying cached, without memory
abbrev pub let_go_m : Model → ℕ → List ℕ → Model
let_go_m m k ks = gave_m m m.figs.in_use ks (byte_of k) (size_m m k)

module _ {S : Type 0} {op : Ops S Figures} {most places : ℕ} (E : Edition op most places) where
  abbrev Sh : S → Model → Type 0
  Sh = Shows op most places

  -- the free bytes on the left of a used chunk: words that stand before it
  pub left_there : (L : LinkStore op) (s : S) (pre : List Chunk) (n : ℕ) (post : List Chunk) (k : ℕ) → byte_of k ≡ total pre → 6 ≤ k
      → Legal (pre ++ busy n ∷ post) → Tags (op.word s) 0 true (pre ++ busy n ∷ post)
      → (left_free op s (k - 6) % 8 ≡ 0) × (left_free op s (k - 6) / 4 ≤ k - 6)
  left_there L s pre n post k e k6 l t =
      let q : k - 6 ≡ (0 + total pre) / 4 = omega arith in
      let r : left_free op s (k - 6) ≡ free_last 0 pre = ap (λ (w : ℕ). left_free op s w) q ∙ left_read L class_of class_below s pre n post l t in
      let z = free_last-8 0 pre refl (legal_front pre (busy n ∷ post) l) in
      let y = free_last-le 0 pre in
      (omega arith, omega arith)

  -- RELEASED, the chunks ks staying cached
  gave : (s : S) (pre : List Chunk) (n : ℕ) (post : List Chunk) (O : ℕ → List ℕ) (f : Figures) (k v : ℕ) (ks : List ℕ) → byte_of k ≡ total pre → 6 ≤ k
      → 0 < used_at (pre ++ busy n ∷ post) (byte_of k) → ((x : ℕ) → Mem x ks → (6 ≤ x) × (0 < used_at (pre ++ busy n ∷ post) (byte_of x))) → Distinct (k ∷ ks)
      → length ks ≤ places → v ≡ live_sum (k ∷ ks) 0 (pre ++ busy n ∷ post)
      → Sh s (model (pre ++ busy n ∷ post) O f)
      → Sh (op.set_rest (release_chunk op s (k - 6) (length_at op s k)) (released (op.rest s) v ks (length_at op s k)))
      (gave_m (model (pre ++ busy n ∷ post) O f) v ks (byte_of k) (len_at (pre ++ busy n ∷ post) (byte_of k)))
  unfolding gave_m
  gave s pre n post O f k v ks e k6 up us d rm ve h =
      let w = whole E s (model (pre ++ busy n ∷ post) O f) h in
      let a = h.accepted in
      let L = E.store (op.count s) a in
      let cs : List Chunk = release (pre ++ busy n ∷ post) (length pre) in
      let lp = legal_front pre (busy n ∷ post) h.legal in
      let b : byte_of k ≡ 0 + total pre = e ∙ sym (zero-add (total pre)) in
      let j = len_at_lem pre (busy n) post (byte_of k) lp e in
      let y : length_at op s k ≡ n = used_same E s (model (pre ++ busy n ∷ post) O f) h k k6 up ∙ j in
      let i = index_at_lem pre (busy n) post (0 + total pre) lp (omega arith) in
      let j' = len_at_lem pre (busy n) post (0 + total pre) lp (omega arith) in
      let g : Figures = released f v ks n in
      let su = release_sums pre n post in
      let cu = h.right.committed in
      let lt = left_there L s pre n post k e k6 h.legal h.tags in
      let c : CacheRight places ks cs = record {
        used = λ x q. let u = us x q in
            (u.0, subst (λ (v : ℕ). 0 < v) (sym (release_used pre n post (byte_of x) h.legal (other x q u.0))) u.1);
        once = d.1;
        room = rm;
      } in
      let hs = held_same ks cs (pre ++ busy n ∷ post) (λ x q. release_used pre n post (byte_of x) h.legal (other x q (us x q).0)) in
      let lh = live_and_held ks cs (release_legal (pre ++ busy n ∷ post) (length pre) h.legal) c.once c.used in
      let lk = live_and_held (k ∷ ks) (pre ++ busy n ∷ post) h.legal d (own k6 up us) in
      let nu : n ≡ used_at (pre ++ busy n ∷ post) (byte_of k) = sym j ∙ used_len (pre ++ busy n ∷ post) (byte_of k) h.legal up in
      let ws = release_words op s (k - 6) (length_at op s k) (omega arith) lt.1 in
      rw (ws, y, b, i, j', take-append_seam pre (busy n ∷ post), drop_seam pre (busy n) post, h.figs)
      (shown E (op.count s) a (op.set_rest (release_step op class_of s (0 + total pre) n) g)
      (model cs (merged_orders class_of O (0 + total pre - free_last 0 pre) (free_last 0 pre) n (free_head post)) g)
      (whole_rest E L (release_step op class_of s (0 + total pre) n) g
      (merged_orders class_of O (0 + total pre - free_last 0 pre) (free_last 0 pre) n (free_head post)) cs
      (release_refines L class_of class_below s O pre n post h.calm w))
      (release_calm (pre ++ busy n ∷ post) (length pre) h.calm)
      (L.rest-set_rest (release_step op class_of s (0 + total pre) n) g (E.fit (op.count s) a g rm (λ x q. (us x q).0)))
      h.words c
      (let hp = h.right.peak in
      record {
        in_use = omega arith;
        committed = omega arith;
        peak = omega arith;
        high = h.right.high;
        heap = h.right.heap;
        eights = h.right.eights;
        ends = under_release f.high 0
            (pre ++ busy n ∷ post) (length pre) h.right.ends;
        flag = h.right.flag;
      }))
    where
      own : 6 ≤ k → 0 < used_at (pre ++ busy n ∷ post) (byte_of k) → ((x : ℕ) → Mem x ks → (6 ≤ x) × (0 < used_at (pre ++ busy n ∷ post) (byte_of x)))
          → (x : ℕ) → Mem x (k ∷ ks) → (6 ≤ x) × (0 < used_at (pre ++ busy n ∷ post) (byte_of x))
      own a b c x (Memᴰ.head q) = subst (λ (y : ℕ). (6 ≤ y) × (0 < used_at (pre ++ busy n ∷ post) (byte_of y))) (sym q) (a, b)
      own a b c x (Memᴰ.tail i) = c x i

      other : (x : ℕ) → Mem x ks → 6 ≤ x → byte_of x ≢ total pre
      other x q x6 v = d.0 (subst (λ (t : ℕ). Mem t ks) (let r : x ≡ k = omega arith in r) q)

  -- the chunk k LET GO, the chunks ks staying cached: what is left shows the model with k released
  pub let_go_shows : (s : S) (m : Model) → Sh s m → (v k : ℕ) (ks : List ℕ) → ((x : ℕ) → Mem x (k ∷ ks) → (6 ≤ x) × (0 < used_at m.cs (byte_of x)))
      → Distinct (k ∷ ks) → length ks ≤ places → v ≡ live_sum (k ∷ ks) 0 m.cs → Sh (let_go op s v k ks) (gave_m m v ks (byte_of k) (size_m m k))
  let_go_shows s m h v k ks us d q ve =
      let p = us k (Memᴰ.head refl) in
      let n = used_at m.cs (byte_of k) in
      let u = used_at_lem m.cs (byte_of k) (let v = p.1 in omega arith) in
      subst (λ cs. Sh s (model cs m.orders m.figs) → ((x : ℕ) → Mem x (k ∷ ks) → (6 ≤ x) × (0 < used_at cs (byte_of x))) → v ≡ live_sum (k ∷ ks) 0 cs
      → Sh (let_go op s v k ks) (gave_m (model cs m.orders m.figs) v ks (byte_of k) (len_at cs (byte_of k))))
      (sym u.is)
      (λ g w we. gave s u.pre n u.post m.orders m.figs k v ks u.byte p.0 (w k (Memᴰ.head refl)).1
      (λ x i. w x (Memᴰ.tail i)) d q we g)
      h us ve

  -- the oldest cached chunk is a used one
  pub oldest : (s : S) (m : Model) (k : ℕ) (ks : List ℕ) → Sh s m → m.figs.cached ≡ k ∷ ks → (6 ≤ k) × (0 < used_at m.cs (byte_of k))
  oldest s m k ks h e = (subst (λ (l : List ℕ). CacheRight places l m.cs) e h.cache).used k (Memᴰ.head refl)

  -- LET GO: tasks hold what they held
  pub oldest_gone_lem : (s : S) (m : Model) (k : ℕ) (ks : List ℕ) → Sh s m → m.figs.cached ≡ k ∷ ks → Sh (let_go op s (op.rest s).in_use k ks) (let_go_m m k ks)
  oldest_gone_lem s m k ks h e =
      let c : CacheRight places (k ∷ ks) m.cs = subst (λ (l : List ℕ). CacheRight places l m.cs) e h.cache in
      let r = c.room in
      let v : m.figs.in_use ≡ live_sum (k ∷ ks) 0 m.cs = h.right.in_use ∙ ap (λ (l : List ℕ). live_sum l 0 m.cs) e in
      let f : (op.rest s).in_use ≡ m.figs.in_use = ap (λ (r : Figures). r.in_use) h.figs in
      subst (λ (i : ℕ). Sh (let_go op s i k ks) (let_go_m m k ks)) (sym f) (let_go_shows s m h m.figs.in_use k ks c.used c.once (omega arith) v)

  -- ALL LET GO
  pub empty_cache_shows : (ks : List ℕ) (s : S) (m : Model) → Sh s m → m.figs.cached ≡ ks → Sh (empty_cache op s ks) (empty_cache_m m ks)
  unfolding empty_cache empty_cache_m gave_m
  empty_cache_shows [] s m h e = h
  empty_cache_shows (k ∷ ks) s m h e = empty_cache_shows ks (let_go op s (op.rest s).in_use k ks) (let_go_m m k ks) (oldest_gone_lem s m k ks h e) refl

  pub without_cache_shows : (s : S) (m : Model) → Sh s m → Sh (without_cache op s) (without_cache_m m)
  without_cache_shows s m h =
      subst (λ (f : Figures). Sh (empty_cache op s f.cached) (without_cache_m m)) (sym h.figs) (empty_cache_shows m.figs.cached s m h refl)
