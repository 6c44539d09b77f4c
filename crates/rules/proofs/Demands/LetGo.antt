-- EMPTYING THE CACHE, one chunk let go and all of them: sound (proofs/Demands/Released.antt has that it shows what it is without memory), and nothing live changes.
--     place, others_stay, none_there           what the layout is after one, and which used chunks it has
--     let_go_figures, without_cache_figures    what tasks hold stays; committed falls to it, and nothing is cached
--     without_cache_step, without_cache_done   emptying goes by letting one go after the other, until nothing is cached
--     without_cache_live, without_cache_keeps  every live payload stays, with its length and its words
-- For a state that shows a model, and (name with ᵇ) for one that the test says yes to. Assumes nothing.
use mathlib.Core.Path.{◌≡◌, refl, sym, ap, ◌∙◌, subst}
use mathlib.Core.Logic.{◌≢◌}
use mathlib.Core.Bool.{Bool, true, false}
use mathlib.Core.List.Memᴰ
use mathlib.Core.List.{List, [], ◌∷◌, ◌++◌}
use Prim.Native.Nat.{ℕ, ◌+◌, ◌-◌, ◌≤◌, ◌<◌}
use native.Mathlib.Omega.{arith}
use native.Mathlib.Nat.{zero-add}
use native.Mathlib.Decide.{ℕ_discrete}
use lib.Dec.{leb}
use lib.ListN.{length}
use borrow.Author.Tests.{eq-eqb, ne_eqb}
use Rattle.words.specs.Choice.{pick}
use Rattle.words.specs.Sizes.{class_of}
use Rattle.words.proofs.Laws.Sizes.{class_below}
use Rattle.rules.specs.Rules.Lists.{Mem}
use Rattle.rules.specs.Rules.Ops.{Ops}
use Rattle.rules.specs.Rules.Steps.{length_at, release_chunk}
use Rattle.rules.specs.Rules.Chunks.{Chunk, busy, total, Legal, Calm, release}
use Rattle.rules.specs.Rules.Place.{UsedAt, index_at, used_at}
use Rattle.rules.specs.Rules.Calls.{Figures, byte_of, name_of, listed, with_cached, released, without_cache_f, let_go, empty_cache, without_cache, live}
use Rattle.rules.specs.Sound.Model.{Model}
use Rattle.rules.specs.Machine.Machine.{size_m, live_m, gave_m, empty_cache_m, without_cache_m}
use Rattle.rules.specs.Demands.Meaning.{LiveAt, LiveWord}
use Rattle.rules.proofs.Steps.Part.{legal_front, legal_back}
use Rattle.rules.proofs.Steps.Calls.{Whole, total_8}
use Rattle.rules.proofs.Tiling.Place.{index_at_lem, used_at_lem}
use Rattle.rules.proofs.Tiling.Facts.{release_used, release_gone}
use Rattle.rules.proofs.Demands.Answers.{used_there}
use Rattle.rules.proofs.Tiling.Bytes.{release_step, release_words}
use Rattle.rules.proofs.Steps.Keep.{release_keeps}
use Rattle.rules.proofs.Demands.KeepLive.{payload, payload_off, shape, shape_out}
use Rattle.rules.proofs.Steps.Live.{Payload}
use Rattle.rules.specs.Sound.Sound.{Shows}
use Rattle.rules.specs.Sound.Test.{soundᵇ}
use Rattle.rules.proofs.Steps.Store.{Edition}
use Rattle.rules.proofs.Demands.Shown.{L, whole, used_size, used_same, in_use_held}
use Rattle.rules.proofs.Demands.Released.{let_go_m, left_there, oldest, oldest_gone_lem, without_cache_shows}
use Rattle.rules.proofs.Demands.Follow.{live_same}
use Rattle.rules.proofs.Tiling.LiveSums.{held_sum}
use Rattle.rules.proofs.Demands.Decide.{sound_true, true_sound}

-- ---- the oldest cached chunk k let go, without memory

module _ (m : Model) (k : ℕ) (ks : List ℕ) (l : Legal m.cs) (k6 : 6 ≤ k) (up : 0 < used_at m.cs (byte_of k)) where
  -- its place, and the layout after
  pub record Place : Type 0 where
    pub pre : List Chunk
    pub size : ℕ
    pub post : List Chunk
    pub long : used_at m.cs (byte_of k) ≡ size
    pub was : m.cs ≡ pre ++ busy size ∷ post
    pub is : (let_go_m m k ks).cs ≡ release (pre ++ busy size ∷ post) (length pre)
    pub byte : byte_of k ≡ total pre
    pub legal : Legal (pre ++ busy size ∷ post)

  pub place : Place
  unfolding gave_m
  place =
      let n = used_at m.cs (byte_of k) in
      let u = used_at_lem m.cs (byte_of k) (omega arith) in
      let g = subst Legal u.is l in
      let f = legal_front u.pre (busy n ∷ u.post) g in
      let j : index_at m.cs (byte_of k) ≡ length u.pre =
      ap (λ ds. index_at ds (byte_of k)) u.is ∙ index_at_lem u.pre (busy n) u.post (byte_of k) f u.byte in
      record {
        pre = u.pre;
        size = n;
        post = u.post;
        long = refl;
        was = u.is;
        is = ap (λ (i : ℕ). release m.cs i) j ∙ ap (λ ds. release ds (length u.pre)) u.is;
        byte = u.byte;
        legal = g;
      }

  -- every other used chunk stays, with its length; at k there is none
  pub others_stay : (b : ℕ) → b ≢ byte_of k → used_at (let_go_m m k ks).cs b ≡ used_at m.cs b
  others_stay b n =
      let p = place in
      ap (λ ds. used_at ds b) p.is ∙ release_used p.pre p.size p.post b p.legal (λ e. n (e ∙ sym p.byte))
      ∙ ap (λ ds. used_at ds b) (sym p.was)

  pub none_there : used_at (let_go_m m k ks).cs (byte_of k) ≡ 0
  none_there =
      let p = place in
      ap (used_at (let_go_m m k ks).cs) p.byte ∙ ap (λ ds. used_at ds (total p.pre)) p.is ∙ release_gone p.pre p.size p.post p.legal

  -- A LIVE PAYLOAD STAYS ONE, of as many bytes
  pub payload_stays : (p n : ℕ) → m.figs.cached ≡ k ∷ ks → LiveAt m p n → LiveAt (let_go_m m k ks) p n
  unfolding gave_m
  payload_stays p n e w =
      let u = w.1 in
      let b = u.byte in
      let g = subst Legal u.is l in
      let n16 : 16 ≤ n = (legal_back u.pre (busy n ∷ u.post) g).0 in
      let lp = legal_front u.pre (busy n ∷ u.post) g in
      let t8 = total_8 u.pre lp in
      let c : Mem (name_of (p - 4)) (k ∷ ks) → ⊥ = subst (λ (xs : List ℕ). Mem (name_of (p - 4)) xs → ⊥) e w.2 in
      let y : used_at (let_go_m m k ks).cs (p - 4) ≡ n =
      others_stay (p - 4) (λ q. c (Memᴰ.head (omega arith))) ∙ ap (λ ds. used_at ds (p - 4)) u.is ∙ ap (used_at (u.pre ++ busy n ∷ u.post)) b
      ∙ used_there u.pre n u.post lp in
      (w.0, subst (λ (j : ℕ). UsedAt (let_go_m m k ks).cs (p - 4) j) y (used_at_lem (let_go_m m k ks).cs (p - 4) (omega arith)), λ q. c (Memᴰ.tail q))

  -- and none comes
  pub live_stays : (p : ℕ) → m.figs.cached ≡ k ∷ ks → live_m (let_go_m m k ks) p ≡ live_m m p
  unfolding live_m listed gave_m
  live_stays p e = rw e (ap (λ (n : ℕ). pick (leb 4 p) n 0) (go (ℕ_discrete (used_at m.cs b) 0) (ℕ_discrete (name_of b) k)))
    where
      b : ℕ
      b = p - 4

      cs' : List Chunk
      cs' = (let_go_m m k ks).cs

      nought : (t : Bool) → ◌≡◌ {A = ℕ} (pick t 0 0) 0
      nought true = refl
      nought false = refl

      go : Dec (used_at m.cs b ≡ 0) → Dec (name_of b ≡ k)
          → pick (listed (name_of b) ks) 0 (used_at cs' b) ≡ pick (listed (name_of b) (k ∷ ks)) 0 (used_at m.cs b)
      go (yes z) d =
          let y : used_at cs' b ≡ 0 = others_stay b (λ q. let f : used_at m.cs b ≡ used_at m.cs (byte_of k) = ap (used_at m.cs) q in omega arith) ∙ z in
          rw (y, z) (nought (listed (name_of b) ks) ∙ sym (nought (listed (name_of b) (k ∷ ks))))
      go (no n) (yes q) =
          let u = used_at_lem m.cs b n in
          let y = u.byte in
          let t8 = total_8 u.pre (legal_front u.pre (busy (used_at m.cs b) ∷ u.post) (subst Legal u.is l)) in
          let f : b ≡ byte_of k = omega arith in
          let z : used_at cs' b ≡ 0 = ap (used_at cs') f ∙ none_there in
          rw (z, eq-eqb (name_of b) k q) (nought (listed (name_of b) ks))
      go (no n) (no q) = rw (others_stay b (λ r. q (omega arith)), ne_eqb (name_of b) k q) refl

-- ---- the figures, without memory

-- nothing cached, c bytes committed, the others as they were
abbrev bare : Figures → ℕ → Figures
bare r c = record { words = r.words; cached = []; in_use = r.in_use; committed = c; peak = r.peak; high = r.high; flag = r.flag }

emptied_figures : (ks : List ℕ) (m : Model) → m.figs.cached ≡ ks → (empty_cache_m m ks).figs ≡ bare m.figs (empty_cache_m m ks).figs.committed
unfolding empty_cache_m gave_m
emptied_figures [] m e = ap (with_cached m.figs m.figs.in_use) e
emptied_figures (k ∷ ks) m e = emptied_figures ks (let_go_m m k ks) refl

-- ---- on states

-- nothing cached: nothing to do
pub without_cache_done : {S : Type 0} (op : Ops S Figures) (s : S) → (op.rest s).cached ≡ [] → without_cache op s ≡ s
unfolding empty_cache
without_cache_done op s e = ap (empty_cache op s) e

module _ {S : Type 0} {op : Ops S Figures} {most places : ℕ} (E : Edition op most places) where
  abbrev Sh : S → Model → Type 0
  Sh = Shows op most places

  -- THE FIGURES after it: committed is what tasks hold, nothing is cached, the others stay
  pub without_cache_figures : (s : S) (m : Model) → Sh s m → op.rest (without_cache op s) ≡ without_cache_f (op.rest s)
  without_cache_figures s m h =
      let g = without_cache_shows E s m h in
      let f = emptied_figures m.figs.cached m refl in
      let a = g.right.committed in
      let b = in_use_held E (without_cache op s) (without_cache_m m) g in
      let d = ap (λ (r : Figures). r.in_use + held_sum r.cached (without_cache_m m).cs) f in
      g.figs ∙ f ∙ ap (bare m.figs) (let c : (without_cache_m m).figs.committed ≡ m.figs.in_use = omega arith in c) ∙ ap without_cache_f (sym h.figs)

  pub without_cache_count : (s : S) (m : Model) → Sh s m → op.count (without_cache op s) ≡ op.count s
  without_cache_count s m h =
      sym (without_cache_shows E s m h).words ∙ ap (λ (r : Figures). r.words) (emptied_figures m.figs.cached m refl) ∙ h.words

  -- after one chunk let go: committed falls by its length, it is cached no more, the others stay
  pub let_go_figures : (s : S) (m : Model) (k : ℕ) (ks : List ℕ) → Sh s m → (op.rest s).cached ≡ k ∷ ks
      → op.rest (let_go op s (op.rest s).in_use k ks) ≡ released (op.rest s) (op.rest s).in_use ks (length_at op s k)
  unfolding gave_m
  let_go_figures s m k ks h e =
      let q : m.figs.cached ≡ k ∷ ks = ap (λ (f : Figures). f.cached) (sym h.figs) ∙ e in
      let u = oldest E s m k ks h q in
      (oldest_gone_lem E s m k ks h q).figs
      ∙ ap (λ (f : Figures). released f f.in_use ks (size_m m k)) (sym h.figs)
      ∙ ap (released (op.rest s) (op.rest s).in_use ks) (sym (used_same E s m h k u.0 u.1))

  -- ONE STEP of emptying: with k let go, what is left to do comes to the same
  pub without_cache_step : (s : S) (m : Model) (k : ℕ) (ks : List ℕ) → Sh s m → (op.rest s).cached ≡ k ∷ ks
      → without_cache op s ≡ without_cache op (let_go op s (op.rest s).in_use k ks)
  unfolding empty_cache
  without_cache_step s m k ks h e =
      ap (empty_cache op s) e
      ∙ ap (empty_cache op (let_go op s (op.rest s).in_use k ks)) (sym (ap (λ (f : Figures). f.cached) (let_go_figures s m k ks h e)))

  -- ---- LIVE PAYLOADS

  -- each stays, with its length, and none comes
  pub empty_cache_live : (ks : List ℕ) (s : S) (m : Model) (p : ℕ) → Sh s m → m.figs.cached ≡ ks → live_m (empty_cache_m m ks) p ≡ live_m m p
  unfolding empty_cache_m gave_m
  empty_cache_live [] s m p h e = refl
  empty_cache_live (k ∷ ks) s m p h e =
      let u = oldest E s m k ks h e in
      empty_cache_live ks (let_go op s (op.rest s).in_use k ks) (let_go_m m k ks) p (oldest_gone_lem E s m k ks h e) refl
      ∙ live_stays m k ks h.legal u.0 u.1 p e

  pub without_cache_live : (s : S) (m : Model) → Sh s m → (p : ℕ) → live op (without_cache op s) p ≡ live op s p
  without_cache_live s m h p =
      live_same E (without_cache op s) (without_cache_m m) (without_cache_shows E s m h) p ∙ empty_cache_live m.figs.cached s m p h refl
      ∙ sym (live_same E s m h p)

  -- a word that lies in a payload before and after a chunk is released stays
  pub gave_keeps : (s : S) (m : Model) (h : Sh s m) (i k v : ℕ) (ks : List ℕ) (r : Figures) → 6 ≤ k → 0 < used_at m.cs (byte_of k) → Payload m.cs i
      → Payload (gave_m m v ks (byte_of k) (size_m m k)).cs i → op.word (op.set_rest (release_chunk op s (k - 6) (length_at op s k)) r) i ≡ op.word s i
  unfolding gave_m
  gave_keeps s m h i k v ks r k6 up p p'' =
      let u = place m k ks h.legal k6 up in
      let n = u.size in
      let w = subst (λ cs. Whole (L E s m h) class_of class_below s m.orders cs) u.was (whole E s m h) in
      let c = subst Calm u.was h.calm in
      let lq = (legal_back u.pre (busy n ∷ u.post) u.legal).2 in
      let b : byte_of k ≡ 0 + total u.pre = u.byte ∙ sym (zero-add (total u.pre)) in
      let y : length_at op s k ≡ n = used_size E s m h k k6 up ∙ u.long in
      let lt = left_there E (L E s m h) s u.pre n u.post k u.byte k6 u.legal w.tags in
      (L E s m h).word-set_rest (release_chunk op s (k - 6) (length_at op s k)) r i
      ∙ ap (λ (t : S). op.word t i) (release_words op s (k - 6) (length_at op s k) (omega arith) lt.1)
      ∙ ap (λ (t : ℕ). op.word (release_step op class_of s (byte_of k) t) i) y
      ∙ ap (λ (t : ℕ). op.word (release_step op class_of s t n) i) b
      ∙ release_keeps (L E s m h) class_of class_below s m.orders n i u.pre u.post c w
      (payload_off (L E s m h) class_of class_below (u.pre ++ busy n ∷ u.post) i u.legal (subst (λ ds. Payload ds i) u.was p))
      (shape_out (L E s m h) class_of class_below s n _ _ _ i (shape (L E s m h) class_of class_below s n u.pre u.post c lq)
      (subst (λ ds. Payload ds i) u.is p''))

  -- so the words of a live payload stay
  pub empty_cache_keeps : (ks : List ℕ) (s : S) (m : Model) (i : ℕ) → Sh s m → m.figs.cached ≡ ks → LiveWord m i
      → LiveWord (empty_cache_m m ks) i × (op.word (empty_cache op s ks) i ≡ op.word s i)
  unfolding empty_cache empty_cache_m gave_m
  empty_cache_keeps [] s m i h e l = (l, refl)
  empty_cache_keeps (k ∷ ks) s m i h e l =
      let u = oldest E s m k ks h e in
      let l' : LiveWord (let_go_m m k ks) i = (l.0, l.1, payload_stays m k ks h.legal u.0 u.1 l.0 l.1 e l.2, l.3) in
      let r = empty_cache_keeps ks (let_go op s (op.rest s).in_use k ks) (let_go_m m k ks) i (oldest_gone_lem E s m k ks h e) refl l' in (
        r.0,
        r.1 ∙ gave_keeps s m h i k m.figs.in_use ks (released (op.rest s) (op.rest s).in_use ks (length_at op s k)) u.0 u.1
            (payload m i l) (payload (let_go_m m k ks) i l'),
      )

  pub without_cache_keeps : (s : S) (m : Model) (i : ℕ) → Sh s m → LiveWord m i
      → LiveWord (without_cache_m m) i × (op.word (without_cache op s) i ≡ op.word s i)
  without_cache_keeps s m i h l =
      let r = empty_cache_keeps m.figs.cached s m i h refl l in
      (r.0, ap (λ (f : Figures). op.word (empty_cache op s f.cached) i) h.figs ∙ r.1)

  -- ---- the same of a state that the test says yes to: what the code's loop stands on

  module _ (s : S) (ok : soundᵇ op most places s ≡ true) where
    pub let_go_soundᵇ : (k : ℕ) (ks : List ℕ) → (op.rest s).cached ≡ k ∷ ks → soundᵇ op most places (let_go op s (op.rest s).in_use k ks) ≡ true
    let_go_soundᵇ k ks e =
        let h = sound_true E s ok in
        let q : h.0.figs.cached ≡ k ∷ ks = ap (λ (f : Figures). f.cached) (sym h.1.figs) ∙ e in
        true_sound E (let_go op s (op.rest s).in_use k ks) (let_go_m h.0 k ks, oldest_gone_lem E s h.0 k ks h.1 q)

    pub let_go_figuresᵇ : (k : ℕ) (ks : List ℕ) → (op.rest s).cached ≡ k ∷ ks
        → op.rest (let_go op s (op.rest s).in_use k ks) ≡ released (op.rest s) (op.rest s).in_use ks (length_at op s k)
    let_go_figuresᵇ k ks = let h = sound_true E s ok in let_go_figures s h.0 k ks h.1

    pub without_cache_stepᵇ : (k : ℕ) (ks : List ℕ) → (op.rest s).cached ≡ k ∷ ks → without_cache op s ≡ without_cache op (let_go op s (op.rest s).in_use k ks)
    without_cache_stepᵇ k ks = let h = sound_true E s ok in without_cache_step s h.0 k ks h.1

    pub without_cache_soundᵇ : soundᵇ op most places (without_cache op s) ≡ true
    without_cache_soundᵇ =
        let h = sound_true E s ok in true_sound E (without_cache op s) (without_cache_m h.0, without_cache_shows E s h.0 h.1)

    pub without_cache_figuresᵇ : op.rest (without_cache op s) ≡ without_cache_f (op.rest s)
    without_cache_figuresᵇ = let h = sound_true E s ok in without_cache_figures s h.0 h.1

    pub without_cache_countᵇ : op.count (without_cache op s) ≡ op.count s
    without_cache_countᵇ = let h = sound_true E s ok in without_cache_count s h.0 h.1

    pub without_cache_liveᵇ : (p : ℕ) → live op (without_cache op s) p ≡ live op s p
    without_cache_liveᵇ = let h = sound_true E s ok in without_cache_live s h.0 h.1
