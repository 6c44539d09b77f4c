-- WHICH WORDS A CALL WRITES, and that what tasks keep in live payloads stays. Assumes nothing.
use mathlib.Core.Path.{◌≡◌, refl, sym, ap, ◌∙◌, subst}
use mathlib.Core.Logic.{◌≢◌, ◌⊎◌, inl, inr}
use mathlib.Core.Bool.{Bool, true, false}
use mathlib.Core.List.Memᴰ
use mathlib.Core.List.{List, [], ◌∷◌, ◌++◌}
use Prim.Native.Nat.{ℕ, ◌+◌, ◌-◌, ◌*◌, ◌/◌, ◌%◌, ◌≤◌, ◌<◌}
use native.Mathlib.Omega.{arith}
use native.Mathlib.Nat.{zero-add}
use native.Mathlib.Decide.{ℕ_discrete}
use lib.Dec.{eqb, leb, ltb}
use lib.ListN.{length}
use borrow.Author.Tests.{eqb-false}
use Rattle.words.specs.Choice.{pick}
use Rattle.words.specs.Links.{narrow, wide}
use Rattle.words.specs.Sizes.{class_of, rounded_of}
use Rattle.words.proofs.Laws.Sizes.{class_below}
use Rattle.rules.specs.Rules.Lists.{Mem}
use Rattle.rules.specs.Rules.Ops.{Ops}
use Rattle.rules.specs.Rules.State.{ops}
use Rattle.rules.specs.Rules.Steps.{portion, length_at, take_chunk, emptied, release_chunk}
use Rattle.rules.specs.Rules.Chunks.{Chunk, free, busy, total, Legal, Calm, release}
use Rattle.rules.specs.Sound.Exact.{slot, frees}
use Rattle.rules.specs.Machine.Orders.{free_head, free_last}
use Rattle.rules.specs.Rules.Place.{used_at}
use Rattle.rules.specs.Rules.Search.{Found, at, nowhere, lost}
use Rattle.rules.specs.Rules.Calls.{Figures, Outcome, says, byte_of, name_of, Chosen, none, one, never, choose, with_cached, released, let_go, empty_cache, without_cache}
use Rattle.rules.specs.Rules.Calls.{from_merged, from_list, from_cache, serve, hand_out, settled, take_back}
use Rattle.rules.specs.Sound.Model.{Model}
use Rattle.rules.specs.Machine.Machine.{ask, give, size_m, searched, search_m, gave_m, empty_cache_m, without_cache_m, live_m}
use Rattle.rules.specs.Sound.Sound.{Shows, Sound}
use Rattle.rules.specs.Sound.Test.{soundᵇ}
use Rattle.rules.specs.Demands.Meaning.{FromMerged, Holds, hand, back}
use Rattle.rules.specs.Demands.Frame.{NoLink, Outside, Clear, Frame}
use Rattle.rules.specs.Demands.Lives.{live_at}
use Rattle.rules.specs.Demands.TwoHeaps.{Live, call}
use Rattle.rules.proofs.Tiling.Bytes.{release_step, take_words, release_words}
use Rattle.rules.proofs.Steps.Store.{Edition}
use Rattle.rules.proofs.Tiling.Tags.{calm_left}
use Rattle.rules.proofs.Steps.Part.{legal_front, legal_back}
use Rattle.rules.proofs.Steps.Calls.{Whole, total_8}
use Rattle.rules.proofs.Steps.Emptying.{emptied_out}
use Rattle.rules.proofs.Steps.Keep.{Off, Out, take_keeps, release_keeps}
use Rattle.rules.proofs.Lists.Search.{find_fits, Fits}
use Rattle.rules.proofs.Tiling.Place.{free_at, used_at_lem}
use Rattle.rules.proofs.Tiling.Exact.{frees_append}
use Rattle.rules.proofs.Demands.KeepLive.{shape}
use Rattle.rules.proofs.Demands.LetGo.{place}
use Rattle.rules.proofs.Demands.FreeRuns.{free_inside}
use Rattle.rules.proofs.Tiling.Named.{size_at, byte_at}
use Rattle.rules.proofs.Tiling.Facts.{used_len}
use Rattle.rules.proofs.Demands.Numbers.{r16, r8}
use Rattle.rules.proofs.Demands.Shown.{whole, L, search_same, met_free, used_size}
use Rattle.rules.proofs.Demands.Released.{left_there}
use Rattle.rules.proofs.Demands.Follow.{live_same, live_is, live_len, snoc_used}
use Rattle.rules.proofs.Demands.Cache.{Picked, choose_picked}
use Rattle.rules.proofs.Demands.Numbers.{portion_least, portion_le, free_last-le}
use Rattle.rules.proofs.Demands.Shown.{choose_cached}
use Rattle.rules.proofs.Demands.Released.{let_go_m, oldest, oldest_gone_lem}
use Rattle.rules.proofs.Demands.Released.{without_cache_shows}
use Rattle.rules.proofs.Demands.Decide.{true_sound}
use Rattle.rules.proofs.Demands.Answers.{slot_size, from_merged_lem, used_there, hand_refused, back_refused, hand_sound, back_sound}
use Rattle.rules.proofs.Demands.Runs.{payload_kept}
use Rattle.rules.proofs.Demands.Lives.{served_sound, settled_sound, live_shown, handed_out, taken_back}
use Rattle.rules.proofs.Demands.Proved.{narrow_edition, wide_edition}

-- no link word of a free chunk, as proofs/Steps/Keep.antt says it
no_link : (m : Model) (i : ℕ) → NoLink m i → Off i (frees 0 m.cs)
no_link m i h t u a b = go (h t.name t.len u)
  where
    go : (i ≢ t.name - 5) × (i ≢ t.name - 4) → ⊥
    go w = let w0 = w.0 in let w1 = w.1 in omega arith

-- a free chunk, by name and length
free_in : (front : List Chunk) (n : ℕ) (back : List Chunk) → Mem (slot (name_of (0 + total front)) n) (frees 0 (front ++ free n ∷ back))
unfolding frees
free_in front n back =
    subst (Mem (slot (name_of (0 + total front)) n)) (sym (frees_append 0 front (free n ∷ back))) (Memᴰ.append_right (frees 0 front) (Memᴰ.head refl))

-- a word clear of the free chunks is no link word of one
clear_links : (m : Model) (i : ℕ) → Legal m.cs → Clear m i → NoLink m i
clear_links m i l c x n q =
    let f = free_at 0 m.cs (slot x n) q in
    let nm : x ≡ (0 + total f.pre) / 4 + 6 = f.named in
    let n16 : 16 ≤ n = (legal_back f.pre (free n ∷ f.post) (subst Legal f.is l)).0 in
    (λ e. go (omega arith) n16 (omega arith) (omega arith) (c x n q), λ e. go (omega arith) n16 (omega arith) (omega arith) (c x n q))
  where
    go : 6 ≤ x → 16 ≤ n → x - 5 ≤ i → i ≤ x - 4 → Outside (x - 6) (x - 6 + n / 4) i → ⊥
    go x6 n16 a b (inl o) = omega arith
    go x6 n16 a b (inr o) = omega arith

-- outside the same words, by equal bounds
outside_same : {a b c d i : ℕ} → a ≡ c → b ≡ d → Outside a b i → Out c d i
outside_same e f (inl h) = inl (omega arith)
outside_same e f (inr h) = inr (omega arith)

-- outside the chunk is outside what is emptied of it
past_emptied : (lo hi i w k : ℕ) → w ≡ lo → w + k / 4 ≤ hi → Out lo hi i → (i ≤ w) ⊎ (w + k / 4 ≤ i)
past_emptied lo hi i w k e h (inl o) = inl (omega arith)
past_emptied lo hi i w k e h (inr o) = inr (omega arith)

module _ {S : Type 0} {op : Ops S Figures} {most places : ℕ} (E : Edition op most places) where
  -- s shows m
  abbrev Sh : S → Model → Type 0
  Sh = Shows op most places

  -- taking a chunk from a list writes it, the header right of it, and links
  took_only : (s : S) (pre : List Chunk) (n : ℕ) (post : List Chunk) (O : ℕ → List ℕ) (f : Figures) (x z i : ℕ) (r : Figures) → 16 ≤ z → z % 8 ≡ 0
      → x ≡ (0 + total pre) / 4 + 6 → Sh s (record { cs = pre ++ free n ∷ post; orders = O; figs = f })
      → Off i (frees 0 (pre ++ free n ∷ post)) → Out ((0 + total pre) / 4) ((0 + total pre + n) / 4) i
      → op.word (emptied op (op.set_rest (take_chunk op s (x - 6) (length_at op s x) z) r) (x - 6) (portion (length_at op s x) z)) i ≡ op.word s i
  took_only s pre n post O f x z i r z16 z8 e h off out =
      let m : Model = record { cs = pre ++ free n ∷ post; orders = O; figs = f } in
      let w = whole E s m h in
      let lp = legal_front pre (free n ∷ post) h.legal in
      let n16 : 16 ≤ n = (legal_back pre (free n ∷ post) h.legal).0 in
      let y : length_at op s x ≡ n = size_at (L E s m h) class_of class_below s O pre n post x e w in
      let k = portion_least 16 (length_at op s x) z (omega arith) z16 in
      let j = portion_le (length_at op s x) z in
      emptied_out (L E s m h) (op.set_rest (take_chunk op s (x - 6) (length_at op s x) z) r) (x - 6) (portion (length_at op s x) z) i (omega arith)
      (past_emptied ((0 + total pre) / 4) ((0 + total pre + n) / 4) i (x - 6) (portion (length_at op s x) z) (omega arith) (omega arith) out)
      ∙ (L E s m h).word-set_rest (take_chunk op s (x - 6) (length_at op s x) z) r i
      ∙ rw (take_words op s (x - 6) (length_at op s x) z (omega arith), size_at (L E s m h) class_of class_below s O pre n post x e w, byte_at pre x lp e)
      (take_keeps (L E s m h) class_of class_below pre post (calm_left pre n post h.calm) s O n z i z16 z8 w off out)

  module _ (s : S) (m : Model) (h : Sh s m) (i : ℕ) (nl : NoLink m i) where
    -- what the search met, taken
    found_only : (z x c : ℕ) → 16 ≤ z → z % 8 ≡ 0 → Mem x (searched m z) → Outside (byte_of x / 4) ((byte_of x + size_m m x) / 4) i
        → op.word (from_list op s z (at x c)).after i ≡ op.word s i
    unfolding from_list
    found_only z x c z16 z8 q o =
        let r = met_free E s m h z x q in
        let g = free_at 0 m.cs (slot x r.0) r.1 in
        let lp = legal_front g.pre (free r.0 ∷ g.post) (subst Legal g.is h.legal) in
        let b0 : byte_of x ≡ 0 + total g.pre = byte_at g.pre x lp g.named in
        let sz : size_m m x ≡ r.0 = slot_size m.cs x r.0 h.legal r.1 in
        took_only s g.pre r.0 g.post m.orders m.figs x z i _ z16 z8 g.named
        (subst (λ cs. Sh s (record { cs = cs; orders = m.orders; figs = m.figs })) g.is h)
        (subst (λ cs. Off i (frees 0 cs)) g.is (no_link m i nl))
        (outside_same (ap (λ (t : ℕ). t / 4) b0) (ap (λ (t : ℕ). (t + size_m m x) / 4) b0 ∙ ap (λ (t : ℕ). (0 + total g.pre + t) / 4) sz) o)

    -- the oldest, released
    gave_only : (k n : ℕ) (pre post : List Chunk) (r : Figures) → 6 ≤ k → m.cs ≡ pre ++ busy n ∷ post → byte_of k ≡ total pre
        → Outside ((total pre - free_last 0 pre) / 4) ((total pre + n + free_head post) / 4) i
        → op.word (op.set_rest (release_chunk op s (k - 6) (length_at op s k)) r) i ≡ op.word s i
    gave_only k n pre post r k6 is bk o =
        let w = subst (λ cs. Whole (L E s m h) class_of class_below s m.orders cs) is (whole E s m h) in
        let c = subst Calm is h.calm in
        let lp = legal_front pre (busy n ∷ post) w.legal in
        let n16 : 16 ≤ n = (legal_back pre (busy n ∷ post) w.legal).0 in
        let un : used_at m.cs (byte_of k) ≡ n = ap (λ cs. used_at cs (byte_of k)) is ∙ ap (used_at (pre ++ busy n ∷ post)) bk ∙ used_there pre n post lp in
        let y : length_at op s k ≡ n = used_size E s m h k k6 (omega arith) ∙ un in
        let b : byte_of k ≡ 0 + total pre = bk ∙ sym (zero-add (total pre)) in
        let lt = left_there E (L E s m h) s pre n post k bk k6 w.legal w.tags in
        let fl = free_last-le 0 pre in
        let e0 : total pre - free_last 0 pre ≡ 0 + total pre - free_last 0 pre = ap (λ (t : ℕ). t - free_last 0 pre) (sym (zero-add (total pre))) in
        let e1 : total pre + n + free_head post
        ≡ 0 + total pre - free_last 0 pre + (free_last 0 pre + (n + free_head post)) = sum (total pre) (free_last 0 pre) n
        (free_head post) (omega arith) in
        (L E s m h).word-set_rest (release_chunk op s (k - 6) (length_at op s k)) r i
        ∙ ap (λ (t : S). op.word t i) (release_words op s (k - 6) (length_at op s k) (omega arith) lt.1)
        ∙ ap (λ (t : ℕ). op.word (release_step op class_of s (byte_of k) t) i) y
        ∙ ap (λ (t : ℕ). op.word (release_step op class_of s t n) i) b
        ∙ release_keeps (L E s m h) class_of class_below s m.orders n i pre post c w (subst (λ cs. Off i (frees 0 cs)) is (no_link m i nl))
        (outside_same (ap (λ (t : ℕ). t / 4) e0) (ap (λ (t : ℕ). t / 4) e1) o)
      where
        sum : (a f n g : ℕ) → f ≤ a → a + n + g ≡ 0 + a - f + (f + (n + g))
        sum a f n g q = omega arith

  -- a word clear of the free chunks of the layout without the cache is clear of the free chunks before
  clear_before : (s : S) (m : Model) → Sh s m → (i : ℕ) → Clear (without_cache_m m) i → Clear m i
  clear_before s m h i c x n q =
      let r = free_inside E s m h x n q in
      let g = free_at 0 (without_cache_m m).cs (slot (name_of r.0) r.1) r.2 in
      let l8 : r.1 % 8 ≡ 0 = (legal_back g.pre (free r.1 ∷ g.post) (subst Legal g.is (without_cache_shows E s m h).legal)).1 in
      go r.0 r.1 r.3 r.4 l8 (c (name_of r.0) r.1 r.2)
    where
      go : (e l : ℕ) → e ≤ byte_of x → byte_of x + n ≤ e + l → l % 8 ≡ 0 → Outside (name_of e - 6) (name_of e - 6 + l / 4) i → Outside (x - 6) (x - 6 + n / 4) i
      go e l a b l8 (inl o) = inl (omega arith)
      go e l a b l8 (inr o) = inr (omega arith)

  -- one chunk let go writes words of the free chunk that it becomes, the header right of it, and links
  gone_only : (s : S) (m : Model) (h : Sh s m) (i : ℕ) → NoLink m i → (k : ℕ) (ks : List ℕ) → m.figs.cached ≡ k ∷ ks → Clear (let_go_m m k ks) i
      → op.word (let_go op s (op.rest s).in_use k ks) i ≡ op.word s i
  gone_only s m h i nl k ks e c =
      let u = oldest E s m k ks h e in
      let p = place m k ks h.legal u.0 u.1 in
      go p.pre p.size p.post u.0 p.was p.is p.byte
    where
      -- by the merged chunk's place and length
      out : (front back pre : List Chunk) (n q : ℕ) → 0 + total front ≡ 0 + total pre - free_last 0 pre
          → (let_go_m m k ks).cs ≡ front ++ free (free_last 0 pre + (n + q)) ∷ back → Outside ((total pre - free_last 0 pre) / 4) ((total pre + n + q) / 4) i
      out front back pre n q e' is =
          let l = free_last 0 pre + (n + q) in
          let le = free_last-le 0 pre in
          let t8 = total_8 front (legal_front front (free l ∷ back) (subst Legal is (oldest_gone_lem E s m k ks h e).legal)) in
          outside_same (omega arith) (omega arith)
          (c (name_of (0 + total front)) l (subst (λ cs. Mem (slot (name_of (0 + total front)) l) (frees 0 cs)) (sym is) (free_in front l back)))

      go : (pre : List Chunk) (n : ℕ) (post : List Chunk) → 6 ≤ k → m.cs ≡ pre ++ busy n ∷ post
          → (let_go_m m k ks).cs ≡ release (pre ++ busy n ∷ post) (length pre) → byte_of k ≡ total pre
          → op.word (let_go op s (op.rest s).in_use k ks) i ≡ op.word s i
      go pre n post k6 was is bk =
          let l = legal_back pre (busy n ∷ post) (subst Legal was h.legal) in
          let w = shape (L E s m h) class_of class_below s n pre post (subst Calm was h.calm) l.2 in
          gave_only s m h i nl k n pre post (released (op.rest s) (op.rest s).in_use ks (length_at op s k)) k6 was bk
          (out w.front w.back pre n (free_head post) w.at (is ∙ w.is))

  -- THE CACHE EMPTIED writes words of the free chunks that this leaves, and headers right of them
  emptied_only : (ks : List ℕ) (s : S) (m : Model) (i : ℕ) → Sh s m → m.figs.cached ≡ ks → Clear (empty_cache_m m ks) i
      → op.word (empty_cache op s ks) i ≡ op.word s i
  unfolding empty_cache empty_cache_m gave_m
  emptied_only [] s m i h e c = refl
  emptied_only (k ∷ ks) s m i h e c =
      let cm = clear_before s m h i (subst (λ (xs : List ℕ). Clear (empty_cache_m m xs) i) (sym e) c) in
      emptied_only ks (let_go op s (op.rest s).in_use k ks) (let_go_m m k ks) i (oldest_gone_lem E s m k ks h e) refl c
      ∙ gone_only s m h i (clear_links m i h.legal cm) k ks e
      (clear_before (let_go op s (op.rest s).in_use k ks) (let_go_m m k ks) (oldest_gone_lem E s m k ks h e) i c)

  module _ (s : S) (m : Model) (h : Sh s m) (i : ℕ) (nl : NoLink m i) where
    abbrev Wrote : ℕ → Outcome S → Type 0
    Wrote z o =
        Outside ((o.value - 4) / 4) ((o.value - 4 + size_m m (name_of (o.value - 4))) / 4) i
        → (FromMerged m z o.value o.compared → Clear (without_cache_m m) i) → op.word o.after i ≡ op.word s i

    hand_only : (size : ℕ) → Wrote (rounded_of size) (hand op most places s size)
    unfolding hand_out serve from_cache from_list from_merged
    hand_only size = rw (true_sound E s (m, h)) (go (eqb size 0) (ltb 4294967284 size) (never (op.count s) (rounded_of size)))
      where
        z : ℕ
        z = rounded_of size

        n : Model
        n = without_cache_m m

        -- the value names the chunk
        named : (x : ℕ) → 6 ≤ x → Outside ((byte_of x + 4 - 4) / 4) ((byte_of x + 4 - 4 + size_m m (name_of (byte_of x + 4 - 4))) / 4) i
            → Outside (byte_of x / 4)
            ((byte_of x + size_m m x) / 4) i
        named x x6 o =
            let b : byte_of x + 4 - 4 ≡ byte_of x = omega arith in
            let n : name_of (byte_of x + 4 - 4) ≡ x = omega arith in
            outside_same (ap (λ (t : ℕ). t / 4) b) (ap (λ (t : ℕ). (t + size_m m (name_of (byte_of x + 4 - 4))) / 4) b ∙ ap
            (λ (t : ℕ). (byte_of x + size_m m t) / 4) n) o

        again : Picked (size_m m) z m.figs.cached none → (c : ℕ) → search_m m z ≡ nowhere c → (r : Found) → search_m n z ≡ r → Wrote z (from_merged op s z c r)
        again p c e (nowhere d) g o k = refl
        again p c e lost g o k = refl
        again p c e (at x d) g o k =
            let b = without_cache_shows E s m h in
            let cl = k (from_merged_lem E s m h z c p e x d g) in
            let f : Mem x (searched n z) × (z ≤ size_m n x) = subst (Fits (size_m n) z (searched n z)) g (find_fits (size_m n) z (searched n z) 0) in
            let r = met_free E (without_cache op s) n b z x f.0 in
            let sz = slot_size n.cs x r.0 b.legal r.1 in
            found_only (without_cache op s) n b i (clear_links n i b.legal cl) z x (c + d) (r16 size) (r8 size) f.0
            (outside_same (omega arith) (omega arith) (cl x r.0 r.1))
            ∙ ap (λ (q : Figures). op.word (empty_cache op s q.cached) i) h.figs ∙ emptied_only m.figs.cached s m i h refl cl

        list : Picked (size_m m) z m.figs.cached none → (r : Found) → search_m m z ≡ r → Wrote z (from_list op s z r)
        list p (nowhere c) e =
            rw (search_same E (without_cache op s) n (without_cache_shows E s m h) z) (again p c e (search_m n z) refl)
        list p lost e = λ o k. refl
        list p (at x c) e = λ o k.
            let f : Mem x (searched m z) × (z ≤ size_m m x) = subst (Fits (size_m m) z (searched m z)) e (find_fits (size_m m) z (searched m z) 0) in
            let r = met_free E s m h z x f.0 in
            let x6 = (free_at 0 m.cs (slot x r.0) r.1).named in
            found_only s m h i nl z x c (r16 size) (r8 size) f.0 (named x (omega arith) o)

        served : (c : Chosen) → Picked (size_m m) z m.figs.cached c → Wrote z (from_cache op s z c)
        served (one x ks) p = λ o k.
            let u = h.cache.used x p.1 in
            let x6 = u.0 in
            let u1 = u.1 in
            let y = used_size E s m h x u.0 u.1 in
            let l = used_len m.cs (byte_of x) h.legal u.1 in
            let e : length_at op s x ≡ size_m m x = y ∙ sym l in
            let l16 = big x u1 in
            let g : Figures = with_cached (op.rest s) ((op.rest s).in_use + length_at op s x) ks in
            emptied_out (L E s m h) (op.set_rest s g) (x - 6) (length_at op s x) i (omega arith)
            (past_emptied (byte_of x / 4) ((byte_of x + size_m m x) / 4) i (x - 6) (length_at op s x) (omega arith) (omega arith) (named x x6 o))
            ∙ (L E s m h).word-set_rest s g i
          where
            big : (x : ℕ) → 0 < used_at m.cs (byte_of x) → 16 ≤ used_at m.cs (byte_of x)
            big x p =
                let u = used_at_lem m.cs (byte_of x) (omega arith) in
                (legal_back u.pre (busy (used_at m.cs (byte_of x)) ∷ u.post) (subst Legal u.is h.legal)).0
        served none p = rw (search_same E s m h z) (list p (search_m m z) refl)

        go : (a b c : Bool)
            → Wrote z (pick a (says 1 0 0 s) (pick b (says 2 0 0 s) (pick c (says 8 0 0 s) (from_cache op s z (choose (length_at op s) z (op.rest s).cached)))))
        go true b c = λ o k. refl
        go false true c = λ o k. refl
        go false false true = λ o k. refl
        go false false false = rw (choose_cached E s m h z) (served (choose (size_m m) z m.figs.cached) (choose_picked (size_m m) z m.figs.cached))

    back_only : (p k n : ℕ) (ks : List ℕ) (pre post : List Chunk) → m.figs.cached ++ name_of (p - 4) ∷ [] ≡ k ∷ ks → m.cs ≡ pre ++ busy n ∷ post
        → byte_of k ≡ total pre
        → Outside ((total pre - free_last 0 pre) / 4) ((total pre + n + free_head post) / 4) i
        → op.word (back op most places s p).after i ≡ op.word s i
    unfolding take_back settled
    back_only p k n ks pre post is cs bk o = rw (true_sound E s (m, h), live_same E s m h p, h.figs, is) (go (eqb (live_m m p) 0) refl)
      where
        k6 : live_m m p ≢ 0 → 6 ≤ k
        k6 a = (snoc_used E s m h p a k (subst (λ (t : List ℕ). Mem k t) (sym is) (Memᴰ.head refl))).0

        on : live_m m p ≢ 0 → (t : Bool) → op.word (pick t (op.set_rest s (with_cached m.figs (m.figs.in_use - live_m m p) (k ∷ ks)))
            (let_go op s (m.figs.in_use - live_m m p) k ks)) i ≡ op.word s i
        on a true = (L E s m h).word-set_rest s _ i
        on a false = gave_only s m h i nl k n pre post (released (op.rest s) (m.figs.in_use - live_m m p) ks (length_at op s k)) (k6 a) cs bk o

        go : (t : Bool) → eqb (live_m m p) 0 ≡ t
            → op.word (pick t (says 4 0 0 s) (says 0 0 0
            (settled op places s (m.figs.in_use - live_m m p) (k ∷ ks)))).after i ≡ op.word s i
        go true e = refl
        go false e = rw h.figs (on (eqb-false (live_m m p) 0 e) (leb (length (k ∷ ks)) places))

-- ---- WHAT TASKS KEEP

module _ {S : Type 0} {op : Ops S Figures} {most places : ℕ} (E : Edition op most places) where
  -- a word that a live payload holds is live
  pub live_holds : (s : S) (p i : ℕ) → Sound op most places s → 0 < live_at op most places s p → Holds p (live_at op most places s p) i
      → Live op most places s i
  live_holds s p i k a w =
      let m = k.0 in
      let h = k.1 in
      let e = live_shown E s m h p in
      let alive : live_m m p ≢ 0 = (λ z. (let y = a in omega arith)) in
      let v = live_is E s m h p alive in
      let n = live_len E s m h p alive in
      let u = used_at_lem m.cs (p - 4) (let y = v.1 in omega arith) in
      (m, h, (p, used_at m.cs (p - 4), (v.3, u, v.2), subst (λ (t : ℕ). Holds p t i) (e ∙ n) w))

  -- a handout changes no word of a live payload
  hand_contents : (s : S) (size p i : ℕ) → 0 < live_at op most places s p → Holds p (live_at op most places s p) i
      → op.word (hand op most places s size).after i ≡ op.word s i
  unfolding call
  hand_contents s size p i a w = go (ℕ_discrete (hand op most places s size).number 0)
    where
      go : Dec ((hand op most places s size).number ≡ 0) → op.word (hand op most places s size).after i ≡ op.word s i
      go (no n) = ap (λ (t : S). op.word t i) (hand_refused op most places s size n)
      go (yes z) =
          let k = served_sound E s size z in
          let g = handed_out E s size z in
          let d : p ≢ (hand op most places s size).value =
          (λ y. (let q : live_at op most places s p ≡ 0 = ap (live_at op most places s) y ∙ g.new in omega arith)) in
          let e = g.others p d in
          payload_kept E (ask size) s i (live_holds s p i k a w)
          (live_holds (hand op most places s size).after p i (hand_sound E s size k) (subst (λ (t : ℕ). 0 < t) (sym e) a)
          (subst (λ (t : ℕ). Holds p t i) (sym e) w))

  -- taking back changes no word of another live payload
  back_contents : (s : S) (p q i : ℕ) → q ≢ p → 0 < live_at op most places s q → Holds q (live_at op most places s q) i
      → op.word (back op most places s p).after i ≡ op.word s i
  unfolding call
  back_contents s p q i d a w = go (ℕ_discrete (back op most places s p).number 0)
    where
      go : Dec ((back op most places s p).number ≡ 0) → op.word (back op most places s p).after i ≡ op.word s i
      go (no n) = ap (λ (t : S). op.word t i) (back_refused op most places s p n)
      go (yes z) =
          let k = settled_sound E s p z in
          let e = (taken_back E s p z).others q d in
          payload_kept E (give p) s i (live_holds s q i k a w)
          (live_holds (back op most places s p).after q i (back_sound E s p k) (subst (λ (t : ℕ). 0 < t) (sym e) a) (subst (λ (t : ℕ). Holds q t i) (sym e) w))

  -- the claims, together
  pub frame : Frame op most places
  frame = record {
    hand = λ s m size i h nl o k. hand_only E s m h i nl size o k;
    back = λ s m p i k n ks pre post h is cs bk nl o. back_only E s m h i nl p k n ks pre post is cs bk o;
    contents = (hand_contents, back_contents);
  }

-- BOTH WIDTHS
pub narrow_frame : (places : ℕ) → Frame (ops {R = Figures} narrow) 65529 places
narrow_frame places = frame (narrow_edition places)

-- with wide links
pub wide_frame : (places : ℕ) → Frame (ops {R = Figures} wide) 4194303 places
wide_frame places = frame (wide_edition places)
