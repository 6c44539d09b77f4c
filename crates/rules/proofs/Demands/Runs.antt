-- DEMAND 3: two runs with the same requests answer alike, whatever the memory held and the tasks wrote; no call changes a live payload. Assumes nothing.
use mathlib.Core.Path.{◌≡◌, refl, sym, ap, ◌∙◌, subst}
use mathlib.Core.Logic.{◌⊎◌, inl, inr}
use mathlib.Core.Bool.{Bool, true, false}
use mathlib.Core.List.Memᴰ
use mathlib.Core.List.{List, [], ◌∷◌, ◌++◌}
use Prim.Native.Nat.{ℕ, ◌+◌, ◌-◌, ◌*◌, ◌/◌, ◌%◌, ◌≤◌, ◌<◌}
use native.Mathlib.Omega.{arith}
use lib.Dec.{eqb, leb, ltb}
use lib.ListN.{length}
use borrow.Author.Tests.{eqb-false}
use Rattle.words.specs.Choice.{pick}
use Rattle.rules.specs.Rules.Lists.{Mem}
use Rattle.rules.proofs.Lists.Seg.{seg_agree}
use Rattle.rules.specs.Rules.Ops.{Ops}
use Rattle.rules.specs.Rules.Steps.{portion, length_at, take_chunk, emptied, release_chunk, one_chunk}
use Rattle.rules.proofs.Tiling.Bytes.{take_words}
use Rattle.rules.specs.Rules.Chunks.{Chunk, free, busy, total}
use Rattle.rules.specs.Sound.Exact.{slot}
use Rattle.rules.proofs.Tiling.Tags.{tags_agree, calm_left}
use Rattle.rules.proofs.Steps.Part.{legal_front, legal_back}
use Rattle.rules.proofs.Steps.Emptying.{emptied_out}
use Rattle.rules.proofs.Steps.Keep.{Out, take_keeps}
use Rattle.rules.proofs.Demands.KeepLive.{payload, payload_off, payload_out, payload_other}
use Rattle.rules.proofs.Steps.Live.{Payload, live_write}
use Rattle.rules.specs.Rules.Search.{Found, at, nowhere, lost}
use Rattle.rules.proofs.Lists.Search.{find_fits, Fits}
use Rattle.rules.specs.Rules.Place.{used_at}
use Rattle.rules.proofs.Tiling.Place.{free_at, used_at_lem}
use Rattle.rules.proofs.Tiling.Named.{size_at, byte_at}
use Rattle.words.specs.Sizes.{class_of, rounded_of}
use Rattle.words.proofs.Laws.Sizes.{class_below}
use Rattle.rules.specs.Demands.Events.{Event, requests, run, answers, Allowed, replies, steps}
use Rattle.rules.specs.Demands.Events as two
use Rattle.rules.proofs.Demands.TwoRuns.{Laws, two_runs, run_abs, run_answers}
use Rattle.words.specs.Links.{Width}
use Rattle.words.proofs.Laws.Links.{Lawful}
use Rattle.rules.specs.Rules.State.{ops}
use Rattle.rules.specs.Rules.Calls.{Figures, says, byte_of, name_of, Chosen, none, one, never, choose, with_cached, released, let_go, without_cache, from_merged}
use Rattle.rules.specs.Rules.Calls.{from_list, from_cache, serve, hand_out, settled, take_back}
use Rattle.rules.specs.Sound.Model.{Model}
use Rattle.rules.specs.Machine.Machine.{Request, ask, give, Answer, answer_of, call_m, size_m, searched, search_m, without_cache_m, live_m, gave_m, settled_m, take_back_m, made_m, steps_m, replies_m}
use Rattle.rules.specs.Sound.Sound.{Accepted, Shows}
use Rattle.rules.proofs.Steps.Store.{Edition}
use Rattle.rules.proofs.Demands.Numbers.{r16, r8}
use Rattle.rules.proofs.Demands.Shown.{shown, whole, L, search_same, met_free, used_size}
use Rattle.rules.proofs.Demands.Released.{without_cache_shows}
use Rattle.rules.proofs.Demands.Follow.{Follows, live_same, snoc_used}
use Rattle.rules.proofs.Demands.Cache.{Picked, choose_picked}
use Rattle.rules.proofs.Demands.Numbers.{portion_least, portion_le}
use Rattle.rules.proofs.Demands.Shown.{choose_cached}
use Rattle.rules.proofs.Demands.Bounds.{cached_fits}
use Rattle.rules.proofs.Demands.Decide.{true_sound, layout_unique}
use Rattle.rules.specs.Sound.Test.{soundᵇ}
use Rattle.rules.specs.Demands.Meaning.{LiveWord, hand, back}
use Rattle.rules.proofs.Demands.Answers.{hand_follows, back_follows}
use Rattle.rules.proofs.Demands.LetGo.{gave_keeps, without_cache_keeps}
use Rattle.rules.specs.Rules.Making.{fresh}
use Rattle.rules.proofs.Demands.Editions.{edition, made_shows}
use Rattle.rules.specs.Demands.TwoHeaps.{Live, Same, acts, call, machine}

-- the machine's runs
pub steps_machine : (places : ℕ) (qs : List Request) (m : Model) → steps (machine places) qs m ≡ steps_m places qs m
unfolding steps steps_m
steps_machine places [] m = refl
steps_machine places (q ∷ qs) m = steps_machine places qs (call_m places q m).after

pub replies_machine : (places : ℕ) (qs : List Request) (m : Model) → replies (machine places) qs m ≡ replies_m places qs m
unfolding replies replies_m
replies_machine places [] m = refl
replies_machine places (q ∷ qs) m = ap (λ (bs : List Answer). answer_of (call_m places q m) ∷ bs) (replies_machine places qs (call_m places q m).after)

module _ {S : Type 0} {op : Ops S Figures} {most places : ℕ} (E : Edition op most places) where
  abbrev Sh : S → Model → Type 0
  Sh = Shows op most places

  payload_of : (s : S) (m : Model) (i : ℕ) → Sh s m → Live op most places s i → Payload m.cs i
  payload_of s m i h l = subst (λ cs. Payload cs i) (layout_unique E s l.0 m l.1 h) (payload l.0 i l.2)

  pub write_shows : (s : S) (m : Model) (i v : ℕ) → Sh s m → Live op most places s i → Sh (op.set_word s i v) m
  write_shows s m i v h l =
      shown E (op.count s) h.accepted (op.set_word s i v) m
      (live_write (L E s m h) class_of class_below s m.orders m.cs i v (payload_of s m i h l) (whole E s m h)) h.calm
      ((L E s m h).rest-set_word s i v ∙ h.figs) h.words h.cache h.right

  pub follows : (q : Request) (s : S) (m : Model) → Sh s m → Follows op most places (call op most places q s) (call_m places q m)
  unfolding call call_m
  follows (ask n) s m h = hand_follows E s m h n
  follows (give p) s m h = back_follows E s m h p

  pub same : (s t : S) (m : Model) → Sh s m → Sh t m → Same op most places s t
  same s t m a b = record {
    shows = m;
    left = a;
    right = b;
    tags = λ i g. tags_agree (op.word s) (op.word t) 0 true m.cs a.tags b.tags i g;
    nexts = λ k x h i. (seg_agree (op.next s) (op.prev s) (op.next t) (op.prev t) k (m.orders k) k (a.lists k h) (b.lists k h)).0 x i;
    prevs = λ k x h i. (seg_agree (op.next s) (op.prev s) (op.next t) (op.prev t) k (m.orders k) k (a.lists k h) (b.lists k h)).1 x i;
  }

  pub laws : Laws (acts op most places) (machine places)
  laws = record {
    Same = Same op most places;
    Abs = Shows op most places;
    call_abs = λ q s m h. (follows q s m h).after;
    call_answer = λ q s m h. let f = follows q s m h in λ i. record { number = f.number i; value = f.value i; compared = f.compared i };
    write_abs = write_shows;
    same = same;
  }

  -- TWO RUNS
  pub runs_agree : (es fs : List (Event Request)) (s t : S) (m : Model) → requests es ≡ requests fs → Sh s m → Sh t m → Allowed (acts op most places) es s
      → Allowed (acts op most places) fs t
      → (answers (acts op most places) es s ≡ answers (acts op most places) fs t)
      × Same op most places (run (acts op most places) es s) (run (acts op most places) fs t)
  unfolding laws
  runs_agree = two_runs laws

  pub run_follows : (es : List (Event Request)) (s : S) (m : Model) → Sh s m → Allowed (acts op most places) es s
      → (answers (acts op most places) es s ≡ replies (machine places) (requests es) m)
      × Sh (run (acts op most places) es s) (steps (machine places) (requests es) m)
  unfolding laws
  run_follows es s m h a = (run_answers laws es s m h a, run_abs laws es s m h a)

  -- ---- PAYLOADS

  -- what is outside a part is outside its emptied payload
  past_emptied : (lo hi i w k : ℕ) → w ≡ lo → w + k / 4 ≤ hi → Out lo hi i → (i ≤ w) ⊎ (w + k / 4 ≤ i)
  past_emptied lo hi i w k e h (inl o) = inl (omega arith)
  past_emptied lo hi i w k e h (inr o) = inr (omega arith)

  took_keeps : (s : S) (pre : List Chunk) (n : ℕ) (post : List Chunk) (O : ℕ → List ℕ) (f : Figures) (x z i : ℕ) (r : Figures) → 16 ≤ z → z % 8 ≡ 0
      → x ≡ (0 + total pre) / 4 + 6
      → Sh s (record { cs = pre ++ free n ∷ post; orders = O; figs = f }) → Payload (pre ++ free n ∷ post) i
      → op.word (emptied op (op.set_rest (take_chunk op s (x - 6) (length_at op s x) z) r) (x - 6) (portion (length_at op s x) z)) i ≡ op.word s i
  took_keeps s pre n post O f x z i r z16 z8 e h p =
      let m : Model = record { cs = pre ++ free n ∷ post; orders = O; figs = f } in
      let w = whole E s m h in
      let lp = legal_front pre (free n ∷ post) h.legal in
      let n16 : 16 ≤ n = (legal_back pre (free n ∷ post) h.legal).0 in
      let y : length_at op s x ≡ n = size_at (L E s m h) class_of class_below s O pre n post x e w in
      let k = portion_least 16 (length_at op s x) z (omega arith) z16 in
      let j = portion_le (length_at op s x) z in
      emptied_out (L E s m h) (op.set_rest (take_chunk op s (x - 6) (length_at op s x) z) r) (x - 6) (portion (length_at op s x) z) i (omega arith)
      (past_emptied ((0 + total pre) / 4) ((0 + total pre + n) / 4) i (x - 6) (portion (length_at op s x) z) (omega arith) (omega arith)
      (payload_out pre n post i p))
      ∙ (L E s m h).word-set_rest (take_chunk op s (x - 6) (length_at op s x) z) r i
      ∙ rw (take_words op s (x - 6) (length_at op s x) z (omega arith), size_at (L E s m h) class_of class_below s O pre n post x e w, byte_at pre x lp e)
      (take_keeps (L E s m h) class_of class_below pre post (calm_left pre n post h.calm) s O n z i z16 z8 w
      (payload_off (L E s m h) class_of class_below (pre ++ free n ∷ post) i h.legal p) (payload_out pre n post i p))

  module _ (s : S) (m : Model) (h : Sh s m) (i : ℕ) where
    -- a cached chunk's payload holds no word of a live one
    cached_out : (l : LiveWord m i) (x : ℕ) → Mem x m.figs.cached → (i ≤ x - 6) ⊎ (x - 6 + length_at op s x / 4 ≤ i)
    unfolding payload
    cached_out l x q =
        let v = h.cache.used x q in
        let v0 = v.0 in
        let v1 = v.1 in
        let n = used_at m.cs (byte_of x) in
        let u = used_at_lem m.cs (byte_of x) (omega arith) in
        let b : (x - 6) * 4 ≡ total u.pre = u.byte in
        let y = used_size E s m h x v.0 v.1 in
        let w = payload m i l in
        let lb = l.2.1.byte in
        let p : Payload (u.pre ++ busy n ∷ u.post) i =
        record { pre = w.pre; size = w.size; post = w.post; is = sym u.is ∙ w.is; low = w.low; high = w.high } in
        past_emptied ((0 + total u.pre) / 4) ((0 + total u.pre + n) / 4) i (x - 6) (length_at op s x) (omega arith) (omega arith)
        (payload_other u.pre n u.post i p
        (λ e. l.2.2 (subst (λ (t : ℕ). Mem t m.figs.cached) (let d : total u.pre ≡ total l.2.1.pre = e in
        let r : x ≡ name_of (l.0 - 4) = omega arith in r) q)))

    -- what is taken from a list
    found_keeps : (z x c : ℕ) → 16 ≤ z → z % 8 ≡ 0 → Mem x (searched m z) → LiveWord m i → op.word (from_list op s z (at x c)).after i ≡ op.word s i
    unfolding from_list
    found_keeps z x c z16 z8 q l =
        let r = met_free E s m h z x q in
        let g = free_at 0 m.cs (slot x r.0) r.1 in
        took_keeps s g.pre r.0 g.post m.orders m.figs x z i _ z16 z8 g.named
        (subst (λ cs. Sh s (record { cs = cs; orders = m.orders; figs = m.figs })) g.is h) (subst (λ cs. Payload cs i) g.is (payload m i l))

  module _ (s : S) (m : Model) (h : Sh s m) (i : ℕ) where
    hand_keeps : (size : ℕ) → LiveWord m i → op.word (hand op most places s size).after i ≡ op.word s i
    unfolding hand_out serve from_cache from_list from_merged
    hand_keeps size l = rw (true_sound E s (m, h)) (go (eqb size 0) (ltb 4294967284 size) (never (op.count s) (rounded_of size)))
      where
        again : (c : ℕ) (r : Found) → Fits (size_m (without_cache_m m)) (rounded_of size) (searched (without_cache_m m) (rounded_of size)) r
            → op.word (from_merged op s (rounded_of size) c r).after i ≡ op.word s i
        again c (nowhere d) f = refl
        again c lost f = refl
        again c (at x d) f =
            let k = without_cache_keeps E s m i h l in
            found_keeps (without_cache op s) (without_cache_m m) (without_cache_shows E s m h) i (rounded_of size) x (c + d) (r16 size) (r8 size) f.0 k.0
            ∙ k.1

        list : (r : Found) → Fits (size_m m) (rounded_of size) (searched m (rounded_of size)) r
            → op.word (from_list op s (rounded_of size) r).after i ≡ op.word s i
        list (nowhere c) f =
            let n = without_cache_m m in
            rw (search_same E (without_cache op s) n (without_cache_shows E s m h) (rounded_of size))
            (again c (search_m n (rounded_of size)) (find_fits (size_m n) (rounded_of size) (searched n (rounded_of size)) 0))
        list lost f = refl
        list (at x c) f = found_keeps s m h i (rounded_of size) x c (r16 size) (r8 size) f.0 l

        served : (c : Chosen) → Picked (size_m m) (rounded_of size) m.figs.cached c → op.word (from_cache op s (rounded_of size) c).after i ≡ op.word s i
        served (one x ks) p =
            let c = cached_fits E s m h x (subst (λ (f : Figures). Mem x f.cached) (sym h.figs) p.1) in
            let n16 = c.least in
            let g : Figures = with_cached (op.rest s) ((op.rest s).in_use + length_at op s x) ks in
            emptied_out (L E s m h) (op.set_rest s g) (x - 6) (length_at op s x) i (omega arith) (cached_out s m h i l x p.1)
            ∙ (L E s m h).word-set_rest s g i
        served none p =
            rw (search_same E s m h (rounded_of size))
            (list (search_m m (rounded_of size)) (find_fits (size_m m) (rounded_of size) (searched m (rounded_of size)) 0))

        go : (a b c : Bool) → op.word (pick a (says 1 0 0 s)
            (pick b (says 2 0 0 s) (pick c (says 8 0 0 s) (from_cache op s (rounded_of size)
            (choose (length_at op s) (rounded_of size) (op.rest s).cached))))).after i ≡ op.word s i
        go true b c = refl
        go false true c = refl
        go false false true = refl
        go false false false =
            rw (choose_cached E s m h (rounded_of size))
            (served (choose (size_m m) (rounded_of size) m.figs.cached) (choose_picked (size_m m) (rounded_of size) m.figs.cached))

    settled_keeps : (v : ℕ) (ks : List ℕ) → ((x : ℕ) → Mem x ks → (6 ≤ x) × (0 < used_at m.cs (byte_of x))) → Payload m.cs i
        → Payload (settled_m places m v ks).cs i
        → op.word (settled op places s v ks) i ≡ op.word s i
    unfolding settled
    settled_keeps v [] us p p' = refl
    settled_keeps v (k ∷ ks) us p p' = go (leb (length (k ∷ ks)) places) p'
      where
        go : (t : Bool)
            → Payload (pick t (record { cs = m.cs; orders = m.orders; figs = with_cached m.figs v (k ∷ ks) }) (gave_m m v ks (byte_of k) (size_m m k))).cs i
            → op.word (pick t (op.set_rest s (with_cached (op.rest s) v (k ∷ ks))) (let_go op s v k ks)) i ≡ op.word s i
        go true y = (L E s m h).word-set_rest s (with_cached (op.rest s) v (k ∷ ks)) i
        go false y = let u = us k (Memᴰ.head refl) in gave_keeps E s m h i k v ks (released (op.rest s) v ks (length_at op s k)) u.0 u.1 p y

    back_keeps : (p : ℕ) → Payload m.cs i → Payload (take_back_m places m p).after.cs i → op.word (back op most places s p).after i ≡ op.word s i
    unfolding take_back take_back_m
    back_keeps p a b = rw (true_sound E s (m, h), live_same E s m h p, h.figs) (go (eqb (live_m m p) 0) refl b)
      where
        go : (t : Bool) → eqb (live_m m p) 0 ≡ t
            → Payload (pick t (says 4 0 0 m) (says 0 0 0
            (settled_m places m (m.figs.in_use - live_m m p) (m.figs.cached ++ name_of (p - 4) ∷ [])))).after.cs i
            → op.word (pick t (says 4 0 0 s) (says 0 0 0
            (settled op places s (m.figs.in_use - live_m m p) (m.figs.cached ++ name_of (p - 4) ∷ [])))).after i ≡ op.word s i
        go true e y = refl
        go false e y =
            settled_keeps (m.figs.in_use - live_m m p) (m.figs.cached ++ name_of (p - 4) ∷ []) (snoc_used E s m h p (eqb-false (live_m m p) 0 e)) a y

  -- NO CALL CHANGES a word of a payload live before and after it
  pub payload_kept : (q : Request) (s : S) (i : ℕ) → Live op most places s i → Live op most places (call op most places q s).after i
      → op.word (call op most places q s).after i ≡ op.word s i
  unfolding call call_m
  payload_kept (ask n) s i l l' = hand_keeps s l.0 l.1 i n l.2
  payload_kept (give p) s i l l' =
      back_keeps s l.0 l.1 i p (payload l.0 i l.2)
      (payload_of (back op most places s p).after (take_back_m places l.0 p).after i (back_follows E s l.0 l.1 p).after l')

-- DEMAND 3, from making on, for any two link widths: the editions agree. With one width these are two heaps of one edition
module _ {W W' : Width} (E : Lawful W) (E' : Lawful W') (most most' places : ℕ) (f : most + 6 ≤ W.limit) (f' : most' + 6 ≤ W'.limit) where
  pub two_heaps : (ws ws' : List ℕ) → length ws ≡ length ws' → Accepted most (length ws) → Accepted most' (length ws') → (es fs : List (Event Request))
      → requests es ≡ requests fs
      → Allowed (acts (ops W) most places) es (one_chunk (ops W) (fresh ws) (4 * (length ws - 1)))
      → Allowed (acts (ops W') most' places) fs (one_chunk (ops W') (fresh ws') (4 * (length ws' - 1)))
      → answers (acts (ops W) most places) es (one_chunk (ops W) (fresh ws) (4 * (length ws - 1)))
      ≡ answers (acts (ops W') most' places) fs (one_chunk (ops W') (fresh ws') (4 * (length ws' - 1)))
  two_heaps ws ws' e a a' es fs q x y =
      (run_follows (edition E most places f) es _ (made_m (length ws)) (made_shows E most places f ws a) x).0
      ∙ ap (λ (qs : List Request). replies (machine places) qs (made_m (length ws))) q
      ∙ ap (λ (n : ℕ). replies (machine places) (requests fs) (made_m n)) e
      ∙ sym (run_follows (edition E' most' places f') fs _ (made_m (length ws')) (made_shows E' most' places f' ws' a') y).0
