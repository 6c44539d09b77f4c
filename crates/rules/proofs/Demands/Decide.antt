-- SOUND, TESTED: the test says yes exactly for a sound state; and the model that a state shows is one. Assumes nothing.
use mathlib.Core.Path.{◌≡◌, refl, sym, ap, ◌∙◌, subst}
use mathlib.Core.Bool.{Bool, true, false, not}
use mathlib.Core.List.Memᴰ
use mathlib.Core.List.{List, [], ◌∷◌, Memᴰ}
use Prim.Native.Nat.{ℕ, zero, suc, ◌+◌, ◌-◌, ◌*◌, ◌/◌, ◌%◌, ◌≤◌, ◌<◌}
use native.Mathlib.Omega.{arith}
use native.Mathlib.Decide.{ℕ_discrete}
use lib.Dec.{eqb, leb}
use lib.ListN.{length}
use borrow.Author.Tests.{eqb-true, eq-eqb, leb-true, le-leb}
use Rattle.words.specs.Choice.{pick, bit}
use Rattle.rules.specs.Rules.Lists.{Mem, Distinct, Seg}
use Rattle.rules.proofs.Lists.Walk.{walk_ring}
use Rattle.rules.specs.Rules.Ops.{Ops}
use Rattle.rules.proofs.Lists.Rings.{ring_once}
use Rattle.rules.specs.Rules.Chunks.{Chunk, total, Legal, Calm, used_head, used_sum}
use Rattle.rules.specs.Sound.Test.{either}
use Rattle.rules.specs.Sound.Tags.{Tags, head_tag}
use Rattle.rules.proofs.Tiling.Tags.{Foot}
use Rattle.rules.specs.Sound.Exact.{Slot, slot, frees, Exact}
use Rattle.rules.specs.Rules.Place.{used_at}
use Rattle.words.specs.Sizes.{class_of}
use Rattle.words.proofs.Laws.Sizes.{class_below}
use Rattle.rules.proofs.Demands.Enough.{tile_tags}
use Rattle.rules.specs.Sound.Test.{both, legalᵇ, calmᵇ, tagsᵇ, segᵇ, belowᵇ, everyᵇ, slotᵇ, exactᵇ, distinctᵇ, underᵇ, cacheᵇ, figuresᵇ, showsᵇ, candidate, soundᵇ}
use Rattle.rules.proofs.Tiling.Named.{order_few}
use Rattle.rules.specs.Rules.Calls.{Figures, byte_of, listed}
use Rattle.rules.specs.Sound.Model.{Model}
use Rattle.rules.specs.Sound.Sound.{Under, live_sum, CacheRight, FiguresRight, Shows, Sound}
use Rattle.rules.proofs.Steps.Store.{Edition}
use Rattle.rules.proofs.Demands.Cache.{listed_true, listed_false}
use Rattle.rules.proofs.Demands.Shown.{whole, few, L}

-- a Boolean that says whether P holds
pub record Tells (b : Bool) (P : Type 0) : Type 0 where
  pub to : b ≡ true → P
  pub from : P → b ≡ true

tells_and : {a b : Bool} {P Q : Type 0} → Tells a P → Tells b Q → Tells (both a b) (P × Q)
tells_and {a = a} {b = b} {P = P} {Q = Q} s t = record { to = go a b s t; from = λ p. back a b (s.from p.0) (t.from p.1) }
  where
    go : (a b : Bool) → Tells a P → Tells b Q → both a b ≡ true → P × Q
    go true b s t e = (s.to refl, t.to e)
    go false b s t e = absurd (let z : ◌≡◌ {A = ℕ} 0 1 = cc in omega arith)

    back : (a b : Bool) → a ≡ true → b ≡ true → both a b ≡ true
    back true b e f = f
    back false b e f = e

tells_map : {a : Bool} {P Q : Type 0} → (P → Q) → (Q → P) → Tells a P → Tells a Q
tells_map f g t = record { to = λ e. f (t.to e); from = λ q. t.from (g q) }

tells_eq : (a b : ℕ) → Tells (eqb a b) (a ≡ b)
tells_eq a b = record { to = eqb-true a b; from = eq-eqb a b }

tells_le : (a b : ℕ) → Tells (leb a b) (a ≤ b)
tells_le a b = record { to = leb-true a b; from = le-leb a b }

tells_unit : Tells true (Unit {0})
tells_unit = record { to = λ e. tt; from = λ u. refl }

tells_bool : (b : Bool) → Tells b (b ≡ true)
tells_bool b = record { to = λ e. e; from = λ e. e }

tells_legal : (cs : List Chunk) → Tells (legalᵇ cs) (Legal cs)
unfolding legalᵇ
tells_legal [] = tells_unit
tells_legal (c ∷ cs) =
    tells_map (λ p. (p.0, p.1.0, p.1.1)) (λ p. (p.0, (p.1, p.2)))
    (tells_and (tells_le 16 c.len) (tells_and (tells_eq (c.len % 8) 0) (tells_legal cs)))

tells_calm : (cs : List Chunk) → Tells (calmᵇ cs) (Calm cs)
unfolding calmᵇ
tells_calm [] = tells_unit
tells_calm (c ∷ cs) = tells_and (tells_bool (either c.used (used_head cs))) (tells_calm cs)

tells_foot : (f : ℕ → ℕ) (b : ℕ) (c : Chunk) → Tells (either c.used (eqb (f ((b + c.len) / 4 - 1)) c.len)) (Foot f b c)
tells_foot f b c = go c.used
  where
    go : (u : Bool) → Tells (either u (eqb (f ((b + c.len) / 4 - 1)) c.len)) (u ≡ false → f ((b + c.len) / 4 - 1) ≡ c.len)
    go true = record { to = λ e q. absurd (let z : ◌≡◌ {A = ℕ} 0 1 = cc in omega arith); from = λ g. refl }
    go false = record { to = λ e q. eqb-true (f ((b + c.len) / 4 - 1)) c.len e; from = λ g. eq-eqb (f ((b + c.len) / 4 - 1)) c.len (g refl) }

tells_tags : (f : ℕ → ℕ) (b : ℕ) (l : Bool) (cs : List Chunk) → Tells (tagsᵇ f b l cs) (Tags f b l cs)
unfolding tagsᵇ
tells_tags f b l [] = tells_eq (f (b / 4)) (2 + bit l)
tells_tags f b l (c ∷ cs) =
    tells_map (λ p. (p.0, p.1.0, p.1.1)) (λ p. (p.0, (p.1, p.2)))
    (tells_and (tells_eq (f (b / 4)) (head_tag (c ∷ cs) + bit l)) (tells_and (tells_foot f b c) (tells_tags f (b + c.len) c.used cs)))

tells_seg : (nx pv : ℕ → ℕ) (a : ℕ) (xs : List ℕ) (b : ℕ) → Tells (segᵇ nx pv a xs b) (Seg nx pv a xs b)
unfolding segᵇ
tells_seg nx pv a [] b = tells_and (tells_eq (nx a) b) (tells_eq (pv b) a)
tells_seg nx pv a (x ∷ xs) b =
    tells_map (λ p. (p.0, p.1.0, p.1.1)) (λ p. (p.0, (p.1, p.2)))
    (tells_and (tells_eq (nx a) x) (tells_and (tells_eq (pv x) a) (tells_seg nx pv x xs b)))

tells_below : (f : ℕ → Bool) (P : ℕ → Type 0) → ((k : ℕ) → Tells (f k) (P k)) → (n : ℕ) → Tells (belowᵇ f n) ((k : ℕ) → k < n → P k)
unfolding belowᵇ
tells_below f P t zero = record { to = λ e k h. absurd (omega arith); from = λ g. refl }
tells_below f P t (suc n) =
    tells_map (λ p k h. one p k h (ℕ_discrete k n)) (λ g. (g n (omega arith), λ k h. g k (omega arith))) (tells_and (t n) (tells_below f P t n))
  where
    one : P n × ((k : ℕ) → k < n → P k) → (k : ℕ) → k < suc n → Dec (k ≡ n) → P k
    one p k h (yes e) = subst P (sym e) p.0
    one p k h (no q) = p.1 k (omega arith)

tells_every : {A : Type 0} (f : A → Bool) (P : A → Type 0) → ((x : A) → Tells (f x) (P x)) → (xs : List A)
    → Tells (everyᵇ f xs) ((x : A) → Memᴰ x xs → P x)
unfolding everyᵇ
tells_every f P t [] = record { to = λ e x m. absurd (Memᴰ.not-nil m); from = λ g. refl }
tells_every {A = A} f P t (x ∷ xs) =
    tells_map (λ p y m. one p y m) (λ g. (g x (Memᴰ.head refl), λ y m. g y (Memᴰ.tail m))) (tells_and (t x) (tells_every f P t xs))
  where
    one : P x × ((y : A) → Memᴰ y xs → P y) → (y : A) → Memᴰ y (x ∷ xs) → P y
    one p y (Memᴰ.head e) = subst P (sym e) p.0
    one p y (Memᴰ.tail m) = p.1 y m

tells_listed : (x : ℕ) (ks : List ℕ) → Tells (listed x ks) (Mem x ks)
tells_listed x ks = record { to = listed_true x ks; from = λ m. go (listed x ks) refl m }
  where
    go : (b : Bool) → listed x ks ≡ b → Mem x ks → b ≡ true
    go true e m = refl
    go false e m = absurd (listed_false x ks e m)

tells_slot : (x k : ℕ) (F : List Slot) → Tells (slotᵇ x k F) ((n : ℕ) × Mem (slot x n) F × (class_of n ≡ k))
unfolding slotᵇ
tells_slot x k [] = record { to = λ e. absurd (let z : ◌≡◌ {A = ℕ} 0 1 = cc in omega arith); from = λ p. absurd (Memᴰ.not-nil p.1) }
tells_slot x k (t ∷ F) =
    go (both (eqb x t.name) (eqb (class_of t.len) k)) (tells_and (tells_eq x t.name) (tells_eq (class_of t.len) k)) (tells_slot x k F)
  where
    not_here : (b : Bool) → Tells b ((x ≡ t.name) × (class_of t.len ≡ k)) → b ≡ false → (n : ℕ) → Mem (slot x n) (t ∷ F) → class_of n ≡ k → Mem (slot x n) F
    not_here b s e n (Memᴰ.head q) c =
        let u : b ≡ true = s.from (ap (λ (s : Slot). s.name) q, ap (λ (s : Slot). class_of s.len) (sym q) ∙ c) in
        absurd (let z : ◌≡◌ {A = ℕ} 0 1 = cc in omega arith)
    not_here b s e n (Memᴰ.tail m) c = m

    go : (b : Bool) → Tells b ((x ≡ t.name) × (class_of t.len ≡ k)) → Tells (slotᵇ x k F) ((n : ℕ) × Mem (slot x n) F × (class_of n ≡ k))
        → Tells (either b (slotᵇ x k F)) ((n : ℕ) × Mem (slot x n) (t ∷ F) × (class_of n ≡ k))
    go true s r = record { to = λ e. let p = s.to refl in (t.len, Memᴰ.head (λ i. record { name = p.0 i; len = t.len }), p.1); from = λ p. refl }
    go false s r = record {
      to = λ e. let p = r.to e in (p.0, Memᴰ.tail p.1, p.2);
      from = λ p. r.from (p.0, not_here false s refl p.0 p.1 p.2, p.2);
    }

tells_exact : (O : ℕ → List ℕ) (F : List Slot) → Tells (exactᵇ O F) (Exact class_of O F)
unfolding exactᵇ
tells_exact O F =
    tells_map
    (λ p. record { listed = λ x n m. p.0 (slot x n) m; only = λ k x h m. p.1 k h x m })
    (λ e. (λ t m. e.listed t.name t.len m, λ k h x m. e.only k x h m))
    (tells_and
    (tells_every (λ t. listed t.name (O (class_of t.len))) (λ (t : Slot). Mem t.name (O (class_of t.len)))
    (λ t. tells_listed t.name (O (class_of t.len))) F)
    (tells_below (λ k. everyᵇ (λ x. slotᵇ x k F) (O k)) (λ k. (x : ℕ) → Mem x (O k) → (n : ℕ) × Mem (slot x n) F × (class_of n ≡ k))
    (λ k. tells_every (λ x. slotᵇ x k F) (λ (x : ℕ). (n : ℕ) × Mem (slot x n) F × (class_of n ≡ k)) (λ x. tells_slot x k F) (O k)) 6))

tells_not : {a : Bool} {P : Type 0} → Tells a P → Tells (not a) (P → ⊥)
tells_not {a = true} t = record { to = λ e p. (let z : ◌≡◌ {A = ℕ} 0 1 = cc in omega arith); from = λ f. absurd (f (t.to refl)) }
tells_not {a = false} {P = P} t = record { to = λ e p. no' (t.from p); from = λ f. refl }
  where
    no' : false ≡ true → ⊥
    no' e = let z : ◌≡◌ {A = ℕ} 0 1 = cc in omega arith

tells_distinct : (xs : List ℕ) → Tells (distinctᵇ xs) (Distinct xs)
unfolding distinctᵇ
tells_distinct [] = tells_unit
tells_distinct (x ∷ xs) = tells_and (tells_not (tells_listed x xs)) (tells_distinct xs)

tells_under : (h b : ℕ) (cs : List Chunk) → Tells (underᵇ h b cs) (Under h b cs)
unfolding underᵇ
tells_under h b [] = tells_unit
tells_under h b (c ∷ cs) = tells_and (tells_le (pick c.used (b + c.len) 0) h) (tells_under h (b + c.len) cs)

tells_cache : (places : ℕ) (ks : List ℕ) (cs : List Chunk) → Tells (cacheᵇ places ks cs) (CacheRight places ks cs)
unfolding cacheᵇ
tells_cache places ks cs =
    tells_map (λ p. record { used = p.0; once = p.1.0; room = p.1.1 }) (λ c. (c.used, (c.once, c.room)))
    (tells_and (tells_every (λ x. both (leb 6 x) (leb 1 (used_at cs (byte_of x)))) (λ (x : ℕ). (6 ≤ x) × (0 < used_at cs (byte_of x)))
    (λ x. tells_and (tells_le 6 x) (tells_le 1 (used_at cs (byte_of x)))) ks)
    (tells_and (tells_distinct ks) (tells_le (length ks) places)))

tells_figures : (f : Figures) (b : ℕ) (cs : List Chunk) → Tells (figuresᵇ f b cs) (FiguresRight f b cs)
unfolding figuresᵇ
tells_figures f b cs =
    tells_map
    (λ p. record {
      in_use = p.0;
      committed = p.1.0;
      peak = p.1.1.0;
      high = p.1.1.1.0;
      heap = p.1.1.1.1.0;
      eights = p.1.1.1.1.1.0;
      ends = p.1.1.1.1.1.1.0;
      flag = p.1.1.1.1.1.1.1;
    })
    (λ r. (r.in_use, (r.committed, (r.peak, (r.high, (r.heap, (r.eights, (r.ends, r.flag))))))))
    (tells_and (tells_eq f.in_use (live_sum f.cached 0 cs)) (tells_and (tells_eq f.committed (used_sum cs)) (tells_and (tells_le f.committed f.peak)
    (tells_and (tells_le f.peak f.high) (tells_and (tells_le f.high b) (tells_and (tells_eq (f.high % 8) 0)
    (tells_and (tells_under f.high 0 cs) (tells_le f.flag 1))))))))

-- with the figures given, the test tells whether s shows m
pub tells_shows : {S : Type 0} (op : Ops S Figures) (most places : ℕ) (s : S) (m : Model) → op.rest s ≡ m.figs
    → Tells (showsᵇ op most places s m) (Shows op most places s m)
unfolding showsᵇ
tells_shows op most places s m fe =
    tells_map
    (λ p. record {
      six = p.0;
      figs = fe;
      words = p.1.0;
      accepted = (p.1.1.0, p.1.1.1.0, p.1.1.1.1.0);
      legal = p.1.1.1.1.1.0;
      fills = p.1.1.1.1.1.1.0;
      tags = p.1.1.1.1.1.1.1.0;
      calm = p.1.1.1.1.1.1.1.1.0;
      lists = p.1.1.1.1.1.1.1.1.1.0;
      exact = p.1.1.1.1.1.1.1.1.1.1.0;
      cache = p.1.1.1.1.1.1.1.1.1.1.1.0;
      right = p.1.1.1.1.1.1.1.1.1.1.1.1;
    })
    (λ h. (
      h.six,
      (
        h.words,
        (
          h.accepted.0,
          (h.accepted.1, (h.accepted.2, (h.legal, (h.fills, (h.tags, (h.calm, (h.lists, (h.exact, (h.cache, h.right))))))))),
        ),
      ),
    ))
    (tells_and (tells_bool (op.six s)) (tells_and (tells_eq m.figs.words (op.count s))
    (tells_and (tells_le 5 (op.count s)) (tells_and (tells_le (op.count s) most) (tells_and (tells_eq (op.count s % 2) 1)
    (tells_and (tells_legal m.cs) (tells_and (tells_eq (total m.cs) (4 * (op.count s - 1)))
    (tells_and (tells_tags (op.word s) 0 true m.cs) (tells_and (tells_calm m.cs)
    (tells_and (tells_below (λ k. segᵇ (op.next s) (op.prev s) k (m.orders k) k) (λ k. Seg (op.next s) (op.prev s) k (m.orders k) k)
    (λ k. tells_seg (op.next s) (op.prev s) k (m.orders k) k) 6)
    (tells_and (tells_exact m.orders (frees 0 m.cs))
    (tells_and (tells_cache places m.figs.cached m.cs) (tells_figures m.figs (4 * (op.count s - 1)) m.cs)))))))))))))

module _ {S : Type 0} {op : Ops S Figures} {most places : ℕ} (E : Edition op most places) where
  module _ (s : S) (m : Model) (h : Shows op most places s m) where
    chunks_are : (candidate op most places s).cs ≡ m.cs
    unfolding candidate
    chunks_are =
        let c = few E s m h in
        let n = h.accepted.0 in
        tile_tags (op.word s) (op.count s) 0 true m.cs h.legal (omega arith) h.tags

    orders_are : (k : ℕ) → k < 6 → (candidate op most places s).orders k ≡ m.orders k
    unfolding candidate
    orders_are k q =
        let o = order_few (L E s m h) class_of class_below s m.orders m.cs (whole E s m h) k q in
        let c = few E s m h in
        let n = h.accepted.0 in
        let once = ring_once (L E s m h) s m.orders (whole E s m h).rings k q in
        walk_ring (op.next s) (op.prev s) k (m.orders k) (op.count s) once (omega arith) (h.lists k q)

    exact_is : Exact class_of (candidate op most places s).orders (frees 0 m.cs)
    exact_is = record {
      listed = λ x n i. subst (λ t. Mem x t) (sym (orders_are (class_of n) (class_below n))) (h.exact.listed x n i);
      only = λ k x q i. h.exact.only k x q (subst (λ t. Mem x t) (orders_are k q) i);
    }

    pub shows_candidate : Shows op most places s (candidate op most places s)
    unfolding candidate
    shows_candidate = record {
      six = h.six;
      figs = refl;
      words = ap (λ (f : Figures). f.words) h.figs ∙ h.words;
      accepted = h.accepted;
      legal = subst Legal (sym chunks_are) h.legal;
      fills = ap total chunks_are ∙ h.fills;
      tags = subst (λ cs. Tags (op.word s) 0 true cs) (sym chunks_are) h.tags;
      calm = subst Calm (sym chunks_are) h.calm;
      lists = λ k q. subst (λ xs. Seg (op.next s) (op.prev s) k xs k) (sym (orders_are k q)) (h.lists k q);
      exact = subst (λ cs. Exact class_of (candidate op most places s).orders (frees 0 cs)) (sym chunks_are) exact_is;
      cache =
          subst (λ cs. CacheRight places (op.rest s).cached cs) (sym chunks_are)
          (subst (λ (f : Figures). CacheRight places f.cached m.cs) (sym h.figs) h.cache);
      right = subst (λ cs. FiguresRight (op.rest s) (4 * (op.count s - 1)) cs) (sym chunks_are)
          (subst (λ (f : Figures). FiguresRight f (4 * (op.count s - 1)) m.cs) (sym h.figs) h.right);
    }

  -- EXACT: the test says yes for sound states, and for no others
  pub sound_true : (s : S) → soundᵇ op most places s ≡ true → Sound op most places s
  unfolding soundᵇ candidate
  sound_true s e = (candidate op most places s, (tells_shows op most places s (candidate op most places s) refl).to e)

  pub true_sound : (s : S) → Sound op most places s → soundᵇ op most places s ≡ true
  unfolding soundᵇ candidate
  true_sound s h = (tells_shows op most places s (candidate op most places s) refl).from (shows_candidate s h.0 h.1)

  -- ONE MODEL: layout, orders and figures are unique
  pub layout_unique : (s : S) (m n : Model) → Shows op most places s m → Shows op most places s n → m.cs ≡ n.cs
  layout_unique s m n h g = sym (chunks_are s m h) ∙ chunks_are s n g

  pub orders_unique : (s : S) (m n : Model) → Shows op most places s m → Shows op most places s n → (k : ℕ) → k < 6 → m.orders k ≡ n.orders k
  orders_unique s m n h g k q = sym (orders_are s m h k q) ∙ orders_are s n g k q

  pub figures_unique : (s : S) (m n : Model) → Shows op most places s m → Shows op most places s n → m.figs ≡ n.figs
  figures_unique s m n h g = sym h.figs ∙ g.figs

-- MORE PLACES: a state that is sound with p places is sound with more
pub shows_more : {S : Type 0} (op : Ops S Figures) (most p q : ℕ) (s : S) (m : Model) → p ≤ q → Shows op most p s m → Shows op most q s m
shows_more op most p q s m le h =
    let r = h.cache.room in
    record {
      six = h.six;
      figs = h.figs;
      words = h.words;
      accepted = h.accepted;
      legal = h.legal;
      fills = h.fills;
      tags = h.tags;
      calm = h.calm;
      lists = h.lists;
      exact = h.exact;
      cache = record { used = h.cache.used; once = h.cache.once; room = omega arith };
      right = h.right;
    }

pub sound_more : {S : Type 0} {op : Ops S Figures} {most p q : ℕ} → Edition op most p → Edition op most q → p ≤ q → (s : S)
    → soundᵇ op most p s ≡ true → soundᵇ op most q s ≡ true
sound_more {op = op} {most = most} {p = p} {q = q} E F le s e =
    let h = sound_true E s e in
    true_sound F s (h.0, shows_more op most p q s h.0 le h.1)
