-- Sound by words and counts is the rules' Sound, so the code's answer is the rules' test.
--     to_rules, from_rules    the two are one
--     tells                   an answer that is true exactly where the pair is sound is what the rules' test says
use Rattle.std.proofs.Common.{◌≡◌, ℕ, suc, ◌+◌, ◌-◌, ◌*◌, ◌/◌, ◌<◌, ◌≤◌, Bool, true, false, eqb, ◌↔◌, List, [], ◌∷◌, length, sym, refl, ap, ◌∙◌, subst, ⊎_elim, arith, eq-eqb, eqb-true}
use mathlib.Core.List.Memᴰ
use native.Mathlib.Decide.{dec_le, ℕ_discrete}
use borrow.Author.Tests.{eqb-false}
use Rattle.words.specs.declared.names.Link.{Link}
use Rattle.words.specs.Links.{narrow}
use Rattle.words.specs.Sizes.{class_of}
use Rattle.words.specs.Numbers.{numbers}
use Rattle.cache.specs.Places.{cached_of}
use Rattle.words.proofs.Laws.Numbers.{length_numbers}
use Rattle.words.proofs.Laws.Sizes.{class_below}
use Rattle.rules.specs.Rules.Lists.{Mem, Seg}
use Rattle.rules.specs.Rules.Chunks.{Legal}
use Rattle.rules.specs.Sound.Exact.{Slot, slot, frees}
use Rattle.rules.specs.Rules.State.{ops}
use Rattle.rules.specs.Sound.Model.{Model}
use Rattle.rules.specs.Sound.Sound.{CacheRight, FiguresRight, Shows, Sound}
use Rattle.rules.specs.Sound.Test.{soundᵇ}
use Rattle.rules.proofs.Demands.Proved.{narrow_demands}
use Rattle.rules.proofs.Tiling.LiveSums.{live_and_held}
use Rattle.audit.specs.declared.Figures.{Figures}
use Rattle.audit.specs.Shown.{shown}
use Rattle.audit.specs.Layout.{Chunk, free, used, pick, Tiles, free_links}
use Rattle.audit.specs.Rings.{count, next_of, prev_of}
use Rattle.audit.proofs.Counting.{same_bit, diff_bit, none_or_some, mem_count, count_mem, chain_once}
use Rattle.audit.proofs.Tilings.{all, backs, all_backs, sum_same, end_under, under_end}
use Rattle.audit.proofs.Tilings as tilings
use Rattle.audit.proofs.Sound.{ListRight, SoundPair}
use Rattle.audit.proofs.Cached.{held_sum_lem}
use Rattle.audit.proofs.tiling.Places.{free_in, links_once}

-- two answers that are true together
same_answer : (a b : Bool) → (a ≡ true → b ≡ true) → (b ≡ true → a ≡ true) → a ≡ b
same_answer true b f g = sym (f refl)
same_answer false true f g = g refl
same_answer false false f g = refl

-- two counts that are at most 1 and positive together
equal : (m n : ℕ) → m ≤ 1 → n ≤ 1 → (0 < m → 0 < n) → (0 < n → 0 < m) → m ≡ n
equal m n a b f g = go (dec_le 1 m) (dec_le 1 n)
  where
    go : Dec (1 ≤ m) → Dec (1 ≤ n) → m ≡ n
    go (yes p) (yes q) = omega arith
    go (yes p) (no q) = absurd (q (f p))
    go (no p) (yes q) = absurd (p (g q))
    go (no p) (no q) = omega arith

-- THE FREE CHUNKS' LINKS are the rules' slots
links_free : (x k at : ℕ) (cs : List Chunk) → Legal (all cs) → 0 < count x (free_links k at cs)
    → (n : ℕ) × Mem (slot x n) (frees (at * 4) (all cs)) × (class_of n ≡ k)
unfolding free_links pick frees
links_free x k at [] l h = absurd (omega arith)
links_free x k at (used n ∷ cs) l h =
    let n8 = l.1 in
    let e : (at + n / 4) * 4 ≡ at * 4 + n = omega arith in
    subst (λ (b : ℕ). (m : ℕ) × Mem (slot x m) (frees b (all cs)) × (class_of m ≡ k)) e (links_free x k (at + n / 4) cs l.2 h)
links_free x k at (free n ∷ cs) l h = go (λ q. links_free x k (at + n / 4) cs l.2 q) (eqb (class_of n) k) refl h
  where
    e : (at + n / 4) * 4 ≡ at * 4 + n
    e = let n8 = l.1 in omega arith

    later : (m : ℕ) × Mem (slot x m) (frees ((at + n / 4) * 4) (all cs)) × (class_of m ≡ k)
        → (m : ℕ) × Mem (slot x m) (slot (at * 4 / 4 + 6) n ∷ frees (at * 4 + n) (all cs)) × (class_of m ≡ k)
    later p = (p.0, Memᴰ.tail (subst (λ (b : ℕ). Mem (slot x p.0) (frees b (all cs))) e p.1), p.2)

    go : (0 < count x (free_links k (at + n / 4) cs) → (m : ℕ) × Mem (slot x m) (frees ((at + n / 4) * 4) (all cs)) × (class_of m ≡ k))
        → (t : Bool) → eqb (class_of n) k ≡ t
        → 0 < count x (pick t ((at + 6) ∷ free_links k (at + n / 4) cs) (free_links k (at + n / 4) cs))
        → (m : ℕ) × Mem (slot x m) (slot (at * 4 / 4 + 6) n ∷ frees (at * 4 + n) (all cs)) × (class_of m ≡ k)
    go f false q i = later (f i)
    go f true q i = go₂ (ℕ_discrete x (at + 6))
      where
        go₂ : Dec (x ≡ at + 6) → (m : ℕ) × Mem (slot x m) (slot (at * 4 / 4 + 6) n ∷ frees (at * 4 + n) (all cs)) × (class_of m ≡ k)
        go₂ (yes j) = let y : x ≡ at * 4 / 4 + 6 = omega arith in (n, Memᴰ.head (λ u. record { name = y u; len = n }), eqb-true (class_of n) k q)
        go₂ (no j) = let b = diff_bit x (at + 6) j in later (f (omega arith))

-- and the name of a slot is a free chunk's link
free_links_lem : (x n at : ℕ) (cs : List Chunk) → Legal (all cs) → Mem (slot x n) (frees (at * 4) (all cs)) → 0 < count x (free_links (class_of n) at cs)
unfolding free_links pick frees
free_links_lem x n at [] l i = absurd (Memᴰ.not-nil i)
free_links_lem x n at (used m ∷ cs) l i =
    let m8 = l.1 in
    let e : at * 4 + m ≡ (at + m / 4) * 4 = omega arith in
    free_links_lem x n (at + m / 4) cs l.2 (subst (λ (b : ℕ). Mem (slot x n) (frees b (all cs))) e i)
free_links_lem x n at (free m ∷ cs) l i = go (λ j. free_links_lem x n (at + m / 4) cs l.2 j) (eqb (class_of m) (class_of n)) refl i
  where
    e : at * 4 + m ≡ (at + m / 4) * 4
    e = let m8 = l.1 in omega arith

    go : (Mem (slot x n) (frees ((at + m / 4) * 4) (all cs)) → 0 < count x (free_links (class_of n) (at + m / 4) cs)) → (t : Bool)
        → eqb (class_of m) (class_of n) ≡ t
        → Mem (slot x n) (slot (at * 4 / 4 + 6) m ∷ frees (at * 4 + m) (all cs))
        → 0 < count x (pick t ((at + 6) ∷ free_links (class_of n) (at + m / 4) cs) (free_links (class_of n) (at + m / 4) cs))
    go f true q (Memᴰ.head j) = let y : x ≡ at * 4 / 4 + 6 = ap (λ (s : Slot). s.name) j in let b = same_bit x (at + 6) (omega arith) in omega arith
    go f false q (Memᴰ.head j) = absurd (eqb-false (class_of m) (class_of n) q (ap (λ (s : Slot). class_of s.len) (sym j)))
    go f true q (Memᴰ.tail j) = let r = f (subst (λ (b : ℕ). Mem (slot x n) (frees b (all cs))) e j) in omega arith
    go f false q (Memᴰ.tail j) = f (subst (λ (b : ℕ). Mem (slot x n) (frees b (all cs))) e j)

-- THE ORDERS, given for the six classes, as one family
module _ (nx pv : ℕ → ℕ) (cs : List Chunk) (f : (c : ℕ) → c < 6 → ListRight nx pv cs c) where
  -- the order of a class below 6, and else none
  abbrev chosen : (k : ℕ) → Dec (suc k ≤ 6) → List ℕ
  chosen k (yes q) = (f k q).order
  chosen k (no q) = []

  -- the family
  abbrev orders : ℕ → List ℕ
  orders k = chosen k (dec_le (suc k) 6)

  -- a class below 6 has its own order
  chosen_right : (k : ℕ) (d : Dec (suc k ≤ 6)) → k < 6 → Seg nx pv k (chosen k d) k × ((x : ℕ) → count x (chosen k d) ≡ count x (free_links k 0 cs))
  chosen_right k (yes q) h = ((f k q).chain, (f k q).exact)
  chosen_right k (no q) h = absurd (q h)

module _ (places : ℕ) (prev next : List Link) (f : Figures) (ws : List ℕ) where
  -- WHAT THE CODE CALLS SOUND IS SOUND
  to_rules : length prev ≡ 6 → length next ≡ 6 → SoundPair places prev next f ws → Sound (ops narrow) 65529 places (shown prev next f ws)
  unfolding next_of prev_of
  to_rules p n z =
      let cs = z.layout in
      let t = tilings.to_rules ws 0 true cs z.tiles in
      let F = z.figures in
      let right = chosen_right (next_of next ws) (prev_of prev ws) cs z.lists in
      let m : Model = record { cs = all cs; orders = orders (next_of next ws) (prev_of prev ws) cs z.lists; figs = (shown prev next f ws).rest } in (
        m,
        record {
          six = rw (eq-eqb _ 6 (length_numbers prev ∙ p), eq-eqb _ 6 (length_numbers next ∙ n)) refl;
          figs = refl;
          words = sym F.words;
          accepted = (F.least, F.most, F.odd);
          legal = t.0;
          fills = (let y = t.1 in omega arith);
          tags = t.2;
          calm = t.3;
          lists = λ k q. (right k (dec_le (suc k) 6) q).0;
          exact = record {
            listed = λ x k i.
                let r = right (class_of k) (dec_le (suc (class_of k)) 6) (class_below k) in
                let a = free_links_lem x k 0 cs t.0 i in
                let b = r.1 x in
                count_mem x (m.orders (class_of k)) (omega arith);
            only = λ k x q i.
                let r = right k (dec_le (suc k) 6) q in
                let a = mem_count x (m.orders k) i in
                let b = r.1 x in
                links_free x k 0 cs t.0 (omega arith);
          };
          cache = z.cached;
          right = record {
            in_use = (let l = live_and_held (cached_of (numbers f.cached)) (all cs) t.0 z.cached.once z.cached.used in
                let k = held_sum_lem ws cs z.tiles places (numbers f.cached) z.cached in let i = F.in_use in let u = sum_same cs in omega arith);
            committed = F.committed ∙ sym (sum_same cs);
            peak = F.peak;
            high = F.high;
            heap = (let y = F.heap in omega arith);
            eights = F.eights;
            ends = end_under f.high 0 0 cs t.0 (omega arith) F.end;
            flag = F.flag;
          };
        },
      )

  -- AND WHAT IS SOUND THE CODE CALLS SO
  module _ (m : Model) (s : Shows (ops narrow) 65529 places (shown prev next f ws) m) where
    -- the layout
    abbrev ds : List Chunk
    ds = backs m.cs

    -- it is the model's
    same : all ds ≡ m.cs
    same = all_backs m.cs

    -- its lengths are legal
    legal : Legal (all ds)
    legal = subst Legal (sym same) s.legal

    -- it tiles the words
    tiles : Tiles ws 0 true ds
    tiles = tilings.from_rules ws 0 true m.cs (s.legal, (let y = s.fills in omega arith), s.tags, s.calm, refl, (let a = s.accepted.0 in omega arith))

    -- the orders are runs of the links
    chain : (c : ℕ) → c < 6 → Seg (next_of next ws) (prev_of prev ws) c (m.orders c) c
    unfolding next_of prev_of
    chain c q = s.lists c q

    -- a class list's links are those of the free chunks of the class
    listed_link : (c x : ℕ) → c < 6 → 0 < count x (m.orders c) → 0 < count x (free_links c 0 ds)
    listed_link c x q a =
        let r = s.exact.only c x q (count_mem x (m.orders c) a) in
        let i = subst (λ cs. Mem (slot x r.0) (frees 0 cs)) (sym same) r.1 in
        subst (λ (k : ℕ). 0 < count x (free_links k 0 ds)) r.2 (free_links_lem x r.0 0 ds legal i)

    -- and back
    link_listed : (c x : ℕ) → 0 < count x (free_links c 0 ds) → 0 < count x (m.orders c)
    link_listed c x a =
        let r = links_free x c 0 ds legal a in
        subst (λ (k : ℕ). 0 < count x (m.orders k)) r.2
        (mem_count x (m.orders (class_of r.0)) (s.exact.listed x r.0 (subst (λ cs. Mem (slot x r.0) (frees 0 cs)) same r.1)))

    -- a sentinel is not in its own list, so no link stands there twice
    no_sentinel : (c : ℕ) → c < 6 → count c (m.orders c) ≡ 0
    no_sentinel c q =
        ⊎_elim (λ e. e) (λ a. absurd (omega (arith, (free_in ds ws 0 true tiles c c (listed_link c c q a)).0))) (none_or_some (count c (m.orders c)))

    -- so the counts are equal
    exact : (c : ℕ) → c < 6 → (x : ℕ) → count x (m.orders c) ≡ count x (free_links c 0 ds)
    exact c q x =
        equal _ _ (chain_once (next_of next ws) (prev_of prev ws) c (m.orders c) c (chain c q) (no_sentinel c q) x) (links_once ds ws c 0 true tiles x)
        (listed_link c x q) (link_listed c x)

    -- the cached chunk is right for it
    cache : CacheRight places (cached_of (numbers f.cached)) (all ds)
    cache =
        let c = subst (λ ks. CacheRight places ks m.cs) (sym (ap (λ r. r.cached) s.figs)) s.cache in
        subst (λ cs. CacheRight places (cached_of (numbers f.cached)) cs) (sym same) c

    -- the pair is sound by words and counts
    from_rules : SoundPair places prev next f ws
    from_rules =
        let g : FiguresRight (shown prev next f ws).rest (4 * (length ws - 1)) (all ds) =
        subst (λ cs. FiguresRight (shown prev next f ws).rest (4 * (length ws - 1)) cs) (sym same)
        (subst (λ r. FiguresRight r (4 * (length ws - 1)) m.cs) (sym s.figs) s.right) in
        let a = s.accepted in
        record {
          layout = ds;
          tiles = tiles;
          lists = λ c q. record { order = m.orders c; chain = chain c q; exact = exact c q };
          cached = cache;
          figures = record {
            words = sym (ap (λ r. r.words) s.figs ∙ s.words);
            least = a.0;
            most = a.1;
            odd = a.2;
            in_use = (let l = live_and_held (cached_of (numbers f.cached)) (all ds) legal cache.once cache.used in
                let k = held_sum_lem ws ds tiles places (numbers f.cached) cache in let i = g.in_use in let u = sum_same ds in omega arith);
            committed = g.committed ∙ sum_same ds;
            peak = g.peak;
            high = g.high;
            heap = (let y = g.heap in omega arith);
            eights = g.eights;
            end = under_end f.high 0 0 ds legal (omega arith) g.ends;
            flag = g.flag;
          };
        }

  -- SO THE ANSWER IS THE RULES' TEST
  pub tells : length prev ≡ 6 → length next ≡ 6 → (b : Bool) → (b ≡ true) ↔ SoundPair places prev next f ws
      → b ≡ soundᵇ (ops narrow) 65529 places (shown prev next f ws)
  tells p n b e =
      let t = (narrow_demands places).tested (shown prev next f ws) in
      same_answer b _ (λ h. t.1 (to_rules p n (e.0 h))) (λ h. let z = t.0 h in e.1 (from_rules z.0 z.1))
