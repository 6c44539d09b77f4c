-- The class lists over any link store: what linking at the head, unlinking and making do to them, and to the other words.
-- Assumes nothing.
use mathlib.Core.Path.{◌≡◌, refl, sym, ◌∙◌, subst}
use mathlib.Core.Logic.{◌≢◌}
use mathlib.Core.List.Memᴰ
use mathlib.Core.List.{List, [], ◌∷◌, ◌++◌}
use Prim.Native.Nat.{ℕ, ◌≤◌, ◌<◌}
use native.Mathlib.Omega.{arith}
use Rattle.rules.specs.Rules.Lists.{Mem, Distinct, put, Seg}
use Rattle.rules.proofs.Lists.Lists.{put_cases, mem_middle, distinct_middle}
use Rattle.rules.proofs.Lists.Seg.{seg_frame, seg_fst, seg_snd, seg_head, seg_last, link_seg, unlink_seg}
use Rattle.rules.specs.Rules.Ops.{Ops}
use Rattle.rules.specs.Rules.Steps.{link, unlink}
use Rattle.rules.proofs.Steps.Store.{LinkStore}

-- the class lists of s are the orders O: list k, followed from sentinel k, is O k and comes back; every member is a chunk, on one list, once
pub record Rings {S R : Type 0} {op : Ops S R} (L : LinkStore op) (s : S) (O : ℕ → List ℕ) : Type 0 where
  pub good : L.Good s
  pub ring : (k : ℕ) → k < 6 → Seg (op.next s) (op.prev s) k (O k) k
  pub node : (k : ℕ) → k < 6 → (x : ℕ) → Mem x (O k) → L.Node x × (6 ≤ x)
  pub once : (k : ℕ) → k < 6 → Distinct (O k)
  pub apart : (k j x : ℕ) → k < 6 → j < 6 → Mem x (O k) → Mem x (O j) → k ≡ j

module _ {S R : Type 0} {op : Ops S R} (L : LinkStore op) where
  module _ (s : S) (k c : ℕ) (g : L.Good s) (nk : L.Node k) (nc : L.Node c) (nn : L.Node (op.next s k)) where
    s1 : S
    s1 = op.set_next s k c

    s2 : S
    s2 = op.set_prev s1 (op.next s k) c

    s3 : S
    s3 = op.set_next s2 c (op.next s k)

    g1 : L.Good s1
    unfolding s1
    g1 = L.good-set_next s k c g

    g2 : L.Good s2
    unfolding s2
    g2 = L.good-set_prev s1 (op.next s k) c g1

    g3 : L.Good s3
    unfolding s3
    g3 = L.good-set_next s2 c (op.next s k) g2

    vk : L.Name k
    vk = L.name k nk

    vc : L.Name c
    vc = L.name c nc

    vn : L.Name (op.next s k)
    vn = L.name (op.next s k) nn

    pub link_good : L.Good (link op s k c)
    unfolding link s1 s2 s3
    link_good = L.good-set_prev s3 c k g3

    pub link_next_c : op.next (link op s k c) c ≡ op.next s k
    unfolding link s1 s2 s3
    link_next_c = L.next-set_prev s3 c k c g3 nc vk nc ∙ L.next-set_next s2 c (op.next s k) g2 nc vn

    pub link_next_k : c ≢ k → op.next (link op s k c) k ≡ c
    unfolding link s1 s2 s3
    link_next_k h =
        L.next-set_prev s3 c k k g3 nc vk nk ∙ L.next-set_next' s2 c (op.next s k) k g2 nc vn nk (λ q. h (sym q))
        ∙ L.next-set_prev s1 (op.next s k) c k g1 nn vc nk ∙ L.next-set_next s k c g nk vc

    pub link_next : (x : ℕ) → L.Node x → x ≢ k → x ≢ c → op.next (link op s k c) x ≡ op.next s x
    unfolding link s1 s2 s3
    link_next x nx hk hc =
        L.next-set_prev s3 c k x g3 nc vk nx ∙ L.next-set_next' s2 c (op.next s k) x g2 nc vn nx hc
        ∙ L.next-set_prev s1 (op.next s k) c x g1 nn vc nx ∙ L.next-set_next' s k c x g nk vc nx hk

    pub link_prev_c : op.prev (link op s k c) c ≡ k
    unfolding link s1 s2 s3
    link_prev_c = L.prev-set_prev s3 c k g3 nc vk

    pub link_prev_n : op.next s k ≢ c → op.prev (link op s k c) (op.next s k) ≡ c
    unfolding link s1 s2 s3
    link_prev_n h =
        L.prev-set_prev' s3 c k (op.next s k) g3 nc vk nn h ∙ L.prev-set_next s2 c (op.next s k) (op.next s k) g2 nc vn nn
        ∙ L.prev-set_prev s1 (op.next s k) c g1 nn vc

    pub link_prev : (x : ℕ) → L.Node x → x ≢ op.next s k → x ≢ c → op.prev (link op s k c) x ≡ op.prev s x
    unfolding link s1 s2 s3
    link_prev x nx hn hc =
        L.prev-set_prev' s3 c k x g3 nc vk nx hc ∙ L.prev-set_next s2 c (op.next s k) x g2 nc vn nx
        ∙ L.prev-set_prev' s1 (op.next s k) c x g1 nn vc nx hn ∙ L.prev-set_next s k c x g nk vc nx

  module _ (s : S) (O : ℕ → List ℕ) (r : Rings L s O) where
    pub ring_node : (k : ℕ) → k < 6 → (x : ℕ) → Mem x (k ∷ O k) → L.Node x
    ring_node k h x (Memᴰ.head e) = subst L.Node (sym e) (L.sentinel k h)
    ring_node k h x (Memᴰ.tail m) = (r.node k h x m).0

    -- a node, sentinels too, is on one ring
    pub ring_apart : (k j x : ℕ) → k < 6 → j < 6 → Mem x (k ∷ O k) → Mem x (j ∷ O j) → k ≡ j
    ring_apart k j x hk hj (Memᴰ.head e) (Memᴰ.head f) = sym e ∙ f
    ring_apart k j x hk hj (Memᴰ.head e) (Memᴰ.tail n) = let b = (r.node j hj x n).1 in absurd (omega arith)
    ring_apart k j x hk hj (Memᴰ.tail m) (Memᴰ.head f) = let b = (r.node k hk x m).1 in absurd (omega arith)
    ring_apart k j x hk hj (Memᴰ.tail m) (Memᴰ.tail n) = r.apart k j x hk hj m n

    pub ring_once : (k : ℕ) → k < 6 → Distinct (k ∷ O k)
    ring_once k h = (λ m. let b = (r.node k h k m).1 in omega arith, r.once k h)

    pub ring_next : (k : ℕ) → k < 6 → Mem (op.next s k) (k ∷ O k)
    ring_next k h = seg_head (op.next s) (op.prev s) k (O k) k (r.ring k h)

    -- list k becomes xs, and the others stay: what is left to show of the state t, and it has the orders so changed
    pub rings_put : (t : S) (k : ℕ) (xs : List ℕ) → L.Good t
        → Seg (op.next t) (op.prev t) k xs k → ((j : ℕ) → j ≢ k → j < 6 → Seg (op.next t) (op.prev t) j (O j) j)
        → ((x : ℕ) → Mem x xs → L.Node x × (6 ≤ x)) → Distinct xs → ((j x : ℕ) → j ≢ k → j < 6 → Mem x xs → Mem x (O j) → ⊥)
        → Rings L t (put O k xs)
    rings_put t k xs g own others nodes d away = record {
      good = g;
      ring = put_cases O k xs (λ j ys. j < 6 → Seg (op.next t) (op.prev t) j ys j) (λ h. own) others;
      node = put_cases O k xs (λ j ys. j < 6 → (x : ℕ) → Mem x ys → L.Node x × (6 ≤ x)) (λ h. nodes) (λ j h. r.node j);
      once = put_cases O k xs (λ j ys. j < 6 → Distinct ys) (λ h. d) (λ j h. r.once j);
      apart = λ i j x hi hj. put_cases O k xs (λ i ys. i < 6 → Mem x ys → Mem x (put O k xs j) → i ≡ j)
          (λ hk m. put_cases O k xs (λ j ys. j < 6 → Mem x ys → k ≡ j) (λ h n. refl) (λ j h hj n. absurd (away j x h hj m n)) j hj)
          (λ i h hi m. put_cases O k xs (λ j ys. j < 6 → Mem x ys → i ≡ j) (λ hj n. absurd (away i x h hi n m)) (λ j h hj n. r.apart i j x hi hj m n) j hj)
          i hi;
    }

    -- LINKING a fresh chunk at the head of list k
    module _ (k c : ℕ) (hk : k < 6) (nc : L.Node c) (h6 : 6 ≤ c) (fresh : (j : ℕ) → j < 6 → Mem c (O j) → ⊥) where
      c≢ : (j x : ℕ) → j < 6 → Mem x (j ∷ O j) → x ≢ c
      c≢ j x hj (Memᴰ.head e) q = omega arith
      c≢ j x hj (Memᴰ.tail m) q = fresh j hj (subst (λ (z : ℕ). Mem z (O j)) q m)

      nk : L.Node k
      nk = L.sentinel k hk

      nn : L.Node (op.next s k)
      nn = ring_node k hk (op.next s k) (ring_next k hk)

      linked_own : Seg (op.next (link op s k c)) (op.prev (link op s k c)) k (c ∷ O k) k
      linked_own =
          link_seg (op.next s) (op.prev s) (op.next (link op s k c)) (op.prev (link op s k c)) k c (O k) (ring_once k hk) (λ m. c≢ k c hk m refl)
          (link_next_k s k c r.good nk nc nn (λ q. c≢ k k hk (Memᴰ.head refl) (sym q)))
          (link_next_c s k c r.good nk nc nn)
          (link_prev_n s k c r.good nk nc nn (c≢ k (op.next s k) hk (ring_next k hk)))
          (link_prev_c s k c r.good nk nc nn)
          (λ x m q. link_next s k c r.good nk nc nn x (ring_node k hk x m) q (c≢ k x hk m))
          (λ x m q. link_prev s k c r.good nk nc nn x (ring_node k hk x m) q (c≢ k x hk m))
          (r.ring k hk)

      linked_other : (j : ℕ) → j ≢ k → j < 6 → Seg (op.next (link op s k c)) (op.prev (link op s k c)) j (O j) j
      linked_other j jk hj =
          seg_frame (op.next s) (op.prev s) (op.next (link op s k c)) (op.prev (link op s k c)) j (O j) j
          (λ x m. link_next s k c r.good nk nc nn x (ring_node j hj x m)
          (λ q. jk (ring_apart j k x hj hk m (Memᴰ.head q))) (c≢ j x hj m))
          (λ x m. link_prev s k c r.good nk nc nn x (ring_node j hj x m)
          (λ q. jk (ring_apart j k x hj hk m (subst (λ (z : ℕ). Mem z (k ∷ O k)) (sym q) (ring_next k hk)))) (c≢ j x hj m))
          (r.ring j hj)

      nodes : (x : ℕ) → Mem x (c ∷ O k) → L.Node x × (6 ≤ x)
      nodes x (Memᴰ.head e) = subst (λ (z : ℕ). L.Node z × (6 ≤ z)) (sym e) (nc, h6)
      nodes x (Memᴰ.tail m) = r.node k hk x m

      away : (j x : ℕ) → j ≢ k → j < 6 → Mem x (c ∷ O k) → Mem x (O j) → ⊥
      away j x jk hj (Memᴰ.head e) n = fresh j hj (subst (λ (z : ℕ). Mem z (O j)) e n)
      away j x jk hj (Memᴰ.tail m) n = jk (r.apart j k x hj hk n m)

      pub link_rings : Rings L (link op s k c) (put O k (c ∷ O k))
      link_rings = rings_put (link op s k c) k (c ∷ O k) (link_good s k c r.good nk nc nn) linked_own linked_other nodes (fresh k hk, r.once k hk) away

    -- UNLINKING the member c of list k
    module _ (k : ℕ) (ys : List ℕ) (c : ℕ) (zs : List ℕ) (hk : k < 6) (is : O k ≡ ys ++ c ∷ zs) where
      p : ℕ
      p = op.prev s c

      n : ℕ
      n = op.next s c

      own : Seg (op.next s) (op.prev s) k (ys ++ c ∷ zs) k
      own = rw is at (r.ring k hk)

      d : Distinct (k ∷ (ys ++ c ∷ zs))
      d = subst (λ (t : List ℕ). Distinct (k ∷ t)) is (ring_once k hk)

      there : (x : ℕ) → Mem x (k ∷ (ys ++ c ∷ zs)) → Mem x (k ∷ O k)
      there x m = subst (λ (t : List ℕ). Mem x (k ∷ t)) (sym is) m

      p_on : Mem p (k ∷ O k)
      unfolding p
      p_on = there p (Memᴰ.append_left (c ∷ zs) (seg_last (op.next s) (op.prev s) k ys c (seg_fst (op.next s) (op.prev s) k ys c zs k own)))

      -- the one after c: on the ring too
      after : (x : ℕ) → Mem x (k ∷ zs) → Mem x (k ∷ (ys ++ c ∷ zs))
      after x (Memᴰ.head e) = Memᴰ.head e
      after x (Memᴰ.tail m) = Memᴰ.tail (Memᴰ.append_right ys (Memᴰ.tail m))

      n_on : Mem n (k ∷ O k)
      unfolding n
      n_on = there n (after n (seg_head (op.next s) (op.prev s) c zs k (seg_snd (op.next s) (op.prev s) k ys c zs k own)))

      np : L.Node p
      np = ring_node k hk p p_on

      nn' : L.Node n
      nn' = ring_node k hk n n_on

      u1 : S
      u1 = op.set_next s p n

      gu : L.Good u1
      unfolding u1
      gu = L.good-set_next s p n r.good

      pub unlink_good : L.Good (unlink op s c)
      unfolding unlink p n u1
      unlink_good = L.good-set_prev u1 n p gu

      un_next_p : op.next (unlink op s c) p ≡ n
      unfolding unlink p n u1
      un_next_p = L.next-set_prev u1 n p p gu nn' (L.name p np) np ∙ L.next-set_next s p n r.good np (L.name n nn')

      un_next : (x : ℕ) → L.Node x → x ≢ p → op.next (unlink op s c) x ≡ op.next s x
      unfolding unlink p n u1
      un_next x nx h = L.next-set_prev u1 n p x gu nn' (L.name p np) nx ∙ L.next-set_next' s p n x r.good np (L.name n nn') nx h

      un_prev_n : op.prev (unlink op s c) n ≡ p
      unfolding unlink p n u1
      un_prev_n = L.prev-set_prev u1 n p gu nn' (L.name p np)

      un_prev : (x : ℕ) → L.Node x → x ≢ n → op.prev (unlink op s c) x ≡ op.prev s x
      unfolding unlink p n u1
      un_prev x nx h = L.prev-set_prev' u1 n p x gu nn' (L.name p np) nx h ∙ L.prev-set_next s p n x r.good np (L.name n nn') nx

      un_own : Seg (op.next (unlink op s c)) (op.prev (unlink op s c)) k (ys ++ zs) k
      unfolding p n
      un_own =
          unlink_seg (op.next s) (op.prev s) (op.next (unlink op s c)) (op.prev (unlink op s c)) k ys c zs d un_next_p un_prev_n
          (λ x m q. un_next x (ring_node k hk x (there x m)) q) (λ x m q. un_prev x (ring_node k hk x (there x m)) q) own

      un_other : (j : ℕ) → j ≢ k → j < 6 → Seg (op.next (unlink op s c)) (op.prev (unlink op s c)) j (O j) j
      un_other j jk hj =
          seg_frame (op.next s) (op.prev s) (op.next (unlink op s c)) (op.prev (unlink op s c)) j (O j) j
          (λ x m. un_next x (ring_node j hj x m) (λ q. jk (ring_apart j k x hj hk m (subst (λ (z : ℕ). Mem z (k ∷ O k)) (sym q) p_on))))
          (λ x m. un_prev x (ring_node j hj x m) (λ q. jk (ring_apart j k x hj hk m (subst (λ (z : ℕ). Mem z (k ∷ O k)) (sym q) n_on))))
          (r.ring j hj)

      kept : (x : ℕ) → Mem x (ys ++ zs) → Mem x (O k)
      kept x m = subst (λ (t : List ℕ). Mem x t) (sym is) (mem_middle x ys c zs m)

      pub prev_on : Mem (op.prev s c) (k ∷ O k)
      unfolding p
      prev_on = p_on

      pub next_on : Mem (op.next s c) (k ∷ O k)
      unfolding n
      next_on = n_on

      pub unlink_rings : Rings L (unlink op s c) (put O k (ys ++ zs))
      unlink_rings =
          rings_put (unlink op s c) k (ys ++ zs) unlink_good un_own un_other (λ x m. r.node k hk x (kept x m)) (distinct_middle ys c zs d.1)
          (λ j x jk hj m n. jk (r.apart j k x hj hk n (kept x m)))

  -- MAKING: sentinels that name themselves are six empty lists
  pub empty_rings : (s : S) → L.Good s → ((k : ℕ) → k < 6 → op.next s k ≡ k) → ((k : ℕ) → k < 6 → op.prev s k ≡ k) → Rings L s (λ k. [])
  empty_rings s g n p = record {
    good = g;
    ring = λ k h. (n k h, p k h);
    node = λ k h x m. absurd (Memᴰ.not-nil m);
    once = λ k h. tt;
    apart = λ k j x hk hj m. absurd (Memᴰ.not-nil m);
  }

  -- THE WORDS BESIDE: only words that k, its first and c keep links in can change, and no field of the record but the links
  pub link_word : (s : S) (k c i : ℕ) → (L.Owns k i → ⊥) → (L.Owns (op.next s k) i → ⊥) → (L.Owns c i → ⊥) → op.word (link op s k c) i ≡ op.word s i
  unfolding link
  link_word s k c i hk hn hc =
      L.word-set_prev _ c k i hc ∙ L.word-set_next _ c (op.next s k) i hc ∙ L.word-set_prev _ (op.next s k) c i hn ∙ L.word-set_next s k c i hk

  pub unlink_word : (s : S) (c i : ℕ) → (L.Owns (op.prev s c) i → ⊥) → (L.Owns (op.next s c) i → ⊥) → op.word (unlink op s c) i ≡ op.word s i
  unfolding unlink
  unlink_word s c i hp hn = L.word-set_prev _ (op.next s c) (op.prev s c) i hn ∙ L.word-set_next s (op.prev s c) (op.next s c) i hp

  -- A WORD that no listed chunk keeps links in is written: a tag, or a task's store into its payload
  pub rings_write : (s : S) (O : ℕ → List ℕ) (i v : ℕ) → ((k x : ℕ) → k < 6 → Mem x (k ∷ O k) → L.Owns x i → ⊥) → Rings L s O → Rings L (op.set_word s i v) O
  rings_write s O i v off r = record {
    good = L.good-set_word s i v r.good;
    ring = λ k h. seg_frame (op.next s) (op.prev s) (op.next (op.set_word s i v)) (op.prev (op.set_word s i v)) k (O k) k
        (λ x m. L.next-set_word s i v x r.good (ring_node s O r k h x m) (off k x h m))
        (λ x m. L.prev-set_word s i v x r.good (ring_node s O r k h x m) (off k x h m))
        (r.ring k h);
    node = r.node;
    once = r.once;
    apart = r.apart;
  }
