-- Tags written by the steps: a free chunk is used whole, is cut in two, and a part of the heap becomes one free chunk (all four merges).
-- Assumes nothing.
use mathlib.Core.Path.{◌≡◌, refl, ap, ◌∙◌}
use mathlib.Core.Bool.{Bool, true, false}
use mathlib.Core.List.{List, [], ◌∷◌, ◌++◌}
use Prim.Native.Nat.{ℕ, ◌+◌, ◌-◌, ◌/◌, ◌%◌, ◌≤◌, ◌<◌}
use native.Mathlib.Omega.{arith}
use Rattle.words.specs.Tags.{header_of, left_used, left_freed}
use Rattle.rules.specs.Rules.Ops.{Ops}
use Rattle.rules.proofs.Tiling.Bytes.{whole_used, cut_used, one_free}
use Rattle.rules.proofs.Steps.Store.{LinkStore}
use Rattle.rules.specs.Rules.Chunks.{Chunk, free, busy, total, Legal}
use Rattle.rules.proofs.Tiling.Chunks.{total_append}
use Rattle.words.proofs.Laws.Choice.{bit_small}
use Rattle.words.specs.Choice.{bit}
use Rattle.rules.specs.Sound.Tags.{head_tag, Tags}
use Rattle.rules.proofs.Tiling.Tags.{last_used, tags_back, tags_head}
use Rattle.rules.proofs.Steps.Part.{Part, legal_front, legal_back, outside, write_rings, retag}

head_tag-even : (cs : List Chunk) → Legal cs → head_tag cs % 2 ≡ 0
head_tag-even [] g = refl
head_tag-even (c ∷ cs) g = let h = g.1 in omega arith

module _ {S R : Type 0} {op : Ops S R} (L : LinkStore op) where
  -- between pre, whose last chunk is used, and post
  module _ (cls : ℕ → ℕ) (cls6 : (n : ℕ) → cls n < 6) (pre post : List Chunk) (O : ℕ → List ℕ) (last : last_used true pre ≡ true) where
    abbrev b : ℕ
    b = 0 + total pre

    abbrev l : Bool
    l = last_used true pre

    pub whole_part : (s : S) (n : ℕ) → Part L cls s O (pre ++ free n ∷ post) (outside L cls cls6 pre post O n)
        → Part L cls (whole_used op s b n) O (pre ++ busy n ∷ post) (outside L cls cls6 pre post O n)
    unfolding whole_used
    whole_part s n p =
        let h16 : 16 ≤ n = n16 in
        let hb : b + n ≤ L.bytes = all in
        retag L cls cls6 pre post O s (op.set_word s1 ((b + n) / 4) (left_used (op.word s1 ((b + n) / 4))))
        (free n ∷ []) (busy n ∷ []) n (omega arith) (omega arith) (ln.0, ln.1, tt) p
        (write_rings L cls cls6 pre post O s1 n ((b + n) / 4) _ lp lq p.exact (omega arith) (omega arith)
        (write_rings L cls cls6 pre post O s n (b / 4) _ lp lq p.exact (omega arith) (omega arith) p.rings))
        (λ i h. L.word-set_word' s1 _ _ i (omega arith) ∙ L.word-set_word' s _ _ i (omega arith))
        (λ i h. L.word-set_word' s1 _ _ i (omega arith) ∙ L.word-set_word' s _ _ i (omega arith))
        (let q = tags_head (op.word s) (b + n) false post t.2 in let ev = head_tag-even post lq in
        let r1 : op.word s1 ((b + n) / 4) ≡ op.word s ((b + n) / 4) = L.word-set_word' s _ _ ((b + n) / 4) (omega arith) in
        L.word-set_word s1 _ _ g1 (L.inw ((b + n) / 4) (omega arith)) ∙ omega arith) (
          let k : bit l ≡ 1 = ap bit last in
              let h8 : n % 8 ≡ 0 = ln.1 in
              L.word-set_word' s1 _ _ (b / 4) (omega arith)
              ∙ L.word-set_word s _ _ p.rings.good (L.inw (b / 4) (omega arith))
              ∙ omega arith,
          λ e. absurd (let z : ◌≡◌ {A = ℕ} 0 1 = cc in omega arith),
          tt,
        )
      where
        s1 : S
        s1 = op.set_word s (b / 4) (header_of n true true)

        g1 : L.Good s1
        g1 = L.good-set_word s _ _ p.rings.good

        lp : Legal pre
        lp = legal_front pre (free n ∷ post) p.legal

        ln : Legal (free n ∷ post)
        ln = legal_back pre (free n ∷ post) p.legal

        lq : Legal post
        lq = ln.2

        t : Tags (op.word s) b l (free n ∷ post)
        t = tags_back (op.word s) 0 true pre (free n ∷ post) p.tags

        n16 : 16 ≤ n
        n16 = ln.0

        all : b + n ≤ L.bytes
        all = let q = p.size in let x = total_append pre (free n ∷ post) in omega arith

    pub cut_part : (s : S) (n z : ℕ) → 16 ≤ z → z % 8 ≡ 0 → z + 16 ≤ n → Part L cls s O (pre ++ free n ∷ post) (outside L cls cls6 pre post O n)
        → Part L cls (cut_used op s b n z) O (pre ++ busy z ∷ free (n - z) ∷ post) (outside L cls cls6 pre post O n)
    unfolding cut_used
    cut_part s n z z16 z8 zn p =
        let hb : b + n ≤ L.bytes = all in
        let h8 : n % 8 ≡ 0 = ln.1 in
        retag L cls cls6 pre post O s (op.set_word s2 ((b + n) / 4 - 1) (n - z)) (free n ∷ []) (busy z ∷ free (n - z) ∷ []) n (omega arith) (omega arith)
        (z16, z8, (omega arith, omega arith, tt)) p
        (write_rings L cls cls6 pre post O s2 n ((b + n) / 4 - 1) _ lp lq p.exact (omega arith) (omega arith)
        (write_rings L cls cls6 pre post O s1 n ((b + z) / 4) _ lp lq p.exact (omega arith) (omega arith)
        (write_rings L cls cls6 pre post O s n (b / 4) _ lp lq p.exact (omega arith) (omega arith) p.rings)))
        (λ i h. L.word-set_word' s2 _ _ i (omega arith) ∙ L.word-set_word' s1 _ _ i (omega arith) ∙ L.word-set_word' s _ _ i (omega arith))
        (λ i h. L.word-set_word' s2 _ _ i (omega arith) ∙ L.word-set_word' s1 _ _ i (omega arith) ∙ L.word-set_word' s _ _ i (omega arith))
        (L.word-set_word' s2 _ _ ((b + n) / 4) (omega arith)
        ∙ L.word-set_word' s1 _ _ ((b + n) / 4) (omega arith)
        ∙ L.word-set_word' s _ _ ((b + n) / 4) (omega arith)
        ∙ tags_head (op.word s) (b + n) false post t.2) (
          let k : bit l ≡ 1 = ap bit last in
              L.word-set_word' s2 _ _ (b / 4) (omega arith) ∙ L.word-set_word' s1 _ _ (b / 4) (omega arith) ∙ L.word-set_word s _ _ p.rings.good
              (L.inw (b / 4) (omega arith)) ∙ omega arith,
          λ e. absurd (let z : ◌≡◌ {A = ℕ} 0 1 = cc in omega arith),
          (
            L.word-set_word' s2 _ _ ((b + z) / 4) (omega arith) ∙ L.word-set_word s1 _ _ g1 (L.inw ((b + z) / 4) (omega arith)) ∙ omega arith,
            λ e. ap (λ (i : ℕ). op.word (op.set_word s2 ((b + n) / 4 - 1) (n - z)) i) same
                ∙ L.word-set_word s2 _ _ g2 (L.inw ((b + n) / 4 - 1) (omega arith)),
            tt,
          ),
        )
      where
        s1 : S
        s1 = op.set_word s (b / 4) (header_of z true true)

        s2 : S
        s2 = op.set_word s1 ((b + z) / 4) (header_of (n - z) false true)

        g1 : L.Good s1
        g1 = L.good-set_word s _ _ p.rings.good

        g2 : L.Good s2
        g2 = L.good-set_word s1 _ _ g1

        lp : Legal pre
        lp = legal_front pre (free n ∷ post) p.legal

        ln : Legal (free n ∷ post)
        ln = legal_back pre (free n ∷ post) p.legal

        lq : Legal post
        lq = ln.2

        t : Tags (op.word s) b l (free n ∷ post)
        t = tags_back (op.word s) 0 true pre (free n ∷ post) p.tags

        all : b + n ≤ L.bytes
        all = let q = p.size in let x = total_append pre (free n ∷ post) in omega arith

        same : (b + z + (n - z)) / 4 - 1 ≡ (b + n) / 4 - 1
        same = ap (λ (i : ℕ). i / 4 - 1) (omega arith)

    pub free_part : (s : S) (mid : List Chunk) (m : ℕ) → total mid ≡ m → 16 ≤ m → m % 8 ≡ 0
        → Part L cls s O (pre ++ (mid ++ post)) (outside L cls cls6 pre post O m)
        → Part L cls (one_free op s b m) O (pre ++ free m ∷ post) (outside L cls cls6 pre post O m)
    unfolding one_free
    free_part s mid m em m16 m8 p =
        let hb : b + m ≤ L.bytes = all in
        retag L cls cls6 pre post O s (op.set_word s2 ((b + m) / 4) (left_freed (op.word s2 ((b + m) / 4))))
        mid (free m ∷ []) m em (omega arith) (m16, m8, tt) p
        (write_rings L cls cls6 pre post O s2 m ((b + m) / 4) _ lp lq p.exact (omega arith) (omega arith)
        (write_rings L cls cls6 pre post O s1 m ((b + m) / 4 - 1) _ lp lq p.exact (omega arith) (omega arith)
        (write_rings L cls cls6 pre post O s m (b / 4) _ lp lq p.exact (omega arith) (omega arith) p.rings)))
        (λ i h. L.word-set_word' s2 _ _ i (omega arith) ∙ L.word-set_word' s1 _ _ i (omega arith) ∙ L.word-set_word' s _ _ i (omega arith))
        (λ i h. L.word-set_word' s2 _ _ i (omega arith) ∙ L.word-set_word' s1 _ _ i (omega arith) ∙ L.word-set_word' s _ _ i (omega arith))
        (let q = tags_head (op.word s) (b + m) (last_used l mid) post tq in let e = head_tag-even post lq in let k = bit_small (last_used l mid) in
        let r2 : op.word s2 ((b + m) / 4) ≡ op.word s ((b + m) / 4) =
        L.word-set_word' s1 _ _ ((b + m) / 4) (omega arith) ∙ L.word-set_word' s _ _ ((b + m) / 4) (omega arith) in
        L.word-set_word s2 _ _ g2 (L.inw ((b + m) / 4) (omega arith)) ∙ omega arith) (
          let k : bit l ≡ 1 = ap bit last in
              L.word-set_word' s2 _ _ (b / 4) (omega arith) ∙ L.word-set_word' s1 _ _ (b / 4) (omega arith) ∙ L.word-set_word s _ _ p.rings.good
              (L.inw (b / 4) (omega arith)) ∙ omega arith,
          λ e. L.word-set_word' s2 _ _ ((b + m) / 4 - 1) (omega arith) ∙ L.word-set_word s1 _ _ g1 (L.inw ((b + m) / 4 - 1) (omega arith)),
          tt,
        )
      where
        s1 : S
        s1 = op.set_word s (b / 4) (header_of m false true)

        s2 : S
        s2 = op.set_word s1 ((b + m) / 4 - 1) m

        g1 : L.Good s1
        g1 = L.good-set_word s _ _ p.rings.good

        g2 : L.Good s2
        g2 = L.good-set_word s1 _ _ g1

        lp : Legal pre
        lp = legal_front pre (mid ++ post) p.legal

        lm : Legal (mid ++ post)
        lm = legal_back pre (mid ++ post) p.legal

        lq : Legal post
        lq = legal_back mid post lm

        t : Tags (op.word s) b l (mid ++ post)
        t = tags_back (op.word s) 0 true pre (mid ++ post) p.tags

        tq : Tags (op.word s) (b + m) (last_used l mid) post
        tq = rw em at (tags_back (op.word s) b l mid post t)

        all : b + m ≤ L.bytes
        all = let q = p.size in let x = total_append pre (mid ++ post) in let y = total_append mid post in omega arith
