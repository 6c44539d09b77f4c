-- A heap whose tags are right and whose lists hold some of its free chunks: what stands between the steps of a call. The steps cite four facts:
-- a chunk is unlinked, tags of a part are written anew, a chunk is linked, and a heap whose every free chunk is listed is whole.
-- Assumes nothing.
use mathlib.Core.Path.{◌≡◌, refl, sym, subst}
use mathlib.Core.Logic.{◌⊎◌, inl, inr}
use mathlib.Core.Bool.{Bool, true}
use mathlib.Core.List.Memᴰ
use mathlib.Core.List.{List, [], ◌∷◌, ◌++◌}
use Prim.Native.Nat.{ℕ, ◌+◌, ◌/◌, ◌≤◌, ◌<◌}
use native.Mathlib.Omega.{arith}
use Rattle.rules.specs.Rules.Lists.{Mem, put}
use Rattle.rules.specs.Rules.Ops.{Ops}
use Rattle.rules.specs.Rules.Steps.{link, unlink}
use Rattle.rules.proofs.Steps.Store.{LinkStore}
use Rattle.rules.proofs.Lists.Rings.{Rings, link_rings, unlink_rings, ring_next, link_word, unlink_word, rings_write, prev_on, next_on}
use Rattle.rules.specs.Rules.Chunks.{Chunk, total, Legal}
use Rattle.rules.proofs.Tiling.Chunks.{total_append}
use Rattle.rules.specs.Sound.Exact.{Slot, slot, frees, Exact}
use Rattle.rules.proofs.Tiling.Exact.{frees_append, frees_from, Alone, exact_remove, exact_add, in_middle, in_wide}
use Rattle.words.specs.Choice.{bit}
use Rattle.rules.specs.Sound.Tags.{head_tag, Tags}
use Rattle.rules.proofs.Tiling.Tags.{Front, last_used, tags_front, tags_back, tags_join, front_below, tags_left, tags_owned}

pub legal_front : (pre cs : List Chunk) → Legal (pre ++ cs) → Legal pre
legal_front [] cs l = tt
legal_front (c ∷ pre) cs l = (l.0, l.1, legal_front pre cs l.2)

pub legal_back : (pre cs : List Chunk) → Legal (pre ++ cs) → Legal cs
legal_back [] cs l = l
legal_back (c ∷ pre) cs l = legal_back pre cs l.2

pub legal_join : (pre cs : List Chunk) → Legal pre → Legal cs → Legal (pre ++ cs)
legal_join [] cs l g = g
legal_join (c ∷ pre) cs l g = (l.0, l.1, legal_join pre cs l.2 g)

pub record Part {S R : Type 0} {op : Ops S R} (L : LinkStore op) (cls : ℕ → ℕ) (s : S) (O : ℕ → List ℕ) (cs : List Chunk) (F : List Slot) : Type 0 where
  pub rings : Rings L s O
  pub exact : Exact cls O F
  pub sub : (t : Slot) → Mem t F → Mem t (frees 0 cs)
  pub legal : Legal cs
  pub size : total cs ≡ L.bytes
  pub tags : Tags (op.word s) 0 true cs

module _ {S R : Type 0} {op : Ops S R} (L : LinkStore op) (cls : ℕ → ℕ) (cls6 : (n : ℕ) → cls n < 6) where
  -- a word in which no slot of F keeps links is one in which no node of the rings does
  pub off_ring : (O : ℕ → List ℕ) (F : List Slot) → Exact cls O F → (i : ℕ) → ((t : Slot) → Mem t F → t.name < i + 6 → i + 4 ≤ t.name → ⊥)
      → (k x : ℕ) → k < 6 → Mem x (k ∷ O k) → L.Owns x i → ⊥
  off_ring O F e i h k x hk (Memᴰ.head q) o = let b = L.owns x i o in omega arith
  off_ring O F e i h k x hk (Memᴰ.tail m) o =
      let b = L.owns x i o in let r = e.only k x hk m in h (slot x r.0) r.1 b.1 b.2

  module _ (s : S) (O : ℕ → List ℕ) (cs : List Chunk) (F G : List Slot) (x n : ℕ) (alone : Alone x (F ++ G)) where
    pub part_unlink : (ys zs : List ℕ) → O (cls n) ≡ ys ++ x ∷ zs → Part L cls s O cs (F ++ slot x n ∷ G)
        → Part L cls (unlink op s x) (put O (cls n) (ys ++ zs)) cs (F ++ G)
    part_unlink ys zs is p = record {
      rings = unlink_rings L s O p.rings (cls n) ys x zs (cls6 n) is;
      exact = exact_remove cls O F G x n alone ys zs is (rw is at (p.rings.once (cls n) (cls6 n))) p.exact;
      sub = λ t m. p.sub t (in_wide t F (slot x n) G m);
      legal = p.legal;
      size = p.size;
      tags = tags_owned (op.word s) (op.word (unlink op s x)) 0 true cs p.legal
          (λ i h.
          let off = off_ring O (F ++ slot x n ∷ G) p.exact i (λ t m. h t (p.sub t m)) (cls n) in
          unlink_word L s x i
          (off (op.prev s x) (cls6 n) (prev_on L s O p.rings (cls n) ys x zs (cls6 n) is))
          (off (op.next s x) (cls6 n) (next_on L s O p.rings (cls n) ys x zs (cls6 n) is)))
          p.tags;
    }

    pub part_link : Mem (slot x n) (frees 0 cs) → L.Node x → 6 ≤ x → Part L cls s O cs (F ++ G)
        → Part L cls (link op s (cls n) x) (put O (cls n) (x ∷ O (cls n))) cs (F ++ slot x n ∷ G)
    part_link there nx h6 p = record {
      rings = link_rings L s O p.rings (cls n) x (cls6 n) nx h6 (λ j hj m. let r = p.exact.only j x hj m in alone (slot x r.0) r.1 refl);
      exact = exact_add cls O F G x n alone p.exact;
      sub = λ t m. both t (in_middle t F (slot x n) G m);
      legal = p.legal;
      size = p.size;
      tags = tags_owned (op.word s) (op.word (link op s (cls n) x)) 0 true cs p.legal
          (λ i h. link_word L s (cls n) x i
          (off_ring O (F ++ G) p.exact i (λ t m. h t (p.sub t m)) (cls n) (cls n) (cls6 n) (Memᴰ.head refl))
          (off_ring O (F ++ G) p.exact i (λ t m. h t (p.sub t m)) (cls n) (op.next s (cls n)) (cls6 n) (ring_next L s O p.rings (cls n) (cls6 n)))
          (λ o. let b = L.owns x i o in h (slot x n) there b.1 b.2))
          p.tags;
    }
      where
        both : (t : Slot) → (t ≡ slot x n) ⊎ Mem t (F ++ G) → Mem t (frees 0 cs)
        both t (inl e) = subst (λ (z : Slot). Mem z (frees 0 cs)) (sym e) there
        both t (inr m) = p.sub t m

  -- THE MIDDLE PART: chunks mid between pre and post, none of whose free ones is listed, are tagged anew
  module _ (pre post : List Chunk) (O : ℕ → List ℕ) where
    abbrev b : ℕ
    b = 0 + total pre

    abbrev l : Bool
    l = last_used true pre

    -- the slots outside a middle part of m bytes
    abbrev pub outside : ℕ → List Slot
    outside m = frees 0 pre ++ frees (b + m) post

    -- no slot outside reaches into the part, nor names it
    pub outside_off : (m : ℕ) → Legal pre → Legal post → (i : ℕ) → b / 4 ≤ i → i ≤ (b + m) / 4
        → (t : Slot) → Mem t (outside m) → t.name < i + 6 → i + 4 ≤ t.name → ⊥
    outside_off m lp lq i h k t u p q = go (Memᴰ.append_cases (frees 0 pre) u)
      where
        go : Mem t (frees 0 pre) ⊎ Mem t (frees (b + m) post) → ⊥
        go (inl v) = let r = frees_from 0 pre lp t v in omega arith
        go (inr v) = let r = frees_from (b + m) post lq t v in omega arith

    pub outside_alone : (m : ℕ) → Legal pre → Legal post → (w : ℕ) → b / 4 ≤ w → w < (b + m) / 4 → Alone (w + 6) (outside m)
    outside_alone m lp lq w h k t u e = go (Memᴰ.append_cases (frees 0 pre) u)
      where
        go : Mem t (frees 0 pre) ⊎ Mem t (frees (b + m) post) → ⊥
        go (inl v) = let r = frees_from 0 pre lp t v in omega arith
        go (inr v) = let r = frees_from (b + m) post lq t v in omega arith

    pub write_rings : (s : S) (m i v : ℕ) → Legal pre → Legal post → Exact cls O (outside m) → b / 4 ≤ i → i ≤ (b + m) / 4
        → Rings L s O → Rings L (op.set_word s i v) O
    write_rings s m i v lp lq e h k r = rings_write L s O i v (off_ring O (outside m) e i (outside_off m lp lq i h k)) r

    pub retag : (s s' : S) (mid mid' : List Chunk) (m : ℕ) → total mid ≡ m → total mid' ≡ m → Legal mid' → Part L cls s O (pre ++ (mid ++ post)) (outside m)
        → Rings L s' O → ((i : ℕ) → i < b / 4 → op.word s' i ≡ op.word s i) → ((i : ℕ) → (b + m) / 4 < i → op.word s' i ≡ op.word s i)
        → op.word s' ((b + m) / 4) ≡ head_tag post + bit (last_used l mid') → Front (op.word s') b l mid'
        → Part L cls s' O (pre ++ (mid' ++ post)) (outside m)
    retag s s' mid mid' m em e lm p r low high hd reg = record {
      rings = r;
      exact = p.exact;
      sub = λ t i. rw (frees_append 0 pre (mid' ++ post), frees_append (0 + total pre) mid' post, e) (wide t (Memᴰ.append_cases (frees 0 pre) i));
      legal = legal_join pre (mid' ++ post) lp (legal_join mid' post lm lq);
      size = let q = p.size in
          let x = total_append pre (mid' ++ post) in let y = total_append mid' post in
          let z = total_append mid post in let w = total_append pre (mid ++ post) in
          omega arith;
      tags =
          tags_join (op.word s') 0 true pre (mid' ++ post)
          (front_below (op.word s) (op.word s') 0 true pre lp low (tags_front (op.word s) 0 true pre (mid ++ post) p.tags))
          (tags_join (op.word s') b l mid' post reg
          (rw e (tags_left (op.word s) (op.word s') (b + m) (last_used l mid) (last_used l mid') post lq hd high
          (rw em at (tags_back (op.word s) b l mid post (tags_back (op.word s) 0 true pre (mid ++ post) p.tags))))));
    }
      where
        lp : Legal pre
        lp = legal_front pre (mid ++ post) p.legal

        lq : Legal post
        lq = legal_back mid post (legal_back pre (mid ++ post) p.legal)

        wide : (t : Slot) → Mem t (frees 0 pre) ⊎ Mem t (frees (b + m) post) → Mem t (frees 0 pre ++ (frees b mid' ++ frees (b + m) post))
        wide t (inl i) = Memᴰ.append_left _ i
        wide t (inr i) = Memᴰ.append_right (frees 0 pre) (Memᴰ.append_right (frees b mid') i)
