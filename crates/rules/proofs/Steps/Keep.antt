-- What the calls leave alone: a word outside the part that is tagged anew, in which no free chunk keeps links, is as it was. Assumes nothing.
use mathlib.Core.Path.{◌≡◌, refl, ◌∙◌}
use mathlib.Core.Logic.{◌≢◌, ◌⊎◌, inl, inr}
use mathlib.Core.Bool.{Bool, true, false}
use mathlib.Core.List.Memᴰ
use mathlib.Core.List.{List, [], ◌∷◌, ◌++◌, append_assoc}
use Prim.Native.Nat.{ℕ, ◌+◌, ◌-◌, ◌/◌, ◌%◌, ◌≤◌, ◌<◌}
use native.Mathlib.Omega.{arith}
use native.Mathlib.Nat.{add-zero, zero-add}
use lib.Dec.{leb}
use borrow.Author.Tests.{lt-ltb, leb-true}
use Rattle.words.specs.Choice.{pick}
use Rattle.rules.specs.Rules.Lists.{Mem}
use Rattle.rules.proofs.Lists.Lists.{around}
use Rattle.rules.specs.Rules.Ops.{Ops}
use Rattle.rules.specs.Rules.Steps.{link, unlink, merge}
use Rattle.rules.proofs.Tiling.Bytes.{cut_used, one_free, whole_used, merge_step, release_step, take_step}
use Rattle.rules.proofs.Steps.Store.{LinkStore}
use Rattle.rules.proofs.Lists.Rings.{ring_next, link_word, unlink_word, prev_on, next_on}
use Rattle.rules.specs.Rules.Chunks.{Chunk, free, busy, total, Legal, Calm}
use Rattle.rules.proofs.Tiling.Chunks.{total_append}
use Rattle.rules.specs.Sound.Exact.{Slot, slot, frees}
use Rattle.rules.proofs.Tiling.Exact.{frees_append}
use Rattle.rules.proofs.Tiling.Tags.{last_used, calm_left, tags_back}
use Rattle.rules.proofs.Steps.Part.{Part, legal_back, outside, off_ring}
use Rattle.rules.proofs.Steps.Steps.{cut_part, free_part}
use Rattle.rules.specs.Machine.Orders.{drop, free_head, free_last}
use Rattle.rules.proofs.Steps.Calls.{Whole, frees_free, frees_busy, taken_off, right_off, left_off, first_off, both_off}
use Rattle.rules.proofs.Steps.Release.{Ends, closed, open', ends, free_last-snoc, right_cases, left_read, right_read}

-- word i holds no link of a free chunk of F
abbrev pub Off : ℕ → List Slot → Type 0
Off i F = (t : Slot) → Mem t F → t.name < i + 6 → i + 4 ≤ t.name → ⊥

-- i is outside the words lo to hi
abbrev pub Out : ℕ → ℕ → ℕ → Type 0
Out lo hi i = (i < lo) ⊎ (hi < i)

out_ne : {lo hi i : ℕ} → Out lo hi i → (j : ℕ) → lo ≤ j → j ≤ hi → i ≢ j
out_ne (inl h) j a b e = omega arith
out_ne (inr h) j a b e = omega arith

module _ {S R : Type 0} {op : Ops S R} (L : LinkStore op) (cls : ℕ → ℕ) (cls6 : (n : ℕ) → cls n < 6) where
  unlinked_word : (s : S) (O : ℕ → List ℕ) (cs : List Chunk) (F : List Slot) (x n i : ℕ) → Part L cls s O cs F → Mem (slot x n) F → Off i F
      → op.word (unlink op s x) i ≡ op.word s i
  unlinked_word s O cs F x n i p m h =
      let a = around x (O (cls n)) (p.exact.listed x n m) in
      unlink_word L s x i
      (off_ring L cls cls6 O F p.exact i h (cls n) (op.prev s x) (cls6 n) (prev_on L s O p.rings (cls n) a.front x a.back (cls6 n) a.is))
      (off_ring L cls cls6 O F p.exact i h (cls n) (op.next s x) (cls6 n) (next_on L s O p.rings (cls n) a.front x a.back (cls6 n) a.is))

  -- a link at word w of a part, seen from outside it
  linked_word : (s : S) (O : ℕ → List ℕ) (cs : List Chunk) (F : List Slot) (w k i lo hi : ℕ)
      → Part L cls s O cs F → Off i F → k < 6 → Out lo hi i → lo ≤ w → w + 2 ≤ hi
      → op.word (link op s k (w + 6)) i ≡ op.word s i
  linked_word s O cs F w k i lo hi p h hk o a b =
      link_word L s k (w + 6) i
      (off_ring L cls cls6 O F p.exact i h k k hk (Memᴰ.head refl))
      (off_ring L cls cls6 O F p.exact i h k (op.next s k) hk (ring_next L s O p.rings k hk))
      (λ q. let r = L.owns (w + 6) i q in two o r.1 r.2)
    where
      two : Out lo hi i → w + 6 < i + 6 → i + 4 ≤ w + 6 → ⊥
      two (inl u) c d = omega arith
      two (inr u) c d = omega arith

  module _ (pre post : List Chunk) (last : last_used true pre ≡ true) where
    abbrev b : ℕ
    b = 0 + total pre

    freed_word : (s : S) (O : ℕ → List ℕ) (mid : List Chunk) (m i : ℕ) → total mid ≡ m → 16 ≤ m → m % 8 ≡ 0
        → Part L cls s O (pre ++ (mid ++ post)) (outside L cls cls6 pre post O m)
        → Off i (outside L cls cls6 pre post O m) → Out (b / 4) ((b + m) / 4) i
        → op.word (link op (one_free op s b m) (cls m) (b / 4 + 6)) i ≡ op.word s i
    unfolding one_free
    freed_word s O mid m i em m16 m8 p h o =
        linked_word (one_free op s b m) O (pre ++ free m ∷ post) (outside L cls cls6 pre post O m) (b / 4) (cls m) i (b / 4) ((b + m) / 4)
        (free_part L cls cls6 pre post O last s mid m em m16 m8 p) h (cls6 m) o (omega arith) (omega arith)
        ∙ L.word-set_word' _ _ _ i (out_ne o ((b + m) / 4) (omega arith) (omega arith))
        ∙ L.word-set_word' _ _ _ i (out_ne o ((b + m) / 4 - 1) (omega arith) (omega arith))
        ∙ L.word-set_word' _ _ _ i (out_ne o (b / 4) (omega arith) (omega arith))

    module _ (s : S) (O : ℕ → List ℕ) (n i : ℕ) where
      keep_neither : Whole L cls cls6 s O (pre ++ busy n ∷ post) → Off i (frees 0 (pre ++ busy n ∷ post)) → Out (b / 4) ((b + n) / 4) i
          → op.word (link op (one_free op s b n) (cls n) (b / 4 + 6)) i ≡ op.word s i
      keep_neither w h o =
          let g = legal_back pre (busy n ∷ post) w.legal in
          let e = frees_busy L cls cls6 pre post n in
          freed_word s O (busy n ∷ []) n i (omega arith) g.0 g.1 (rw e at w) (rw e at h) o

      keep_right : (g : ℕ) → Whole L cls cls6 s O (pre ++ busy n ∷ free g ∷ post)
          → Off i (frees 0 (pre ++ busy n ∷ free g ∷ post)) → Out (b / 4) ((b + (n + g)) / 4) i
          → op.word (link op (one_free op (unlink op s ((b + n) / 4 + 6)) b (n + g)) (cls (n + g)) (b / 4 + 6)) i ≡ op.word s i
      unfolding frees
      keep_right g w h o =
          let l = legal_back pre (busy n ∷ free g ∷ post) w.legal in
          let n16 : 16 ≤ n = l.0 in
          let n8 : n % 8 ≡ 0 = l.1 in
          let g8 : g % 8 ≡ 0 = l.2.1 in
          let p = right_off L cls cls6 pre post s O n g w in
          let x : ℕ = (b + n) / 4 + 6 in
          freed_word (unlink op s x) (drop O (cls g) x) (busy n ∷ free g ∷ []) (n + g) i (omega arith) (omega arith) (omega arith) p
          (λ t m. h t (p.sub t m)) o
          ∙ unlinked_word s O (pre ++ busy n ∷ free g ∷ post) (frees 0 (pre ++ busy n ∷ free g ∷ post)) x g i w
          (rw (frees_append 0 pre (busy n ∷ free g ∷ post)) (Memᴰ.append_right (frees 0 pre) (Memᴰ.head refl))) h

      keep_left : (f : ℕ) → Whole L cls cls6 s O (pre ++ free f ∷ busy n ∷ post)
          → Off i (frees 0 (pre ++ free f ∷ busy n ∷ post)) → Out (b / 4) ((b + (f + n)) / 4) i
          → op.word (link op (one_free op (unlink op s (b / 4 + 6)) b (f + n)) (cls (f + n)) (b / 4 + 6)) i ≡ op.word s i
      unfolding frees
      keep_left f w h o =
          let l = legal_back pre (free f ∷ busy n ∷ post) w.legal in
          let f16 : 16 ≤ f = l.0 in
          let f8 : f % 8 ≡ 0 = l.1 in
          let n8 : n % 8 ≡ 0 = l.2.1 in
          let p = left_off L cls cls6 pre post s O n f w in
          freed_word (unlink op s (b / 4 + 6)) (drop O (cls f) (b / 4 + 6)) (free f ∷ busy n ∷ []) (f + n) i (omega arith) (omega arith) (omega arith) p
          (λ t m. h t (p.sub t m)) o
          ∙ unlinked_word s O (pre ++ free f ∷ busy n ∷ post) (frees 0 (pre ++ free f ∷ busy n ∷ post)) (b / 4 + 6) f i w
          (rw (frees_append 0 pre (free f ∷ busy n ∷ post)) (Memᴰ.append_right (frees 0 pre) (Memᴰ.head refl))) h

      keep_both : (f g : ℕ) → Whole L cls cls6 s O (pre ++ free f ∷ busy n ∷ free g ∷ post) → Off i (frees 0 (pre ++ free f ∷ busy n ∷ free g ∷ post))
          → Out (b / 4) ((b + (f + (n + g))) / 4) i
          → op.word (link op (one_free op (unlink op (unlink op s (b / 4 + 6)) ((b + f + n) / 4 + 6)) b (f + (n + g))) (cls (f + (n + g))) (b / 4 + 6)) i
          ≡ op.word s i
      unfolding frees
      keep_both f g w h o =
          let l = legal_back pre (free f ∷ busy n ∷ free g ∷ post) w.legal in
          let f16 : 16 ≤ f = l.0 in
          let f8 : f % 8 ≡ 0 = l.1 in
          let n8 : n % 8 ≡ 0 = l.2.1 in
          let g8 : g % 8 ≡ 0 = l.2.2.1 in
          let p = both_off L cls cls6 pre post s O n f g w in
          let q = first_off L cls cls6 pre post s O n f g w in
          freed_word (unlink op (unlink op s (b / 4 + 6)) ((b + f + n) / 4 + 6)) (drop (drop O (cls f) (b / 4 + 6)) (cls g) ((b + f + n) / 4 + 6))
          (free f ∷ busy n ∷ free g ∷ []) (f + (n + g)) i
          (omega arith) (omega arith) (omega arith) p (λ t m. h t (p.sub t m)) o
          ∙ unlinked_word (unlink op s (b / 4 + 6)) (drop O (cls f) (b / 4 + 6)) (pre ++ free f ∷ busy n ∷ free g ∷ post)
          (frees 0 pre ++ slot ((b + f + n) / 4 + 6) g ∷ frees (b + (f + (n + g))) post)
          ((b + f + n) / 4 + 6) g i q (Memᴰ.append_right (frees 0 pre) (Memᴰ.head refl)) (λ t m. h t (q.sub t m))
          ∙ unlinked_word s O (pre ++ free f ∷ busy n ∷ free g ∷ post) (frees 0 (pre ++ free f ∷ busy n ∷ free g ∷ post)) (b / 4 + 6) f i w
          (rw (frees_append 0 pre (free f ∷ busy n ∷ free g ∷ post)) (Memᴰ.append_right (frees 0 pre) (Memᴰ.head refl))) h

    -- TAKING leaves alone what is outside the chunk that it takes
    pub take_keeps : (s : S) (O : ℕ → List ℕ) (n z i : ℕ) → 16 ≤ z → z % 8 ≡ 0
        → Whole L cls cls6 s O (pre ++ free n ∷ post) → Off i (frees 0 (pre ++ free n ∷ post))
        → Out (b / 4) ((b + n) / 4) i
        → op.word (take_step op cls s b n z) i ≡ op.word s i
    unfolding take_step whole_used cut_used
    take_keeps s O n z i z16 z8 w h o = go (leb (z + 12) n) refl
      where
        p : Part L cls (unlink op s (b / 4 + 6)) (drop O (cls n) (b / 4 + 6)) (pre ++ free n ∷ post) (outside L cls cls6 pre post O n)
        p = taken_off L cls cls6 pre post s O n w

        first : op.word (unlink op s (b / 4 + 6)) i ≡ op.word s i
        first = unlinked_word s O (pre ++ free n ∷ post) (frees 0 (pre ++ free n ∷ post)) (b / 4 + 6) n i w
            (rw (frees_free L cls cls6 pre post n) (Memᴰ.append_right (frees 0 pre) (Memᴰ.head refl))) h

        go : (t : Bool) → leb (z + 12) n ≡ t
            → (let u = unlink op s (b / 4 + 6) in op.word (pick t (link op (cut_used op u b n z) (cls (n - z)) ((b + z) / 4 + 6)) (whole_used op u b n)) i)
            ≡ op.word s i
        go true e =
            let zn : z + 16 ≤ n = (let q = leb-true (z + 12) n e in let n8 = (legal_back pre (free n ∷ post) w.legal).1 in omega arith) in
            let q = cut_part L cls cls6 pre post (drop O (cls n) (b / 4 + 6)) last (unlink op s (b / 4 + 6)) n z z16 z8 zn p in
            linked_word (cut_used op (unlink op s (b / 4 + 6)) b n z) (drop O (cls n) (b / 4 + 6)) (pre ++ busy z ∷ free (n - z) ∷ post)
            (outside L cls cls6 pre post O n) ((b + z) / 4) (cls (n - z)) i (b / 4) ((b + n) / 4)
            q (λ t m. h t (p.sub t m)) (cls6 (n - z)) o (omega arith) (omega arith)
            ∙ L.word-set_word' _ _ _ i (out_ne o ((b + n) / 4 - 1) (omega arith) (omega arith))
            ∙ L.word-set_word' _ _ _ i (out_ne o ((b + z) / 4) (omega arith) (omega arith))
            ∙ L.word-set_word' _ _ _ i (out_ne o (b / 4) (omega arith) (omega arith))
            ∙ first
        go false e =
            L.word-set_word' _ _ _ i (out_ne o ((b + n) / 4) (omega arith) (omega arith))
            ∙ L.word-set_word' _ _ _ i (out_ne o (b / 4) (omega arith) (omega arith))
            ∙ first

  module _ (s : S) (O : ℕ → List ℕ) (n i : ℕ) where
    -- what is to be shown, of a layout cs and the numbers that the steps are taken with
    Kept : List Chunk → ℕ → ℕ → ℕ → Type 0
    Kept cs a f g = Whole L cls cls6 s O cs → Off i (frees 0 cs) → Out (a / 4) ((a + (f + (n + g))) / 4) i
        → op.word (merge_step op cls s a f n g) i ≡ op.word s i

    kept_closed : (pre post : List Chunk) → last_used true pre ≡ true → Legal post → Kept (pre ++ busy n ∷ post) (0 + total pre) 0 (free_head post)
    unfolding Kept merge_step merge
    kept_closed pre post u l =
        right_cases L cls cls6 s O n (λ q g. Kept (pre ++ busy n ∷ q) (0 + total pre) 0 g)
        (λ q v lq w h o. rw (add-zero n, zero-add n) (keep_neither pre q u s O n i w h (rw (add-zero n, zero-add n) at o)))
        (λ q g g16 w h o. rw (lt-ltb 0 g (omega arith), zero-add (n + g), add-zero (0 + total pre))
        (keep_right pre q u s O n i g w h (rw (zero-add (n + g)) at o)))
        post l

    kept_open : (p post : List Chunk) (f : ℕ) → last_used true p ≡ true → 16 ≤ f → Legal post
        → Kept (p ++ free f ∷ busy n ∷ post) (0 + total p) f (free_head post)
    unfolding Kept merge_step merge
    kept_open p post f u f16 l =
        right_cases L cls cls6 s O n (λ q g. Kept (p ++ free f ∷ busy n ∷ q) (0 + total p) f g)
        (λ q v lq w h o. rw (lt-ltb 0 f (omega arith), add-zero n) (keep_left p q u s O n i f w h (rw (add-zero n) at o)))
        (λ q g g16 w h o. rw (lt-ltb 0 f (omega arith), lt-ltb 0 g (omega arith)) (keep_both p q u s O n i f g w h o))
        post l

    kept : (pre post : List Chunk) → Calm (pre ++ busy n ∷ post)
        → Kept (pre ++ busy n ∷ post) (0 + total pre - free_last 0 pre) (free_last 0 pre) (free_head post)
    unfolding Kept
    kept pre post k w h o = go (ends pre)
      where
        lq : Legal post
        lq = (legal_back pre (busy n ∷ post) w.legal).2

        go : Ends pre → op.word (merge_step op cls s (0 + total pre - free_last 0 pre) (free_last 0 pre) n (free_head post)) i ≡ op.word s i
        go (closed u lu e) =
            let z : 0 + total pre - 0 ≡ 0 + total pre = omega arith in
            rw (e, z) (kept_closed pre post lu lq w h (rw (e, z) at o))
        go (open' p f e) =
            let asc = append_assoc p (free f ∷ []) (busy n ∷ post) in
            let y : total (p ++ free f ∷ []) ≡ total p + (f + 0) = total_append p (free f ∷ []) in
            let z : 0 + total (p ++ free f ∷ []) - f ≡ 0 + total p = omega arith in
            let w' = rw (e, asc) at w in
            let f16 : 16 ≤ f = (legal_back p (free f ∷ busy n ∷ post) w'.legal).0 in
            rw (e, free_last-snoc 0 p f, z) (kept_open p post f (calm_left p f (busy n ∷ post) (rw (e, asc) at k)) f16 lq w' (rw (e, asc) at h)
            (rw (e, free_last-snoc 0 p f, z) at o))

    -- RELEASING leaves alone what is outside the part that becomes free
    pub release_keeps : (pre post : List Chunk) → Calm (pre ++ busy n ∷ post)
        → Whole L cls cls6 s O (pre ++ busy n ∷ post) → Off i (frees 0 (pre ++ busy n ∷ post))
        → Out ((0 + total pre - free_last 0 pre) / 4) ((0 + total pre - free_last 0 pre + (free_last 0 pre + (n + free_head post))) / 4) i
        → op.word (release_step op cls s (0 + total pre) n) i ≡ op.word s i
    unfolding release_step Kept
    release_keeps pre post k w h o =
        rw (
          left_read L cls cls6 s pre n post w.legal w.tags,
          right_read L cls cls6 s (0 + total pre + n) post (legal_back pre (busy n ∷ post) w.legal).2
              (tags_back (op.word s) 0 true pre (busy n ∷ post) w.tags).2,
        )
        (kept pre post k w h o)
