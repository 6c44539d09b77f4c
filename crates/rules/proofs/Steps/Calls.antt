-- The steps of handing out and taking back keep a heap whole: taken whole, taken and cut, and released with each of the four merges.
-- Stated over any link store and any class rule. Assumes nothing.
use mathlib.Core.Path.{◌≡◌, refl, ap, ◌∙◌}
use mathlib.Core.Logic.{◌⊎◌, inl, inr}
use mathlib.Core.Bool.{true}
use mathlib.Core.List.Memᴰ
use mathlib.Core.List.{List, [], ◌∷◌, ◌++◌}
use Prim.Native.Nat.{ℕ, ◌+◌, ◌-◌, ◌/◌, ◌%◌, ◌≤◌, ◌<◌}
use native.Mathlib.Omega.{arith}
use Rattle.rules.specs.Rules.Lists.{put, remove, Mem}
use Rattle.rules.proofs.Lists.Lists.{remove_middle, around, Around, before_after}
use Rattle.rules.specs.Rules.Ops.{Ops}
use Rattle.rules.specs.Rules.Steps.{link, unlink}
use Rattle.rules.proofs.Tiling.Bytes.{cut_used, one_free, whole_used}
use Rattle.rules.proofs.Steps.Store.{LinkStore}
use Rattle.rules.specs.Rules.Chunks.{Chunk, free, busy, total, Legal}
use Rattle.rules.proofs.Tiling.Chunks.{total_append}
use Rattle.rules.specs.Sound.Exact.{Slot, slot, frees}
use Rattle.rules.proofs.Tiling.Exact.{frees_append, Alone, in_middle}
use Rattle.rules.proofs.Tiling.Tags.{last_used}
use Rattle.rules.proofs.Steps.Part.{Part, legal_front, legal_back, outside, outside_alone, part_unlink, part_link}
use Rattle.rules.proofs.Steps.Steps.{whole_part, cut_part, free_part}
use Rattle.rules.specs.Machine.Orders.{drop, push}

pub total_8 : (cs : List Chunk) → Legal cs → total cs % 8 ≡ 0
total_8 [] l = refl
total_8 (c ∷ cs) l = let h = l.1 in let r = total_8 cs l.2 in omega arith

module _ {S R : Type 0} {op : Ops S R} (L : LinkStore op) (cls : ℕ → ℕ) (cls6 : (n : ℕ) → cls n < 6) where
  -- every free chunk is listed
  abbrev pub Whole : S → (ℕ → List ℕ) → List Chunk → Type 0
  Whole s O cs = Part L cls s O cs (frees 0 cs)

  -- unlinking by name
  pub unlinked : (s : S) (O : ℕ → List ℕ) (cs : List Chunk) (F G : List Slot) (x n : ℕ) → Alone x (F ++ G) → Part L cls s O cs (F ++ slot x n ∷ G)
      → Part L cls (unlink op s x) (drop O (cls n) x) cs (F ++ G)
  unfolding drop
  unlinked s O cs F G x n al p = go (around x (O (cls n)) (p.exact.listed x n (Memᴰ.append_right F (Memᴰ.head refl))))
    where
      go : Around x (O (cls n)) → Part L cls (unlink op s x) (put O (cls n) (remove x (O (cls n)))) cs (F ++ G)
      go a =
          let d = rw a.is at (p.rings.once (cls n) (cls6 n)) in
          let e : remove x (O (cls n)) ≡ a.front ++ a.back =
          ap (remove x) a.is ∙ remove_middle a.front x a.back (λ m. before_after a.front (x ∷ a.back) x d m (Memᴰ.head refl)) in
          rw e (part_unlink L cls cls6 s O cs F G x n al a.front a.back a.is p)

  module _ (pre post : List Chunk) where
    abbrev b : ℕ
    b = 0 + total pre

    pub frees_free : (n : ℕ) → frees 0 (pre ++ free n ∷ post) ≡ frees 0 pre ++ slot (b / 4 + 6) n ∷ frees (b + n) post
    unfolding frees
    frees_free n = frees_append 0 pre (free n ∷ post)

    pub frees_busy : (n : ℕ) → frees 0 (pre ++ busy n ∷ post) ≡ frees 0 pre ++ frees (b + n) post
    unfolding frees
    frees_busy n = frees_append 0 pre (busy n ∷ post)

    pub frees_cut : (n z : ℕ) → z ≤ n → frees 0 (pre ++ busy z ∷ free (n - z) ∷ post) ≡ frees 0 pre ++ slot ((b + z) / 4 + 6) (n - z) ∷ frees (b + n) post
    unfolding frees
    frees_cut n z h =
        let e : b + n ≡ b + z + (n - z) = omega arith in
        rw e (frees_append 0 pre (busy z ∷ free (n - z) ∷ post))

    module _ (s : S) (O : ℕ → List ℕ) (n : ℕ) (w : Whole s O (pre ++ free n ∷ post)) where
      lp : Legal pre
      lp = legal_front pre (free n ∷ post) w.legal

      ln : Legal (free n ∷ post)
      ln = legal_back pre (free n ∷ post) w.legal

      pub taken_off : Part L cls (unlink op s (b / 4 + 6)) (drop O (cls n) (b / 4 + 6)) (pre ++ free n ∷ post) (outside L cls cls6 pre post O n)
      taken_off =
          let h16 : 16 ≤ n = ln.0 in
          unlinked s O (pre ++ free n ∷ post) (frees 0 pre) (frees (b + n) post) (b / 4 + 6) n
          (outside_alone L cls cls6 pre post O n lp ln.2 (b / 4) (omega arith) (omega arith)) (rw (frees_free n) at w)

      -- TAKEN WHOLE
      pub take_whole : last_used true pre ≡ true → Whole (whole_used op (unlink op s (b / 4 + 6)) b n) (drop O (cls n) (b / 4 + 6)) (pre ++ busy n ∷ post)
      take_whole u = rw (frees_busy n) (whole_part L cls cls6 pre post (drop O (cls n) (b / 4 + 6)) u (unlink op s (b / 4 + 6)) n taken_off)

      -- TAKEN AND CUT: the rest goes to the head of its list
      pub take_cut : last_used true pre ≡ true → (z : ℕ) → 16 ≤ z → z % 8 ≡ 0 → z + 16 ≤ n
          → Whole (link op (cut_used op (unlink op s (b / 4 + 6)) b n z) (cls (n - z)) ((b + z) / 4 + 6))
          (push (drop O (cls n) (b / 4 + 6)) (cls (n - z)) ((b + z) / 4 + 6))
          (pre ++ busy z ∷ free (n - z) ∷ post)
      unfolding push
      take_cut u z z16 z8 zn =
          let p = cut_part L cls cls6 pre post (drop O (cls n) (b / 4 + 6)) u (unlink op s (b / 4 + 6)) n z z16 z8 zn taken_off in
          let fr = frees_cut n z (omega arith) in
          rw fr
          (part_link L cls cls6 (cut_used op (unlink op s (b / 4 + 6)) b n z) (drop O (cls n) (b / 4 + 6)) (pre ++ busy z ∷ free (n - z) ∷ post)
          (frees 0 pre) (frees (b + n) post) ((b + z) / 4 + 6) (n - z)
          (outside_alone L cls cls6 pre post O n lp ln.2 ((b + z) / 4) (omega arith) (omega arith))
          (rw fr (Memᴰ.append_right (frees 0 pre) (Memᴰ.head refl)))
          (let h8 = total_8 pre lp in let q = p.size in let y = total_append pre (busy z ∷ free (n - z) ∷ post) in L.fit (b + z) (omega arith) (omega arith))
          (omega arith) p)

    -- A PART BECOMES ONE FREE CHUNK, listed: the end of every release
    pub freed : last_used true pre ≡ true → (s : S) (O : ℕ → List ℕ) (mid : List Chunk) (m : ℕ) → total mid ≡ m → 16 ≤ m → m % 8 ≡ 0
        → Part L cls s O (pre ++ (mid ++ post)) (outside L cls cls6 pre post O m)
        → Whole (link op (one_free op s b m) (cls m) (b / 4 + 6)) (push O (cls m) (b / 4 + 6)) (pre ++ free m ∷ post)
    unfolding push
    freed u s O mid m em m16 m8 p =
        let q = free_part L cls cls6 pre post O u s mid m em m16 m8 p in
        let lp = legal_front pre (mid ++ post) p.legal in
        let lq = legal_back mid post (legal_back pre (mid ++ post) p.legal) in
        rw (frees_free m)
        (part_link L cls cls6 (one_free op s b m) O (pre ++ free m ∷ post) (frees 0 pre) (frees (b + m) post) (b / 4 + 6) m
        (outside_alone L cls cls6 pre post O m lp lq (b / 4) (omega arith) (omega arith))
        (rw (frees_free m) (Memᴰ.append_right (frees 0 pre) (Memᴰ.head refl)))
        (let h8 = total_8 pre lp in let r = q.size in
        let y = total_append pre (free m ∷ post) in L.fit b (omega arith) (omega arith))
        (omega arith) q)

    -- RELEASED: the four merges
    module _ (s : S) (O : ℕ → List ℕ) (n : ℕ) where
      pub release_neither : last_used true pre ≡ true → Whole s O (pre ++ busy n ∷ post)
          → Whole (link op (one_free op s b n) (cls n) (b / 4 + 6)) (push O (cls n) (b / 4 + 6)) (pre ++ free n ∷ post)
      release_neither u w =
          let g = legal_back pre (busy n ∷ post) w.legal in
          freed u s O (busy n ∷ []) n (omega arith) g.0 g.1 (rw (frees_busy n) at w)

      -- the right neighbour, g bytes
      pub right_off : (g : ℕ) → Whole s O (pre ++ busy n ∷ free g ∷ post)
          → Part L cls (unlink op s ((b + n) / 4 + 6)) (drop O (cls g) ((b + n) / 4 + 6)) (pre ++ busy n ∷ free g ∷ post)
          (outside L cls cls6 pre post O (n + g))
      unfolding frees
      right_off g w =
          let l = legal_back pre (busy n ∷ free g ∷ post) w.legal in
          let n16 : 16 ≤ n = l.0 in
          let g16 : 16 ≤ g = l.2.0 in
          let e : b + n + g ≡ b + (n + g) = omega arith in
          let lp = legal_front pre (busy n ∷ free g ∷ post) w.legal in
          unlinked s O (pre ++ busy n ∷ free g ∷ post) (frees 0 pre) (frees (b + (n + g)) post) ((b + n) / 4 + 6) g
          (outside_alone L cls cls6 pre post O (n + g) lp l.2.2 ((b + n) / 4) (omega arith) (omega arith))
          (rw (frees_append 0 pre (busy n ∷ free g ∷ post), e) at w)

      pub release_right : last_used true pre ≡ true → (g : ℕ) → Whole s O (pre ++ busy n ∷ free g ∷ post)
          → Whole (link op (one_free op (unlink op s ((b + n) / 4 + 6)) b (n + g)) (cls (n + g)) (b / 4 + 6))
          (push (drop O (cls g) ((b + n) / 4 + 6)) (cls (n + g)) (b / 4 + 6))
          (pre ++ free (n + g) ∷ post)
      release_right u g w =
          let l = legal_back pre (busy n ∷ free g ∷ post) w.legal in
          let n16 : 16 ≤ n = l.0 in
          let n8 : n % 8 ≡ 0 = l.1 in
          let g8 : g % 8 ≡ 0 = l.2.1 in
          freed u (unlink op s ((b + n) / 4 + 6)) (drop O (cls g) ((b + n) / 4 + 6)) (busy n ∷ free g ∷ []) (n + g) (omega arith) (omega arith) (omega arith)
          (right_off g w)

      -- the left neighbour, f bytes, at b
      pub left_off : (f : ℕ) → Whole s O (pre ++ free f ∷ busy n ∷ post)
          → Part L cls (unlink op s (b / 4 + 6)) (drop O (cls f) (b / 4 + 6)) (pre ++ free f ∷ busy n ∷ post) (outside L cls cls6 pre post O (f + n))
      unfolding frees
      left_off f w =
          let l = legal_back pre (free f ∷ busy n ∷ post) w.legal in
          let f16 : 16 ≤ f = l.0 in
          let e : b + f + n ≡ b + (f + n) = omega arith in
          unlinked s O (pre ++ free f ∷ busy n ∷ post) (frees 0 pre) (frees (b + (f + n)) post) (b / 4 + 6) f
          (outside_alone L cls cls6 pre post O (f + n) (legal_front pre (free f ∷ busy n ∷ post) w.legal) l.2.2 (b / 4) (omega arith) (omega arith))
          (rw (frees_append 0 pre (free f ∷ busy n ∷ post), e) at w)

      pub release_left : last_used true pre ≡ true → (f : ℕ) → Whole s O (pre ++ free f ∷ busy n ∷ post)
          → Whole (link op (one_free op (unlink op s (b / 4 + 6)) b (f + n)) (cls (f + n)) (b / 4 + 6))
          (push (drop O (cls f) (b / 4 + 6)) (cls (f + n)) (b / 4 + 6))
          (pre ++ free (f + n) ∷ post)
      release_left u f w =
          let l = legal_back pre (free f ∷ busy n ∷ post) w.legal in
          let f16 : 16 ≤ f = l.0 in
          let f8 : f % 8 ≡ 0 = l.1 in
          let n8 : n % 8 ≡ 0 = l.2.1 in
          freed u (unlink op s (b / 4 + 6)) (drop O (cls f) (b / 4 + 6)) (free f ∷ busy n ∷ []) (f + n) (omega arith) (omega arith) (omega arith) (left_off f w)

      -- both: first the left one
      pub first_off : (f g : ℕ) → Whole s O (pre ++ free f ∷ busy n ∷ free g ∷ post)
          → Part L cls (unlink op s (b / 4 + 6)) (drop O (cls f) (b / 4 + 6)) (pre ++ free f ∷ busy n ∷ free g ∷ post)
          (frees 0 pre ++ slot ((b + f + n) / 4 + 6) g ∷ frees (b + (f + (n + g))) post)
      unfolding frees
      first_off f g w =
          let l = legal_back pre (free f ∷ busy n ∷ free g ∷ post) w.legal in
          let f16 : 16 ≤ f = l.0 in
          let e : b + f + n + g ≡ b + (f + (n + g)) = omega arith in
          let lp = legal_front pre (free f ∷ busy n ∷ free g ∷ post) w.legal in
          let al = outside_alone L cls cls6 pre post O (f + (n + g)) lp l.2.2.2 (b / 4) (omega arith) (omega arith) in
          unlinked s O (pre ++ free f ∷ busy n ∷ free g ∷ post) (frees 0 pre) (slot ((b + f + n) / 4 + 6) g ∷ frees (b + (f + (n + g))) post) (b / 4 + 6) f
          (λ t i q. two t q (in_middle t (frees 0 pre) (slot ((b + f + n) / 4 + 6) g) (frees (b + (f + (n + g))) post) i) al (omega arith))
          (rw (frees_append 0 pre (free f ∷ busy n ∷ free g ∷ post), e) at w)
        where
          two : (t : Slot) → t.name ≡ b / 4 + 6 → (t ≡ slot ((b + f + n) / 4 + 6) g) ⊎ Mem t (frees 0 pre ++ frees (b + (f + (n + g))) post)
              → Alone (b / 4 + 6) (frees 0 pre ++ frees (b + (f + (n + g))) post) → b / 4 < (b + f + n) / 4 → ⊥
          two t q (inl r) al h = let y : t.name ≡ (b + f + n) / 4 + 6 = ap (λ (u : Slot). u.name) r in omega arith
          two t q (inr i) al h = al t i q

      pub both_off : (f g : ℕ) → Whole s O (pre ++ free f ∷ busy n ∷ free g ∷ post)
          → Part L cls (unlink op (unlink op s (b / 4 + 6)) ((b + f + n) / 4 + 6)) (drop (drop O (cls f) (b / 4 + 6)) (cls g) ((b + f + n) / 4 + 6))
          (pre ++ free f ∷ busy n ∷ free g ∷ post)
          (outside L cls cls6 pre post O (f + (n + g)))
      both_off f g w =
          let l = legal_back pre (free f ∷ busy n ∷ free g ∷ post) w.legal in
          let g16 : 16 ≤ g = l.2.2.0 in
          let lp = legal_front pre (free f ∷ busy n ∷ free g ∷ post) w.legal in
          unlinked (unlink op s (b / 4 + 6)) (drop O (cls f) (b / 4 + 6)) (pre ++ free f ∷ busy n ∷ free g ∷ post)
          (frees 0 pre) (frees (b + (f + (n + g))) post) ((b + f + n) / 4 + 6) g
          (outside_alone L cls cls6 pre post O (f + (n + g)) lp l.2.2.2 ((b + f + n) / 4) (omega arith) (omega arith))
          (first_off f g w)

      pub release_both : last_used true pre ≡ true → (f g : ℕ) → Whole s O (pre ++ free f ∷ busy n ∷ free g ∷ post)
          → Whole (link op (one_free op (unlink op (unlink op s (b / 4 + 6)) ((b + f + n) / 4 + 6)) b (f + (n + g))) (cls (f + (n + g))) (b / 4 + 6))
          (push (drop (drop O (cls f) (b / 4 + 6)) (cls g) ((b + f + n) / 4 + 6)) (cls (f + (n + g))) (b / 4 + 6)) (pre ++ free (f + (n + g)) ∷ post)
      release_both u f g w =
          let l = legal_back pre (free f ∷ busy n ∷ free g ∷ post) w.legal in
          let f16 : 16 ≤ f = l.0 in
          let f8 : f % 8 ≡ 0 = l.1 in
          let n8 : n % 8 ≡ 0 = l.2.1 in
          let g8 : g % 8 ≡ 0 = l.2.2.1 in
          freed u (unlink op (unlink op s (b / 4 + 6)) ((b + f + n) / 4 + 6)) (drop (drop O (cls f) (b / 4 + 6)) (cls g) ((b + f + n) / 4 + 6))
          (free f ∷ busy n ∷ free g ∷ []) (f + (n + g)) (omega arith) (omega arith) (omega arith) (both_off f g w)
