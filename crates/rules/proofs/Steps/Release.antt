-- Releasing as the rules do it, reading its neighbours from the tags, is releasing on the layout. Assumes nothing.
use mathlib.Core.Path.{◌≡◌, refl, sym, ap, ◌∙◌, subst}
use mathlib.Core.Bool.{Bool, true, false}
use mathlib.Core.List.{List, [], ◌∷◌, ◌++◌, append_assoc}
use Prim.Native.Nat.{ℕ, ◌+◌, ◌-◌, ◌*◌, ◌/◌, ◌%◌, ◌≤◌, ◌<◌}
use native.Mathlib.Nat.{add-zero, zero-add}
use native.Mathlib.Omega.{arith}
use lib.Dec.{eqb, lit<}
use lib.Arith.{digits_mod}
use lib.ListN.{length, length-append}
use borrow.Author.Tests.{eq-eqb, ne_eqb, lt-ltb}
use Rattle.words.specs.Choice.{pick, bit}
use Rattle.rules.specs.Rules.Ops.{Ops}
use Rattle.rules.specs.Rules.Steps.{left_free, right_free, merge}
use Rattle.rules.proofs.Tiling.Bytes.{merge_step, release_step}
use Rattle.rules.proofs.Steps.Store.{LinkStore}
use Rattle.rules.specs.Rules.Chunks.{Chunk, free, busy, total, used_head, Legal, Calm, release}
use Rattle.rules.proofs.Tiling.Chunks.{total_append, used_last, merge_neither, merge_right, merge_left, merge_both}
use Rattle.rules.specs.Sound.Tags.{Tags}
use Rattle.rules.proofs.Tiling.Tags.{last_used, last_used_lem, calm_front, calm_last, tags_back}
use Rattle.rules.proofs.Steps.Part.{legal_back}
use Rattle.rules.proofs.Steps.Calls.{Whole, release_neither, release_right, release_left, release_both}
use Rattle.rules.specs.Machine.Orders.{free_head, free_last, merged_orders}

-- how a front part ends: in a used chunk (or it is empty), or in a free one
pub data Ends (pre : List Chunk) : Type 0 where
  closed : used_last pre ≡ true → last_used true pre ≡ true → free_last 0 pre ≡ 0 → Ends pre
  open' : (p : List Chunk) (f : ℕ) → pre ≡ p ++ free f ∷ [] → Ends pre

pub ends : (pre : List Chunk) → Ends pre
ends [] = closed refl refl refl
ends (c ∷ []) = go c.used refl
  where
    go : (u : Bool) → c.used ≡ u → Ends (c ∷ [])
    go true e = closed e e (ap (λ (v : Bool). pick v 0 c.len) e)
    go false e = open' [] c.len (λ i. record { len = c.len; used = e i } ∷ [])
ends (c ∷ d ∷ pre) = go (ends (d ∷ pre))
  where
    go : Ends (d ∷ pre) → Ends (c ∷ d ∷ pre)
    go (closed a b e) = closed a b e
    go (open' p f e) = open' (c ∷ p) f (ap (λ (t : List Chunk). c ∷ t) e)

pub free_last-snoc : (z : ℕ) (p : List Chunk) (f : ℕ) → free_last z (p ++ free f ∷ []) ≡ f
free_last-snoc z [] f = refl
free_last-snoc z (c ∷ p) f = free_last-snoc (pick c.used 0 c.len) p f

module _ {S R : Type 0} {op : Ops S R} (L : LinkStore op) (cls : ℕ → ℕ) (cls6 : (n : ℕ) → cls n < 6) (s : S) (O : ℕ → List ℕ) (n : ℕ) where
  -- what is to be shown of a place: the steps taken with these numbers refine the layout's release
  Refined : List Chunk → List Chunk → ℕ → ℕ → ℕ → Type 0
  Refined pre post a f g = Whole L cls cls6 (merge_step op cls s a f n g) (merged_orders cls O a f n g) (release (pre ++ busy n ∷ post) (length pre))

  at_neither : (pre post : List Chunk) → Calm pre → used_last pre ≡ true → used_head post ≡ true → Whole L cls cls6 s O (pre ++ busy n ∷ post)
      → Refined pre post (0 + total pre) 0 0
  unfolding Refined merge_step merged_orders merge
  at_neither pre post k u h w =
      let e = merge_neither pre post n k u h in
      rw (← (add-zero (length pre)), e, add-zero n, zero-add n) (release_neither L cls cls6 pre post s O n (last_used_lem pre u) w)

  at_right : (pre post : List Chunk) (g : ℕ) → 16 ≤ g → Calm pre → used_last pre ≡ true → Whole L cls cls6 s O (pre ++ busy n ∷ free g ∷ post)
      → Refined pre (free g ∷ post) (0 + total pre) 0 g
  unfolding Refined merge_step merged_orders merge
  at_right pre post g g16 k u w =
      let e = merge_right pre post n k u g in
      rw (← (add-zero (length pre)), e, lt-ltb 0 g (omega arith), ne_eqb g 0 (omega arith), zero-add (n + g), add-zero (0 + total pre))
      (release_right L cls cls6 pre post s O n (last_used_lem pre u) g w)

  -- the front part ends in a free chunk of f bytes: stated with p, what is before that chunk
  Refined' : List Chunk → List Chunk → ℕ → ℕ → ℕ → Type 0
  Refined' p post a f g = Whole L cls cls6 (merge_step op cls s a f n g) (merged_orders cls O a f n g) (release (p ++ free f ∷ busy n ∷ post) (length p + 1))

  at_left : (p post : List Chunk) (f : ℕ) → 16 ≤ f → Calm p → used_last p ≡ true → used_head post ≡ true → Whole L cls cls6 s O (p ++ free f ∷ busy n ∷ post)
      → Refined' p post (0 + total p) f 0
  unfolding Refined' merge_step merged_orders merge
  at_left p post f f16 k u h w =
      let e = merge_left p post n k u f h in
      rw (e, lt-ltb 0 f (omega arith), ne_eqb f 0 (omega arith), add-zero n) (release_left L cls cls6 p post s O n (last_used_lem p u) f w)

  at_both : (p post : List Chunk) (f g : ℕ) → 16 ≤ f → 16 ≤ g → Calm p → used_last p ≡ true → Whole L cls cls6 s O (p ++ free f ∷ busy n ∷ free g ∷ post)
      → Refined' p (free g ∷ post) (0 + total p) f g
  unfolding Refined' merge_step merged_orders merge
  at_both p post f g f16 g16 k u w =
      let e = merge_both p post n k u f g in
      rw (e, lt-ltb 0 f (omega arith), lt-ltb 0 g (omega arith), ne_eqb f 0 (omega arith), ne_eqb g 0 (omega arith))
      (release_both L cls cls6 p post s O n (last_used_lem p u) f g w)

  -- by what stands on the right
  pub right_cases : (P : List Chunk → ℕ → Type 0) → ((post : List Chunk) → used_head post ≡ true → Legal post → P post 0)
      → ((post : List Chunk) (g : ℕ) → 16 ≤ g → P (free g ∷ post) g)
      → (post : List Chunk) → Legal post → P post (free_head post)
  right_cases P a b [] l = a [] refl l
  right_cases P a b (c ∷ post) l = go c.used refl
    where
      go : (u : Bool) → c.used ≡ u → P (c ∷ post) (pick c.used 0 c.len)
      go true e = subst (λ (g : ℕ). P (c ∷ post) g) (sym (ap (λ (u : Bool). pick u 0 c.len) e)) (a (c ∷ post) e l)
      go false e = subst (λ (u : Bool). P (record { len = c.len; used = u } ∷ post) (pick u 0 c.len)) (sym e) (b post c.len l.0)

  refined_closed : (pre post : List Chunk) → Calm (pre ++ busy n ∷ post) → used_last pre ≡ true → Whole L cls cls6 s O (pre ++ busy n ∷ post)
      → Refined pre post (0 + total pre) 0 (free_head post)
  refined_closed pre post k u w =
      right_cases (λ q g. Whole L cls cls6 s O (pre ++ busy n ∷ q) → Refined pre q (0 + total pre) 0 g)
      (λ q h l v. at_neither pre q (calm_front pre (busy n ∷ post) k) u h v)
      (λ q g g16 v. at_right pre q g g16 (calm_front pre (busy n ∷ post) k) u v)
      post (legal_back (busy n ∷ []) post (legal_back pre (busy n ∷ post) w.legal)) w

  refined_open : (p post : List Chunk) (f : ℕ) → Calm (p ++ free f ∷ busy n ∷ post) → Whole L cls cls6 s O (p ++ free f ∷ busy n ∷ post)
      → Refined' p post (0 + total p) f (free_head post)
  refined_open p post f k w =
      let l = legal_back p (free f ∷ busy n ∷ post) w.legal in
      right_cases (λ q g. Whole L cls cls6 s O (p ++ free f ∷ busy n ∷ q) → Refined' p q (0 + total p) f g)
      (λ q h lq v. at_left p q f l.0 (calm_front p (free f ∷ busy n ∷ post) k) (calm_last p f (busy n ∷ post) k) h v)
      (λ q g g16 v. at_both p q f g l.0 g16 (calm_front p (free f ∷ busy n ∷ post) k) (calm_last p f (busy n ∷ post) k) v)
      post l.2.2 w

  -- RELEASE REFINES: with the neighbours' lengths as the layout has them
  pub refined : (pre post : List Chunk) → Calm (pre ++ busy n ∷ post) → Whole L cls cls6 s O (pre ++ busy n ∷ post)
      → Whole L cls cls6 (merge_step op cls s (0 + total pre - free_last 0 pre) (free_last 0 pre) n (free_head post))
      (merged_orders cls O (0 + total pre - free_last 0 pre) (free_last 0 pre) n (free_head post)) (release (pre ++ busy n ∷ post) (length pre))
  unfolding Refined Refined'
  refined pre post k w = go (ends pre)
    where
      go : Ends pre → Whole L cls cls6 (merge_step op cls s (0 + total pre - free_last 0 pre) (free_last 0 pre) n (free_head post))
          (merged_orders cls O (0 + total pre - free_last 0 pre) (free_last 0 pre) n (free_head post)) (release (pre ++ busy n ∷ post) (length pre))
      go (closed u lu e) =
          let z : 0 + total pre - 0 ≡ 0 + total pre = omega arith in
          rw (e, z) (refined_closed pre post k u w)
      go (open' p f e) =
          let w' = rw (e, append_assoc p (free f ∷ []) (busy n ∷ post)) at w in
          let k' = rw (e, append_assoc p (free f ∷ []) (busy n ∷ post)) at k in
          let y : total (p ++ free f ∷ []) ≡ total p + (f + 0) = total_append p (free f ∷ []) in
          let z : 0 + total (p ++ free f ∷ []) - f ≡ 0 + total p = omega arith in
          rw (e, free_last-snoc 0 p f, z, append_assoc p (free f ∷ []) (busy n ∷ post), length-append p (free f ∷ [])) (refined_open p post f k' w')

last_used-snoc : (l : Bool) (p : List Chunk) (f : ℕ) → last_used l (p ++ free f ∷ []) ≡ false
last_used-snoc l [] f = refl
last_used-snoc l (c ∷ p) f = last_used-snoc c.used p f

module _ {S R : Type 0} {op : Ops S R} (L : LinkStore op) (cls : ℕ → ℕ) (cls6 : (n : ℕ) → cls n < 6) (s : S) where
  pub right_read : (e : ℕ) (post : List Chunk) → Legal post → Tags (op.word s) e true post → right_free op s (e / 4) ≡ free_head post
  unfolding right_free
  right_read e [] l t = rw (ne_eqb (op.word s (e / 4) / 2 % 2) 0 (let q : op.word s (e / 4) ≡ 3 = t in omega arith)) refl
  right_read e (c ∷ post) l t = go c.used refl
    where
      go : (u : Bool) → c.used ≡ u → pick (eqb (op.word s (e / 4) / 2 % 2) 0) (op.word s (e / 4) / 4 * 4) 0 ≡ pick c.used 0 c.len
      go true v =
          let q : op.word s (e / 4) ≡ c.len + 2 * bit c.used + 1 = t.0 in
          let q' : bit c.used ≡ 1 = ap bit v in
          let h8 : c.len % 8 ≡ 0 = l.1 in
          let h : op.word s (e / 4) / 2 ≡ 2 * (c.len / 8) * 2 + 1 = omega arith in
          let k : op.word s (e / 4) / 2 % 2 ≡ 1 = ap (λ (x : ℕ). x % 2) h ∙ digits_mod (2 * (c.len / 8)) (lit< tt) in
          rw (ne_eqb (op.word s (e / 4) / 2 % 2) 0 (omega arith)) (ap (λ (u : Bool). pick u 0 c.len) (sym v))
      go false v =
          let q : op.word s (e / 4) ≡ c.len + 2 * bit c.used + 1 = t.0 in
          let q' : bit c.used ≡ 0 = ap bit v in
          let h8 : c.len % 8 ≡ 0 = l.1 in
          let z : op.word s (e / 4) / 4 * 4 ≡ c.len = omega arith in
          rw (eq-eqb (op.word s (e / 4) / 2 % 2) 0 (omega arith)) (z ∙ ap (λ (u : Bool). pick u 0 c.len) (sym v))

  pub left_read : (pre : List Chunk) (n : ℕ) (post : List Chunk) → Legal (pre ++ busy n ∷ post) → Tags (op.word s) 0 true (pre ++ busy n ∷ post)
      → left_free op s ((0 + total pre) / 4) ≡ free_last 0 pre
  unfolding left_free
  left_read pre n post l t = go (ends pre)
    where
      b : ℕ
      b = 0 + total pre

      q : op.word s (b / 4) ≡ n + 2 + bit (last_used true pre)
      q = (tags_back (op.word s) 0 true pre (busy n ∷ post) t).0

      h8 : n % 8 ≡ 0
      h8 = (legal_back pre (busy n ∷ post) l).1

      foot : (p : List Chunk) (f : ℕ) → pre ≡ p ++ free f ∷ [] → op.word s ((0 + total p + f) / 4 - 1) ≡ f
      foot p f e = (tags_back (op.word s) 0 true p (free f ∷ busy n ∷ post) (rw (e, append_assoc p (free f ∷ []) (busy n ∷ post)) at t)).1 refl

      go : Ends pre → pick (eqb (op.word s (b / 4) % 2) 0) (op.word s (b / 4 - 1)) 0 ≡ free_last 0 pre
      go (closed u lu e) =
          let q' = q in let h = h8 in let k : bit (last_used true pre) ≡ 1 = ap bit lu in
          rw (ne_eqb (op.word s (b / 4) % 2) 0 (omega arith)) (sym e)
      go (open' p f e) =
          let q' = q in let h = h8 in
          let k : bit (last_used true pre) ≡ 0 = ap (λ (t : List Chunk). bit (last_used true t)) e ∙ ap bit (last_used-snoc true p f) in
          let y : b ≡ 0 + total p + f = ap (λ (t : List Chunk). 0 + total t) e ∙ ap (λ (v : ℕ). 0 + v) (total_append p (free f ∷ [])) ∙ omega arith in
          rw (eq-eqb (op.word s (b / 4) % 2) 0 (omega arith))
          (ap (λ (v : ℕ). op.word s (v / 4 - 1)) y ∙ foot p f e ∙ sym (ap (free_last 0) e ∙ free_last-snoc 0 p f))

  -- RELEASE REFINES, as the code does it: the state's step shows the layout's release, whatever the link width
  pub release_refines : (O : ℕ → List ℕ) (pre : List Chunk) (n : ℕ) (post : List Chunk) → Calm (pre ++ busy n ∷ post)
      → Whole L cls cls6 s O (pre ++ busy n ∷ post)
      → Whole L cls cls6 (release_step op cls s (0 + total pre) n) (merged_orders cls O (0 + total pre - free_last 0 pre) (free_last 0 pre) n (free_head post))
      (release (pre ++ busy n ∷ post) (length pre))
  unfolding release_step
  release_refines O pre n post k w =
      rw (
        left_read pre n post w.legal w.tags,
        right_read (0 + total pre + n) post (legal_back pre (busy n ∷ post) w.legal).2 (tags_back (op.word s) 0 true pre (busy n ∷ post) w.tags).2,
      )
      (refined L cls cls6 s O n pre post k w)
