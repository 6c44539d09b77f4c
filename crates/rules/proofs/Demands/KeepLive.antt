-- No call changes a word of a payload live before and after it. Assumes nothing.
use mathlib.Core.Path.{◌≡◌, refl, sym, ap, subst}
use mathlib.Core.Logic.{◌≢◌, ◌⊎◌, inl, inr}
use mathlib.Core.Bool.{true, false}
use mathlib.Core.List.{List, [], ◌∷◌, ◌++◌, append_assoc}
use Prim.Native.Nat.{ℕ, ◌+◌, ◌-◌, ◌/◌, ◌<◌}
use native.Mathlib.Omega.{arith}
use native.Mathlib.Nat.{add-zero, zero-add}
use lib.ListN.{length, length-append}
use Rattle.rules.specs.Rules.Ops.{Ops}
use Rattle.rules.proofs.Steps.Store.{LinkStore}
use Rattle.rules.specs.Rules.Chunks.{Chunk, free, busy, total, Legal, Calm, release}
use Rattle.rules.proofs.Tiling.Chunks.{total_append, used_last, merge_neither, merge_right, merge_left, merge_both}
use Rattle.rules.specs.Sound.Exact.{frees}
use Rattle.rules.proofs.Tiling.Tags.{calm_front, calm_last}
use Rattle.rules.proofs.Steps.Part.{legal_front, legal_back, outside_off}
use Rattle.rules.proofs.Steps.Calls.{frees_busy}
use Rattle.rules.specs.Machine.Orders.{free_head, free_last}
use Rattle.rules.proofs.Steps.Release.{Ends, closed, open', ends, free_last-snoc, right_cases}
use Rattle.rules.proofs.Steps.Live.{Payload}
use Rattle.rules.proofs.Steps.Keep.{Off, Out}
use Rattle.rules.specs.Sound.Model.{Model}
use Rattle.rules.specs.Demands.Meaning.{LiveWord}

hd : Chunk → List Chunk → Chunk
hd d [] = d
hd d (c ∷ cs) = c

tl : List Chunk → List Chunk
tl [] = []
tl (c ∷ cs) = cs

-- a live word lies in the payload of a used chunk
unfoldable pub payload : (m : Model) (i : ℕ) → LiveWord m i → Payload m.cs i
payload m i l =
    let u = l.2.1 in
    let b = u.byte in
    let p4 = l.2.0 in
    let lo = l.3.0 in
    let hi = l.3.1 in
    record { pre = u.pre; size = l.1; post = u.post; is = u.is; low = omega arith; high = omega arith }

-- two chunks of one layout: they are the same one, or a word inside the second is outside the first
two_out : (b : ℕ) (X : List Chunk) (c : Chunk) (Y P : List Chunk) (d : Chunk) (Q : List Chunk) (i : ℕ) → X ++ c ∷ Y ≡ P ++ d ∷ Q → (b + total P) / 4 < i
    → i < (b + total P + d.len) / 4
    → ((c ≡ d) × (total X ≡ total P)) ⊎ Out ((b + total X) / 4) ((b + total X + c.len) / 4) i
unfolding hd tl
two_out b [] c Y [] d Q i e lo hi = inl (ap (hd c) e, refl)
two_out b [] c Y (p ∷ P) d Q i e lo hi = let q : c.len ≡ p.len = ap (λ (t : List Chunk). (hd c t).len) e in inr (inr (omega arith))
two_out b (x ∷ X) c Y [] d Q i e lo hi = let q : x.len ≡ d.len = ap (λ (t : List Chunk). (hd x t).len) e in inr (inl (omega arith))
two_out b (x ∷ X) c Y (p ∷ P) d Q i e lo hi =
    let q : x.len ≡ p.len = ap (λ (t : List Chunk). (hd x t).len) e in
    go q (two_out (b + x.len) X c Y P d Q i (ap tl e) (omega arith) (omega arith))
  where
    go : x.len ≡ p.len → ((c ≡ d) × (total X ≡ total P)) ⊎ Out ((b + x.len + total X) / 4) ((b + x.len + total X + c.len) / 4) i
        → ((c ≡ d) × (x.len + total X ≡ p.len + total P)) ⊎ Out ((b + (x.len + total X)) / 4) ((b + (x.len + total X) + c.len) / 4) i
    go q (inl r) = let y = r.1 in inl (r.0, omega arith)
    go q (inr o) = let y : b + x.len + total X ≡ b + (x.len + total X) = omega arith in inr (rw y at o)

-- a payload is not in a free chunk
pub payload_out : (X : List Chunk) (m : ℕ) (Y : List Chunk) (i : ℕ) → Payload (X ++ free m ∷ Y) i → Out ((0 + total X) / 4) ((0 + total X + m) / 4) i
payload_out X m Y i p = go (two_out 0 X (free m) Y p.pre (busy p.size) p.post i p.is p.low p.high)
  where
    go : ((free m ≡ busy p.size) × (total X ≡ total p.pre)) ⊎ Out ((0 + total X) / 4) ((0 + total X + m) / 4) i
        → Out ((0 + total X) / 4) ((0 + total X + m) / 4) i
    go (inl r) = absurd (let u : false ≡ true = ap (λ (c : Chunk). c.used) r.0 in let z : ◌≡◌ {A = ℕ} 0 1 = cc in omega arith)
    go (inr o) = o

-- nor in another used one
pub payload_other : (X : List Chunk) (m : ℕ) (Y : List Chunk) (i : ℕ) (p : Payload (X ++ busy m ∷ Y) i) → total X ≢ total p.pre
    → Out ((0 + total X) / 4) ((0 + total X + m) / 4) i
payload_other X m Y i p n = go (two_out 0 X (busy m) Y p.pre (busy p.size) p.post i p.is p.low p.high)
  where
    go : ((busy m ≡ busy p.size) × (total X ≡ total p.pre)) ⊎ Out ((0 + total X) / 4) ((0 + total X + m) / 4) i
        → Out ((0 + total X) / 4) ((0 + total X + m) / 4) i
    go (inl r) = absurd (n r.1)
    go (inr o) = o

module _ {S R : Type 0} {op : Ops S R} (L : LinkStore op) (cls : ℕ → ℕ) (cls6 : (n : ℕ) → cls n < 6) where
  pub payload_off : (cs : List Chunk) (i : ℕ) → Legal cs → Payload cs i → Off i (frees 0 cs)
  payload_off cs i l p =
      let l' = rw p.is at l in
      let lp = legal_front p.pre (busy p.size ∷ p.post) l' in
      let lq = legal_back p.pre (busy p.size ∷ p.post) l' in
      let a = p.low in
      let b = p.high in
      subst (λ ds. Off i (frees 0 ds)) (sym p.is)
      (subst (λ F. Off i F) (sym (frees_busy L cls cls6 p.pre p.post p.size))
      (outside_off L cls cls6 p.pre p.post (λ k. []) p.size lp lq.2 i (omega arith) (omega arith)))

  -- the layout after a release has one free chunk over the part
  pub record Shape (cs : List Chunk) (a m : ℕ) : Type 0 where
    pub front : List Chunk
    pub back : List Chunk
    pub is : cs ≡ front ++ free m ∷ back
    pub at : 0 + total front ≡ a

  module _ (s : S) (n : ℕ) where
    shape_closed : (pre post : List Chunk) → Calm pre → used_last pre ≡ true → Legal post
        → Shape (release (pre ++ busy n ∷ post) (length pre + 0)) (0 + total pre) (0 + (n + free_head post))
    shape_closed pre post k u l =
        right_cases L cls cls6 s (λ k. []) n (λ q g. Shape (release (pre ++ busy n ∷ q) (length pre + 0)) (0 + total pre) (0 + (n + g)))
        (λ q h lq. record { front = pre; back = q; is = rw (add-zero n, zero-add n) (merge_neither pre q n k u h); at = refl })
        (λ q g g16. record { front = pre; back = q; is = rw (zero-add (n + g)) (merge_right pre q n k u g); at = refl })
        post l

    shape_open : (p post : List Chunk) (f : ℕ) → Calm p → used_last p ≡ true → Legal post
        → Shape (release (p ++ free f ∷ busy n ∷ post) (length p + 1)) (0 + total p) (f + (n + free_head post))
    shape_open p post f k u l =
        right_cases L cls cls6 s (λ k. []) n (λ q g. Shape (release (p ++ free f ∷ busy n ∷ q) (length p + 1)) (0 + total p) (f + (n + g)))
        (λ q h lq. record { front = p; back = q; is = rw (add-zero n) (merge_left p q n k u f h); at = refl })
        (λ q g g16. record { front = p; back = q; is = merge_both p q n k u f g; at = refl })
        post l

    pub shape : (pre post : List Chunk) → Calm (pre ++ busy n ∷ post) → Legal post
        → Shape (release (pre ++ busy n ∷ post) (length pre)) (0 + total pre - free_last 0 pre) (free_last 0 pre + (n + free_head post))
    shape pre post k l = go (ends pre)
      where
        go : Ends pre → Shape (release (pre ++ busy n ∷ post) (length pre)) (0 + total pre - free_last 0 pre) (free_last 0 pre + (n + free_head post))
        go (closed u lu e) =
            let z : 0 + total pre - 0 ≡ 0 + total pre = omega arith in
            rw (e, z, ← (add-zero (length pre))) (shape_closed pre post (calm_front pre (busy n ∷ post) k) u l)
        go (open' p f e) =
            let asc = append_assoc p (free f ∷ []) (busy n ∷ post) in
            let y : total (p ++ free f ∷ []) ≡ total p + (f + 0) = total_append p (free f ∷ []) in
            let z : 0 + total (p ++ free f ∷ []) - f ≡ 0 + total p = omega arith in
            let k' = rw (e, asc) at k in
            rw (e, free_last-snoc 0 p f, z, asc, length-append p (free f ∷ []))
            (shape_open p post f (calm_front p (free f ∷ busy n ∷ post) k') (calm_last p f (busy n ∷ post) k') l)

    pub shape_out : (cs : List Chunk) (a m i : ℕ) → Shape cs a m → Payload cs i → Out (a / 4) ((a + m) / 4) i
    shape_out cs a m i h p =
        subst (λ (x : ℕ). Out (x / 4) ((x + m) / 4) i) h.at (payload_out h.front m h.back i (subst (λ ds. Payload ds i) h.is p))
