-- What taking and releasing do to used chunks elsewhere, to the sum of used lengths and to the last used end. Assumes nothing.
use mathlib.Core.Path.{◌≡◌, refl, sym, ap, ◌∙◌, subst}
use mathlib.Core.Logic.{◌≢◌, ◌⊎◌, inl, inr}
use mathlib.Core.Bool.{Bool, true, false}
use mathlib.Core.List.{List, [], ◌∷◌, ◌++◌}
use Prim.Native.Nat.{ℕ, zero, suc, ◌+◌, ◌-◌, ◌≤◌, ◌<◌}
use native.Mathlib.Omega.{arith}
use native.Mathlib.Nat.{add_assoc}
use lib.Dec.{eqb, leb}
use lib.ListN.{length, get_or, length-append}
use lib.Seq.{get_or-append_seam}
use borrow.Author.Tests.{ne_eqb, le-leb, lt-leb, eqb-true, eqb-false, leb-true, leb-false}
use Rattle.words.specs.Choice.{pick}
use Rattle.rules.specs.Rules.Chunks.{Chunk, free, busy, total, Legal, join, release, taken, cut, used_sum}
use Rattle.rules.specs.Sound.Test.{either}
use Rattle.rules.proofs.Tiling.Chunks.{release_legal}
use Rattle.rules.specs.Rules.Steps.{portion}
use Rattle.rules.specs.Rules.Place.{used_at, len_at}
use Rattle.rules.proofs.Tiling.Place.{used_at_lem, len_at_lem, used_skip}
use Rattle.rules.proofs.Tiling.Sums.{release_sum, taken_sum}
use Rattle.rules.proofs.Steps.Part.{legal_front}
use Rattle.rules.specs.Sound.Sound.{Under}

-- past a chunk, at its start, inside it
pub past : (c : Chunk) (cs : List Chunk) (b : ℕ) → 0 < c.len → c.len ≤ b → used_at (c ∷ cs) b ≡ used_at cs (b - c.len)
unfolding used_at
past c cs b p h = rw (ne_eqb b 0 (omega arith), le-leb c.len b h) refl

pub inside : (c : Chunk) (cs : List Chunk) (b : ℕ) → 0 < b → b < c.len → used_at (c ∷ cs) b ≡ 0
unfolding used_at
inside c cs b p h = rw (ne_eqb b 0 (omega arith), lt-leb c.len b h) refl

pub here : (c : Chunk) (cs : List Chunk) → used_at (c ∷ cs) 0 ≡ pick c.used c.len 0
unfolding used_at
here c cs = refl

here_free : (n : ℕ) (cs : List Chunk) → used_at (free n ∷ cs) 0 ≡ 0
unfolding used_at
here_free n cs = refl

-- where b stands against a chunk of n bytes
data Spot (b n : ℕ) : Type 0 where
  first : b ≡ 0 → Spot b n
  within : 0 < b → b < n → Spot b n
  beyond : n ≤ b → Spot b n

spot : (b n : ℕ) → Spot b n
spot b n = go (eqb b 0) refl (leb n b) refl
  where
    go : (t : Bool) → eqb b 0 ≡ t → (v : Bool) → leb n b ≡ v → Spot b n
    go true e v f = first (eqb-true b 0 e)
    go false e true f = beyond (leb-true n b f)
    go false e false f = let q = eqb-false b 0 e in within (omega arith) (leb-false n b f)

-- two free chunks that become one: as before
melt : (n k : ℕ) (cs : List Chunk) (b : ℕ) → 0 < n → 0 < k → used_at (free (n + k) ∷ cs) b ≡ used_at (free n ∷ free k ∷ cs) b
melt n k cs b hn hk = go (spot b n)
  where
    inner : n ≤ b → Spot (b - n) k → used_at (free (n + k) ∷ cs) b ≡ used_at (free k ∷ cs) (b - n)
    inner h (first e) = inside (free (n + k)) cs b (omega arith) (omega arith) ∙ sym (ap (used_at (free k ∷ cs)) e ∙ here_free k cs)
    inner h (within p q) = inside (free (n + k)) cs b (omega arith) (omega arith) ∙ sym (inside (free k) cs (b - n) p q)
    inner h (beyond q) =
        let e : b - (n + k) ≡ b - n - k = omega arith in
        past (free (n + k)) cs b (omega arith) (omega arith) ∙ ap (used_at cs) e ∙ sym (past (free k) cs (b - n) hk q)

    go : Spot b n → used_at (free (n + k) ∷ cs) b ≡ used_at (free n ∷ free k ∷ cs) b
    go (first e) = ap (used_at (free (n + k) ∷ cs)) e ∙ here_free (n + k) cs ∙ sym (ap (used_at (free n ∷ free k ∷ cs)) e ∙ here_free n (free k ∷ cs))
    go (within p q) = inside (free (n + k)) cs b p (omega arith) ∙ sym (inside (free n) (free k ∷ cs) b p q)
    go (beyond q) = inner q (spot (b - n) k) ∙ sym (past (free n) (free k ∷ cs) b hn q)

join_used : (c : Chunk) (cs : List Chunk) (b : ℕ) → 0 < c.len → Legal cs → used_at (join c cs) b ≡ used_at (c ∷ cs) b
unfolding join
join_used c [] b p l = refl
join_used c (d ∷ cs) b p l = go c.used refl d.used refl
  where
    go : (u : Bool) → c.used ≡ u → (v : Bool) → d.used ≡ v
        → used_at (pick (either c.used d.used) (c ∷ d ∷ cs) (free (c.len + d.len) ∷ cs)) b ≡ used_at (c ∷ d ∷ cs) b
    go true e v f = ap (λ (t : Bool). used_at (pick (either t d.used) (c ∷ d ∷ cs) (free (c.len + d.len) ∷ cs)) b) e
    go false e true f =
        ap (λ (t : Bool). used_at (pick (either t d.used) (c ∷ d ∷ cs) (free (c.len + d.len) ∷ cs)) b) e
        ∙ ap (λ (t : Bool). used_at (pick (either false t) (c ∷ d ∷ cs) (free (c.len + d.len) ∷ cs)) b) f
    go false e false f =
        let h : 16 ≤ d.len = l.0 in
        let w : (free c.len ∷ free d.len ∷ cs) ≡ (c ∷ d ∷ cs) =
        λ i. record { len = c.len; used = (sym e) i } ∷ record { len = d.len; used = (sym f) i } ∷ cs in
        ap (λ (t : Bool). used_at (pick (either t d.used) (c ∷ d ∷ cs) (free (c.len + d.len) ∷ cs)) b) e
        ∙ ap (λ (t : Bool). used_at (pick (either false t) (c ∷ d ∷ cs) (free (c.len + d.len) ∷ cs)) b) f
        ∙ melt c.len d.len cs b p (omega arith) ∙ ap (λ (t : List Chunk). used_at t b) w

-- under a chunk, a change further on
deeper : (c : Chunk) (cs ds : List Chunk) (b : ℕ) → 0 < c.len
    → (c.len ≤ b → used_at cs (b - c.len) ≡ used_at ds (b - c.len)) → used_at (c ∷ cs) b ≡ used_at (c ∷ ds) b
deeper c cs ds b p f = go (spot b c.len)
  where
    go : Spot b c.len → used_at (c ∷ cs) b ≡ used_at (c ∷ ds) b
    go (first e) = ap (used_at (c ∷ cs)) e ∙ here c cs ∙ sym (ap (used_at (c ∷ ds)) e ∙ here c ds)
    go (within q r) = inside c cs b q r ∙ sym (inside c ds b q r)
    go (beyond q) = past c cs b p q ∙ f q ∙ sym (past c ds b p q)

-- RELEASING the chunk at total pre leaves every other used chunk
pub release_used : (pre : List Chunk) (n : ℕ) (post : List Chunk) (b : ℕ) → Legal (pre ++ busy n ∷ post) → b ≢ total pre
    → used_at (release (pre ++ busy n ∷ post) (length pre)) b ≡ used_at (pre ++ busy n ∷ post) b
unfolding release
release_used [] n post b l h = let p : 16 ≤ n = l.0 in join_used (free n) post b (omega arith) l.2 ∙ go (spot b n)
  where
    go : Spot b n → used_at (free n ∷ post) b ≡ used_at (busy n ∷ post) b
    go (first e) = absurd (h e)
    go (within p q) = inside (free n) post b p q ∙ sym (inside (busy n) post b p q)
    go (beyond q) = let p : 16 ≤ n = l.0 in past (free n) post b (omega arith) q ∙ sym (past (busy n) post b (omega arith) q)
release_used (c ∷ pre) n post b l h =
    let p : 16 ≤ c.len = l.0 in
    join_used c (release (pre ++ busy n ∷ post) (length pre)) b (omega arith) (release_legal (pre ++ busy n ∷ post) (length pre) l.2)
    ∙ deeper c (release (pre ++ busy n ∷ post) (length pre)) (pre ++ busy n ∷ post) b (omega arith)
    (λ q. release_used pre n post (b - c.len) l.2 (omega arith))

-- TAKING from a free chunk leaves every used one
pub taken_used : (pre : List Chunk) (n : ℕ) (post : List Chunk) (z b : ℕ) → Legal (pre ++ free n ∷ post) → 16 ≤ z → used_at (pre ++ free n ∷ post) b ≢ 0
    → used_at (taken (pre ++ free n ∷ post) (length pre) z) b ≡ used_at (pre ++ free n ∷ post) b
unfolding taken cut
taken_used [] n post z b l z16 h = go (leb (z + 12) n) refl (spot b n)
  where
    p : 16 ≤ n
    p = l.0

    go : (t : Bool) → leb (z + 12) n ≡ t → Spot b n → used_at (pick t (busy z ∷ free (n - z) ∷ post) (busy n ∷ post)) b ≡ used_at (free n ∷ post) b
    go t e (first q) = absurd (h (ap (used_at (free n ∷ post)) q ∙ here_free n post))
    go t e (within q r) = absurd (h (inside (free n) post b q r))
    go false e (beyond q) = let p' = p in past (busy n) post b (omega arith) q ∙ sym (past (free n) post b (omega arith) q)
    go true e (beyond q) =
        let r = leb-true (z + 12) n e in
        let y : b - z - (n - z) ≡ b - n = omega arith in
        past (busy z) (free (n - z) ∷ post) b (omega arith) (omega arith) ∙ past (free (n - z)) post (b - z) (omega arith) (omega arith) ∙ ap (used_at post) y
        ∙ sym (past (free n) post b (omega arith) q)
taken_used (c ∷ pre) n post z b l z16 h =
    let p : 16 ≤ c.len = l.0 in
    deeper c (taken (pre ++ free n ∷ post) (length pre) z) (pre ++ free n ∷ post) b (omega arith)
    (λ q. taken_used pre n post z (b - c.len) l.2 z16 (λ y. h (past c (pre ++ free n ∷ post) b (omega arith) q ∙ y)))

-- the chunk taken is used, its length the portion; where a free chunk stands there is no used one
pub taken_there : (pre : List Chunk) (n : ℕ) (post : List Chunk) (z : ℕ) → Legal pre
    → used_at (taken (pre ++ free n ∷ post) (length pre) z) (total pre) ≡ portion n z
unfolding taken cut
taken_there [] n post z l = go (leb (z + 12) n)
  where
    go : (t : Bool) → used_at (pick t (busy z ∷ free (n - z) ∷ post) (busy n ∷ post)) 0 ≡ pick t z n
    go true = here (busy z) (free (n - z) ∷ post)
    go false = here (busy n) post
taken_there (c ∷ pre) n post z l =
    let p : 16 ≤ c.len = l.0 in
    let e : c.len + total pre - c.len ≡ total pre = omega arith in
    past c (taken (pre ++ free n ∷ post) (length pre) z) (c.len + total pre) (omega arith) (omega arith)
    ∙ ap (used_at (taken (pre ++ free n ∷ post) (length pre) z)) e ∙ taken_there pre n post z l.2

pub free_there : (pre : List Chunk) (n : ℕ) (post : List Chunk) → Legal pre → used_at (pre ++ free n ∷ post) (total pre) ≡ 0
free_there pre n post l =
    let e : total pre - total pre ≡ 0 = omega arith in
    used_skip pre (free n ∷ post) (total pre) l (omega arith) ∙ ap (used_at (free n ∷ post)) e ∙ here_free n post

-- the length of a used chunk, as of any
pub used_len : (cs : List Chunk) (b : ℕ) → Legal cs → 0 < used_at cs b → len_at cs b ≡ used_at cs b
used_len cs b l h =
    let u = used_at_lem cs b (omega arith) in
    let l' = subst Legal u.is l in
    ap (λ ds. len_at ds b) u.is ∙ len_at_lem u.pre (busy (used_at cs b)) u.post b (legal_front u.pre (busy (used_at cs b) ∷ u.post) l') u.byte

-- SUMS, around a place
pub release_sums : (pre : List Chunk) (n : ℕ) (post : List Chunk) → used_sum (release (pre ++ busy n ∷ post) (length pre)) + n ≡ used_sum (pre ++ busy n ∷ post)
release_sums pre n post =
    let g = get_or-append_seam pre (busy n) post (busy 0) in
    let r = release_sum (pre ++ busy n ∷ post) (length pre) (let a = length-append pre (busy n ∷ post) in omega arith) (ap (λ (c : Chunk). c.used) g) in
    let e : (get_or (pre ++ busy n ∷ post) (length pre) (busy 0)).len ≡ n = ap (λ (c : Chunk). c.len) g in
    omega arith

pub taken_sums : (pre : List Chunk) (n : ℕ) (post : List Chunk) (z : ℕ)
    → used_sum (taken (pre ++ free n ∷ post) (length pre) z) ≡ used_sum (pre ++ free n ∷ post) + pick (leb (z + 12) n) z n
taken_sums pre n post z =
    let g = get_or-append_seam pre (free n) post (busy 0) in
    taken_sum (pre ++ free n ∷ post) (length pre) z (let a = length-append pre (free n ∷ post) in omega arith) (ap (λ (c : Chunk). c.used) g)
    ∙ ap (λ (k : ℕ). used_sum (pre ++ free n ∷ post) + pick (leb (z + 12) k) z k) (ap (λ (c : Chunk). c.len) g)

-- ENDS
pub under_more : (h h' b : ℕ) (cs : List Chunk) → h ≤ h' → Under h b cs → Under h' b cs
under_more h h' b [] q u = tt
under_more h h' b (c ∷ cs) q u = let a = u.0 in (omega arith, under_more h h' (b + c.len) cs q u.1)

under_join : (h b : ℕ) (c : Chunk) (cs : List Chunk) → pick c.used (b + c.len) 0 ≤ h → Under h (b + c.len) cs → Under h b (join c cs)
unfolding join
under_join h b c [] a u = (a, tt)
under_join h b c (d ∷ cs) a u = go (either c.used d.used)
  where
    go : (t : Bool) → Under h b (pick t (c ∷ d ∷ cs) (free (c.len + d.len) ∷ cs))
    go true = (a, u)
    go false = (omega arith, subst (λ (x : ℕ). Under h x cs) (add_assoc b c.len d.len) u.1)

pub under_release : (h b : ℕ) (cs : List Chunk) (i : ℕ) → Under h b cs → Under h b (release cs i)
unfolding release
under_release h b [] i u = tt
under_release h b (c ∷ cs) zero u = under_join h b (free c.len) cs (omega arith) u.1
under_release h b (c ∷ cs) (suc i) u = under_join h b c (release cs i) u.0 (under_release h (b + c.len) cs i u.1)

pub under_taken : (h b : ℕ) (pre : List Chunk) (n : ℕ) (post : List Chunk) (z : ℕ)
    → Under h b (pre ++ free n ∷ post) → b + total pre + pick (leb (z + 12) n) z n ≤ h
    → Under h b (taken (pre ++ free n ∷ post) (length pre) z)
unfolding taken cut
under_taken h b [] n post z u e = go (leb (z + 12) n) refl e
  where
    go : (t : Bool) → leb (z + 12) n ≡ t → b + 0 + pick t z n ≤ h → Under h b (pick t (busy z ∷ free (n - z) ∷ post) (busy n ∷ post))
    go true q r =
        let k = leb-true (z + 12) n q in
        let y : b + n ≡ b + z + (n - z) = omega arith in
        (omega arith, (omega arith, subst (λ (x : ℕ). Under h x post) y u.1))
    go false q r = (omega arith, u.1)
under_taken h b (c ∷ pre) n post z u e =
    (u.0, under_taken h (b + c.len) pre n post z u.1 (let y = add_assoc b c.len (total pre) in omega arith))

-- TAKING makes no other used chunk
pub taken_only : (pre : List Chunk) (n : ℕ) (post : List Chunk) (z b : ℕ) → Legal (pre ++ free n ∷ post) → 16 ≤ z → used_at
    (taken (pre ++ free n ∷ post) (length pre) z) b ≢ 0
    → (b ≡ total pre) ⊎ (used_at (pre ++ free n ∷ post) b ≢ 0)
unfolding taken cut
taken_only [] n post z b l z16 h = go (leb (z + 12) n) refl (spot b n) h
  where
    p : 16 ≤ n
    p = l.0

    -- inside the free chunk nothing is used
    cutted : z + 12 ≤ n → 0 < b → b < n → Spot b z → used_at (busy z ∷ free (n - z) ∷ post) b ≡ 0
    cutted k q r (first e) = absurd (omega arith)
    cutted k q r (within x y) = inside (busy z) (free (n - z) ∷ post) b x y
    cutted k q r (beyond x) = past (busy z) (free (n - z) ∷ post) b (omega arith) x ∙ rest (spot (b - z) (n - z))
      where
        rest : Spot (b - z) (n - z) → used_at (free (n - z) ∷ post) (b - z) ≡ 0
        rest (first e) = ap (used_at (free (n - z) ∷ post)) e ∙ here_free (n - z) post
        rest (within y w) = inside (free (n - z)) post (b - z) y w
        rest (beyond y) = absurd (omega arith)

    go : (t : Bool) → leb (z + 12) n ≡ t → Spot b n → used_at (pick t (busy z ∷ free (n - z) ∷ post) (busy n ∷ post)) b ≢ 0 → (b ≡ 0) ⊎
        (used_at (free n ∷ post) b ≢ 0)
    go t e (first q) k = inl q
    go true e (within q r) k = absurd (k (cutted (leb-true (z + 12) n e) q r (spot b z)))
    go false e (within q r) k = absurd (k (inside (busy n) post b q r))
    go false e (beyond q) k = let p' = p in inr (λ y. k (past (busy n) post b (omega arith) q ∙ sym (past (free n) post b (omega arith) q) ∙ y))
    go true e (beyond q) k =
        let p' = p in
        let r = leb-true (z + 12) n e in
        let w : b - z - (n - z) ≡ b - n = omega arith in
        inr (λ y. k (past (busy z) (free (n - z) ∷ post) b (omega arith) (omega arith) ∙ past (free (n - z)) post (b - z) (omega arith) (omega arith) ∙ ap
        (used_at post) w
        ∙ sym (past (free n) post b (omega arith) q) ∙ y))
taken_only (c ∷ pre) n post z b l z16 h = go (λ k. taken_only pre n post z (b - c.len) l.2 z16 k) (spot b c.len)
  where
    p : 16 ≤ c.len
    p = l.0

    deep : c.len ≤ b → (b - c.len ≡ total pre) ⊎ (used_at (pre ++ free n ∷ post) (b - c.len) ≢ 0) → (b ≡ c.len + total pre) ⊎
        (used_at (c ∷ (pre ++ free n ∷ post)) b ≢ 0)
    deep q (inl e) = inl (omega arith)
    deep q (inr f) = let p' = p in inr (λ y. f (sym (past c (pre ++ free n ∷ post) b (omega arith) q) ∙ y))

    go : (used_at (taken (pre ++ free n ∷ post) (length pre) z) (b - c.len) ≢ 0 → (b - c.len ≡ total pre) ⊎ (used_at (pre ++ free n ∷ post) (b - c.len) ≢ 0))
        → Spot b c.len → (b ≡ c.len + total pre) ⊎ (used_at (c ∷ (pre ++ free n ∷ post)) b ≢ 0)
    go f (first e) = inr (λ y. h (ap (used_at (c ∷ taken (pre ++ free n ∷ post) (length pre) z)) e ∙ here c (taken (pre ++ free n ∷ post) (length pre) z)
        ∙ sym (ap (used_at (c ∷ (pre ++ free n ∷ post))) e ∙ here c (pre ++ free n ∷ post)) ∙ y))
    go f (within q r) = absurd (h (inside c (taken (pre ++ free n ∷ post) (length pre) z) b q r))
    go f (beyond q) = let p' = p in deep q (f (λ y. h (past c (taken (pre ++ free n ∷ post) (length pre) z) b (omega arith) q ∙ y)))

-- RELEASING leaves no used chunk where the released one began
pub release_gone : (pre : List Chunk) (n : ℕ) (post : List Chunk) → Legal (pre ++ busy n ∷ post) → used_at (release (pre ++ busy n ∷ post) (length pre))
    (total pre) ≡ 0
unfolding release
release_gone [] n post l = let p : 16 ≤ n = l.0 in join_used (free n) post 0 (omega arith) l.2 ∙ here_free n post
release_gone (c ∷ pre) n post l =
    let p : 16 ≤ c.len = l.0 in
    let e : c.len + total pre - c.len ≡ total pre = omega arith in
    join_used c (release (pre ++ busy n ∷ post) (length pre)) (c.len + total pre) (omega arith) (release_legal (pre ++ busy n ∷ post) (length pre) l.2)
    ∙ past c (release (pre ++ busy n ∷ post) (length pre)) (c.len + total pre) (omega arith) (omega arith) ∙ ap
    (used_at (release (pre ++ busy n ∷ post) (length pre))) e
    ∙ release_gone pre n post l.2
