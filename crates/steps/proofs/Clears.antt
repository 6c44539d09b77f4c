-- SETTING A PAYLOAD TO 0, word by word: a turn of the loop, and its end. Assumes nothing.
use Rattle.std.proofs.Common.{◌≡◌, ℕ, zero, suc, ◌+◌, ◌-◌, ◌/◌, ◌<◌, ◌≤◌, min, Bool, true, false, leb, List, length, set, refl, ap, ◌∙◌, arith, leb-false, leb-true}
use lib.Seq.{set_out}
use Rattle.steps.specs.Chunk.{cleared_in, emptied_in}

-- nothing to set, and nothing to set past the end
cleared_none : (ws : List ℕ) (i k : ℕ) → k ≡ 0 → cleared_in ws i k ≡ ws
unfolding cleared_in
cleared_none ws i zero e = refl
cleared_none ws i (suc k) e = absurd (omega arith)

pub cleared_past : (ws : List ℕ) (i k : ℕ) → length ws ≤ i → cleared_in ws i k ≡ ws
unfolding cleared_in
cleared_past ws i zero h = refl
cleared_past ws i (suc k) h = rw (set_out ws i 0 h) (cleared_past ws (suc i) k (omega arith))

-- a turn at word i, of those up to word e
pub cleared_turn : (ws : List ℕ) (i e : ℕ) → i < e → cleared_in ws i (e - i) ≡ cleared_in (set ws i 0) (i + 1) (e - (i + 1))
unfolding cleared_in
cleared_turn ws i e h =
    let p : e - i ≡ suc (e - (i + 1)) = omega arith in
    let q : suc i ≡ i + 1 = omega arith in
    ap (λ (k : ℕ). cleared_in ws i k) p ∙ ap (λ (j : ℕ). cleared_in (set ws i 0) j (e - (i + 1))) q

-- the end: that of the chunk, or of the heap
pub cleared_end : (ws : List ℕ) (i w q e : ℕ) → w < length ws → e ≡ w + min q (length ws - w) → e ≤ i → cleared_in ws i (w + q - i) ≡ ws
cleared_end ws i w q e h d g = go (leb q (length ws - w)) refl
  where
    go : (t : Bool) → leb q (length ws - w) ≡ t → cleared_in ws i (w + q - i) ≡ ws
    go true f = let l = leb-true q (length ws - w) f in cleared_none ws i (w + q - i) (omega arith)
    go false f = let l = leb-false q (length ws - w) f in cleared_past ws i (w + q - i) (omega arith)

-- the whole, from the word after the header
pub emptied_start : (ws : List ℕ) (w n i : ℕ) → i ≡ w + 1 → emptied_in ws w n ≡ cleared_in ws i (w + n / 4 - i)
unfolding emptied_in
emptied_start ws w n i e =
    let p : n / 4 - 1 ≡ w + n / 4 - i = omega (arith, e) in
    let q : suc w ≡ i = omega (arith, e) in
    ap (λ (k : ℕ). cleared_in ws (suc w) k) p ∙ ap (λ (j : ℕ). cleared_in ws j (w + n / 4 - i)) q

-- none of it where the chunk's header is past the end
pub emptied_past : (ws : List ℕ) (w n : ℕ) → length ws ≤ w → emptied_in ws w n ≡ ws
unfolding emptied_in
emptied_past ws w n h = cleared_past ws (suc w) (n / 4 - 1) (omega arith)
