-- SETTING WORDS TO 0, over any link store: which words change and which stay; and that emptying a used chunk's payload leaves a whole heap whole.
-- Assumes nothing.
use mathlib.Core.Path.{◌≡◌, refl, ◌∙◌}
use mathlib.Core.Logic.{◌⊎◌, inl, inr}
use mathlib.Core.List.{List, ◌∷◌, ◌++◌}
use Prim.Native.Nat.{ℕ, zero, suc, ◌+◌, ◌-◌, ◌/◌, ◌≤◌, ◌<◌}
use native.Mathlib.Omega.{arith}
use native.Mathlib.Decide.{ℕ_discrete}
use Rattle.rules.specs.Rules.Ops.{Ops}
use Rattle.rules.specs.Rules.Steps.{cleared, emptied}
use Rattle.rules.specs.Rules.Chunks.{Chunk, busy, total}
use Rattle.rules.proofs.Steps.Store.{LinkStore}
use Rattle.rules.proofs.Steps.Part.{legal_back}
use Rattle.rules.proofs.Steps.Calls.{Whole}
use Rattle.rules.proofs.Steps.Live.{write_at}

module _ {S R : Type 0} {op : Ops S R} (L : LinkStore op) where
  -- the record stays
  pub cleared_rest : (s : S) (i k : ℕ) → op.rest (cleared op s i k) ≡ op.rest s
  unfolding cleared
  cleared_rest s i zero = refl
  cleared_rest s i (suc k) = cleared_rest (op.set_word s i 0) (suc i) k ∙ L.rest-set_word s i 0

  -- a word outside stays
  pub cleared_out : (s : S) (i k j : ℕ) → (j < i) ⊎ (i + k ≤ j) → op.word (cleared op s i k) j ≡ op.word s j
  unfolding cleared
  cleared_out s i zero j o = refl
  cleared_out s i (suc k) j (inl h) = cleared_out (op.set_word s i 0) (suc i) k j (inl (omega arith)) ∙ L.word-set_word' s i 0 j (omega arith)
  cleared_out s i (suc k) j (inr h) = cleared_out (op.set_word s i 0) (suc i) k j (inr (omega arith)) ∙ L.word-set_word' s i 0 j (omega arith)

  -- a word inside is 0
  pub cleared_in_lem : (s : S) (i k j : ℕ) → L.Good s → L.Word j → i ≤ j → j < i + k → op.word (cleared op s i k) j ≡ 0
  unfolding cleared
  cleared_in_lem s i zero j g w lo hi = absurd (omega arith)
  cleared_in_lem s i (suc k) j g w lo hi = go (ℕ_discrete i j) (λ h. cleared_in_lem (op.set_word s i 0) (suc i) k j (L.good-set_word s i 0 g) w h (omega arith))
    where
      go : Dec (i ≡ j) → (suc i ≤ j → op.word (cleared op (op.set_word s i 0) (suc i) k) j ≡ 0) → op.word (cleared op (op.set_word s i 0) (suc i) k) j ≡ 0
      go (yes e) f = cleared_out (op.set_word s i 0) (suc i) k j (inl (omega arith)) ∙ rw e (L.word-set_word s j 0 g w)
      go (no n) f = f (omega arith)

  -- EMPTYING n bytes at word w: the record, the words before and from its end on, and the words between
  pub emptied_rest : (s : S) (w n : ℕ) → op.rest (emptied op s w n) ≡ op.rest s
  unfolding emptied
  emptied_rest s w n = cleared_rest s (suc w) (n / 4 - 1)

  pub emptied_out : (s : S) (w n j : ℕ) → 4 ≤ n → (j ≤ w) ⊎ (w + n / 4 ≤ j) → op.word (emptied op s w n) j ≡ op.word s j
  unfolding emptied
  emptied_out s w n j h (inl o) = cleared_out s (suc w) (n / 4 - 1) j (inl (omega arith))
  emptied_out s w n j h (inr o) = cleared_out s (suc w) (n / 4 - 1) j (inr (omega arith))

  pub emptied_in_lem : (s : S) (w n j : ℕ) → L.Good s → L.Word j → w < j → j < w + n / 4 → op.word (emptied op s w n) j ≡ 0
  unfolding emptied
  emptied_in_lem s w n j g v lo hi = cleared_in_lem s (suc w) (n / 4 - 1) j g v (omega arith) (omega arith)

  module _ (cls : ℕ → ℕ) (cls6 : (n : ℕ) → cls n < 6) (O : ℕ → List ℕ) (pre : List Chunk) (n : ℕ) (post : List Chunk) where
    clear_whole : (s : S) (i k : ℕ) → (0 + total pre) / 4 < i → i + k ≤ (0 + total pre + n) / 4 → Whole L cls cls6 s O (pre ++ busy n ∷ post)
        → Whole L cls cls6 (cleared op s i k) O (pre ++ busy n ∷ post)
    unfolding cleared
    clear_whole s i zero lo hi w = w
    clear_whole s i (suc k) lo hi w =
        clear_whole (op.set_word s i 0) (suc i) k (omega arith) (omega arith) (write_at L cls cls6 s O pre n post i 0 lo (omega arith) w)

    pub empty_whole : (s : S) (w : ℕ) → w ≡ (0 + total pre) / 4 → Whole L cls cls6 s O (pre ++ busy n ∷ post)
        → Whole L cls cls6 (emptied op s w n) O (pre ++ busy n ∷ post)
    unfolding emptied
    empty_whole s w e h =
        let l = legal_back pre (busy n ∷ post) h.legal in
        let n16 : 16 ≤ n = l.0 in
        clear_whole s (suc w) (n / 4 - 1) (omega arith) (omega arith) h
