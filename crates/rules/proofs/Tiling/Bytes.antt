-- TAKING AND RELEASING BY BYTES, where the chunks are counted, and that the rules' steps by words are these. Assumes nothing.
use mathlib.Core.Path.{◌≡◌, refl, sym, ap, ◌∙◌}
use mathlib.Core.Bool.{Bool, true, false}
use Prim.Native.Nat.{ℕ, ◌+◌, ◌-◌, ◌*◌, ◌/◌, ◌%◌, ◌≤◌}
use native.Mathlib.Omega.{arith}
use lib.Dec.{leb, ltb}
use borrow.Author.Tests.{leb-true}
use Rattle.words.specs.Choice.{pick}
use Rattle.words.specs.Tags.{header_of, left_used, left_freed, right_of}
use Rattle.words.specs.Sizes.{class_of}
use Rattle.rules.specs.Rules.Ops.{Ops}
use Rattle.rules.specs.Rules.Steps.{unlink, link, set_left, clear_left, mark_free, mark_used, return_excess, take_chunk, left_free, right_free, merge, merged, release_chunk}

module _ {S R : Type 0} (op : Ops S R) where
  -- TAGS: the n bytes from b a used chunk, and the left bit of what is after it set
  unfoldable pub whole_used : S → ℕ → ℕ → S
  whole_used s b n = let s1 = op.set_word s (b / 4) (header_of n true true) in op.set_word s1 ((b + n) / 4) (left_used (op.word s1 ((b + n) / 4)))

  -- the first z of n bytes a used chunk, and the rest a free one with its header and footer
  unfoldable pub cut_used : S → ℕ → ℕ → ℕ → S
  cut_used s b n z =
      op.set_word (op.set_word (op.set_word s (b / 4) (header_of z true true)) ((b + z) / 4) (header_of (n - z) false true)) ((b + n) / 4 - 1) (n - z)

  -- the m bytes from b a free chunk: header, footer, and the left bit of what is after it cleared
  unfoldable pub one_free : S → ℕ → ℕ → S
  one_free s b m =
      let s2 = op.set_word (op.set_word s (b / 4) (header_of m false true)) ((b + m) / 4 - 1) m in
      op.set_word s2 ((b + m) / 4) (left_freed (op.word s2 ((b + m) / 4)))

  module _ (cls : ℕ → ℕ) where
    -- TAKING: the chunk of n bytes at byte b is unlinked, and used whole or cut to z
    unfoldable pub take_step : S → ℕ → ℕ → ℕ → S
    take_step s b n z =
        let s1 = unlink op s (b / 4 + 6) in
        pick (leb (z + 12) n) (link op (cut_used s1 b n z) (cls (n - z)) ((b + z) / 4 + 6)) (whole_used s1 b n)

    -- RELEASING n bytes with f free bytes before and g after them (0: none): from byte a on all become one free chunk
    unfoldable pub merge_step : S → ℕ → ℕ → ℕ → ℕ → S
    merge_step s a f n g =
        link op (one_free (merge op (ltb 0 f) (ltb 0 g) s (a / 4 + 6) ((a + f + n) / 4 + 6)) a (f + (n + g))) (cls (f + (n + g))) (a / 4 + 6)

    unfoldable pub release_step : S → ℕ → ℕ → S
    release_step s b n = merge_step s (b - left_free op s (b / 4)) (left_free op s (b / 4)) n (right_free op s ((b + n) / 4))

  pub word_of : (w : ℕ) → w * 4 / 4 ≡ w
  word_of w = omega arith

  pub word_past : (w n : ℕ) → (w * 4 + n) / 4 ≡ w + n / 4
  word_past w n = omega arith

  used_words : (s : S) (w n : ℕ) → set_left op (mark_used op s w n) (right_of w n) ≡ whole_used s (w * 4) n
  unfolding set_left mark_used whole_used
  used_words s w n = ap (λ (i : ℕ). g i (w + n / 4)) (sym (word_of w)) ∙ ap (λ (j : ℕ). g (w * 4 / 4) j) (sym (word_past w n))
    where
      g : ℕ → ℕ → S
      g i j = let s1 = op.set_word s i (header_of n true true) in op.set_word s1 j (left_used (op.word s1 j))

  cut_words : (s : S) (w n z : ℕ) → z % 4 ≡ 0 → z ≤ n → mark_free op (mark_used op s w z) (right_of w z) (n - z) ≡ cut_used s (w * 4) n z
  unfolding mark_free mark_used cut_used
  cut_words s w n z h le =
      let e : w + z / 4 + (n - z) / 4 - 1 ≡ (w * 4 + n) / 4 - 1 = omega arith in
      ap (λ (i : ℕ). g i (w + z / 4) (w + z / 4 + (n - z) / 4 - 1)) (sym (word_of w))
      ∙ ap (λ (j : ℕ). g (w * 4 / 4) j (w + z / 4 + (n - z) / 4 - 1)) (sym (word_past w z))
      ∙ ap (λ (k : ℕ). g (w * 4 / 4) ((w * 4 + z) / 4) k) e
    where
      g : ℕ → ℕ → ℕ → S
      g i j k = op.set_word (op.set_word (op.set_word s i (header_of z true true)) j (header_of (n - z) false true)) k (n - z)

  free_words : (s : S) (w n : ℕ) → clear_left op (mark_free op s w n) (right_of w n) ≡ one_free s (w * 4) n
  unfolding clear_left mark_free one_free
  free_words s w n = ap (λ (i : ℕ). g i (w + n / 4)) (sym (word_of w)) ∙ ap (λ (j : ℕ). g (w * 4 / 4) j) (sym (word_past w n))
    where
      g : ℕ → ℕ → S
      g i j = let s2 = op.set_word (op.set_word s i (header_of n false true)) (j - 1) n in op.set_word s2 j (left_freed (op.word s2 j))

  pub take_words : (s : S) (w n z : ℕ) → z % 4 ≡ 0 → take_chunk op s w n z ≡ take_step class_of s (w * 4) n z
  unfolding take_chunk return_excess take_step
  take_words s w n z h = rw (word_of w, word_past w z) (go (leb (z + 12) n) refl)
    where
      u : S
      u = unlink op s (w + 6)

      go : (t : Bool) → leb (z + 12) n ≡ t
          → pick t (link op (mark_free op (mark_used op u w (pick t z n)) (w + z / 4) (n - z)) (class_of (n - z)) (w + z / 4 + 6))
          (set_left op (mark_used op u w (pick t z n)) (w + n / 4))
          ≡ pick t (link op (cut_used u (w * 4) n z) (class_of (n - z)) (w + z / 4 + 6)) (whole_used u (w * 4) n)
      go true e = let q = leb-true (z + 12) n e in ap (λ (t : S). link op t (class_of (n - z)) (w + z / 4 + 6)) (cut_words u w n z h (omega arith))
      go false e = used_words u w n

  merged_words : (s : S) (w f n g : ℕ) → f % 4 ≡ 0 → f / 4 ≤ w → merged op s w f n g ≡ merge_step class_of s (w * 4 - f) f n g
  unfolding merged merge_step
  merged_words s w f n g h le =
      let e : w * 4 - f ≡ (w - f / 4) * 4 = omega arith in
      let d : ((w - f / 4) * 4 + f + n) / 4 ≡ w + n / 4 = omega arith in
      rw (e, d, word_of (w - f / 4)) (there (merge op (ltb 0 f) (ltb 0 g) s (w - f / 4 + 6) (w + n / 4 + 6)))
    where
      there : (t : S)
          → link op (clear_left op (mark_free op t (w - f / 4) (f + (n + g))) (right_of (w - f / 4) (f + (n + g)))) (class_of (f + (n + g))) (w - f / 4 + 6)
          ≡ link op (one_free t ((w - f / 4) * 4) (f + (n + g))) (class_of (f + (n + g))) (w - f / 4 + 6)
      there t = ap (λ (x : S). link op x (class_of (f + (n + g))) (w - f / 4 + 6)) (free_words t (w - f / 4) (f + (n + g)))

  pub release_words : (s : S) (w n : ℕ) → left_free op s w % 4 ≡ 0 → left_free op s w / 4 ≤ w → release_chunk op s w n ≡ release_step class_of s (w * 4) n
  unfolding release_chunk release_step
  release_words s w n h le = rw (word_of w, word_past w n) (merged_words s w (left_free op s w) n (right_free op s (w + n / 4)) h le)
