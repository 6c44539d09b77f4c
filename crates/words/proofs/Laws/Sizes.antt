-- Laws of `specs/Sizes.antt`. Assumes nothing.
--     class_counts                      the class counts the doublings from 32 that a length reaches; the other laws of classes rest on it
--     class_below, class_small          there are six classes, and below 512 five
--     class_mono, least_of_class        a longer chunk's class is no lower, and a length is at least its class's least
--     class_reaches, class_least        a length is at least the least of a class exactly if its own class is no lower
--     class_is                          the class is the one whose range holds the length
--     threshold_small, threshold_is, threshold_large     what the threshold is below 512, and from 512 on
--     threshold_above, threshold_from   it is above a size below 512, and never below the size
--     threshold_reached, threshold_class     below 512 a length reaches it exactly if its class is higher
--     class_by_zeros_lem                    counted by leading zeros the class is the same, for every 32-bit length
use Rattle.std.proofs.Common.{◌≡◌, ℕ, zero, suc, ◌+◌, ◌*◌, ◌/◌, ◌^◌, ◌<◌, ◌≤◌, min, sym, refl, ap, ◌∙◌, le_trans, le_refl, le_of_suc-le-suc, pow-suc, arith, lit<, pow_mono, le-leb}
use native.Mathlib.Omega.{by_contra}
use lib.Count.{count_leading_zeros, leading_length}
use borrow.Author.Tests.{lt-leb}
use Rattle.words.specs.Sizes.{class_of, class_by_zeros, threshold_of}
use Rattle.words.proofs.Laws.Choice.{by_cases, by_order}

-- ---- classes

-- the least length of a class
abbrev pub least_of : ℕ → ℕ
least_of zero = 0
least_of (suc zero) = 32
least_of (suc (suc zero)) = 64
least_of (suc (suc (suc zero))) = 128
least_of (suc (suc (suc (suc zero)))) = 256
least_of (suc (suc (suc (suc (suc k))))) = 512

-- the class counts the doublings from 32 that a length reaches
pub class_counts : (n : ℕ) → class_of n ≡ min (n / 32) 1 + min (n / 64) 1 + min (n / 128) 1 + min (n / 256) 1 + min (n / 512) 1
unfolding class_of
class_counts n =
    by_order 32 n (λ a. by_order 64 n (λ b. by_order 128 n (λ c. by_order 256 n (λ d. by_order 512 n
    (λ e. omega arith) (λ e. omega arith)) (λ d. omega arith)) (λ c. omega arith)) (λ b. omega arith)) (λ a. omega arith)

-- there are six classes
pub class_below : (n : ℕ) → class_of n < 6
class_below n = omega (arith, class_counts n)

-- below 512 the class is not the last
pub class_small : (n : ℕ) → n < 512 → class_of n < 5
class_small n h = omega (arith, class_counts n)

-- a length that is at least the least of a class has that class or a higher one
pub class_reaches : (k n : ℕ) → k < 6 → least_of k ≤ n → k ≤ class_of n
class_reaches zero n h l = omega arith
class_reaches (suc zero) n h l = omega (arith, class_counts n)
class_reaches (suc (suc zero)) n h l = omega (arith, class_counts n)
class_reaches (suc (suc (suc zero))) n h l = omega (arith, class_counts n)
class_reaches (suc (suc (suc (suc zero)))) n h l = omega (arith, class_counts n)
class_reaches (suc (suc (suc (suc (suc k))))) n h l = omega (arith, class_counts n)

-- and a length of that class or a higher one is at least its least
pub class_least : (k n : ℕ) → k ≤ class_of n → least_of k ≤ n
class_least zero n h = omega arith
class_least (suc zero) n h = omega (arith, class_counts n)
class_least (suc (suc zero)) n h = omega (arith, class_counts n)
class_least (suc (suc (suc zero))) n h = omega (arith, class_counts n)
class_least (suc (suc (suc (suc zero)))) n h = omega (arith, class_counts n)
class_least (suc (suc (suc (suc (suc k))))) n h = omega (arith, class_counts n)

-- so the class is the one whose range holds the length
pub class_is : (n k : ℕ) → k < 6 → least_of k ≤ n → n < least_of (suc k) → k ≡ class_of n
class_is n k b low high =
    let up = class_reaches k n b low in
    let down : class_of n ≤ k = by_contra (class_of n) k (λ h. omega (arith, class_least (suc k) n h)) in
    omega arith

-- a length is at least the least of its own class
pub least_of_class : (n : ℕ) → least_of (class_of n) ≤ n
least_of_class n = class_least (class_of n) n (le_refl (class_of n))

-- a longer chunk's class is no lower
pub class_mono : (m n : ℕ) → m ≤ n → class_of m ≤ class_of n
class_mono m n h = class_reaches (class_of m) n (class_below m) (le_trans (least_of_class m) h)

-- ---- thresholds

-- below 512 the threshold is the least length of the next class, range by range
next_least : (s : ℕ) → s < 512 → least_of (suc (class_of s)) ≡ threshold_of s
unfolding class_of
next_least s h =
    by_cases 256 s (λ a. rw (lt-leb 512 s h, le-leb 256 s a, le-leb 128 s (omega arith), le-leb 64 s (omega arith), le-leb 32 s (omega arith)) refl) (λ a.
    by_cases 128 s (λ b. rw (lt-leb 512 s h, lt-leb 256 s a, le-leb 128 s b, le-leb 64 s (omega arith), le-leb 32 s (omega arith)) refl) (λ b.
    by_cases 64 s (λ c. rw (lt-leb 512 s h, lt-leb 256 s a, lt-leb 128 s b, le-leb 64 s c, le-leb 32 s (omega arith)) refl) (λ c.
    by_cases 32 s (λ d. rw (lt-leb 512 s h, lt-leb 256 s a, lt-leb 128 s b, lt-leb 64 s c, le-leb 32 s d) refl)
    (λ d. rw (lt-leb 512 s h, lt-leb 256 s a, lt-leb 128 s b, lt-leb 64 s c, lt-leb 32 s d) refl))))

-- so for the class k of s
pub threshold_small : (s k : ℕ) → s < 512 → k ≡ class_of s → least_of (suc k) ≡ threshold_of s
threshold_small s k h e = ap (λ (j : ℕ). least_of (suc j)) e ∙ next_least s h

-- so it is where the range of one of the first five classes ends
pub threshold_is : (s k : ℕ) → k < 5 → least_of k ≤ s → s < least_of (suc k) → least_of (suc k) ≡ threshold_of s
threshold_is s k b low high =
    let e = class_is s k (omega arith) low high in
    let small : s < 512 = by_contra (suc s) 512 (λ h. omega (arith, class_reaches 5 s (lit< tt) (le_of_suc-le-suc h))) in
    threshold_small s k small e

-- from 512 the threshold is the length itself
pub threshold_large : (s : ℕ) → 512 ≤ s → s ≡ threshold_of s
threshold_large s h = rw (le-leb 512 s h)

module _ (s : ℕ) (small : s < 512) where
  -- below 512 a length of a higher class reaches the threshold
  pub threshold_reached : (n : ℕ) → class_of s < class_of n → threshold_of s ≤ n
  threshold_reached n h = rw (← (threshold_small s (class_of s) small refl)) (class_least (suc (class_of s)) n h)

  -- and what reaches the threshold is of a higher class
  pub threshold_class : (n : ℕ) → threshold_of s ≤ n → class_of s < class_of n
  threshold_class n h =
      let c = class_small s small in class_reaches (suc (class_of s)) n (omega arith) (rw (← (threshold_small s (class_of s) small refl)) at h)

  -- so the threshold is above the size
  pub threshold_above : s < threshold_of s
  threshold_above = by_contra (suc s) (threshold_of s) (λ h. let c = threshold_class s (le_of_suc-le-suc h) in omega arith)

-- the threshold is never below the size
pub threshold_from : (s : ℕ) → s ≤ threshold_of s
threshold_from s = by_cases 512 s (λ h. omega (arith, threshold_large s h)) (λ h. omega (arith, threshold_above s h))

-- ---- the class by leading zeros

-- a number of m binary digits that is below 2 ^ k has at most k digits
digits_le : (m n k : ℕ) → 2 ^ m ≤ 2 * n + 1 → n < 2 ^ k → m ≤ k
digits_le m n k h l = by_contra m k (λ (g : k < m). omega (arith, pow_mono g, pow-suc 2 k))

-- and one that is at least 2 ^ k has more than k
digits_gt : (m n k : ℕ) → n < 2 ^ m → 2 ^ k ≤ n → k < m
digits_gt m n k h l = by_contra (suc k) m (λ (g : m < suc k). omega (arith, pow_mono (le_of_suc-le-suc g)))

-- counted by leading zeros the class is the same
pub class_by_zeros_lem : (n : ℕ) → n < 2 ^ 32 → class_by_zeros n ≡ class_of n
unfolding class_of
class_by_zeros_lem n h =
    let digits = leading_length 32 n h in
    let m : ℕ = digits.0 in
    let whole : count_leading_zeros 32 n + m ≡ 32 = digits.1 in
    let more : (k : ℕ) → 2 ^ k ≤ n → k < m = λ k. digits_gt m n k digits.2 in
    let most : (k : ℕ) → n < 2 ^ k → m ≤ k = λ k. digits_le m n k digits.3 in
    sym
    (by_order 32 n (λ a. by_order 64 n (λ b. by_order 128 n (λ c. by_order 256 n (λ d. by_order 512 n
    (λ e. omega (arith, more 9 e)) (λ e. omega (arith, more 8 d, most 9 e)))
    (λ d. omega (arith, more 7 c, most 8 d))) (λ c. omega (arith, more 6 b, most 7 c)))
    (λ b. omega (arith, more 5 a, most 6 b))) (λ a. omega (arith, most 5 a)))
