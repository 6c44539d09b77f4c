-- Laws of `specs/Tags.antt`. Assumes nothing.
--     length-changed, at-changed_same, at-changed_other     the words after one is changed
--     at-set_unseen     what a store does not show at its own word, it shows nowhere
--     header_length, header_free, header_left               what a header says is what it was made of
use Rattle.std.proofs.Common.{◌≡◌, ℕ, ◌*◌, ◌/◌, ◌%◌, ◌<◌, Bool, not, ◌≢◌, List, length, set, sym, ap, ◌∙◌, subst, arith, length-set, get_or-set_other, get_or-set_same}
use native.Mathlib.Decide.{ℕ_discrete}
use lib.Seq.{set_out}
use Rattle.words.specs.Choice.{bit}
use Rattle.words.specs.Tags.{at, header_of, length_of, freeᵇ, left_freeᵇ, changed}
use Rattle.words.proofs.Laws.Choice.{by_cases, bit_small, bit_none}

-- ---- the words

-- a reading f that a store at i does not change is the same at every word
pub at-set_unseen : (f : ℕ → ℕ) (ws : List ℕ) (i x j : ℕ) → (j ≡ i → f x ≡ f (at ws i)) → f (at (set ws i x) j) ≡ f (at ws j)
at-set_unseen f ws i x j h = go (ℕ_discrete j i)
  where
    own : f x ≡ f (at ws i) → f (at (set ws i x) i) ≡ f (at ws i)
    own e = by_cases (length ws) i (λ out. ap (λ vs. f (at vs i)) (set_out ws i x out)) (λ inside. ap f (get_or-set_same ws i x 0 inside) ∙ e)

    go : Dec (j ≡ i) → f (at (set ws i x) j) ≡ f (at ws j)
    go (yes e) = subst (λ k. f (at (set ws i x) k) ≡ f (at ws k)) (sym e) (own (h e))
    go (no d) = ap f (get_or-set_other ws i j x 0 d)

module _ (f : ℕ → ℕ) (ws : List ℕ) (i : ℕ) where
  -- a change keeps the length
  pub length-changed : length (changed f ws i) ≡ length ws
  unfolding changed
  length-changed = length-set ws i _

  -- the changed word is what f makes of it
  pub at-changed_same : i < length ws → at (changed f ws i) i ≡ f (at ws i)
  unfolding changed
  at-changed_same h = get_or-set_same ws i _ 0 h

  -- and every other word is kept
  pub at-changed_other : (j : ℕ) → j ≢ i → at (changed f ws i) j ≡ at ws j
  unfolding changed
  at-changed_other j h = get_or-set_other ws i j _ 0 h

-- ---- headers

module _ (n : ℕ) (used left : Bool) where
  -- the length of a header is the length that it was made of, without its remainder by 4
  pub header_length : length_of (header_of n used left) ≡ n / 4 * 4
  header_length = omega (arith, bit_small used, bit_small left)

  -- it says that its chunk is free unless it was made of a used one
  pub header_free : freeᵇ (header_of n used left) ≡ not used
  header_free = let e : header_of n used left / 2 % 2 ≡ bit used = omega (arith, bit_small used, bit_small left) in rw e (bit_none used)

  -- and so of its left neighbour
  pub header_left : left_freeᵇ (header_of n used left) ≡ not left
  header_left = let e : header_of n used left % 2 ≡ bit left = omega (arith, bit_small used, bit_small left) in rw e (bit_none left)
