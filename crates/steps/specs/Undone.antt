-- NOTES AND UNDOING: a lent log holds notes, pairs of the index of a word and what the word held. Put back last first, they give the words as they were.
use Rattle.std.specs.Prelude.{◌≡◌, ℕ, zero, suc, ◌+◌, ◌*◌, ◌/◌, ◌^◌, ◌≤◌, min, List, [], ◌∷◌, length, slice_index, slice_set}
use Rattle.words.specs.Tags.{at, right_of, footer_of}

-- UNDOING: the words with the first k notes of a log put back, last first
unfoldable pub undone : List ℕ → ℕ → List ℕ → List ℕ
undone log zero ws = ws
undone log (suc k) ws = undone log k (slice_set ws (slice_index log (2 * k)) (slice_index log (2 * k + 1)))

-- as many of the first k notes as the log has, put back
unfoldable pub put_back : List ℕ → ℕ → List ℕ → List ℕ
put_back log k ws = undone log (min k (length log / 2)) ws

-- room for n notes after the k that a log has, of words whose index fits a note
pub record Room (ws log : List ℕ) (k n : ℕ) : Type 0 where
  pub named : length ws ≤ 2 ^ 32
  pub fits : 2 * (k + n) ≤ length log

-- the words us with those at the places ps as ws has them
unfoldable pub restored : List ℕ → List ℕ → List ℕ → List ℕ
restored us ws [] = us
restored us ws (p ∷ ps) = restored (slice_set us p (at ws p)) ws ps

-- NOTES of the words ws at the places ps, after k notes, r in all: whatever words there are by then, to undo with them begins by restoring those places
pub record Notes (ws ps log : List ℕ) (k : ℕ) (after : List ℕ) (r : ℕ) : Type 0 where
  pub most : r ≤ k + length ps
  pub back : (us : List ℕ) → length us ≡ length ws → undone after r us ≡ undone log k (restored us ws ps)

-- the same, where there is room for them
abbrev pub Noting : List ℕ → List ℕ → List ℕ → ℕ → List ℕ → ℕ → Type 0
Noting ws ps log k after r = Room ws log k (length ps) → Notes ws ps log k after r

-- A STEP from the words ws to us that took at most n notes, after k, r in all: undone, both are the same words
pub record Undoes (n : ℕ) (ws log : List ℕ) (k : ℕ) (us after : List ℕ) (r : ℕ) : Type 0 where
  pub most : r ≤ k + n
  pub back : undone after r us ≡ undone log k ws

-- the places of a free chunk's tags, n bytes at word w: its right neighbour's header, its footer, its header
abbrev pub tag_places : ℕ → ℕ → List ℕ
tag_places w n = right_of w n ∷ footer_of w n ∷ w ∷ []
