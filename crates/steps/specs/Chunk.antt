-- The tags that releasing and taking write, and what emptying a payload does, on the words alone; and when the sums of a release stay in range.
use Rattle.std.specs.Prelude.{ℕ, zero, suc, ◌+◌, ◌-◌, ◌/◌, ◌%◌, ◌^◌, ◌<◌, ◌≤◌, true, false, List, slice_set}
use Rattle.words.specs.Choice.{pick}
use Rattle.words.specs.Tags.{at, header_of, length_of, freeᵇ, left_freeᵇ, right_of, footer_of}

-- header and footer of a free chunk of n bytes: as machine words keep the footer's place, and with a plain sum
unfoldable pub freed_in : List ℕ → ℕ → ℕ → List ℕ
freed_in ws w n = slice_set (slice_set ws w (header_of n false true)) (right_of w n % 2 ^ 64 - 1) n

unfoldable pub freed : List ℕ → ℕ → ℕ → List ℕ
freed ws w n = slice_set (slice_set ws w (header_of n false true)) (footer_of w n) n

-- the free bytes left of word w, and from word e on
unfoldable pub left_free_in : List ℕ → ℕ → ℕ
left_free_in ws w = pick (left_freeᵇ (at ws w)) (at ws (w - 1)) 0

unfoldable pub right_free_in : List ℕ → ℕ → ℕ
right_free_in ws e = pick (freeᵇ (at ws e)) (length_of (at ws e)) 0

-- k words from word i on set to 0; and the payload of the chunk of n bytes at word w: every word after its header, up to its end
unfoldable pub cleared_in : List ℕ → ℕ → ℕ → List ℕ
cleared_in ws i zero = ws
cleared_in ws i (suc k) = cleared_in (slice_set ws i 0) (suc i) k

unfoldable pub emptied_in : List ℕ → ℕ → ℕ → List ℕ
emptied_in ws w n = cleared_in ws (suc w) (n / 4 - 1)

-- the chunk of n bytes that l names and its free neighbours lie in the space that links can name
pub record Releasable (ws : List ℕ) (l n : ℕ) : Type 0 where
  pub chunk : 6 ≤ l
  pub left : left_free_in ws (l - 6) / 4 ≤ l - 6
  pub right : l + n / 4 + right_free_in ws (right_of (l - 6) n) / 4 < 65536
