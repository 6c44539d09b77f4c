-- TAGS (document 01, "Words, tags and links"): what a header says, and the steps on one word of the heap. Words past the end read 0, and a store there
-- does nothing.
use Rattle.std.specs.Prelude.{ℕ, ◌+◌, ◌-◌, ◌*◌, ◌/◌, ◌%◌, Bool, List, ◌==◌, slice_index, slice_set}
use Rattle.words.specs.Choice.{bit}

-- the word at i
abbrev pub at : List ℕ → ℕ → ℕ
at ws i = slice_index ws i

-- HEADER: the length, + 2 if used, + 1 if the left neighbour is used
abbrev pub header_of : ℕ → Bool → Bool → ℕ
header_of n used left = n / 4 * 4 + 2 * bit used + bit left

-- what a header says: the length
abbrev pub length_of : ℕ → ℕ
length_of h = h / 4 * 4

-- whether the chunk is free
abbrev pub freeᵇ : ℕ → Bool
freeᵇ h = h / 2 % 2 == 0

-- whether its left neighbour is free
abbrev pub left_freeᵇ : ℕ → Bool
left_freeᵇ h = h % 2 == 0

-- the header with its length changed to n
abbrev pub with_length : ℕ → ℕ → ℕ
with_length h n = n / 4 * 4 + h % 4

-- the header marked used
abbrev pub as_used : ℕ → ℕ
as_used h = h / 4 * 4 + 2 + h % 2

-- the header marked free
abbrev pub as_free : ℕ → ℕ
as_free h = h / 4 * 4 + h % 2

-- the header with its left neighbour marked used
abbrev pub left_used : ℕ → ℕ
left_used h = h / 2 * 2 + 1

-- the header with its left neighbour marked free
abbrev pub left_freed : ℕ → ℕ
left_freed h = h / 2 * 2

-- of a chunk of n bytes whose header is word i, the right neighbour's header
abbrev pub right_of : ℕ → ℕ → ℕ
right_of i n = i + n / 4

-- of such a chunk, its footer
abbrev pub footer_of : ℕ → ℕ → ℕ
footer_of i n = i + n / 4 - 1

-- the words with the word at i changed
unfoldable pub changed : (ℕ → ℕ) → List ℕ → ℕ → List ℕ
changed f ws i = slice_set ws i (f (at ws i))
