-- ROWS OF A MAP (W-201): kind, header offset and length of a chunk, as a line of the map and as three words.
use Rattle.std.specs.Prelude.{Bool, true, false, List, [], ◌∷◌, ◌++◌, ℕ}
use Rattle.frame.specs.Answer.{answer_bytes}
use Rattle.map.specs.declared.kind.ChunkKind.{ChunkKind}
use Rattle.map.specs.declared.kind.ChunkKind.TheVariants.{Free, Live, Cached}
use Rattle.map.specs.declared.rows.Row.{Row}

-- the number of a kind: 10 free, 11 live, 12 cached, in hexadecimal digits
abbrev pub number_of : ChunkKind → ℕ
number_of Free = 16
number_of Live = 17
number_of Cached = 18

-- which kinds are free, and which cached
abbrev pub is_free : ChunkKind → Bool
is_free Free = true
is_free Live = false
is_free Cached = false

abbrev pub is_cached : ChunkKind → Bool
is_cached Free = false
is_cached Live = false
is_cached Cached = true

-- a row, written out
abbrev pub row : ChunkKind → ℕ → ℕ → Row
row k b n = record { kind = k; at = b; len = n }

-- a row's line: two digits for the kind, eight for the header's offset, eight for the length, and a line feed, as in an answer's line
abbrev pub line_of : Row → List ℕ
line_of r = answer_bytes (number_of r.kind) r.at r.len

-- the lines of rows, one after the other
unfoldable pub lines_of : List Row → List ℕ
lines_of [] = []
lines_of (r ∷ rs) = line_of r ++ lines_of rs

-- the words of rows, three each
unfoldable pub words_of : List Row → List ℕ
words_of [] = []
words_of (r ∷ rs) = number_of r.kind ∷ r.at ∷ r.len ∷ words_of rs
