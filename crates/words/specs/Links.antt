-- LINKS IN WORDS: the prev and the next link of the free chunk whose header is word w, said once for both sides and every link width.
use Rattle.std.specs.Prelude.{ℕ, ◌+◌, ◌-◌, ◌*◌, ◌/◌, ◌%◌, List, nat_lt, slice_index, slice_set}
use Rattle.words.specs.Choice.{pick}
use Rattle.words.specs.Tags.{at}

-- the two directions in which a node of a list is linked
pub data Side : Type 0 where
  prev : Side
  next : Side

-- a link width: links are below `limit`; a side's link stands `place` words after the header, where it is read by `get` and stored by `put`
pub record Width : Type 0 where
  pub limit : ℕ
  pub place : Side → ℕ
  pub get : Side → ℕ → ℕ
  pub put : Side → ℕ → ℕ → ℕ

-- of a word, the low half for prev and the high half for next
abbrev pub half : Side → ℕ → ℕ
half prev w = w % 65536
half next w = w / 65536

-- the word with that half changed
abbrev pub with_half : Side → ℕ → ℕ → ℕ
with_half prev w l = w / 65536 * 65536 + l
with_half next w l = l * 65536 + w % 65536

-- 16 bits: both in word 1, prev in its low half, next in its high half
abbrev pub narrow : Width
narrow = record { limit = 65536; place = λ a. 1; get = half; put = with_half }

-- the first word after the header for prev, the second for next
abbrev pub word_after : Side → ℕ
word_after prev = 1
word_after next = 2

-- 32 bits: prev in word 1, next in word 2, each alone in its word
abbrev pub wide : Width
wide = record { limit = 4294967296; place = word_after; get = λ a w. w; put = λ a w l. l }

-- the link of a side at the header w
abbrev pub link_at : Width → Side → List ℕ → ℕ → ℕ
link_at W a ws w = W.get a (at ws (w + W.place a))

-- the words with that link changed to l
unfoldable pub set_link_at : Width → Side → List ℕ → ℕ → ℕ → List ℕ
set_link_at W a ws w l = slice_set ws (w + W.place a) (W.put a (at ws (w + W.place a)) l)

-- A NODE of a list: a sentinel, whose link stands in the record's array, or a chunk, whose link stands in the words
abbrev pub node_link : Width → Side → List ℕ → List ℕ → ℕ → ℕ
node_link W a sentinels ws l = pick (nat_lt l 6) (slice_index sentinels l) (link_at W a ws (l - 6))

-- the sentinels after v is stored as the link of node l: unchanged where the node is a chunk
abbrev pub set_sentinel : List ℕ → ℕ → ℕ → List ℕ
set_sentinel sentinels l v = pick (nat_lt l 6) (slice_set sentinels l v) sentinels

-- the words after v is stored as the link of node l: unchanged where the node is a sentinel
abbrev pub set_chunk_link : Width → Side → List ℕ → ℕ → ℕ → List ℕ
set_chunk_link W a ws l v = pick (nat_lt l 6) ws (set_link_at W a ws (l - 6) v)
