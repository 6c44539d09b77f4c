-- THE STEPS of document 01's "Making, handing out, taking back", as functions that compute: what each stores, on any words, sound or not. Each step first
-- unlinks, then writes tags, and lists last. `w` is the word of a header, `n` a length in bytes.
use Rattle.std.specs.Prelude.{Bool, true, false, ℕ, zero, suc, ◌+◌, ◌-◌, ◌/◌, leb, ltb}
use Rattle.words.specs.Choice.{pick}
use Rattle.words.specs.Tags.{header_of, length_of, freeᵇ, left_freeᵇ, left_used, left_freed, right_of, footer_of}
use Rattle.words.specs.Sizes.{class_of}
use Rattle.rules.specs.Rules.Ops.{Ops}

-- of n bytes a request for z gets z where at least 12 bytes remain (with multiples of 8, 16), else all
abbrev pub portion : ℕ → ℕ → ℕ
portion n z = pick (leb (z + 12) n) z n

module _ {S R : Type 0} (op : Ops S R) where
  -- LISTS: a node leaves its list; a node comes to the head of list k
  unfoldable pub unlink : S → ℕ → S
  unlink s x = op.set_prev (op.set_next s (op.prev s x) (op.next s x)) (op.next s x) (op.prev s x)

  unfoldable pub link : S → ℕ → ℕ → S
  link s k x = let n = op.next s k in op.set_prev (op.set_next (op.set_prev (op.set_next s k x) n x) x n) x k

  -- the length of the chunk that a link names
  abbrev pub length_at : S → ℕ → ℕ
  length_at s x = length_of (op.word s (x - 6))

  -- TAGS: a header's left bit set, or cleared
  unfoldable pub set_left : S → ℕ → S
  set_left s w = op.set_word s w (left_used (op.word s w))

  unfoldable pub clear_left : S → ℕ → S
  clear_left s w = op.set_word s w (left_freed (op.word s w))

  -- a free chunk: its header, the left neighbour used, and its footer
  unfoldable pub mark_free : S → ℕ → ℕ → S
  mark_free s w n = op.set_word (op.set_word s w (header_of n false true)) (footer_of w n) n

  -- a used chunk: its header, the left neighbour used
  unfoldable pub mark_used : S → ℕ → ℕ → S
  mark_used s w n = op.set_word s w (header_of n true true)

  -- MAKING in b bytes before the guard: one free chunk, the guard 2, and the chunk listed
  unfoldable pub one_chunk : S → ℕ → S
  one_chunk s b = link (op.set_word (mark_free s 0 b) (b / 4) 2) (class_of b) 6

  -- SPLITTING n bytes after the first z: if at least 12 remain, the right part becomes a free chunk at the head of its class list; else the whole chunk
  -- is used, and its right neighbour's left bit set
  unfoldable pub return_excess : S → ℕ → ℕ → ℕ → S
  return_excess s w n z = pick (leb (z + 12) n) (link (mark_free s (right_of w z) (n - z)) (class_of (n - z)) (right_of w z + 6)) (set_left s (right_of w n))

  -- TAKING the listed chunk of n bytes for z: unlinked, marked used, the excess returned
  unfoldable pub take_chunk : S → ℕ → ℕ → ℕ → S
  take_chunk s w n z = return_excess (mark_used (unlink s (w + 6)) w (portion n z)) w n z

  -- k words from word i on set to 0
  unfoldable pub cleared : S → ℕ → ℕ → S
  cleared s i zero = s
  cleared s i (suc k) = cleared (op.set_word s i 0) (suc i) k

  -- EMPTYING the payload of the chunk of n bytes at word w: every word after its header, up to its end
  unfoldable pub emptied : S → ℕ → ℕ → S
  emptied s w n = cleared s (suc w) (n / 4 - 1)

  -- the free bytes just left of word w, and from word e on, as the tags say; 0 where the neighbour is used
  unfoldable pub left_free : S → ℕ → ℕ
  left_free s w = pick (left_freeᵇ (op.word s w)) (op.word s (w - 1)) 0

  unfoldable pub right_free : S → ℕ → ℕ
  right_free s e = pick (freeᵇ (op.word s e)) (length_of (op.word s e)) 0

  -- MERGING with free neighbours, whose links are l and r: neither, left, right, both. They leave their lists, left before right
  unfoldable pub merge : Bool → Bool → S → ℕ → ℕ → S
  merge false false s l r = s
  merge true false s l r = unlink s l
  merge false true s l r = unlink s r
  merge true true s l r = unlink (unlink s l) r

  -- RELEASING n bytes with f free bytes before them and g after: all become one free chunk, at the head of its class list; the right neighbour's left bit clears
  unfoldable pub merged : S → ℕ → ℕ → ℕ → ℕ → S
  merged s w f n g =
      let a = w - f / 4 in
      let m = f + (n + g) in
      let off = merge (ltb 0 f) (ltb 0 g) s (a + 6) (right_of w n + 6) in
      link (clear_left (mark_free off a m) (right_of a m)) (class_of m) (a + 6)

  unfoldable pub release_chunk : S → ℕ → ℕ → S
  release_chunk s w n = merged s w (left_free s w) n (right_free s (right_of w n))
