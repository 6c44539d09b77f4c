-- Laws of `specs/Links.antt`, said once for both sides and every link width. Assumes nothing.
--     Lawful, narrow_lawful, wide_lawful     what a width has to keep, and that both widths keep it
--     link-set_link-same, -other, -side, -even, -apart     links in the words after one is stored
--     length-set_link, at-set_link, link_set                what else a store keeps
--     node_store_same, _other, _side, node-set            the same of nodes, in the sentinels and the words
--     length-set_sentinel, length-set_chunk, at-set_chunk
use Rattle.std.proofs.Common.{◌≡◌, ℕ, ◌+◌, ◌-◌, ◌%◌, ◌<◌, ◌≤◌, ◌≢◌, List, length, set, refl, ap, ◌∙◌, arith, length-set, get_or-set_other, get_or-set_same, le-ltb, lt-ltb}
use Rattle.words.specs.Tags.{at}
use Rattle.words.specs.Links.{Side, prev, next, Width, half, with_half, word_after, narrow, wide, link_at, set_link_at, node_link, set_sentinel, set_chunk_link}
use Rattle.words.proofs.Laws.Choice.{by_cases}
use Rattle.words.proofs.Laws.Tags.{at-set_unseen}

-- the other side
abbrev pub other : Side → Side
other prev = next
other next = prev

-- what a width has to keep: links stand in the two words after a header, a link that is stored is read again, and where both
-- sides stand in one word a store keeps the other side's
pub record Lawful (W : Width) : Type 0 where
  pub near : (a : Side) → (1 ≤ W.place a) × (W.place a ≤ 2)
  pub get-put : (a : Side) (x l : ℕ) → l < W.limit → W.get a (W.put a x l) ≡ l
  pub get-put_other : (a : Side) (x l : ℕ) → l < W.limit → W.place a ≡ W.place (other a) → W.get (other a) (W.put a x l) ≡ W.get (other a) x

-- the half that was stored is read
half_same : (a : Side) (x l : ℕ) → l < 65536 → half a (with_half a x l) ≡ l
half_same prev x l h = omega arith
half_same next x l h = omega arith

-- and the other half is kept
half_other : (a : Side) (x l : ℕ) → l < 65536 → half (other a) (with_half a x l) ≡ half (other a) x
half_other prev x l h = omega arith
half_other next x l h = omega arith

-- 16-bit links are lawful: both stand in one word
pub narrow_lawful : Lawful narrow
narrow_lawful = record { near = λ a. (omega arith, omega arith); get-put = half_same; get-put_other = λ a x l h e. half_other a x l h }

-- 32-bit links stand in the two words after the header
two_words : (a : Side) → (1 ≤ word_after a) × (word_after a ≤ 2)
two_words prev = (omega arith, omega arith)
two_words next = (omega arith, omega arith)

-- each in its own
words_differ : (a : Side) → word_after a ≡ word_after (other a) → ⊥
words_differ prev e = omega arith
words_differ next e = omega arith

-- 32-bit links are lawful: each has a word to itself
pub wide_lawful : Lawful wide
wide_lawful = record { near = two_words; get-put = λ a x l h. refl; get-put_other = λ a x l h e. absurd (words_differ a e) }

-- ---- links in the words

module _ (W : Width) (a : Side) (ws : List ℕ) (w l : ℕ) where
  -- storing a link keeps the length
  pub length-set_link : length (set_link_at W a ws w l) ≡ length ws
  unfolding set_link_at
  length-set_link = length-set ws (w + W.place a) _

  -- and every other word
  pub at-set_link : (i : ℕ) → i ≢ w + W.place a → at (set_link_at W a ws w l) i ≡ at ws i
  unfolding set_link_at
  at-set_link i h = get_or-set_other ws (w + W.place a) i _ 0 h

  -- so every link that stands in another word
  pub link-set_link-apart : (b : Side) (u : ℕ) → u + W.place b ≢ w + W.place a → link_at W b (set_link_at W a ws w l) u ≡ link_at W b ws u
  link-set_link-apart b u h = ap (W.get b) (at-set_link (u + W.place b) h)

  -- another header's link of that side
  pub link-set_link-other : (u : ℕ) → u ≢ w → link_at W a (set_link_at W a ws w l) u ≡ link_at W a ws u
  link-set_link-other u h = link-set_link-apart a u (omega arith)

-- a store into any word but the link's keeps the link
pub link_set : (W : Width) (a : Side) (ws : List ℕ) (w i x : ℕ) → w + W.place a ≢ i → link_at W a (set ws i x) w ≡ link_at W a ws w
link_set W a ws w i x h = ap (W.get a) (get_or-set_other ws i (w + W.place a) x 0 h)

module _ {W : Width} (L : Lawful W) (a : Side) (ws : List ℕ) (w l : ℕ) (fits : l < W.limit) where
  -- the link that was stored is read
  pub link-set_link-same : w + W.place a < length ws → link_at W a (set_link_at W a ws w l) w ≡ l
  unfolding set_link_at
  link-set_link-same h = ap (W.get a) (get_or-set_same ws (w + W.place a) _ 0 h) ∙ L.get-put a (at ws (w + W.place a)) l fits

  -- the other side's link is kept wherever it shares the word with this header's only
  pub link-set_link-side : (u : ℕ) → (u + W.place (other a) ≡ w + W.place a → u ≡ w) → link_at W (other a) (set_link_at W a ws w l) u ≡ link_at W (other a) ws u
  unfolding set_link_at
  link-set_link-side u h =
      at-set_unseen (W.get (other a)) ws (w + W.place a) _ (u + W.place (other a))
      (λ e. L.get-put_other a (at ws (w + W.place a)) l fits (let d : u ≡ w = h e in omega arith))

  -- so at all headers that stand at even words
  pub link-set_link-even : w % 2 ≡ 0 → (u : ℕ) → u % 2 ≡ 0 → link_at W (other a) (set_link_at W a ws w l) u ≡ link_at W (other a) ws u
  link-set_link-even h u k = link-set_link-side u (λ e. omega (arith, L.near a, L.near (other a)))

-- ---- links of nodes, in the sentinels and the words

-- storing a node's link keeps the sentinels' length
pub length-set_sentinel : (ss : List ℕ) (l v : ℕ) → length (set_sentinel ss l v) ≡ length ss
length-set_sentinel ss l v = by_cases 6 l (λ h. rw (le-ltb l 6 h)) (λ h. rw (lt-ltb l 6 h) (length-set ss l v))

module _ (W : Width) (a : Side) (ws : List ℕ) (l v : ℕ) where
  -- and the words' length
  pub length-set_chunk : length (set_chunk_link W a ws l v) ≡ length ws
  length-set_chunk = by_cases 6 l (λ h. rw (le-ltb l 6 h) (length-set_link W a ws (l - 6) v)) (λ h. rw (lt-ltb l 6 h))

  -- and every word but the one that a chunk's link stands in
  pub at-set_chunk : (i : ℕ) → (6 ≤ l → i ≢ l - 6 + W.place a) → at (set_chunk_link W a ws l v) i ≡ at ws i
  at-set_chunk i d = by_cases 6 l (λ h. rw (le-ltb l 6 h) (at-set_link W a ws (l - 6) v i (d h))) (λ h. rw (lt-ltb l 6 h))

  -- another node's link of that side is kept
  pub node_store_other : (ss : List ℕ) (m : ℕ) → m ≢ l → node_link W a (set_sentinel ss l v) (set_chunk_link W a ws l v) m ≡ node_link W a ss ws m
  node_store_other ss m d =
      by_cases 6 l
      (λ h. by_cases 6 m
      (λ k. rw (le-ltb l 6 h, le-ltb m 6 k) (link-set_link-other W a ws (l - 6) v (m - 6) (omega arith)))
      (λ k. rw (le-ltb l 6 h, lt-ltb m 6 k)))
      (λ h. by_cases 6 m (λ k. rw (lt-ltb l 6 h, le-ltb m 6 k)) (λ k. rw (lt-ltb l 6 h, lt-ltb m 6 k) (get_or-set_other ss l m v 0 d)))

-- a store into any word but the one that the node's link stands in keeps the link
pub node-set : (W : Width) (a : Side) (ss ws : List ℕ) (l i x : ℕ) → (6 ≤ l → l - 6 + W.place a ≢ i) → node_link W a ss (set ws i x) l ≡ node_link W a ss ws l
node-set W a ss ws l i x d = by_cases 6 l (λ h. rw (le-ltb l 6 h) (link_set W a ws (l - 6) i x (d h))) (λ h. rw (lt-ltb l 6 h))

module _ {W : Width} (L : Lawful W) (a : Side) (ws : List ℕ) (l v : ℕ) (fits : v < W.limit) where
  -- the node's link that was stored is read
  pub node_store_same : (ss : List ℕ) → (l < 6 → l < length ss) → (6 ≤ l → l - 6 + W.place a < length ws)
      → node_link W a (set_sentinel ss l v) (set_chunk_link W a ws l v) l ≡ v
  node_store_same ss sentinel chunk =
      by_cases 6 l
      (λ h. rw (le-ltb l 6 h) (link-set_link-same L a ws (l - 6) v fits (chunk h)))
      (λ h. rw (lt-ltb l 6 h) (get_or-set_same ss l v 0 (sentinel h)))

  -- every node's link of the other side is kept, if chunks stand at even words
  pub node_store_side : (ss : List ℕ) (m : ℕ) → (6 ≤ l → l % 2 ≡ 0) → (6 ≤ m → m % 2 ≡ 0)
      → node_link W (other a) ss (set_chunk_link W a ws l v) m ≡ node_link W (other a) ss ws m
  node_store_side ss m e f =
      by_cases 6 l
      (λ h. by_cases 6 m
      (λ k. let p = e h in let q = f k in rw (le-ltb l 6 h, le-ltb m 6 k) (link-set_link-even L a ws (l - 6) v fits (omega arith) (m - 6) (omega arith)))
      (λ k. rw (le-ltb l 6 h, lt-ltb m 6 k)))
      (λ h. rw (lt-ltb l 6 h))
