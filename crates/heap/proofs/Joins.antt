-- How the code's steps join: of each function that calls others, that its callees' promises give its rule. Assumes nothing.
--     numbers_stored        storing a sentinel's link, as numbers
--     unlink_by, link_by    the two halves of each store are the rules' unlink and link
use mathlib.Core.Path.{◌≡◌, refl, sym, ap, ◌∙◌}
use mathlib.Core.Bool.{Bool, true, false}
use mathlib.Core.List.{List}
use Prim.Native.Nat.{ℕ, zero, suc, ◌+◌, ◌-◌, ◌/◌, ◌%◌, ◌^◌, ◌≤◌, ◌<◌}
use native.Mathlib.Omega.{arith}
use borrow.Author.Tests.{lt-ltb, le-ltb, lt-leb, le-leb}
use lib.Dec.{ltb}
use lib.ListN.{length, get_or, set}
use Rattle.std.specs.Prelude.{Option, IfSome}
use Rattle.words.specs.declared.names.Link.{Link}
use Rattle.words.specs.Choice.{pick}
use Rattle.words.specs.Names.{links, held_name}
use Rattle.words.specs.Tags.{header_of, left_used, left_freed, right_of, changed}
use Rattle.words.specs.Links.{narrow, prev, next, link_at, set_link_at, set_sentinel, set_chunk_link}
use Rattle.words.specs.Numbers.{numbers}
use Rattle.words.proofs.Laws.Numbers.{numbers_at, numbers_set}
use Rattle.words.specs.Sizes.{class_of, start_of}
use Rattle.rules.specs.Rules.Steps.{portion, unlink, link, set_left, clear_left, mark_free, mark_used, return_excess, take_chunk, left_free, right_free, merge, merged, release_chunk, cleared, emptied}
use Rattle.rules.specs.Rules.Search.{Found, search_all}
use Rattle.rules.proofs.Demands.Shown.{walked_fit}
use Rattle.rules.specs.Rules.Making.{State}
use Rattle.heap.specs.declared.record.Record.{Record}
use Rattle.heap.specs.Seen.{seen, base, with_prevs, with_nexts, stored}
use Rattle.heap.specs.Released.{unlink_if, free_listed}
use Rattle.steps.specs.Chunk.{freed_in, freed, left_free_in, right_free_in, cleared_in, emptied_in, Releasable}
use Rattle.steps.specs.declared.merge.Merged.{Merged}
use Rattle.steps.specs.Merged.{link_if_free, merged_in, plain_by}
use Rattle.steps.specs.Found.{told_at, walk_in}
use Rattle.steps.proofs.Neighbours.{freed_plain, merged_plain}

-- storing a sentinel's link, as numbers
pub numbers_stored : (ls : List Link) (l : ℕ) (v : Link) → numbers (stored ls l v) ≡ set_sentinel (numbers ls) l v.0
unfolding stored
numbers_stored ls l v = go (ltb l 6)
  where
    go : (b : Bool) → numbers (pick b (set ls l v) ls) ≡ pick b (set (numbers ls) l v.0) (numbers ls)
    go true = numbers_set ls l v.0
    go false = refl

-- a sentinel's place is changed, a chunk's is none
pub stored_sentinel : (ls : List Link) (l : ℕ) (v : Link) → l < 6 → stored ls l v ≡ set ls l v
unfolding stored
stored_sentinel ls l v h = rw (lt-ltb l 6 h)

pub stored_chunk : (ls : List Link) (l : ℕ) (v : Link) → 6 ≤ l → stored ls l v ≡ ls
unfolding stored
stored_chunk ls l v h = rw (le-ltb l 6 h)

-- a chunk's links stand in the words
pub prev_chunk : (s : State) (x : ℕ) → 6 ≤ x → base.prev s x ≡ link_at narrow prev s.words (x - 6)
prev_chunk s x h = rw (le-ltb x 6 h)

pub next_chunk : (s : State) (x : ℕ) → 6 ≤ x → base.next s x ≡ link_at narrow next s.words (x - 6)
next_chunk s x h = rw (le-ltb x 6 h)

-- storing node x's next link: the record's half and the words' half
pub next_stored : (r : Record) (ws : List ℕ) (x : ℕ) (v : Link)
    → seen (with_nexts r (stored r.next x v)) (set_chunk_link narrow next ws x v.0) ≡ base.set_next (seen r ws) x v.0
next_stored r ws x v = rw (numbers_stored r.next x v)

pub prev_stored : (r : Record) (ws : List ℕ) (x : ℕ) (v : Link)
    → seen (with_prevs r (stored r.prev x v)) (set_chunk_link narrow prev ws x v.0) ≡ base.set_prev (seen r ws) x v.0
prev_stored r ws x v = rw (numbers_stored r.prev x v)

pub unlink_at : (s : State) (x p q : ℕ) → p ≡ base.prev s x → q ≡ base.next s x → unlink base s x ≡ base.set_prev (base.set_next s p q) q p
unfolding unlink
unlink_at s x p q ep eq = rw (ep, eq)

pub unlink_by : (r : Record) (ns ps : List Link) (ws ws1 ws2 : List ℕ) (p q : Link) (x : ℕ) → 6 ≤ x
    → p.0 ≡ link_at narrow prev ws (x - 6) → q.0 ≡ link_at narrow next ws (x - 6)
    → ns ≡ stored r.next p.0 q → ws1 ≡ set_chunk_link narrow next ws p.0 q.0
    → ps ≡ stored r.prev q.0 p → ws2 ≡ set_chunk_link narrow prev ws1 q.0 p.0
    → seen (with_prevs (with_nexts r ns) ps) ws2 ≡ unlink base (seen r ws) x
unlink_by r ns ps ws ws1 ws2 p q x h ep eq en e1 es e2 =
    let a = with_nexts r ns in
    let first : seen a ws1 ≡ base.set_next (seen r ws) p.0 q.0 = rw (en, e1) (next_stored r ws p.0 q) in
    let second : seen (with_prevs a ps) ws2 ≡ base.set_prev (seen a ws1) q.0 p.0 = rw (es, e2) (prev_stored a ws1 q.0 p) in
    second ∙ ap (λ (s : State). base.set_prev s q.0 p.0) first
    ∙ sym (unlink_at (seen r ws) x p.0 q.0 (ep ∙ sym (prev_chunk (seen r ws) x h)) (eq ∙ sym (next_chunk (seen r ws) x h)))

-- a chunk's store is the words' alone, a sentinel's the record's alone
pub set_next_chunk : (s : State) (x v : ℕ) → 6 ≤ x
    → base.set_next s x v ≡ record { prevs = s.prevs; nexts = s.nexts; words = set_link_at narrow next s.words (x - 6) v; rest = s.rest }
set_next_chunk s x v h = rw (le-ltb x 6 h)

pub set_prev_chunk : (s : State) (x v : ℕ) → 6 ≤ x
    → base.set_prev s x v ≡ record { prevs = s.prevs; nexts = s.nexts; words = set_link_at narrow prev s.words (x - 6) v; rest = s.rest }
set_prev_chunk s x v h = rw (le-ltb x 6 h)

pub set_next_sentinel : (r : Record) (ws : List ℕ) (k : ℕ) (v : Link) → k < 6
    → seen (with_nexts r (stored r.next k v)) ws ≡ base.set_next (seen r ws) k v.0
set_next_sentinel r ws k v h = rw (numbers_stored r.next k v, lt-ltb k 6 h)

-- a sentinel's next link, as the code reads it
pub next_sentinel : (r : Record) (ws : List ℕ) (k : ℕ) → k < 6 → (get_or r.next k (record { 0 = 0 })).0 ≡ base.next (seen r ws) k
next_sentinel r ws k h = rw (lt-ltb k 6 h) (sym (numbers_at r.next k))

pub link-at : (s : State) (k x n : ℕ) → n ≡ base.next s k → link base s k x ≡ base.set_prev (base.set_next (base.set_prev (base.set_next s k x) n x) x n) x k
unfolding link
link-at s k x n e = rw e

pub link_by : (r : Record) (ns ps : List Link) (ws ws1 ws2 ws3 : List ℕ) (n : Link) (k : ℕ) (l : Link) → k < 6 → 6 ≤ l.0
    → n.0 ≡ base.next (seen r ws) k
    → ns ≡ stored r.next k l → ps ≡ stored r.prev n.0 l → ws1 ≡ set_chunk_link narrow prev ws n.0 l.0
    → ws2 ≡ set_link_at narrow next ws1 (l.0 - 6) n.0 → ws3 ≡ set_link_at narrow prev ws2 (l.0 - 6) k
    → seen (with_prevs (with_nexts r ns) ps) ws3 ≡ link base (seen r ws) k l.0
link_by r ns ps ws ws1 ws2 ws3 n k l hk hx e es ep e1 e2 e3 =
    let x = l.0 in
    let a = with_nexts r ns in
    let b = with_prevs a ps in
    let first : seen a ws ≡ base.set_next (seen r ws) k x = rw es (set_next_sentinel r ws k l hk) in
    let second : seen b ws1 ≡ base.set_prev (seen a ws) n.0 x = rw (ep, e1) (prev_stored a ws n.0 l) in
    let third : seen b ws2 ≡ base.set_next (seen b ws1) x n.0 = rw e2 (sym (set_next_chunk (seen b ws1) x n.0 hx)) in
    let fourth : seen b ws3 ≡ base.set_prev (seen b ws2) x k = rw e3 (sym (set_prev_chunk (seen b ws2) x k hx)) in
    fourth
    ∙ ap (λ (s : State). base.set_prev s x k)
    (third ∙ ap (λ (s : State). base.set_next s x n.0) (second ∙ ap (λ (s : State). base.set_prev s n.0 x) first))
    ∙ sym (link-at (seen r ws) k x n.0 e)

-- a header that links can name: its place and its name are plain sums
pub held_name_lem : (w x : ℕ) → w + 6 < 65536 → x ≡ held_name links w → x ≡ w + 6
held_name_lem w x h e = omega arith

pub right_place : (w n j : ℕ) → w < 2 ^ 32 → n < 2 ^ 32 → j ≡ right_of w n % 2 ^ 64 → j ≡ right_of w n
right_place w n j hw hn e = omega arith

-- SPLITTING: the whole chunk is used; or the rest is a free chunk, listed
pub excess_whole : (r : Record) (ws ws1 : List ℕ) (w n z e j : ℕ)
    → w < 2 ^ 32 → n < 2 ^ 32 → e ≡ n - z → e < 12 → j ≡ right_of w n % 2 ^ 64 → ws1 ≡ changed left_used ws j
    → seen r ws1 ≡ return_excess base (seen r ws) w n z
unfolding return_excess set_left changed
excess_whole r ws ws1 w n z e j hw hn ee h ej e1 =
    let k : n < z + 12 = omega arith in
    rw (lt-leb _ _ k, e1, right_place w n j hw hn ej)

pub excess_cut : (r q : Record) (ws ws1 ws2 : List ℕ) (w n z e j k x : ℕ)
    → w + n / 4 + 6 < 65536 → z < 2 ^ 32 → e ≡ n - z → 12 ≤ e → j ≡ right_of w z % 2 ^ 64 → ws1 ≡ freed_in ws j e
    → k ≡ class_of e → x ≡ held_name links j → seen q ws2 ≡ link base (seen r ws1) k x → seen q ws2 ≡ return_excess base (seen r ws) w n z
unfolding return_excess mark_free freed
excess_cut r q ws ws1 ws2 w n z e j k x hw hz ee h ej e1 ek ex eq =
    let c : z + 12 ≤ n = omega arith in
    let pj : j ≡ right_of w z = right_place w z j (omega arith) hz ej in
    let px : x ≡ j + 6 = held_name_lem j x (omega arith) ex in
    let tags : ws1 ≡ freed ws j e = e1 ∙ freed_plain ws j e (omega arith) (omega arith) in
    rw (le-leb _ _ c) (eq ∙ rw (tags, ek, px, pj, ee) refl)

-- TAKING
pub take_by : (r a q : Record) (ws ws1 ws2 ws3 : List ℕ) (x w n z m : ℕ) → 6 ≤ x → w ≡ x - 6 → seen a ws1 ≡ unlink base (seen r ws) x → m ≡ portion n z
    → ws2 ≡ set ws1 w (header_of m true true) → seen q ws3 ≡ return_excess base (seen a ws2) w n z → seen q ws3 ≡ take_chunk base (seen r ws) (x - 6) n z
unfolding take_chunk mark_used
take_by r a q ws ws1 ws2 ws3 x w n z m hx ew ea em e2 eq =
    let ex : x - 6 + 6 ≡ x = omega arith in
    eq ∙ rw (e2, em) (ap (λ (s : State). return_excess base (base.set_word s w (header_of (portion n z) true true)) w n z) ea ∙ rw (ex, ew) refl)

-- A FREE CHUNK TAGGED AND LISTED
pub free_listed_by : (r q : Record) (ws ws1 ws2 ws3 : List ℕ) (i m j k l : ℕ) → i + 6 < 65536 → m < 2 ^ 32
    → ws1 ≡ freed_in ws i m → j ≡ right_of i m % 2 ^ 64 → ws2 ≡ changed left_freed ws1 j → k ≡ class_of m → l ≡ held_name links i
    → seen q ws3 ≡ link base (seen r ws2) k l → seen q ws3 ≡ free_listed (seen r ws) i m
unfolding free_listed clear_left mark_free freed changed
free_listed_by r q ws ws1 ws2 ws3 i m j k l hi hm e1 ej e2 ek el eq =
    let pl : l ≡ i + 6 = held_name_lem i l hi el in
    let pj : j ≡ right_of i m = right_place i m j (omega arith) hm ej in
    let tags : ws1 ≡ freed ws i m = e1 ∙ freed_plain ws i m (omega arith) hm in
    eq ∙ rw (ek, pl, e2, tags, pj) refl

-- RELEASING: the merged chunk lies in the space that links can name, and so do its free neighbours
free_named : (f x : ℕ) → 6 ≤ x → IfSome (link_if_free f x) (λ l. 6 ≤ l.0)
free_named zero x h = tt
free_named (suc f) x h = h

pub release_room : (ws : List ℕ) (x n : ℕ) (g : Merged) → Releasable ws x n → g ≡ merged_in ws x n
    → (g.hdr.0 + 6 < 65536) × IfSome g.left (λ l. 6 ≤ l.0) × IfSome g.right (λ l. 6 ≤ l.0)
release_room ws x n g h e =
    let p = h.chunk in
    let q = h.right in
    rw (e ∙ merged_plain ws x n h) (omega arith, free_named _ _ (omega arith), free_named _ _ (omega arith))

-- both leave their lists where they are free, as the rules' merging has it
merge_on : (s : State) (f g x y : ℕ) → unlink_if (unlink_if s (link_if_free f x)) (link_if_free g y) ≡ merge base (ltb 0 f) (ltb 0 g) s x y
unfolding merge unlink_if
merge_on s zero zero x y = refl
merge_on s (suc f) zero x y = let a : ltb 0 (suc f) ≡ true = lt-ltb 0 (suc f) (omega arith) in rw a refl
merge_on s zero (suc g) x y = let b : ltb 0 (suc g) ≡ true = lt-ltb 0 (suc g) (omega arith) in rw b refl
merge_on s (suc f) (suc g) x y =
    let a : ltb 0 (suc f) ≡ true = lt-ltb 0 (suc f) (omega arith) in
    let b : ltb 0 (suc g) ≡ true = lt-ltb 0 (suc g) (omega arith) in
    rw (a, b) refl

-- what is tagged and listed in the end is the rules' merged chunk, and that is the release of the chunk between its free neighbours
merged_by_lem : (s u : State) (w f n g : ℕ) → u ≡ merge base (ltb 0 f) (ltb 0 g) s (w - f / 4 + 6) (right_of w n + 6)
    → free_listed u (w - f / 4) (f + (n + g)) ≡ merged base s w f n g
unfolding merged free_listed
merged_by_lem s u w f n g eu = rw eu

released_between : (r : Record) (ws : List ℕ) (w n : ℕ)
    → merged base (seen r ws) w (left_free_in ws w) n (right_free_in ws (right_of w n)) ≡ release_chunk base (seen r ws) w n
unfolding release_chunk left_free right_free left_free_in right_free_in
released_between r ws w n = refl

pub release_by : (r a q : Record) (ws ws1 ws2 : List ℕ) (x n : ℕ) (g : Merged) → Releasable ws x n → g ≡ merged_in ws x n
    → seen a ws1 ≡ unlink_if (unlink_if (seen r ws) g.left) g.right
    → seen q ws2 ≡ free_listed (seen a ws1) g.hdr.0 g.size → seen q ws2 ≡ release_chunk base (seen r ws) (x - 6) n
release_by r a q ws ws1 ws2 x n g h eg ea eq =
    let w = x - 6 in
    let f = left_free_in ws w in
    let e = right_free_in ws (right_of w n) in
    let plain : g ≡ plain_by w f n e = eg ∙ merged_plain ws x n h in
    let off : seen a ws1 ≡ merge base (ltb 0 f) (ltb 0 e) (seen r ws) (w - f / 4 + 6) (right_of w n + 6) =
    rw plain at ea ∙ merge_on (seen r ws) f e (w - f / 4 + 6) (right_of w n + 6) in
    let listed : seen q ws2 ≡ free_listed (seen a ws1) (w - f / 4) (f + (n + e)) = rw plain at eq in
    listed ∙ merged_by_lem (seen r ws) (seen a ws1) w f n e off ∙ released_between r ws w n

-- SEARCHING as the code walks, on a record and its words
pub walked : (r : Record) (ws : List ℕ) (z : ℕ) (f : Found)
    → f ≡ search_all (walk_in (numbers r.next) ws z (length ws / 4)) (6 - start_of z) (start_of z) 0 → f ≡ walked_fit base (seen r ws) z
unfolding walked_fit walk_in
walked r ws z f e = e

-- by what it found: none, or a chunk
pub met : (r : Record) (ws : List ℕ) (z c : ℕ) (a b : Option Link)
    → told_at a c ≡ search_all (walk_in (numbers r.next) ws z (length ws / 4)) (6 - start_of z) (start_of z) 0
    → a ≡ b → told_at b c ≡ walked_fit base (seen r ws) z
met r ws z c a b e h = walked r ws z (told_at b c) (sym (ap (λ (o : Option Link). told_at o c) h) ∙ e)

-- EMPTYING, on record and words
cleared_seen : (r : Record) (ws : List ℕ) (i k : ℕ) → seen r (cleared_in ws i k) ≡ cleared base (seen r ws) i k
unfolding cleared cleared_in
cleared_seen r ws i zero = refl
cleared_seen r ws i (suc k) = cleared_seen r (set ws i 0) (suc i) k

pub emptied_seen : (r : Record) (ws : List ℕ) (w n : ℕ) → seen r (emptied_in ws w n) ≡ emptied base (seen r ws) w n
unfolding emptied emptied_in
emptied_seen r ws w n = cleared_seen r ws (suc w) (n / 4 - 1)
