-- THE NOTED STEPS of a release store at the places that they note and nowhere else, so their notes undo them, on any words. Assumes nothing.
--     unlink_none, unlink_noted_by     a neighbour that stays; one that leaves its list
--     free_noted_by                    the merged chunk tagged and listed
--     release_noted_by                 the whole
use mathlib.Core.Path.{◌≡◌, refl, sym, ap, ◌∙◌, subst}
use Rattle.std.specs.Prelude.{Option, Some, None}
use Rattle.words.specs.declared.names.Link.{Link}
use mathlib.Core.List.{List, [], ◌∷◌, Memᴰ}
use Prim.Native.Nat.{ℕ, ◌+◌, ◌-◌, ◌^◌, ◌≤◌, ◌<◌}
use native.Mathlib.Omega.{arith}
use borrow.Author.Tests.{lt-ltb}
use lib.ListN.{get_or}
use Rattle.words.specs.Links.{narrow, prev, next, link_at, set_chunk_link}
use Rattle.words.specs.Sizes.{class_of}
use Rattle.words.specs.Tags.{right_of, left_freed, changed}
use Rattle.words.proofs.Laws.Sizes.{class_below}
use Rattle.rules.specs.Rules.Making.{State}
use Rattle.rules.specs.Rules.Steps.{unlink, link, mark_free, clear_left, release_chunk}
use Rattle.steps.specs.declared.merge.Merged.{Merged}
use Rattle.steps.specs.Chunk.{freed, Releasable}
use Rattle.steps.specs.Merged.{merged_in}
use Rattle.steps.specs.declared.undo.Log.{Log}
use Rattle.steps.specs.Log.{Logged}
use Rattle.steps.specs.Undone.{Room, tag_places}
use Rattle.steps.proofs.Undone.{Changed, room_within, room_next, notes_more, undo_by, undo_none, undo_on, changes_none, changes_word, changes_node, changes_freed}
use Rattle.heap.specs.declared.record.Record.{Record}
use Rattle.heap.specs.Seen.{seen, base}
use Rattle.heap.specs.Released.{unlink_if, free_listed}
use Rattle.heap.specs.Undoable.{Undoable, Noted}
use Rattle.heap.proofs.Joins.{prev_chunk, next_chunk, unlink_at, next_sentinel, link-at, release_by}

-- A NEIGHBOUR LEAVES ITS LIST, if there is one
pub unlink_none : (r : Record) (ws : List ℕ) (log : Log) (o : Option Link) → o ≡ None → Noted (unlink_if (seen r ws) o) 2 ws log r ws log
unfolding unlink_if
unlink_none r ws log o e = record { step = record { does = rw e; undoes = undo_none 2 ws log.notes.now log.len }; same = refl; long = refl }

-- its words: the link words of the nodes before and after
unlink_changes : (s : State) (x p n : ℕ) → 6 ≤ x → p ≡ link_at narrow prev s.words (x - 6) → n ≡ link_at narrow next s.words (x - 6)
    → Changed ((n - 6 + 1) ∷ (p - 6 + 1) ∷ []) s.words (unlink base s x).words
unlink_changes s x p n h ep en =
    let ps = (n - 6 + 1) ∷ (p - 6 + 1) ∷ [] in
    let ws = s.words in
    let one = changes_node ps ws narrow next ws p n (Memᴰ.tail (Memᴰ.head refl)) (changes_none ps ws) in
    let two = changes_node ps ws narrow prev (set_chunk_link narrow next ws p n) n p (Memᴰ.head refl) one in
    rw (unlink_at s x p n (ep ∙ sym (prev_chunk s x h)) (en ∙ sym (next_chunk s x h))) two

pub unlink_noted_by : (r q : Record) (ws us : List ℕ) (log log1 log2 : Log) (p n : ℕ) (l : Link) (o : Option Link) → o ≡ Some l → 6 ≤ l.0
    → p ≡ link_at narrow prev ws (l.0 - 6) → n ≡ link_at narrow next ws (l.0 - 6)
    → Room ws log.notes.now log.len 2 → Logged ws ((p - 6 + 1) ∷ []) log log1 → Logged ws ((n - 6 + 1) ∷ []) log1 log2
    → seen q us ≡ unlink base (seen r ws) l.0 → Noted (unlink_if (seen r ws) o) 2 ws log q us log2
unfolding unlink_if
unlink_noted_by r q ws us log log1 log2 p n l o e h ep en room one two eq =
    let x = l.0 in
    let ps = (n - 6 + 1) ∷ (p - 6 + 1) ∷ [] in
    let np = one.notes (room_within 2 1 ws log.notes.now log.len (omega arith) room) in
    let nn = two.notes (room_next 1 1 ws ((p - 6 + 1) ∷ []) log.notes.now log1.notes.now log.len log1.len refl room one.long np) in
    let both = notes_more ws ((p - 6 + 1) ∷ []) ((n - 6 + 1) ∷ []) log.notes.now log1.notes.now log2.notes.now log.len log1.len log2.len np nn in
    let words : us ≡ (unlink base (seen r ws) x).words = ap (λ (s : State). s.words) eq in
    let keeps : Changed ps ws us = rw words (unlink_changes (seen r ws) x p n h ep en) in
    record {
      step = record { does = rw e eq; undoes = undo_by ws us ps log.notes.now log2.notes.now log.len log2.len both keeps };
      same = two.same ∙ one.same;
      long = two.long ∙ one.long;
    }

-- THE MERGED CHUNK TAGGED AND LISTED: linking stores at the link words of the first one and of the chunk itself
link_changes : (ps ws : List ℕ) (s : State) (k x n : ℕ) → k < 6 → n ≡ base.next s k → Memᴰ (x - 6 + 1) ps → Memᴰ (n - 6 + 1) ps
    → Changed ps ws s.words → Changed ps ws (link base s k x).words
link_changes ps ws s k x n hk en mx mn c =
    let head : Changed ps ws (set_chunk_link narrow next s.words k x) = rw (lt-ltb k 6 hk) c in
    let first = changes_node ps ws narrow prev _ n x mn head in
    let own = changes_node ps ws narrow next _ x n mx first in
    rw (link-at s k x n en) (changes_node ps ws narrow prev _ x k mx own)

-- the words with the tags of a free chunk of m bytes at word w
abbrev tagged : List ℕ → ℕ → ℕ → List ℕ
tagged ws w m = changed left_freed (freed ws w m) (right_of w m)

tagged_listed : (r : Record) (ws : List ℕ) (w m : ℕ) → free_listed (seen r ws) w m ≡ link base (seen r (tagged ws w m)) (class_of m) (w + 6)
unfolding free_listed clear_left mark_free freed changed
tagged_listed r ws w m = refl

listed_changes : (r : Record) (ws : List ℕ) (w m f : ℕ) → f ≡ (get_or r.next (class_of m) (record { 0 = 0 })).0
    → Changed ((w + 1) ∷ (f - 6 + 1) ∷ tag_places w m) ws (free_listed (seen r ws) w m).words
listed_changes r ws w m f ef =
    let ps = (w + 1) ∷ (f - 6 + 1) ∷ tag_places w m in
    let own : w + 6 - 6 + 1 ≡ w + 1 = omega arith in
    let right = Memᴰ.tail (Memᴰ.tail (Memᴰ.head refl)) in
    let footer = Memᴰ.tail (Memᴰ.tail (Memᴰ.tail (Memᴰ.head refl))) in
    let header = Memᴰ.tail (Memᴰ.tail (Memᴰ.tail (Memᴰ.tail (Memᴰ.head refl)))) in
    let tags : Changed ps ws (tagged ws w m) =
    changes_word ps ws left_freed (freed ws w m) (right_of w m) right (changes_freed ps ws ws w m header footer (changes_none ps ws)) in
    let below = class_below m in
    let first : f ≡ base.next (seen r (tagged ws w m)) (class_of m) = ef ∙ next_sentinel r (tagged ws w m) (class_of m) below in
    rw (tagged_listed r ws w m)
    (link_changes ps ws (seen r (tagged ws w m)) (class_of m) (w + 6) f below first (Memᴰ.head own) (Memᴰ.tail (Memᴰ.head refl)) tags)

pub free_noted_by : (r q : Record) (ws us : List ℕ) (log log1 log2 log3 : Log) (w m c f : ℕ)
    → c ≡ class_of m → f ≡ (get_or r.next c (record { 0 = 0 })).0
    → w < 2 ^ 32 → Room ws log.notes.now log.len 5
    → (w < 2 ^ 32 → Logged ws (tag_places w m) log log1) → Logged ws ((f - 6 + 1) ∷ []) log1 log2 → Logged ws ((w + 1) ∷ []) log2 log3
    → seen q us ≡ free_listed (seen r ws) w m → Noted (free_listed (seen r ws) w m) 5 ws log q us log3
free_noted_by r q ws us log log1 log2 log3 w m c f ec ef low room three one two eq =
    let n0 = log.notes.now in
    let n1 = log1.notes.now in
    let n2 = log2.notes.now in
    let n3 = log3.notes.now in
    let ps = (w + 1) ∷ (f - 6 + 1) ∷ tag_places w m in
    let tags = (three low).notes (room_within 5 3 ws n0 log.len (omega arith) room) in
    let room2 = room_next 3 2 ws (tag_places w m) n0 n1 log.len log1.len refl room (three low).long tags in
    let first = one.notes (room_within 2 1 ws n1 log1.len (omega arith) room2) in
    let own = two.notes (room_next 1 1 ws ((f - 6 + 1) ∷ []) n1 n2 log1.len log2.len refl room2 one.long first) in
    let four = notes_more ws (tag_places w m) ((f - 6 + 1) ∷ []) n0 n1 n2 log.len log1.len log2.len tags first in
    let five = notes_more ws ((f - 6 + 1) ∷ tag_places w m) ((w + 1) ∷ []) n0 n2 n3 log.len log2.len log3.len four own in
    let words : us ≡ (free_listed (seen r ws) w m).words = ap (λ (s : State). s.words) eq in
    let keeps : Changed ps ws us = rw words (listed_changes r ws w m f (rw ec at ef)) in
    record {
      step = record { does = eq; undoes = undo_by ws us ps n0 n3 log.len log3.len five keeps };
      same = two.same ∙ one.same ∙ (three low).same;
      long = two.long ∙ one.long ∙ (three low).long;
    }

-- THE WHOLE: both neighbours leave, left before right, then the merged chunk is listed
pub release_noted_by : (r p q o : Record) (ws ws1 ws2 us : List ℕ) (log log1 log2 log3 : Log) (x n : ℕ) (g : Merged)
    → Releasable ws x n → g ≡ merged_in ws x n
    → Undoable (unlink_if (seen r ws) g.left) 2 ws log p ws1 log1
    → Undoable (unlink_if (seen p ws1) g.right) 2 ws1 log1 q ws2 log2
    → Undoable (free_listed (seen q ws2) g.hdr.0 g.size) 5 ws2 log2 o us log3
    → Undoable (release_chunk base (seen r ws) (x - 6) n) 9 ws log o us log3
release_noted_by r p q o ws ws1 ws2 us log log1 log2 log3 x n g h eg ua ub uo =
    let n0 = log.notes.now in
    let n2 = log2.notes.now in
    let off : seen q ws2 ≡ unlink_if (unlink_if (seen r ws) g.left) g.right = ub.does ∙ ap (λ (s : State). unlink_if s g.right) ua.does in
    let four = undo_on 2 2 ws ws1 ws2 n0 log1.notes.now n2 log.len log1.len log2.len ua.undoes ub.undoes in
    record {
      does = release_by r q o ws ws2 us x n g h eg off uo.does;
      undoes = undo_on 4 5 ws ws2 us n0 n2 log3.notes.now log.len log2.len log3.len four uo.undoes;
    }

-- and in one log, the right neighbour's notes after the left one's
pub release_in_log : (r p q o : Record) (ws ws1 ws2 us : List ℕ) (log log1 log2 log3 : Log) (x n k : ℕ) (g : Merged)
    → Releasable ws x n → g ≡ merged_in ws x n
    → Noted (unlink_if (seen r ws) g.left) 2 ws log p ws1 log1
    → k ≡ log1.len
    → Noted (unlink_if (seen p ws1) g.right) 2 ws1 (record { notes = log1.notes; len = k }) q ws2 log2
    → Noted (free_listed (seen q ws2) g.hdr.0 g.size) 5 ws2 log2 o us log3
    → Noted (release_chunk base (seen r ws) (x - 6) n) 9 ws log o us log3
release_in_log r p q o ws ws1 ws2 us log log1 log2 log3 x n k g h eg ua ek vb uo =
    let ub : Noted (unlink_if (seen p ws1) g.right) 2 ws1 log1 q ws2 log2 =
    subst (λ (l : ℕ). Noted (unlink_if (seen p ws1) g.right) 2 ws1 (record { notes = log1.notes; len = l }) q ws2 log2) ek vb in
    record {
      step = release_noted_by r p q o ws ws1 ws2 us log log1 log2 log3 x n g h eg ua.step ub.step uo.step;
      same = uo.same ∙ ub.same ∙ ua.same;
      long = uo.long ∙ ub.long ∙ ua.long;
    }
