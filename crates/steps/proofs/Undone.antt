-- LAWS OF NOTES (specs/Undone.antt): what is noted before it is overwritten can be put back, on any words. Assumes nothing.
--     undone_none, undone_turn, _put      putting notes back: none left, and one more;  put_back_by, _all: as many as there are
--     note_past, _full, _one, _named      taking notes: past the end, in a full log, one
--     notes_more, notes_tags              more after those
--     Changed, changes_none, .._set       words that differ at some places at most, and the stores that keep to them
--     undo_by                             THE LAW: a step that stores at the noted places alone is undone by the notes
--     undo_none, undo_on, undo_whole      no step; a step after a step; all notes of a log put back
--     undo_within, room_within, room_from, room_on   looser bounds; the room from one place, and that which a step leaves
use Rattle.std.proofs.Common.{◌≡◌, ℕ, zero, suc, ◌+◌, ◌-◌, ◌*◌, ◌/◌, ◌%◌, ◌^◌, ◌<◌, ◌≤◌, min, Bool, true, false, eqb, ltb, List, [], ◌∷◌, ◌++◌, length, get_or, set, sym, refl, ap, ◌∙◌, arith, length-append, length-set, get_or-set_other, get_or-set_same, ext_get_or, ltb-false, ltb-true, eqb-true}
use mathlib.Core.List.Memᴰ
use mathlib.Core.List.{Memᴰ}
use lib.ListN.{get_or-eq_default}
use lib.Seq.{set_out}
use borrow.Author.Tests.{eqb-false}
use Rattle.words.specs.Choice.{pick}
use Rattle.words.specs.Tags.{at, header_of, right_of, footer_of, changed}
use Rattle.words.specs.Links.{Width, Side, set_link_at, set_chunk_link}
use Rattle.steps.specs.Chunk.{freed}
use Rattle.steps.specs.Undone.{undone, put_back, restored, Room, Notes, Noting, Undoes, tag_places}
use Rattle.steps.proofs.Neighbours.{footer_place}

-- PUTTING BACK: no note is left, or one more
pub undone_none : (log us : List ℕ) (k : ℕ) → k ≡ 0 → undone log k us ≡ us
unfolding undone
undone_none log us zero e = refl
undone_none log us (suc k) e = absurd (omega arith)

pub undone_turn : (log us : List ℕ) (k j : ℕ) → k ≡ j + 1 → undone log k us ≡ undone log j (set us (get_or log (2 * j) 0) (get_or log (2 * j + 1) 0))
unfolding undone
undone_turn log us zero j e = absurd (omega arith)
undone_turn log us (suc k) j e =
    let o : k ≡ j = omega arith in
    rw o

-- the same of words vs that a store made, which took the note in place i, if that is place j
pub undone_put : (log us vs : List ℕ) (k j i : ℕ) → k ≡ j + 1 → i ≡ j → vs ≡ set us (get_or log (2 * i) 0) (get_or log (2 * i + 1) 0)
    → undone log k us ≡ undone log j vs
undone_put log us vs k j i e at_j put = undone_turn log us k j e ∙ rw (sym at_j) (ap (undone log i) (sym put))

-- as many as the log has room for; all of them, where it has
pub put_back_by : (log us vs : List ℕ) (k n : ℕ) → n ≡ min k (length log / 2) → undone log n us ≡ vs → vs ≡ put_back log k us
unfolding put_back
put_back_by log us vs k n e h = sym h ∙ ap (λ (j : ℕ). undone log j us) e

pub put_back_all : (log us : List ℕ) (k : ℕ) → 2 * k ≤ length log → put_back log k us ≡ undone log k us
unfolding put_back
put_back_all log us k h =
    let all : min k (length log / 2) ≡ k = omega arith in
    rw all

-- it reads no further than its notes
undone_beyond : (log us : List ℕ) (k j v : ℕ) → 2 * k ≤ j → undone (set log j v) k us ≡ undone log k us
unfolding undone
undone_beyond log us zero j v h = refl
undone_beyond log us (suc k) j v h =
    let first : get_or (set log j v) (2 * k) 0 ≡ get_or log (2 * k) 0 = get_or-set_other log j (2 * k) v 0 (λ e. omega arith) in
    let second : get_or (set log j v) (2 * k + 1) 0 ≡ get_or log (2 * k + 1) 0 = get_or-set_other log j (2 * k + 1) v 0 (λ e. omega arith) in
    rw (first, second) (undone_beyond log (set us (get_or log (2 * k) 0) (get_or log (2 * k + 1) 0)) k j v (omega arith))

-- RESTORING places, in two runs; it keeps the length
restored_append : (us ws ps qs : List ℕ) → restored us ws (qs ++ ps) ≡ restored (restored us ws qs) ws ps
unfolding restored
restored_append us ws ps [] = refl
restored_append us ws ps (q ∷ qs) = restored_append _ ws ps qs

restored_length : (us ws ps : List ℕ) → length (restored us ws ps) ≡ length us
unfolding restored
restored_length us ws [] = refl
restored_length us ws (p ∷ ps) = restored_length _ ws ps ∙ length-set us p _

-- TAKING A NOTE: none past the end; else a pair after those that are there
pub note_past : (ws log : List ℕ) (k i : ℕ) → length ws ≤ i → Notes ws (i ∷ []) log k log k
unfolding restored
note_past ws log k i h = record {
  most = omega arith;
  back = λ us e. ap (undone log k) (sym (set_out us i (at ws i) (omega arith)));
}

pub note_full : (ws ps log after : List ℕ) (k r : ℕ) → length log / 2 ≤ k → 0 < length ps → Noting ws ps log k after r
note_full ws ps log after k r h p = λ room. let f = room.fits in absurd (omega arith)

pub note_one : (ws log : List ℕ) (k i : ℕ) → 2 * k + 1 < length log → Notes ws (i ∷ []) log k (set (set log (2 * k) i) (2 * k + 1) (at ws i)) (k + 1)
unfolding restored
note_one ws log k i h =
    let mid = set log (2 * k) i in
    let after = set mid (2 * k + 1) (at ws i) in
    let index : get_or after (2 * k) 0 ≡ i =
    get_or-set_other mid (2 * k + 1) (2 * k) (at ws i) 0 (λ e. omega arith) ∙ get_or-set_same log (2 * k) i 0 (omega arith) in
    let held : get_or after (2 * k + 1) 0 ≡ at ws i = get_or-set_same mid (2 * k + 1) (at ws i) 0 (omega (arith, length-set log (2 * k) i)) in
    let earlier : (us : List ℕ) → undone after k us ≡ undone log k us =
    λ us. undone_beyond mid us k (2 * k + 1) (at ws i) (omega arith) ∙ undone_beyond log us k (2 * k) i (omega arith) in
    record { most = omega arith; back = λ us e. undone_turn after us (k + 1) k refl ∙ rw (index, held) (earlier (set us i (at ws i))) }

-- the index as a note keeps it is the index, of a word that is there
pub note_named : (ws log : List ℕ) (k i : ℕ) → i < length ws
    → Noting ws (i ∷ []) log k (set (set log (2 * k) (i % 4294967296)) (2 * k + 1) (at ws i)) (k + 1)
note_named ws log k i h = λ room.
    let n = room.named in
    let f = room.fits in
    let same : i % 4294967296 ≡ i = omega arith in
    rw same (note_one ws log k i (omega arith))

-- notes qs after the notes ps, no word written between: the later ones are put back first
pub notes_more : (ws ps qs log mid after : List ℕ) (k r t : ℕ) → Notes ws ps log k mid r → Notes ws qs mid r after t → Notes ws (qs ++ ps) log k after t
notes_more ws ps qs log mid after k r t a b =
    let m = a.most in
    let n = b.most in
    record {
      most = omega (arith, length-append qs ps);
      back = λ us e.
          b.back us e ∙ a.back (restored us ws qs) (restored_length us ws qs ∙ e) ∙ ap (undone log k) (sym (restored_append us ws ps qs));
    }

-- a note of a place that is known by an equation; the notes of a free chunk's tags
pub note_at : (ws log after : List ℕ) (k r i j : ℕ) → Notes ws (i ∷ []) log k after r → i ≡ j → Notes ws (j ∷ []) log k after r
note_at ws log after k r i j a e = rw e at a

-- room for m notes is room for fewer
pub room_within : (m n : ℕ) (ws log : List ℕ) (k : ℕ) → n ≤ m → Room ws log k m → Room ws log k n
room_within m n ws log k l h = let f = h.fits in record { named = h.named; fits = omega arith }

-- and from the same place, however it is said
pub room_from : (n : ℕ) (ws log : List ℕ) (k r : ℕ) → r ≡ k → Room ws log k n → Room ws log r n
room_from n ws log k r e h = let f = h.fits in record { named = h.named; fits = omega arith }

-- room for the next, after notes
pub room_next : (m n : ℕ) (ws ps log mid : List ℕ) (k r : ℕ) → length ps ≡ m → Room ws log k (m + n) → length mid ≡ length log → Notes ws ps log k mid r
    → Room ws mid r n
room_next m n ws ps log mid k r e h l a =
    let f = h.fits in
    let p = a.most in
    record { named = h.named; fits = omega arith }

pub notes_tags : (ws log log1 log2 log3 : List ℕ) (k k1 k2 k3 w n f j : ℕ) → w < 2 ^ 32 → n < 2 ^ 32 → length log1 ≡ length log → length log2 ≡ length log1
    → Noting ws (w ∷ []) log k log1 k1 → f ≡ right_of w n % 2 ^ 64 - 1 → Noting ws (f ∷ []) log1 k1 log2 k2
    → j ≡ right_of w n % 2 ^ 64 → Noting ws (j ∷ []) log2 k2 log3 k3 → Noting ws (tag_places w n) log k log3 k3
notes_tags ws log log1 log2 log3 k k1 k2 k3 w n f j hw hn l1 l2 one ef two' ej three = λ room.
    let header = one (room_within 3 1 ws log k (omega arith) room) in
    let room1 = room_next 1 2 ws (w ∷ []) log log1 k k1 refl room l1 header in
    let footer = two' (room_within 2 1 ws log1 k1 (omega arith) room1) in
    let right = three (room_next 1 1 ws (f ∷ []) log1 log2 k1 k2 refl room1 l2 footer) in
    let pf : f ≡ footer_of w n = footer_place w n f hw hn ef in
    let pj : j ≡ right_of w n = omega arith in
    let two = notes_more ws (w ∷ []) (footer_of w n ∷ []) log log1 log2 k k1 k2 header (note_at ws log1 log2 k1 k2 f (footer_of w n) footer pf) in
    notes_more ws (footer_of w n ∷ w ∷ []) (right_of w n ∷ []) log log2 log3 k k2 k3 two (note_at ws log2 log3 k2 k3 j (right_of w n) right pj)

-- WORDS THAT DIFFER AT SOME PLACES AT MOST
pub record Changed (ps ws us : List ℕ) : Type 0 where
  pub long : length us ≡ length ws
  pub same : (i : ℕ) → (Memᴰ i ps → ⊥) → at us i ≡ at ws i

-- a place that is restored is one fewer
changed_back : (p : ℕ) (ps ws us : List ℕ) → Changed (p ∷ ps) ws us → Changed ps ws (set us p (at ws p))
changed_back p ps ws us c = record { long = length-set us p (at ws p) ∙ c.long; same = λ i off. by i off (eqb i p) refl }
  where
    inside : (i : ℕ) → i ≡ p → (b : Bool) → ltb p (length us) ≡ b → at (set us p (at ws p)) i ≡ at ws i
    inside i e true h = rw e (get_or-set_same us p (at ws p) 0 (ltb-true p (length us) h))
    inside i e false h =
        let past = ltb-false p (length us) h in
        let l = c.long in
        rw (e, set_out us p (at ws p) past) (get_or-eq_default us 0 past ∙ sym (get_or-eq_default ws 0 (omega arith)))

    beside : (i : ℕ) → (i ≡ p → ⊥) → (Memᴰ i ps → ⊥) → Memᴰ i (p ∷ ps) → ⊥
    beside i n off (Memᴰ.head e) = n e
    beside i n off (Memᴰ.tail m) = off m

    by : (i : ℕ) → (Memᴰ i ps → ⊥) → (b : Bool) → eqb i p ≡ b → at (set us p (at ws p)) i ≡ at ws i
    by i off true e = inside i (eqb-true i p e) (ltb p (length us)) refl
    by i off false e = get_or-set_other us p i (at ws p) 0 (eqb-false i p e) ∙ c.same i (beside i (eqb-false i p e) off)

-- with all of them restored the words are as they were
restored_whole : (ps ws us : List ℕ) → Changed ps ws us → restored us ws ps ≡ ws
unfolding restored
restored_whole [] ws us c = ext_get_or 0 us ws c.long (λ i h. c.same i (λ m. Memᴰ.not-nil m))
restored_whole (p ∷ ps) ws us c = restored_whole ps ws (set us p (at ws p)) (changed_back p ps ws us c)

-- THE LAW: a step that stores at the noted places alone is undone by the notes
pub undo_by : (ws us ps log after : List ℕ) (k r : ℕ) → Notes ws ps log k after r → Changed ps ws us → Undoes (length ps) ws log k us after r
undo_by ws us ps log after k r a c =
    record { most = a.most; back = a.back us c.long ∙ ap (undone log k) (restored_whole ps ws us c) }

-- no step, and a step after a step
pub undo_none : (n : ℕ) (ws log : List ℕ) (k : ℕ) → Undoes n ws log k ws log k
undo_none n ws log k = record { most = omega arith; back = refl }

pub undo_on : (m n : ℕ) (ws us vs log mid after : List ℕ) (k r t : ℕ)
    → Undoes m ws log k us mid r → Undoes n us mid r vs after t → Undoes (m + n) ws log k vs after t
undo_on m n ws us vs log mid after k r t a b =
    let p = a.most in
    let q = b.most in
    record { most = omega arith; back = b.back ∙ a.back }

-- a looser bound on the notes
pub undo_within : (m n : ℕ) (ws us log after : List ℕ) (k r : ℕ) → m ≤ n → Undoes m ws log k us after r → Undoes n ws log k us after r
undo_within m n ws us log after k r h a = let p = a.most in record { most = omega arith; back = a.back }

-- after a step that took m notes, there is room for n
pub room_on : (m n : ℕ) (ws us log after : List ℕ) (k r : ℕ) → Room ws log k (m + n) → length us ≡ length ws → length after ≡ length log
    → Undoes m ws log k us after r → Room us after r n
room_on m n ws us log after k r h e l u =
    let f = h.fits in
    let g = h.named in
    let p = u.most in
    record { named = omega arith; fits = omega arith }

-- the notes of a log that was empty, put back, give the words as they were
pub undo_whole : (n : ℕ) (ws us log after : List ℕ) (r : ℕ) → Undoes n ws log 0 us after r → undone after r us ≡ ws
undo_whole n ws us log after r a = a.back ∙ undone_none log ws 0 refl

-- STORES THAT KEEP TO THE PLACES ps: none; a word; a word changed; a link of a chunk; a link of a node; the tags of a free chunk
module _ (ps ws : List ℕ) where
  pub changes_none : Changed ps ws ws
  changes_none = record { long = refl; same = λ i off. refl }

  pub changes_set : (us : List ℕ) (i v : ℕ) → Memᴰ i ps → Changed ps ws us → Changed ps ws (set us i v)
  changes_set us i v m c = record {
    long = length-set us i v ∙ c.long;
    same = λ j off. get_or-set_other us i j v 0 (λ e. off (Memᴰ.cast e m)) ∙ c.same j off;
  }

  pub changes_word : (f : ℕ → ℕ) (us : List ℕ) (i : ℕ) → Memᴰ i ps → Changed ps ws us → Changed ps ws (changed f us i)
  unfolding changed
  changes_word f us i m c = changes_set us i (f (at us i)) m c

  pub changes_link : (W : Width) (a : Side) (us : List ℕ) (w l : ℕ) → Memᴰ (w + W.place a) ps → Changed ps ws us → Changed ps ws (set_link_at W a us w l)
  unfolding set_link_at
  changes_link W a us w l m c = changes_set us (w + W.place a) _ m c

  pub changes_node : (W : Width) (a : Side) (us : List ℕ) (l v : ℕ) → Memᴰ (l - 6 + W.place a) ps → Changed ps ws us
      → Changed ps ws (set_chunk_link W a us l v)
  changes_node W a us l v m c = go (ltb l 6)
    where
      go : (b : Bool) → Changed ps ws (pick b us (set_link_at W a us (l - 6) v))
      go true = c
      go false = changes_link W a us (l - 6) v m c

  pub changes_freed : (us : List ℕ) (w n : ℕ) → Memᴰ w ps → Memᴰ (footer_of w n) ps → Changed ps ws us → Changed ps ws (freed us w n)
  unfolding freed
  changes_freed us w n m f c = changes_set (set us w (header_of n false true)) (footer_of w n) n f (changes_set us w (header_of n false true) m c)
