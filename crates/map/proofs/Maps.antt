-- WHAT IS PROVED OF MAPS, over the definitions of `specs/` alone. The contracts say that the code computes `written` and `read_into`.
-- For any longest heap whose byte count fits eight digits, and any number of cache places:
--     reads_exactly_the_legal_maps    bytes are read as rows exactly if the rows are a legal map and the bytes are its lines
--     writing_then_reading            the lines of a legal map are read as that map
--     reading_then_writing            the lines of the rows that were read are the bytes that were read
--     bad_line_exactly                line k is refused exactly if the lines before it, if any, are a legal map, and with no row's line do they go on as one
--     read_or_refused                 all bytes are either the lines of a legal map, or have a first bad line
--     lines_tell_rows                 legal maps with the same lines are the same
--     beginning_of_a_map              the first rows of a legal map, if any, are a legal map: no line after a bad one mends it
-- For the heap of narrow links, and any number of cache places:
--     rows_tell_layout                the rows of chunks tell those chunks
--     map_of_sound_heap               the rows of a sound state are its model's chunks, with their kinds, and a legal map
--     same_map_same_heap              two sound states with the same map have the same chunks, the same of them cached
--     sound_map_read_back             the lines of a sound state's map are read as its rows
-- For the two calls, whose cases are all there are (`read_or_refused`; a state is sound or not):
--     what_is_written                 answers 5, 6 and 0 of writing, each with all that is in the room
--     what_is_read                    answers 7, 6 and 0 of reading, each with all that is in the room
--     written_map_read_back           what was written into lent bytes is read as the state's rows
-- Assumes nothing.
use mathlib.Core.Path.{◌≡◌, refl, sym, ap, ◌∙◌}
use mathlib.Core.Logic.{◌⊎◌, inl, inr}
use mathlib.Core.Bool.{Bool, true, false}
use mathlib.Core.List.{List, [], ◌++◌}
use Prim.Native.Nat.{ℕ, ◌*◌, ◌^◌, ◌≤◌, ◌<◌}
use native.Mathlib.Omega.{arith}
use lib.ListN.{length, take, drop}
use Rattle.rules.specs.Rules.Chunks.{Chunk}
use Rattle.rules.specs.Rules.Lists.{Mem}
use Rattle.rules.specs.Rules.Calls.{Outcome, says}
use Rattle.rules.specs.Rules.Making.{State}
use Rattle.rules.specs.Sound.Model.{Model}
use Rattle.rules.specs.Sound.Sound.{Shows, Sound}
use Rattle.rules.specs.Demands.Demands.{Iff}
use Rattle.rules.proofs.Demands.Decide.{sound_true, true_sound}
use Rattle.rules.proofs.Demands.Proved.{narrow_edition}
use Rattle.heap.specs.Seen.{base}
use Rattle.heap.specs.Answer.{sound_at}
use Rattle.map.specs.declared.rows.Row.{Row}
use Rattle.map.specs.Rows.{lines_of, words_of}
use Rattle.map.specs.Layout.{map_of, chunks_of, LegalMap}
use Rattle.map.specs.Reading.{Read, rows, bad, read_all}
use Rattle.map.specs.Calls.{laid, rows_of, written, read_into}
use Rattle.map.specs.Claims.{FirstBad}
use Rattle.map.proofs.Lines.{length_lines, length_words}
use Rattle.map.proofs.Room.{take_over}
use Rattle.map.proofs.Places.{map_first}
use Rattle.map.proofs.Exactly.{map_read, read_legal, bad_read, read_first}
use Rattle.map.proofs.Answers.{laid_past, laid_short, written_sound, written_damaged, written_done}
use Rattle.map.proofs.Heaps.{chunks_of_map, cached_same, chunks_shown, map_shown}

module _ (most places : ℕ) (digits : 4 * most ≤ 2 ^ 32) where
  -- bytes are read as rows exactly if the rows are a legal map and the bytes are its lines
  pub reads_exactly_the_legal_maps : (bs : List ℕ) (rs : List Row) → Iff (read_all most places bs ≡ rows rs) (LegalMap most places rs × (bs ≡ lines_of rs))
  reads_exactly_the_legal_maps bs rs =
      (read_legal most places digits bs rs, λ p. ap (read_all most places) p.1 ∙ map_read most places digits rs p.0)

  -- the lines of a legal map are read as that map
  pub writing_then_reading : (rs : List Row) → LegalMap most places rs → read_all most places (lines_of rs) ≡ rows rs
  writing_then_reading rs m = map_read most places digits rs m

  -- the lines of the rows that were read are the bytes that were read
  pub reading_then_writing : (bs : List ℕ) (rs : List Row) → read_all most places bs ≡ rows rs → lines_of rs ≡ bs
  reading_then_writing bs rs e = sym (read_legal most places digits bs rs e).1

  -- line k is refused exactly if the lines before it, if any, are a legal map, and with no row's line do they go on as one
  pub bad_line_exactly : (bs : List ℕ) (k : ℕ) → Iff (read_all most places bs ≡ bad k) (FirstBad most places bs k)
  bad_line_exactly bs k = (read_first most places digits bs k, bad_read most places digits bs k)

  -- all bytes are either the lines of a legal map, or have a first bad line
  pub read_or_refused : (bs : List ℕ) → ((rs : List Row) × LegalMap most places rs × (bs ≡ lines_of rs)) ⊎ ((k : ℕ) × FirstBad most places bs k)
  read_or_refused bs = go (read_all most places bs) refl
    where
      go : (q : Read) → read_all most places bs ≡ q → ((rs : List Row) × LegalMap most places rs × (bs ≡ lines_of rs)) ⊎ ((k : ℕ) × FirstBad most places bs k)
      go (rows rs) e = let l = read_legal most places digits bs rs e in inl (rs, l.0, l.1)
      go (bad k) e = inr (k, read_first most places digits bs k e)

  -- legal maps with the same lines are the same
  pub lines_tell_rows : (rs ts : List Row) → LegalMap most places rs → LegalMap most places ts → lines_of rs ≡ lines_of ts → rs ≡ ts
  lines_tell_rows rs ts m n e =
      same (sym (map_read most places digits rs m) ∙ ap (read_all most places) e ∙ map_read most places digits ts n)
    where
      same : ◌≡◌ {A = Read} (rows rs) (rows ts) → rs ≡ ts
      same q = cc

-- the first rows of a legal map, if any, are a legal map
pub beginning_of_a_map : (most places : ℕ) (rs ts : List Row) → LegalMap most places (rs ++ ts) → (rs ≡ []) ⊎ LegalMap most places rs
beginning_of_a_map = map_first

-- the rows of chunks tell those chunks
pub rows_tell_layout : (ks : List ℕ) (b : ℕ) (cs : List Chunk) → chunks_of (map_of ks b cs) ≡ cs
rows_tell_layout ks b cs = chunks_of_map ks b cs

-- the rows of a sound state are its model's chunks, with their kinds, and a legal map
pub map_of_sound_heap : (places : ℕ) (s : State) (m : Model) → Shows base 65529 places s m
    → (rows_of s ≡ map_of m.figs.cached 0 m.cs) × LegalMap 65529 places (rows_of s)
unfolding rows_of
map_of_sound_heap places s m h =
    let e : rows_of s ≡ map_of m.figs.cached 0 m.cs =
    λ i. map_of (h.figs i).cached 0 (chunks_shown (narrow_edition places) s m h i) in
    (e, rw e (map_shown (narrow_edition places) s m h m.figs.cached h.cache.room))

-- so two sound states with the same map have the same chunks, the same of them cached
pub same_map_same_heap : (places : ℕ) (s t : State) (m n : Model) → Shows base 65529 places s m → Shows base 65529 places t n → rows_of s ≡ rows_of t
    → (m.cs ≡ n.cs) × ((x : ℕ) → Iff (Mem x m.figs.cached) (Mem x n.figs.cached))
same_map_same_heap places s t m n h g e =
    let maps : map_of m.figs.cached 0 m.cs ≡ map_of n.figs.cached 0 n.cs =
    sym (map_of_sound_heap places s m h).0 ∙ e ∙ (map_of_sound_heap places t n g).0 in
    let chunks : m.cs ≡ n.cs = sym (chunks_of_map m.figs.cached 0 m.cs) ∙ ap chunks_of maps ∙ chunks_of_map n.figs.cached 0 n.cs in (
      chunks,
      λ x. (
        cached_same places m.figs.cached n.figs.cached m.cs h.cache (maps ∙ ap (map_of n.figs.cached 0) (sym chunks)) x,
        cached_same places n.figs.cached m.figs.cached n.cs g.cache (sym maps ∙ ap (map_of m.figs.cached 0) chunks) x,
      ),
    )

-- the lines of a sound state's map are read as its rows
pub sound_map_read_back : (places : ℕ) (s : State) → Sound base 65529 places s → read_all 65529 places (lines_of (rows_of s)) ≡ rows (rows_of s)
sound_map_read_back places s h = map_read 65529 places (omega arith) (rows_of s) (map_of_sound_heap places s h.0 h.1).1

-- WRITING: of a damaged state, of a sound one into room that is too short, and into room enough; the room past the lines keeps its content
pub what_is_written : (places : ℕ) (s : State) (room : List ℕ)
    → ((Sound base 65529 places s → ⊥) → written places s room ≡ says 5 0 0 room)
    × (Sound base 65529 places s → length room < 19 * length (rows_of s) → written places s room ≡ says 6 0 0 room)
    × (Sound base 65529 places s → 19 * length (rows_of s) ≤ length room
    → written places s room ≡ says 0 (length (rows_of s)) 0 (lines_of (rows_of s) ++ drop (19 * length (rows_of s)) room))
what_is_written places s room = (
  λ damaged. refused (sound_at places s) refl damaged,
  λ h short. sound h ∙ laid_short (length (rows_of s)) (lines_of (rows_of s)) room (19 * length (rows_of s)) (length_lines (rows_of s)) short,
  λ h enough. sound h ∙ laid_past (length (rows_of s)) (lines_of (rows_of s)) room (19 * length (rows_of s)) (length_lines (rows_of s)) enough,
)
  where
    sound : Sound base 65529 places s → written places s room ≡ laid (length (rows_of s)) (lines_of (rows_of s)) room
    sound h = written_sound places s room (true_sound (narrow_edition places) s h)

    refused : (t : Bool) → sound_at places s ≡ t → (Sound base 65529 places s → ⊥) → written places s room ≡ says 5 0 0 room
    refused true e damaged = absurd (damaged (sound_true (narrow_edition places) s e))
    refused false e damaged = written_damaged places s room e

-- READING: bytes with a first bad line, the lines of a legal map into room that is too short, and into room enough
pub what_is_read : (places : ℕ) (bs room : List ℕ)
    → ((k : ℕ) → FirstBad 65529 places bs k → read_into (read_all 65529 places bs) room ≡ says 7 k 0 room)
    × ((rs : List Row) → LegalMap 65529 places rs → bs ≡ lines_of rs → length room < 3 * length rs
    → read_into (read_all 65529 places bs) room ≡ says 6 0 0 room)
    × ((rs : List Row) → LegalMap 65529 places rs → bs ≡ lines_of rs → 3 * length rs ≤ length room
    → read_into (read_all 65529 places bs) room ≡ says 0 (length rs) 0 (words_of rs ++ drop (3 * length rs) room))
what_is_read places bs room = (
  λ k f. ap (λ (q : Read). read_into q room) (bad_read 65529 places (omega arith) bs k f),
  λ rs m e short. good rs m e ∙ laid_short (length rs) (words_of rs) room (3 * length rs) (length_words rs) short,
  λ rs m e enough. good rs m e ∙ laid_past (length rs) (words_of rs) room (3 * length rs) (length_words rs) enough,
)
  where
    good : (rs : List Row) → LegalMap 65529 places rs → bs ≡ lines_of rs → read_into (read_all 65529 places bs) room ≡ laid (length rs) (words_of rs) room
    good rs m e = ap (λ (q : Read). read_into q room) (ap (read_all 65529 places) e ∙ map_read 65529 places (omega arith) rs m)

-- what was written into lent bytes, as many lines as the answer says, is read as the state's rows
pub written_map_read_back : (places : ℕ) (s : State) (room : List ℕ) → (written places s room).number ≡ 0
    → read_all 65529 places (take (19 * (written places s room).value) (written places s room).after) ≡ rows (rows_of s)
written_map_read_back places s room z =
    let w = written_done places s room z in
    ap (λ (o : Outcome (List ℕ)). read_all 65529 places (take (19 * o.value) o.after)) w.1
    ∙ ap (read_all 65529 places) (take_over (lines_of (rows_of s)) room (19 * length (rows_of s)) (length_lines (rows_of s)))
    ∙ sound_map_read_back places s (sound_true (narrow_edition places) s w.0)
