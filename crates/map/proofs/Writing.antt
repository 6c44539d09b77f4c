-- Laws of the writer's walks, in the form that the code's tests have. Assumes nothing.
--     tile_out, tile_guard, tile_on       one turn of a walk along the headers
--     Left, chunk_left                    what is left of the bytes and of the chunks after a turn
--     drained     the turns of the iterator over the chunks
--     kind_cached, kind_live   a chunk's kind
--     lines_on, lines_out                 a turn of the writer, and its end
--     sound_short                         a sound heap's chunks end in time
--     sound_no_room, sound_done           the call's ways out for a sound heap
use mathlib.Core.Path.{◌≡◌, refl, sym, ap, ◌∙◌}
use mathlib.Core.Bool.{Bool, true, false}
use mathlib.Core.List.{List, [], ◌∷◌, ◌++◌}
use Prim.Native.Nat.{ℕ, zero, suc, ◌+◌, ◌-◌, ◌*◌, ◌/◌, ◌≤◌, ◌<◌}
use native.Mathlib.Omega.{arith}
use lib.ListN.{length, drop, length-drop}
use lib.Seq.{length-take-le}
use borrow.Rule.Slice.PartMut.{mid_of, put_mid}
use borrow.Author.Tests.{eq-eqb, ne_eqb}
use Rattle.std.specs.Iterator.{Drains}
use Rattle.words.specs.Tags.{at, length_of, freeᵇ}
use Rattle.words.specs.Numbers.{numbers}
use Rattle.cache.specs.Places.{cached_of}
use Rattle.cache.proofs.Laws.{listed_cached}
use Rattle.rules.specs.Rules.Chunks.{Chunk, total}
use Rattle.rules.specs.Rules.Calls.{says, listed}
use Rattle.rules.specs.Rules.Place.{tile}
use Rattle.rules.specs.Sound.Test.{candidate}
use Rattle.rules.specs.Rules.Making.{State}
use Rattle.rules.proofs.Demands.Decide.{sound_true, shows_candidate}
use Rattle.heap.specs.declared.record.Record.{Record}
use Rattle.heap.specs.Seen.{seen}
use Rattle.heap.specs.Answer.{sound_at}
use Rattle.heap.proofs.Answers.{ours}
use Rattle.frame.specs.Answer.{answer_bytes, answered}
use Rattle.frame.proofs.Laws.Answer.{length_answer, answered_all}
use Rattle.map.specs.declared.chunks.Chunks.{Chunks}
use Rattle.map.specs.declared.kind.ChunkKind.{ChunkKind}
use Rattle.map.specs.declared.kind.ChunkKind.TheVariants.{Live, Cached}
use Rattle.map.specs.Rows.{number_of, lines_of}
use Rattle.map.specs.Layout.{kind_of, map_of}
use Rattle.map.specs.Calls.{over, rows_of, written}
use Rattle.map.specs.Writing.{chunks_in, chunk_at}
use Rattle.map.specs.Walk.{left_of, walks}
use Rattle.map.proofs.Lines.{length_lines, length-map}
use Rattle.map.proofs.Room.{over_from, over_none, over_append}
use Rattle.map.proofs.Answers.{laid_fits, laid_short, written_sound}

-- ---- THE HEADERS

-- without fuel the walk ends
pub tile_out : (ws : List ℕ) (fuel e : ℕ) → fuel ≤ 0 → tile (at ws) fuel e ≡ []
unfolding tile
tile_out ws zero e p = refl
tile_out ws (suc fuel) e p = absurd (omega arith)

-- what a chunk of n bytes at byte e leaves to walk along
pub record Left (ws : List ℕ) (fuel e n : ℕ) : Type 0 where
  pub bytes : total (tile (at ws) fuel e) ≡ n + total (tile (at ws) (fuel - 1) (e + n))
  pub chunks : length (tile (at ws) fuel e) ≡ suc (length (tile (at ws) (fuel - 1) (e + n)))

-- the header at byte e with its length n
module _ (ws : List ℕ) (e n : ℕ) (en : n ≡ length_of (at ws (e / 4))) where
  -- without a length it is the guard's
  pub tile_guard : (fuel : ℕ) → 0 < fuel → n ≡ 0 → tile (at ws) fuel e ≡ []
  unfolding tile
  tile_guard zero p z = absurd (omega arith)
  tile_guard (suc fuel) p z = rw (← en, eq-eqb n 0 z)

  -- with one it is a chunk's, and the walk goes on
  pub tile_on : (fuel : ℕ) → 0 < fuel → (n ≡ 0 → ⊥) → tile (at ws) fuel e ≡ chunk_at ws e ∷ tile (at ws) (fuel - 1) (e + n)
  unfolding tile
  tile_on zero p z = absurd (omega arith)
  tile_on (suc fuel) p z =
      let o : suc fuel - 1 ≡ fuel = omega arith in
      rw (← en, ne_eqb n 0 z, o)

  -- its bytes and one chunk fewer are left
  pub chunk_left : (fuel : ℕ) → 0 < fuel → (n ≡ 0 → ⊥) → Left ws fuel e n
  chunk_left fuel p z =
      let t = tile_on fuel p z in
      record { bytes = ap total t ∙ ap (λ (m : ℕ). m + total (tile (at ws) (fuel - 1) (e + n))) (sym en); chunks = ap length t }

-- as many turns as chunks
pub drained : (xs : List (ℕ × ℕ)) (s : Chunks) → Drains walks s xs → length xs ≡ length (left_of s)
drained [] s d = sym (ap length (ap left_of d.1.1 ∙ d.1.2))
drained (x ∷ xs) s d =
    let turn = d.1.1 in
    ap suc (drained xs turn.0 (d.0, (d.1.0, turn.2, d.1.2))) ∙ sym (ap length turn.1.2)

-- ---- THE ROOM

-- a line put at place i
line_put : (room x : List ℕ) (i w k e n : ℕ) → w ≡ 19 → i + 19 ≤ length room → x ≡ answered (mid_of i w room) k e n
    → put_mid i w room x ≡ over_from i (answer_bytes k e n) room
unfolding over_from over
line_put room x i w k e n ew h ex =
    let m : length (mid_of i w room) ≡ 19 = length-take-le w (drop i room) (omega (arith, length-drop i room)) ∙ ew in
    rw (ex, answered_all (mid_of i w room) k e n m, ew, length_answer k e n)

-- ---- THE KINDS

-- the chunk at byte e, where xs are the links in the cache's places
module _ (ws xs : List ℕ) (e : ℕ) where
  -- whether it is cached, by its link
  known : (t d : Bool) → t ≡ listed (e / 4 + 6) xs → t ≡ d → listed (e / 4 + 6) (cached_of xs) ≡ d
  known t d et h = listed_cached (e / 4 + 6) xs (λ z. omega arith) ∙ sym et ∙ h

  -- a cached one
  pub kind_cached : (b t : Bool) → b ≡ freeᵇ (at ws (e / 4)) → b ≡ false → t ≡ listed (e / 4 + 6) xs → t ≡ true
      → Cached ≡ kind_of (cached_of xs) e (chunk_at ws e)
  kind_cached b t eb h et q = let f : freeᵇ (at ws (e / 4)) ≡ false = sym eb ∙ h in rw (f, known t true et q)

  -- any other used one
  pub kind_live : (b t : Bool) → b ≡ freeᵇ (at ws (e / 4)) → b ≡ false → t ≡ listed (e / 4 + 6) xs → t ≡ false
      → Live ≡ kind_of (cached_of xs) e (chunk_at ws e)
  kind_live b t eb h et q = let f : freeᵇ (at ws (e / 4)) ≡ false = sym eb ∙ h in rw (f, known t false et q)

-- ---- A TURN OF THE WRITER

-- from the chunks at byte e: the line of the first, then those of the others behind it
pub lines_on : (ks ws room x : List ℕ) (cs ds : List Chunk) (e f i n : ℕ) (k : ChunkKind) (w : ℕ) → n ≡ length_of (at ws (e / 4))
    → cs ≡ chunk_at ws e ∷ ds → f ≡ e + n → k ≡ kind_of ks e (chunk_at ws e) → w ≡ 19 → i + 19 * length cs ≤ length room
    → x ≡ answered (mid_of i w room) (number_of k) e n
    → over_from i (lines_of (map_of ks e cs)) room ≡ over_from (i + 19) (lines_of (map_of ks f ds)) (put_mid i w room x)
unfolding lines_of map_of
lines_on ks ws room x cs ds e f i n k w en ecs ef ek ew h ex =
    let l : length cs ≡ suc (length ds) = ap length ecs in
    let a : List ℕ = answer_bytes (number_of k) e n in
    let t : length a ≡ 19 = length_answer (number_of k) e n in
    let rest : List ℕ = lines_of (map_of ks f ds) in
    let g : lines_of (map_of ks e cs) ≡ a ++ rest = rw (ecs, ← ek, ← en, ef) in
    ap (λ (q : List ℕ). over_from i q room) g
    ∙ over_append i a rest room (omega arith)
    ∙ ap (λ (m : ℕ). over_from (i + m) rest (over_from i a room)) t
    ∙ ap (λ (q : List ℕ). over_from (i + 19) rest q) (sym (line_put room x i w (number_of k) e n ew (omega arith) ex))

-- after the last chunk nothing is left to write
pub lines_out : (ks room : List ℕ) (e i : ℕ) (cs : List Chunk) → cs ≡ [] → over_from i (lines_of (map_of ks e cs)) room ≡ room
unfolding lines_of map_of
lines_out ks room e i cs z = ap (λ (c : List Chunk). over_from i (lines_of (map_of ks e c)) room) z ∙ over_none i room

-- ---- THE CALL

-- a sound heap's chunks end at its guard
pub sound_short : (places : ℕ) (s : State) → sound_at places s ≡ true → total (chunks_in s.words) ≤ 262112
unfolding chunks_in candidate
sound_short places s h =
    let m = sound_true (ours places) s h in
    let q = shows_candidate (ours places) s m.0 m.1 in
    let f = q.fills in
    let a = q.accepted.1 in
    omega arith

-- a record and its words, found sound, with n chunks
module _ (places : ℕ) (r : Record) (ws room : List ℕ) (sound : sound_at places (seen r ws) ≡ true) (n : ℕ) (en : n ≡ length (chunks_in ws)) where
  -- its rows, and their bytes
  rows : length (rows_of (seen r ws)) ≡ n
  unfolding rows_of chunks_in
  rows = length-map (cached_of (numbers r.cached)) 0 (tile (at ws) (length ws) 0) ∙ sym en

  bytes : length (lines_of (rows_of (seen r ws))) ≡ 19 * n
  bytes = length_lines (rows_of (seen r ws)) ∙ ap (λ (k : ℕ). 19 * k) rows

  -- the room is too short
  pub sound_no_room : length room / 19 < n → says 6 0 0 room ≡ written places (seen r ws) room
  sound_no_room q = sym (written_sound places (seen r ws) room sound ∙ laid_short _ _ room (19 * n) bytes (omega arith))

  -- the lines stand in the room
  pub sound_done : (vs : List ℕ) → n ≤ length room / 19 → vs ≡ over (lines_of (map_of (cached_of (numbers r.cached)) 0 (chunks_in ws))) room
      → says 0 n 0 vs ≡ written places (seen r ws) room
  unfolding rows_of chunks_in
  sound_done vs q ev = rw (ev, ← rows) (sym (written_sound places (seen r ws) room sound ∙ laid_fits _ _ room (19 * n) bytes (omega arith)))
