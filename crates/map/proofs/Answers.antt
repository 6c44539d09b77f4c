-- THE CALLS' OUTCOMES, case by case. Assumes nothing.
--     laid_fits, laid_past, laid_short           what is laid into lent room, and room that is too short
--     written_sound, written_damaged             the map of a sound state, and of a damaged one
--     written_done                               answer 0: the state is sound, and its lines stand in the room
use mathlib.Core.Path.{◌≡◌, refl, sym, ap, ◌∙◌}
use mathlib.Core.Bool.{Bool, true, false}
use mathlib.Core.List.{List, ◌++◌}
use Prim.Native.Nat.{ℕ, ◌≤◌, ◌<◌}
use native.Mathlib.Omega.{arith}
use lib.Dec.{leb}
use lib.ListN.{length, drop}
use borrow.Author.Tests.{le-leb, lt-leb, leb-true}
use Rattle.words.specs.Choice.{pick}
use Rattle.rules.specs.Rules.Calls.{Outcome, says}
use Rattle.rules.specs.Rules.Making.{State}
use Rattle.heap.specs.Answer.{sound_at}
use Rattle.map.specs.Rows.{lines_of}
use Rattle.map.specs.Calls.{over, laid, rows_of, written}
use Rattle.map.proofs.Room.{over_is}

-- xs, which takes m places
module _ (n : ℕ) (xs room : List ℕ) (m : ℕ) (e : length xs ≡ m) where
  -- room enough
  pub laid_fits : m ≤ length room → laid n xs room ≡ says 0 n 0 (over xs room)
  unfolding laid
  laid_fits h = rw (le-leb (length xs) (length room) (omega arith))

  -- too short
  pub laid_short : length room < m → laid n xs room ≡ says 6 0 0 room
  unfolding laid
  laid_short h = rw (lt-leb (length xs) (length room) (omega arith))

  -- room enough: past xs it keeps its content
  pub laid_past : m ≤ length room → laid n xs room ≡ says 0 n 0 (xs ++ drop m room)
  laid_past h = laid_fits h ∙ ap (λ (x : List ℕ). says 0 n 0 x) (over_is xs room m e)

module _ (n : ℕ) (xs room : List ℕ) where
  -- 0 is answered only where it is enough
  laid_zero : (laid n xs room).number ≡ 0 → length xs ≤ length room
  unfolding laid
  laid_zero = go (leb (length xs) (length room)) refl
    where
      go : (t : Bool) → leb (length xs) (length room) ≡ t → (pick t (says 0 n 0 (over xs room)) (says 6 0 0 room)).number ≡ 0 → length xs ≤ length room
      go true e z = leb-true (length xs) (length room) e
      go false e z = absurd (let k : ◌≡◌ {A = ℕ} 6 0 = z in omega arith)

module _ (places : ℕ) (s : State) (room : List ℕ) where
  pub written_sound : sound_at places s ≡ true → written places s room ≡ laid (length (rows_of s)) (lines_of (rows_of s)) room
  unfolding written
  written_sound e = rw e

  pub written_damaged : sound_at places s ≡ false → written places s room ≡ says 5 0 0 room
  unfolding written
  written_damaged e = rw e

  -- the state is sound, and its lines stand in the room
  abbrev Done : Type 0
  Done = (sound_at places s ≡ true) × (written places s room ≡ says 0 (length (rows_of s)) 0 (over (lines_of (rows_of s)) room))

  -- answer 0
  pub written_done : (written places s room).number ≡ 0 → Done
  written_done z = go (sound_at places s) refl
    where
      go : (t : Bool) → sound_at places s ≡ t → Done
      go true e =
          let w = written_sound e in
          let f = laid_zero (length (rows_of s)) (lines_of (rows_of s)) room (ap (λ (o : Outcome (List ℕ)). o.number) (sym w) ∙ z) in
          (e, w ∙ laid_fits (length (rows_of s)) (lines_of (rows_of s)) room (length (lines_of (rows_of s))) refl f)
      go false e = absurd (let k : ◌≡◌ {A = ℕ} 5 0 = ap (λ (o : Outcome (List ℕ)). o.number) (sym (written_damaged e)) ∙ z in omega arith)
