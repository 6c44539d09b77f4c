-- HOW MANY LINES A MAP HAS. Chunks of 16 bytes at least tile the words before the guard, so a sound heap of n words has at most (n - 1) / 4 of them.
--     answer_counted    the number that comes with an answer of the map's writer fits 32 bits
--     map_replied       what is replied to the writer's answer says its outcome
--     room_suffices     room of 19 bytes for each four words before the guard is never too short
-- Assumes nothing.
use mathlib.Core.Path.{◌≡◌, refl, sym, ap, ◌∙◌}
use mathlib.Core.Bool.{Bool, true, false}
use mathlib.Core.List.{List}
use Prim.Native.Nat.{ℕ, ◌-◌, ◌*◌, ◌/◌, ◌≤◌, min}
use native.Mathlib.Omega.{arith}
use native.Mathlib.Decide.{dec_le}
use lib.ListN.{length}
use Rattle.words.specs.Choice.{bit}
use Rattle.rules.specs.Rules.Calls.{Outcome, says}
use Rattle.rules.specs.Rules.Making.{State}
use Rattle.rules.specs.Sound.Sound.{Sound}
use Rattle.rules.proofs.Tiling.Named.{chunks_few}
use Rattle.rules.proofs.Demands.Decide.{sound_true, true_sound}
use Rattle.heap.specs.Seen.{base}
use Rattle.heap.specs.Answer.{sound_at}
use Rattle.heap.proofs.Answers.{ours}
use Rattle.std.specs.Prelude.{Result}
use Rattle.map.specs.declared.refusal.Refusal.{Refusal}
use Rattle.map.specs.declared.refusal.InNumbers.{InNumbers}
use Rattle.map.specs.Answer.{number, value, told, in_numbers}
use Rattle.map.specs.Calls.{rows_of, written}
use Rattle.map.proofs.Lines.{length-map}
use Rattle.map.proofs.Maps.{map_of_sound_heap, what_is_written}
use Rattle.door.specs.declared.reply.Reply.{Reply}
use Rattle.door.specs.Reply.{three_of, Counted, replied}

-- a sound heap has a row for each four words at most
rows_few : (places : ℕ) (s : State) → Sound base 65529 places s → 4 * length (rows_of s) ≤ length s.words - 1
rows_few places s h =
    let m = h.0 in
    let rows : length (rows_of s) ≡ length m.cs = ap length (map_of_sound_heap places s m h.1).0 ∙ length-map m.figs.cached 0 m.cs in
    let fills = h.1.fills in
    omega (arith, chunks_few m.cs h.1.legal)

-- where the test says no the heap is damaged
not_sound : (places : ℕ) (s : State) → sound_at places s ≡ false → Sound base 65529 places s → ⊥
not_sound places s e h = let z : ◌≡◌ {A = ℕ} 0 1 = ap bit (sym e ∙ true_sound (ours places) s h) in omega arith

module _ (places : ℕ) (s : State) (room : List ℕ) where
  -- the number that comes with the answer is the rows', or 0
  written_few : (written places s room).value ≤ 16382
  written_few = go (sound_at places s) refl (dec_le (19 * length (rows_of s)) (length room))
    where
      is : {o : Outcome (List ℕ)} → written places s room ≡ o → (written places s room).value ≡ o.value
      is e = ap (λ (o : Outcome (List ℕ)). o.value) e

      go : (b : Bool) → sound_at places s ≡ b → Dec (19 * length (rows_of s) ≤ length room) → (written places s room).value ≤ 16382
      go true e (yes enough) =
          let h = sound_true (ours places) s e in
          let a = h.1.accepted.1 in
          omega (arith, rows_few places s h, is ((what_is_written places s room).2 h enough))
      go true e (no short) = omega (arith, is ((what_is_written places s room).1 (sound_true (ours places) s e) (omega arith)))
      go false e d = omega (arith, is ((what_is_written places s room).0 (not_sound places s e)))

  -- ROOM THAT SUFFICES
  pub room_suffices : 19 * ((length s.words - 1) / 4) ≤ length room → (written places s room).number ≡ 6 → ⊥
  room_suffices enough z = go (sound_at places s) refl
    where
      is : {o : Outcome (List ℕ)} → written places s room ≡ o → o.number ≡ 6
      is e = ap (λ (o : Outcome (List ℕ)). o.number) (sym e) ∙ z

      go : (b : Bool) → sound_at places s ≡ b → ⊥
      go true e = let h = sound_true (ours places) s e in omega (arith, is ((what_is_written places s room).2 h (omega (arith, rows_few places s h))))
      go false e = omega (arith, is ((what_is_written places s room).0 (not_sound places s e)))

-- AN ANSWER'S NUMBER FITS
pub answer_counted : (places : ℕ) (a : Result ℕ Refusal) (s : State) (room vs : List ℕ) → told a vs ≡ written places s room → Counted a
answer_counted places a s room vs e = omega (arith, ap (λ (o : Outcome (List ℕ)). o.value) e, written_few places s room)

-- so what is replied says the writer's outcome
pub map_replied : (places : ℕ) (s : State) (room vs : List ℕ) (a : Result ℕ Refusal) (n : InNumbers) (r : Reply)
    → told a vs ≡ written places s room → n ≡ in_numbers a → r ≡ three_of n.number n.value 0 → replied r vs ≡ written places s room
map_replied places s room vs a n r e f g =
    let fits : min (value a) 4294967295 ≡ value a = omega (arith, answer_counted places a s room vs e) in
    ap (λ (x : Reply). replied x vs) g ∙ ap (λ (x : InNumbers). says x.number x.value 0 vs) f ∙ ap (λ (v : ℕ). says (number a) v 0 vs) fits ∙ e
