-- WHAT THE MAP'S CALLS ALLOW: one outcome each, and after a refusal the room as it was. A caller knows of a call only its contract. Assumes nothing.
--     write_map_determined, read_map_determined     any two outcomes that a contract allows coincide
--     write_map_refused, read_map_refused     after every answer but 0 the lent room is as it was
use mathlib.Core.Path.{◌≡◌, refl, sym, ap, ◌∙◌}
use mathlib.Core.Logic.{◌≢◌}
use mathlib.Core.Bool.{Bool, true, false}
use mathlib.Core.List.{List}
use Prim.Native.Nat.{ℕ, zero, suc}
use lib.Dec.{leb}
use lib.ListN.{length}
use Rattle.std.specs.Prelude.{Result, Ok, Err}
use Rattle.words.specs.Choice.{pick}
use Rattle.rules.specs.Rules.Calls.{Outcome, says}
use Rattle.heap.specs.declared.record.Record.{Record}
use Rattle.heap.specs.Seen.{seen}
use Rattle.heap.specs.Answer.{sound_at}
use Rattle.map.specs.declared.refusal.Refusal.{Refusal}
use Rattle.map.specs.declared.refusal.Refusal.TheVariants.{Damaged, NoRoom, BadLine}
use Rattle.map.specs.Rows.{lines_of, words_of}
use Rattle.map.specs.Answer.{number, value, told}
use Rattle.map.specs.Reading.{Read, rows, bad, read_all}
use Rattle.map.specs.Calls.{over, laid, rows_of, written, read_into}

-- the contract of `write_map` (src/write.rt), with this many cache places: the record r, the words ws and the room give the answer a and leave the room b
abbrev pub WritesMap : ℕ → Record → List ℕ → List ℕ → Result ℕ Refusal → List ℕ → Type 0
WritesMap places r ws room a b = told a b ≡ written places (seen r ws) room

-- the contract of `read_map` (src/read.rt)
abbrev pub ReadsMap : ℕ → List ℕ → List ℕ → Result ℕ Refusal → List ℕ → Type 0
ReadsMap places bytes room a b = told a b ≡ read_into (read_all 65529 places bytes) room

-- an answer is known by its two numbers
abbrev answer_of_lem : ℕ → ℕ → Result ℕ Refusal
answer_of_lem zero v = Ok v
answer_of_lem (suc zero) v = Err Damaged
answer_of_lem (suc (suc zero)) v = Err Damaged
answer_of_lem (suc (suc (suc zero))) v = Err Damaged
answer_of_lem (suc (suc (suc (suc zero)))) v = Err Damaged
answer_of_lem (suc (suc (suc (suc (suc zero))))) v = Err Damaged
answer_of_lem (suc (suc (suc (suc (suc (suc zero)))))) v = Err NoRoom
answer_of_lem (suc (suc (suc (suc (suc (suc (suc n))))))) v = Err (BadLine v)

-- its two numbers give the answer back
answer_back : (a : Result ℕ Refusal) → answer_of_lem (number a) (value a) ≡ a
answer_back (Ok n) = refl
answer_back (Err Damaged) = refl
answer_back (Err NoRoom) = refl
answer_back (Err (BadLine k)) = refl

-- what is told equally is the same
told_same : (a b : Result ℕ Refusal) (x y : List ℕ) → told a x ≡ told b y → (a ≡ b) × (x ≡ y)
told_same a b x y e = (
  sym (answer_back a) ∙ ap (λ (o : Outcome (List ℕ)). answer_of_lem o.number o.value) e ∙ answer_back b,
  ap (λ (o : Outcome (List ℕ)). o.after) e,
)

-- one outcome of writing
pub write_map_determined : (places : ℕ) (r : Record) (ws room x y : List ℕ) (a b : Result ℕ Refusal)
    → WritesMap places r ws room a x
    → WritesMap places r ws room b y
    → (a ≡ b) × (x ≡ y)
write_map_determined places r ws room x y a b e d = told_same a b x y (e ∙ sym d)

-- one outcome of reading
pub read_map_determined : (places : ℕ) (bytes room x y : List ℕ) (a b : Result ℕ Refusal)
    → ReadsMap places bytes room a x
    → ReadsMap places bytes room b y
    → (a ≡ b) × (x ≡ y)
read_map_determined places bytes room x y a b e d = told_same a b x y (e ∙ sym d)

-- after every number but 0 the room is as it was
abbrev Kept : List ℕ → Outcome (List ℕ) → Type 0
Kept room o = o.number ≢ 0 → o.after ≡ room

-- no room: nothing is laid into it
laid_kept : (n : ℕ) (xs room : List ℕ) → Kept room (laid n xs room)
unfolding laid
laid_kept n xs room = go (leb (length xs) (length room))
  where
    go : (t : Bool) → Kept room (pick t (says 0 n 0 (over xs room)) (says 6 0 0 room))
    go true h = absurd (h refl)
    go false h = refl

-- writing that is refused leaves the room
pub written_kept : (places : ℕ) (r : Record) (ws room : List ℕ) → Kept room (written places (seen r ws) room)
unfolding written
written_kept places r ws room = go (sound_at places (seen r ws))
  where
    go : (t : Bool) → Kept room (pick t (laid (length (rows_of (seen r ws))) (lines_of (rows_of (seen r ws))) room) (says 5 0 0 room))
    go true = laid_kept (length (rows_of (seen r ws))) (lines_of (rows_of (seen r ws))) room
    go false = λ h. refl

-- so does reading
read_kept : (q : Read) (room : List ℕ) → Kept room (read_into q room)
read_kept (rows rs) room = laid_kept (length rs) (words_of rs) room
read_kept (bad k) room = λ h. refl

-- a refused writing changes nothing
pub write_map_refused : (places : ℕ) (r : Record) (ws room x : List ℕ) (a : Result ℕ Refusal)
    → WritesMap places r ws room a x
    → number a ≢ 0
    → x ≡ room
write_map_refused places r ws room x a e h =
    ap (λ (o : Outcome (List ℕ)). o.after) e ∙ written_kept places r ws room (λ z. h (ap (λ (o : Outcome (List ℕ)). o.number) e ∙ z))

-- a refused reading changes nothing
pub read_map_refused : (places : ℕ) (bytes room x : List ℕ) (a : Result ℕ Refusal)
    → ReadsMap places bytes room a x
    → number a ≢ 0
    → x ≡ room
read_map_refused places bytes room x a e h =
    ap (λ (o : Outcome (List ℕ)). o.after) e ∙ read_kept (read_all 65529 places bytes) room (λ z. h (ap (λ (o : Outcome (List ℕ)). o.number) e ∙ z))
