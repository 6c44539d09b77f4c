-- WHAT A CALLER IN C SEES: an answer of the heap or the map as document 01's three numbers, a reply and what the call leaves as the rules' outcome, the
-- mark in plain numbers, and making over an existing record.
use Rattle.std.specs.Prelude.{ℕ, ◌<◌, ℤ, eqb, pos, length, Option, None, Some, Result}
use Rattle.words.specs.Choice.{pick}
use Rattle.words.specs.Links.{narrow}
use Rattle.rules.specs.Rules.Calls.{Outcome, says}
use Rattle.rules.specs.Rules.Making.{State, make, acceptedᵇ}
use Rattle.heap.specs.declared.record.Record.{Record}
use Rattle.heap.specs.declared.record.Marked.{Marked}
use Rattle.map.specs.declared.refusal.Refusal.{Refusal as MapRefusal}
use Rattle.map.specs.Answer.{value}
use Rattle.door.specs.declared.reply.Reply.{Reply}
use Rattle.door.specs.declared.reply.Marking.{Marking}

-- the reply with these three numbers
abbrev pub three_of : ℕ → ℕ → ℕ → Reply
three_of n v c = record { number = n; value = v; compared = c }

-- the count of chunks, or of lines, that comes with a map's answer fits 32 bits
abbrev pub Counted : Result ℕ MapRefusal → Type 0
Counted a = value a < 4294967296

-- a reply and what the call leaves: the state, or the room that was lent
abbrev pub replied : {S : Type 0} → Reply → S → Outcome S
replied r s = says r.number r.value r.compared s

-- the mark in plain numbers, with a record
abbrev pub marking_of : Option ℤ → Record → Marking
marking_of None r = record { mark = pos 0; changed = 0; rec = r }
marking_of (Some n) r = record { mark = n; changed = 1; rec = r }

-- what the mark of a record says in plain numbers
abbrev pub marking_by : Marked → Marking
marking_by m = marking_of m.mark m.rec

-- MAKING OVER an existing record, of as many words as the caller says: if these are not as many as are lent, or no accepted length, 6, and all stays
-- as it was; else the rules' making, which takes no record
unfoldable pub make_over : State → ℕ → Outcome State
make_over s n =
    let made = pick (acceptedᵇ 65529 n) (make narrow 65529 s.words) (says 6 0 0 s) in
    pick (eqb n (length s.words)) made (says 6 0 0 s)
