-- WHAT `turn` ANSWERS: done or refused; in document 01's numbers; and with the record after it, as an outcome of the rules.
use Rattle.std.specs.Prelude.{Result, Ok, Err, List, ℕ}
use Rattle.rules.specs.Rules.Calls.{Outcome, says}
use Rattle.rules.specs.Rules.Making.{State}
use Rattle.heap.specs.declared.answer.Done.{Done}
use Rattle.heap.specs.declared.answer.Told.{Told}
use Rattle.heap.specs.declared.answer.Refusal as heap_refusal
use Rattle.heap.specs.declared.record.Record.{Record}
use Rattle.heap.specs.Seen.{seen}
use Rattle.heap.specs.Answer.{number_of, count_of}
use Rattle.heap.specs.Answer as heap
use Rattle.turn.specs.declared.Refusal.{Refusal}
use Rattle.turn.specs.declared.Refusal.TheVariants.{NoFrame, Heap}

-- a turn's answer
abbrev pub Answer : Type 0
Answer = Result Done Refusal

-- of each answer its number, what is returned, and how many free chunks were compared
abbrev pub told_of : Answer → Told
told_of (Ok d) = record { number = 0; value = d.payload.0; compared = d.compared }
told_of (Err NoFrame) = record { number = 7; value = 0; compared = 0 }
told_of (Err (Heap e)) = record { number = number_of e; value = 0; compared = count_of e }

-- what the heap answers, as a turn's answer
abbrev pub in_turn : heap.Answer → Answer
in_turn (Ok d) = Ok d
in_turn (Err e) = Err (Heap e)

-- a making's answer, which carries nothing
abbrev pub made : Result (Unit {0}) heap_refusal.Refusal → Answer
made (Ok u) = in_turn heap.just_done
made (Err e) = Err (Heap e)

-- A REPLY: what the answer tells, and the record after it
pub record Reply : Type 0 where
  pub number : ℕ
  pub value : ℕ
  pub compared : ℕ
  pub rec : Record

abbrev pub reply_of : Answer → Record → Reply
reply_of a r = record { number = (told_of a).number; value = (told_of a).value; compared = (told_of a).compared; rec = r }

-- a reply's answer, and the record and memory after it
abbrev pub outcome_of : Reply → List ℕ → Outcome State
outcome_of t ws = says t.number t.value t.compared (seen t.rec ws)
