-- DOCUMENT 01'S ANSWER NUMBERS: of each case of the answer its number, value and compared count; and an answer and the state after the call as the
-- rules' outcome.
use Rattle.std.specs.Prelude.{◌≡◌, Bool, true, ℕ, ◌≤◌, ◌%◌, List, Result, Ok, Err}
use Rattle.rules.specs.Rules.Calls.{Outcome, says, first_fit}
use Rattle.rules.specs.Rules.Search.{at, nowhere}
use Rattle.rules.specs.Rules.Making.{State}
use Rattle.rules.specs.Machine.Machine as rule
use Rattle.rules.specs.Sound.Test.{soundᵇ}
use Rattle.heap.specs.declared.answer.Done.{Done}
use Rattle.heap.specs.declared.answer.NotMade.{NotMade}
use Rattle.heap.specs.declared.answer.Refusal.{Refusal}
use Rattle.heap.specs.declared.answer.Refusal.TheVariants.{ZeroSize, TooLarge, NoFit, NotLive, Damaged, BadLength, NeverFits}
use Rattle.heap.specs.declared.answer.Told.{Told}
use Rattle.heap.specs.declared.record.Record.{Record}
use Rattle.heap.specs.Seen.{seen, base}

-- what a call answers: a handout's payload and compared count, or why it is refused
abbrev pub Answer : Type 0
Answer = Result Done Refusal

-- done, where nothing is handed out
abbrev pub just_done : Answer
just_done = Ok (record { payload = record { 0 = 0 }; compared = 0 })

-- an answer without the record that it carries: a handout's, and that of making or taking back
abbrev pub answer_of : Result (Done × Record) Refusal → Answer
answer_of (Ok d) = Ok d.0
answer_of (Err e) = Err e

abbrev pub without_value : Result Record Refusal → Answer
without_value (Ok r) = just_done
without_value (Err e) = Err e

-- the record after a call that was given r: the one that the answer carries, and r where it is refused
abbrev pub rec_of : Record → Result (Done × Record) Refusal → Record
rec_of r (Ok d) = d.1
rec_of r (Err e) = r

abbrev pub rec_after : Record → Result Record Refusal → Record
rec_after r (Ok q) = q
rec_after r (Err e) = r

-- of each refusal its number
abbrev pub number_of : Refusal → ℕ
number_of ZeroSize = 1
number_of TooLarge = 2
number_of (NoFit c) = 3
number_of NotLive = 4
number_of Damaged = 5
number_of BadLength = 6
number_of NeverFits = 8

-- and how many free chunks were compared with the rounded size
abbrev pub count_of : Refusal → ℕ
count_of ZeroSize = 0
count_of TooLarge = 0
count_of (NoFit c) = c
count_of NotLive = 0
count_of Damaged = 0
count_of BadLength = 0
count_of NeverFits = 0

-- of each answer its number; what is returned, the payload's offset for a handout, 0 otherwise; and how many free chunks were compared
abbrev pub said : Answer → rule.Answer
said (Ok d) = record { number = 0; value = d.payload.0; compared = d.compared }
said (Err e) = record { number = number_of e; value = 0; compared = count_of e }

-- its number
abbrev pub number : Answer → ℕ
number a = (said a).number

-- what is returned
abbrev pub value : Answer → ℕ
value a = (said a).value

-- how many were compared
abbrev pub compared : Answer → ℕ
compared a = (said a).compared

-- the three numbers as the code has them
abbrev pub told_of : Answer → Told
told_of a = record { number = number a; value = value a; compared = compared a }

-- an answer and the state after the call, as the rules' outcome
abbrev pub outcome : Answer → State → Outcome State
outcome a s = says (number a) (value a) (compared a) s

-- WHAT A CALL GIVES: its answer, and the record after it
pub record Out : Type 0 where
  pub answer : Answer
  pub rec : Record

-- handing out and taking back, given the record r; making is given none, so its refusal carries one
abbrev pub out_of : Record → Result (Done × Record) Refusal → Out
out_of r a = record { answer = answer_of a; rec = rec_of r a }

abbrev pub out_after : Record → Result Record Refusal → Out
out_after r a = record { answer = without_value a; rec = rec_after r a }

abbrev pub out_made : Result Record NotMade → Out
out_made (Ok r) = record { answer = just_done; rec = r }
out_made (Err e) = record { answer = Err e.refusal; rec = e.rec }

-- what handing out gives, given the record r, and the words after it as the rules' outcome
abbrev pub gives : Record → Result (Done × Record) Refusal → List ℕ → Outcome State
gives r a ws = outcome (answer_of a) (seen (rec_of r a) ws)

-- the test behind answer 5, with this many cache places
abbrev pub sound_at : ℕ → State → Bool
sound_at places s = soundᵇ base 65529 places s

-- a rounded size may be served on this state: an audit passed, and what is sound with fewer places is sound with four
pub record Served (s : State) (z : ℕ) : Type 0 where
  pub sound : sound_at 4 s ≡ true
  pub least : 16 ≤ z
  pub eights : z % 8 ≡ 0

-- the search for a rounded size on this state found the chunk that link x names
pub record Fitting (s : State) (z x : ℕ) : Type 0 where
  pub served : Served s z
  pub met : ℕ
  pub found : first_fit base s z ≡ at x met

-- or it compared c chunks and found none
pub record Missed (s : State) (z c : ℕ) : Type 0 where
  pub served : Served s z
  pub none : first_fit base s z ≡ nowhere c
