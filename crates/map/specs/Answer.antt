-- THE ANSWER NUMBERS of the map's calls: 0 done, with the number of chunks; 5 damaged; 6 room too short; 7 a bad line, with its number.
use Rattle.std.specs.Prelude.{List, ℕ, min, Result, Ok, Err}
use Rattle.rules.specs.Rules.Calls.{Outcome, says}
use Rattle.map.specs.declared.refusal.Refusal.{Refusal}
use Rattle.map.specs.declared.refusal.Refusal.TheVariants.{Damaged, NoRoom, BadLine}
use Rattle.map.specs.declared.refusal.InNumbers.{InNumbers}

abbrev pub number : Result ℕ Refusal → ℕ
number (Ok n) = 0
number (Err Damaged) = 5
number (Err NoRoom) = 6
number (Err (BadLine k)) = 7

-- what is returned with it: the number of chunks, or of the line
abbrev pub value : Result ℕ Refusal → ℕ
value (Ok n) = n
value (Err Damaged) = 0
value (Err NoRoom) = 0
value (Err (BadLine k)) = k

-- an answer and the room after the call, as the rules write outcomes
abbrev pub told : Result ℕ Refusal → List ℕ → Outcome (List ℕ)
told a room = says (number a) (value a) 0 room

-- the two numbers as eight digits show them: no value above the largest of 32 bits
abbrev pub in_numbers : Result ℕ Refusal → InNumbers
in_numbers a = record { number = number a; value = min (value a) 4294967295 }
