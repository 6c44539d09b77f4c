-- ONE TURN OF THE TRACE (document 01, "Trace frames"), by the rules' own functions. A state here is the record and the WHOLE memory: the heap in use is the
-- memory's first words, as many as the record says, and after a turn an outcome's state holds every word of the memory.
use Rattle.std.specs.Prelude.{List, ◌++◌, ℕ, eqb, leb, length, take, drop}
use Rattle.words.specs.Choice.{pick}
use Rattle.words.specs.Links.{narrow}
use Rattle.rules.specs.Rules.Calls.{Outcome, says}
use Rattle.rules.specs.Rules.Making.{State, make}
use Rattle.rules.specs.Demands.Meaning.{hand, back}
use Rattle.heap.specs.Seen.{base}
use Rattle.frame.specs.declared.line.Request.{Request}
use Rattle.frame.specs.declared.line.Request.TheVariants.{Make, HandOut, TakeBack}
use Rattle.std.specs.Prelude.{Option, Some, None}

-- the same record over other words
abbrev pub with_words : State → List ℕ → State
with_words s ws = record { prevs = s.prevs; nexts = s.nexts; words = ws; rest = s.rest }

-- an outcome on lent words, followed by the words of the memory that were not lent
abbrev pub before : Outcome State → List ℕ → Outcome State
before o ws = says o.number o.value o.compared (with_words o.after (o.after.words ++ ws))

-- a call on the first n words of the memory (on all of them, if there are fewer); the words after them are kept
unfoldable pub on_first : ℕ → (State → Outcome State) → State → Outcome State
on_first n call s = before (call (with_words s (take n s.words))) (drop n s.words)

-- after a 6 the heap in use goes on: record and memory are as they were
abbrev pub going_on : State → Outcome State → Outcome State
going_on s o = pick (eqb o.number 6) (says 6 0 0 s) o

-- making a heap of n words: 6 if the memory has fewer, else as the rules make a heap of its first n words
unfoldable pub making : State → ℕ → Outcome State
making s n = pick (leb n (length s.words)) (going_on s (on_first n (λ t. make narrow 65529 t.words) s)) (says 6 0 0 s)

-- a request, with this many cache places: making, or one of the rules' calls on the heap in use
abbrev pub asked : ℕ → State → Request → Outcome State
asked places s (Make n) = making s n
asked places s (HandOut size) = on_first s.rest.words (λ t. hand base 65529 places t size) s
asked places s (TakeBack p) = on_first s.rest.words (λ t. back base 65529 places t p) s

-- THE TURN of a line: a line that is no frame gets 7, and nothing changes
abbrev pub turned : ℕ → State → Option Request → Outcome State
turned places s None = says 7 0 0 s
turned places s (Some q) = asked places s q

-- how many words the code lends of a memory that has `most`: the first n, or all
abbrev pub lent_of : ℕ → ℕ → ℕ
lent_of n most = pick (leb n most) n most
