-- A RUN: what is known of it, although no contract can say what is read and written. As many bytes as were counted as read have had their turns, none
-- left out and none twice; and as many bytes were handed over as the trace of them has.
use Rattle.std.specs.Prelude.{◌≡◌, ◌≢◌, Bool, true, List, [], ℕ, ◌+◌, ◌*◌, ◌≤◌, length}
use Rattle.rules.specs.Rules.Making.{empty}
use Rattle.feed.specs.Feeding.{Stand, standing, steps}
use Rattle.feed.specs.Trace.{trace_of}
use Rattle.stream.specs.declared.step.Course.TheVariants.{Failed}
use Rattle.stream.specs.declared.step.Stream.{Stream}

-- how many bytes are read at most
abbrev pub most : ℕ
most = 970881267037344820

-- before the first byte: the empty record, no line, no answer
abbrev pub at_first : List ℕ → Stand
at_first memory = record { heap = empty memory; line = []; out = [] }

-- WHERE A RUN STANDS: record, memory and the line that has begun are those after the bytes read
pub record Ran (places : ℕ) (memory : List ℕ) (s : Stream) (memory' : List ℕ) : Type 0 where
  pub input : List ℕ
  pub answers : List ℕ
  pub stands : standing s.trace memory' answers ≡ steps places (at_first memory) input
  pub counted : length input + s.left ≡ most

-- the same on the way: if answers are wanted, they were handed over, at most nineteen bytes for each byte
pub record Going (places : ℕ) (answering : Bool) (memory : List ℕ) (s : Stream) (memory' : List ℕ) : Type 0 where
  pub ran : Ran places memory s memory'
  pub written : answering ≡ true → s.written ≡ length ran.answers
  pub bound : s.written ≤ 19 * length ran.input

-- ALL ANSWERED: if nothing failed, as many bytes were handed over as the trace of the input has
pub record Answered (places : ℕ) (answering : Bool) (memory : List ℕ) (r : Stream) (memory' : List ℕ) : Type 0 where
  pub ran : Ran places memory r memory'
  pub written : answering ≡ true → r.course ≢ Failed → r.written ≡ length (trace_of places memory ran.input)
