-- BYTES IN, BYTES OUT, where they are known, as those of a reader and a writer over memory are: what the reader lost is what was fed, and what the writer got
-- is what was answered. Of standard input and standard output no bytes are known, and nothing is said of them here.
use Rattle.std.specs.Prelude.{◌≡◌, ◌≢◌, Bool, true, false, Option, List, ℕ, ◌<◌}
use Rattle.std.specs.Io.KnownBytes.{Keeps, Appends, Consumes, IsAtEnd}
use Rattle.feed.specs.Feeding.{standing, steps}
use Rattle.feed.specs.Trace.{trace_of}
use Rattle.stream.specs.declared.step.Course.TheVariants.{Ended, Failed}
use Rattle.stream.specs.declared.step.Stream.{Stream}
use Rattle.stream.specs.Stepping.{Takes}
use Rattle.stream.specs.Ran.{at_first}

-- A READ: unless it failed, the piece is what the reader lost, and where it gave nothing to a buffer of some bytes, the reader is at its end
pub record Reads (places : ℕ) (s : Stream) (memory : List ℕ) (r : Stream) (memory' out' : List ℕ) (room : ℕ) (left left' : Option (List ℕ)) : Type 0 where
  pub piece : List ℕ
  pub takes : Takes places s piece memory r memory' out'
  pub lost : r.course ≢ Failed → Consumes left left' piece
  pub at_end : r.course ≡ Ended → 0 < room → IsAtEnd left'

-- A WRITE: unless it failed, the writer got the bytes, and the run is as it was
pub record Wrote (s : Stream) (bytes : List ℕ) (r : Stream) (held held' : Option (List ℕ)) : Type 0 where
  pub same : r.course ≢ Failed → r.course ≡ s.course
  pub got : r.course ≢ Failed → Appends held held' bytes

-- ON THE WAY: what the reader lost has had its turns; the writer got the answers if they are wanted, and nothing if they are not
pub record Carried (places : ℕ) (answering : Bool) (memory : List ℕ) (s : Stream) (memory' : List ℕ)
    (room : ℕ) (left left' held held' : Option (List ℕ)) : Type 0 where
  pub input : List ℕ
  pub answers : List ℕ
  pub stands : standing s.trace memory' answers ≡ steps places (at_first memory) input
  pub lost : s.course ≢ Failed → Consumes left left' input
  pub at_end : s.course ≡ Ended → 0 < room → IsAtEnd left'
  pub got : s.course ≢ Failed → answering ≡ true → Appends held held' answers
  pub quiet : answering ≡ false → Keeps held held'

-- THE WHOLE INPUT: it has had its turns, and its trace is what the writer got
pub record Through (places : ℕ) (answering : Bool) (memory input : List ℕ) (r : Stream) (memory' : List ℕ) (held held' : Option (List ℕ)) : Type 0 where
  pub answers : List ℕ
  pub stands : standing r.trace memory' answers ≡ steps places (at_first memory) input
  pub got : answering ≡ true → Appends held held' (trace_of places memory input)
  pub quiet : answering ≡ false → Keeps held held'
