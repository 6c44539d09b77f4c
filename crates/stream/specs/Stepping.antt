-- ONE STEP: the bytes that a read gave, counted and fed.
use Rattle.std.specs.Prelude.{◌≡◌, ◌↔◌, List, [], ℕ, ◌+◌, ◌*◌, ◌≤◌, ◌<◌, min, leb, ltb, length, take, Result, Ok, Err}
use Rattle.words.specs.Choice.{pick}
use Rattle.feed.specs.Feeding.{standing, steps}
use Rattle.stream.specs.declared.step.Course.{Course}
use Rattle.stream.specs.declared.step.Course.TheVariants.{Going, Ended, Failed}
use Rattle.stream.specs.declared.step.Stream.{Stream}

-- at an end: that of the input, or a failure
abbrev pub ended : Stream → Course → Stream
ended s c = record { trace = s.trace; left = s.left; filled = 0; written = s.written; course = c }

-- how many of n lent bytes a read gave, by its answer: none if it failed, and never more than were lent
abbrev pub counted : {E : Type 0} → Result ℕ E → ℕ → ℕ
counted (Ok k) n = min k n
counted (Err e) n = 0

-- where the read of n lent bytes leads: a failure if it failed, or gave more than may still be read; an end if it gave nothing
abbrev pub course_of : {E : Type 0} → ℕ → Result ℕ E → ℕ → Course
course_of left (Ok k) n = pick (leb (min k n) left) (pick (ltb 0 (min k n)) Going Ended) Failed
course_of left (Err e) n = Failed

-- THE PIECE that a read gave, by its answer and the buffer; none if it has more bytes than may still be read
unfoldable pub piece_of : {E : Type 0} → ℕ → Result ℕ E → List ℕ → List ℕ
piece_of left got input = pick (leb (counted got (length input)) left) (take (counted got (length input)) input) []

-- A PIECE TAKEN: it is fed and counted, each byte of it, and its answers stand at the start of the room
pub record Takes (places : ℕ) (s : Stream) (piece memory : List ℕ) (r : Stream) (memory' out' : List ℕ) : Type 0 where
  pub stands : standing r.trace memory' (take r.filled out') ≡ steps places (standing s.trace memory []) piece
  pub counts : length piece + r.left ≡ s.left
  pub goes : (r.course ≡ Going) ↔ (0 < length piece)
  pub fits : r.filled ≤ length out'
  pub each : r.filled ≤ 19 * length piece
  pub same : r.written ≡ s.written

-- A READ MADE: some piece was taken. Which one the system gave no contract can say
pub record Next (places : ℕ) (s : Stream) (memory : List ℕ) (r : Stream) (memory' out' : List ℕ) : Type 0 where
  pub piece : List ℕ
  pub takes : Takes places s piece memory r memory' out'

-- N BYTES HANDED OVER to be written: nothing else changes, except that a write that fails ends the run
pub record Writes (s : Stream) (n : ℕ) (r : Stream) : Type 0 where
  pub trace : r.trace ≡ s.trace
  pub left : r.left ≡ s.left
  pub written : r.written ≡ s.written + n
  pub goes : r.course ≡ Going → s.course ≡ Going
