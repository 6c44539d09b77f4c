-- `replay::replay` is safe and ends. Measure: the bytes that may still be read, and one turn more.
use Rattle.stream.proofs.Laws.{turns_left}
use Rattle.replay.proofs.replay.Given as goal

abbrev pub decreases-loop-s : goal.decreases-loop-s
decreases-loop-s g l = turns_left l.s
