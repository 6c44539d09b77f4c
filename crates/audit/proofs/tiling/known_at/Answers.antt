-- `audit::tiling::known_at` meets its contract: a header that is not refused is that of a used or of a free chunk.
use Rattle.audit.proofs.tiling.Headers.{known_used, known_free}
use Rattle.audit.proofs.tiling.known_at.Goals as goal

pub returns-then-h-ge2 : goal.returns-then-h-ge2
returns-then-h-ge2 c = λ left s. rw c.at-h.ensures (known_used _ _ left s (rw c.at-h.ensures at c.if-h-ge2.true))

pub returns : goal.returns
returns c = λ left s. rw c.at-h.ensures (known_free _ _ left s (rw c.at-h.ensures at c.if-h-ge2.false))
