-- `stream::step::Stream::next` meets its contract: the piece is the one that the read's answer says.
use Rattle.std.proofs.Common.{[], refl}
use Rattle.stream.proofs.Laws.{takes_end}
use Rattle.stream.proofs.Bytes.{reads_failed, reads_taken}
use Rattle.stream.proofs.step.Stream.next.Goals as goal

pub returns-then-out-input-clause-next : goal.returns-then-out-input-clause-next
returns-then-out-input-clause-next g c = record { piece = []; takes = takes_end _ _ _ _ _ _ c.end.ensures (λ e. cc) refl }

pub returns-then-out-input-clause-bytes : goal.returns-then-out-input-clause-bytes
returns-then-out-input-clause-bytes g c = reads_failed _ _ _ _ _ _ c.end.ensures

pub returns-clause-bytes : goal.returns-clause-bytes
returns-clause-bytes g c =
    reads_taken _ _ _ c.read-got.new.buf _ _ _ _ _ c.read-got.auto.buf c.read-got.result c.read-got.ensures.bound c.read-got.ensures.bytes
    c.take_in.ensures.takes c.take_in.ensures.course
