-- `stream::whole::run` meets its contract: the last answer line is handed over behind those of all pieces.
use Rattle.std.proofs.Common.{sym, ◌∙◌, arith}
use Rattle.stream.proofs.Laws.{is_course, answered_all}
use Rattle.stream.proofs.Bytes.{through_all}
use Rattle.stream.proofs.whole.run.Goals as goal

pub returns-then-eq-clause-answered : goal.returns-then-eq-clause-answered
returns-then-eq-clause-answered g c = answered_all c.finish.new.self c.read_all-s.ensures.going c.finish.ensures.writes

pub returns-then-eq-clause-bytes : goal.returns-then-eq-clause-bytes
returns-then-eq-clause-bytes g c =
    λ f. through_all c.finish.new.self _ c.read_all-s.ensures.bytes (is_course _ _ (sym c.eq.ensures ∙ c.if-eq.true)) (omega arith) c.if-answering.true
    c.finish.ensures.writes.trace f c.finish.ensures.bytes
