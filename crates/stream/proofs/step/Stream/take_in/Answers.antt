-- `stream::step::Stream::take_in` meets its contract: nothing is taken at an end, else the whole piece is fed.
use Rattle.std.proofs.Common.{length, refl, ap, arith}
use Rattle.stream.specs.Stepping.{counted}
use Rattle.stream.proofs.Laws.{piece_none, piece_over, takes_end, takes_fed}
use Rattle.stream.proofs.step.Stream.take_in.Goals as goal

pub returns-in_default-clause-takes : goal.returns-in_default-clause-takes
returns-in_default-clause-takes c =
    takes_end _ _ _ _ _ _ c.end.ensures (λ e. cc)
    (piece_none _ _ c.args.got c.args.input.now refl (ap (λ r. counted r (length c.args.input.now)) c.in_default.is))

pub returns-then-count-eq0-clause-takes : goal.returns-then-count-eq0-clause-takes
returns-then-count-eq0-clause-takes c =
    takes_end _ _ _ _ _ _ c.end-then-count-eq0.ensures (λ e. cc)
    (piece_none _ c.min-count.result c.args.got c.args.input.now (rw c.in-Ok.is c.min-count.ensures) c.if-count-eq0.true)

pub returns-then-self-count-clause-takes : goal.returns-then-self-count-clause-takes
returns-then-self-count-clause-takes c =
    takes_end _ _ _ _ _ _ c.end-then-self-count.ensures (λ e. cc)
    (piece_over _ c.min-count.result c.args.got c.args.input.now (rw c.in-Ok.is c.min-count.ensures) c.if-self-count.true)

pub returns-clause-takes : goal.returns-clause-takes
returns-clause-takes c =
    let said = c.feed-fed.ensures in
    takes_fed c.args.self.now c.feed-fed.result c.args.got _ _ c.args.input.now c.args.out.now _ _
    (rw c.in-Ok.is c.min-count.ensures) (omega arith) (omega arith) c.if-self-count.false c.requires c.feed-fed.auto.out
    said.0 said.2 said.3 said.4 said.1
