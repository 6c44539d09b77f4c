-- `stream::whole::read_all` meets its contract: before the first byte, and a piece more, whose answers were handed over or are not wanted.
use Rattle.std.proofs.Common.{refl, sym, ◌∙◌, arith}
use mathlib.Core.Bool.{false≢true}
use Rattle.std.proofs.KnownBytes.{Keeps-refl}
use Rattle.stream.proofs.Laws.{is_course, going_first, going_on_lem}
use Rattle.stream.proofs.Bytes.{carried_first, carried_on}
use Rattle.stream.proofs.whole.read_all.Goals as goal

pub loop-kind-init : goal.loop-kind-init
loop-kind-init g c =
    let start = c.start-s.ensures in
    record {
      going = going_first _ _ _ start.empty.0 start.empty.1 start.empty.2 start.empty.3;
      bytes = carried_first _ _ _ _ _ _ start.empty.0 start.empty.1 start.goes;
    }

pub loop-kind-preserved-then-answering : goal.loop-kind-preserved-then-answering
loop-kind-preserved-then-answering g c =
    let was = c.loop-kind.invariant in
    let next = c.next.ensures in
    let write = c.write.ensures in
    record {
      going = going_on_lem _ _ was.going next.next write.writes.trace write.writes.left write.writes.written (λ _. refl) (omega arith);
      bytes = carried_on _ _ was.bytes (is_course _ _ (sym c.loop-kind-test.ensures)) next.bytes c.loop-kind.auto.input write.writes.trace
          write.bytes.same
          (λ _ f. write.bytes.got f)
          (λ b. absurd (false≢true (sym b ∙ c.if-answering.true)));
    }

pub loop-kind-preserved : goal.loop-kind-preserved
loop-kind-preserved g c =
    let was = c.loop-kind.invariant in
    let next = c.next.ensures in
    record {
      going = going_on_lem _ 0 was.going next.next refl refl (omega arith) (λ b. absurd (false≢true (sym c.if-answering.false ∙ b))) (omega arith);
      bytes = carried_on _ _ was.bytes (is_course _ _ (sym c.loop-kind-test.ensures)) next.bytes c.loop-kind.auto.input refl
          (λ _. refl) (λ b. absurd (false≢true (sym c.if-answering.false ∙ b))) (λ _. Keeps-refl _);
    }
