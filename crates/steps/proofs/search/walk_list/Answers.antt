-- `steps::search::walk_list` meets its contract; Invariants.antt says what its loop keeps.
use Rattle.std.proofs.Common.{sym, ◌∙◌, arith}
use Rattle.steps.proofs.Walks.{walk_start, walk_end, walk_lost, walk_fits, walk_on}
use Rattle.steps.proofs.search.walk_list.Goals as goal

pub loop-next-init : goal.loop-next-init
loop-next-init c = (walk_start _ _ _ _ _ _ _ c.node_link-l.ensures, omega arith)

pub returns-then-limit-k : goal.returns-then-limit-k
returns-then-limit-k c = sym (c.loop-next.invariant.0 ∙ walk_lost _ _ _ _ _ _ _ (sym c.ne.ensures ∙ c.loop-next-test.true) c.if-limit-k.true)

pub returns-then-size-get_hdr_chunk_size : goal.returns-then-size-get_hdr_chunk_size
returns-then-size-get_hdr_chunk_size c =
    sym
    (c.loop-next.invariant.0 ∙ walk_fits _ _ _ _ _ _ _ _ _
    c.from.ensures c.get_hdr_chunk_size.ensures
    (sym c.ne.ensures ∙ c.loop-next-test.true) c.if-limit-k.false c.if-size-get_hdr_chunk_size.true)

pub loop-next-preserved : goal.loop-next-preserved
loop-next-preserved c = (
  c.loop-next.invariant.0 ∙ walk_on _ _ _ _ _ _ _ _ _ _
      c.from.ensures c.get_hdr_chunk_size.ensures c.node_link-l-in-loop-next.ensures
      (sym c.ne.ensures ∙ c.loop-next-test.true) c.if-limit-k.false c.if-size-get_hdr_chunk_size.false,
  omega arith,
)

pub returns : goal.returns
returns c = sym (c.loop-next.invariant.0 ∙ walk_end _ _ _ _ _ _ _ (sym c.ne.ensures ∙ c.loop-next-test.false))
