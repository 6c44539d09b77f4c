-- `heap::record::Record::let_go` meets its contract: a noted release, whose sums soundness keeps in range, and the record counted and
-- cached anew (`let_go_by`).
use Rattle.heap.proofs.Answers.{oldest_safe}
use Rattle.heap.proofs.Emptying.{let_go_by}
use Rattle.heap.proofs.record.Record.let_go.Goals as goal

pub release_noted-a-requires : goal.release_noted-a-requires
release_noted-a-requires c = (
  oldest_safe c.args.self c.args.heap.now c.requires.1 c.requires.0 _ _ c.from.ensures
      c.get_hdr_chunk_size-n.ensures,
  c.requires.2,
)

pub returns : goal.returns
returns c =
    let_go_by c.args.self c.release_noted-a.result c.count_out.result _ _ _ _ c.left_out-others.result _ _
    c.requires.0 c.requires.1 c.from.ensures c.get_hdr_chunk_size-n.ensures
    c.release_noted-a.ensures c.left_out-others.ensures c.count_out.ensures
