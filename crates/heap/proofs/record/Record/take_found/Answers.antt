-- `heap::record::Record::take_found` meets its contract: `found_taken`, the payload of what was found emptied; soundness keeps the sums in
-- range (`take_safe`, `count_safe`).
use mathlib.Core.Path.{refl}
use Rattle.heap.proofs.Answers.{take_safe, count_safe, found_taken}
use Rattle.heap.proofs.record.Record.take_found.Goals as goal

pub take_chunk-a-requires : goal.take_chunk-a-requires
take_chunk-a-requires c =
    take_safe c.args.self c.args.heap.now c.args.z c.args.l.0 c.requires _ _
    c.from-hdr.ensures c.get_hdr_chunk_size-n.ensures

pub count_in-rec-requires : goal.count_in-rec-requires
count_in-rec-requires c =
    count_safe c.args.self c.args.heap.now c.args.z c.args.l.0 c.requires c.take_chunk-a.result _ _
    _ _ c.from-hdr.ensures c.get_hdr_chunk_size-n.ensures c.portion_of-m.ensures
    c.take_chunk-a.ensures

pub returns : goal.returns
returns c =
    found_taken c.args.self c.args.heap.now c.args.z c.args.l.0 c.requires c.take_chunk-a.result
    c.count_in-rec.result _ _ _ _ _ _ _ _ (record { payload = c.hdr_to_payload.result; compared = c.args.c }) c.from-hdr.ensures
    c.get_hdr_chunk_size-n.ensures c.portion_of-m.ensures c.take_chunk-a.ensures
    c.clear_payload.ensures c.hdr_to_right_hdr.ensures c.from-end.ensures
    c.count_in-rec.ensures c.hdr_to_payload.ensures refl
