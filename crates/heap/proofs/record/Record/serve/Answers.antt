-- `heap::record::Record::serve` meets its contract: the oldest cached chunk that serves, whole, its payload emptied, else what the lists give.
use native.Mathlib.Omega.{arith}
use mathlib.Core.Path.{refl, sym, ◌∙◌}
use Rattle.heap.proofs.Answers.{served_safe, served_cached, served_listed}
use Rattle.heap.proofs.record.Record.serve.Goals as goal

pub overflow_add-held : goal.overflow_add-held
overflow_add-held c =
    let self = c.args.self in
    let sum =
    served_safe self c.args.heap.now c.args.z _ c.requires (omega (arith, c.well_formed)) (sym c.in-Some.is ∙ c.choice.ensures) _ _
    (omega (arith, c.well_formed))
    c.from-hdr.ensures c.get_hdr_chunk_size-n.ensures in
    record { fits = omega (arith, sum) }

pub returns-in_default : goal.returns-in_default
returns-in_default c = served_listed c.args.self c.args.heap.now c.args.z c.requires (sym c.in_default.is ∙ c.choice.ensures) _ c.serve_listed.ensures

pub returns : goal.returns
returns c =
    let self = c.args.self in
    served_cached self c.args.heap.now c.args.z _ c.requires (omega (arith, c.well_formed)) (sym c.in-Some.is ∙ c.choice.ensures) c.with_cached.result _
    c.left_out-others.result _ _ _ (record { payload = c.hdr_to_payload.result; compared = 0 }) c.from-hdr.ensures c.get_hdr_chunk_size-n.ensures
    c.clear_payload.ensures refl c.hdr_to_payload.ensures refl c.left_out-others.ensures c.with_cached.ensures
