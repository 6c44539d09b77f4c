-- `heap::record::Record::serve_merged` meets its contract: nothing is cached (`merged_none`), or the cache is emptied, and there
-- is a law for each answer of the search.
use Rattle.std.proofs.Common.{◌∙◌, refl, sym, arith, eqb-true}
use Rattle.std.specs.Prelude.{Some}
use Rattle.heap.proofs.Joins.{walked, met}
use Rattle.heap.proofs.Merged.{missed_few, merged_none, again_found, again_few, again_fitting, merged_found, merged_nowhere}
use Rattle.heap.proofs.record.Record.serve_merged.Goals as goal

pub overflow_add-result : goal.overflow_add-result
overflow_add-result c = omega (arith, missed_few c.args.self c.args.heap.now c.args.z _ c.requires)

pub returns-then-eq : goal.returns-then-eq
returns-then-eq c = merged_none c.args.self c.args.heap.now c.args.z _ c.requires (eqb-true _ _ (sym c.eq.ensures ∙ c.if-eq.true))

pub returns-in_err-found : goal.returns-in_err-found
returns-in_err-found c = absurd (again_found _ _ _ _ c.requires _ _ _ _ c.empty_cache-rec.ensures (walked _ _ _ _ c.in_err-found.ensures))

pub overflow_cast-compared : goal.overflow_cast-compared
overflow_cast-compared c =
    let few = again_few _ _ _ _ c.requires _ _ _ _ c.empty_cache-rec.ensures _ _ (met _ _ _ _ _ _ c.in_ok-found.ensures refl) in
    record { fits = omega arith }

pub overflow_add-compared : goal.overflow_add-compared
overflow_add-compared c =
    let few = again_few _ _ _ _ c.requires _ _ _ _ c.empty_cache-rec.ensures _ _ (met _ _ _ _ _ _ c.in_ok-found.ensures refl) in
    record { fits = omega arith }

pub take_found-requires : goal.take_found-requires
take_found-requires c =
    again_fitting _ _ _ _ c.requires _ _ _ _ c.empty_cache-rec.ensures _ _ (met _ _ _ _ _ (Some _) c.in_ok-found.ensures (cc))

pub returns-in-Some : goal.returns-in-Some
returns-in-Some c =
    merged_found c.args.self _ _ _ c.requires _ _ _ _ c.empty_cache-rec.ensures _ _ _
    (met _ _ _ _ _ (Some _) c.in_ok-found.ensures (cc)) c.take_found.ensures

pub returns-in-None : goal.returns-in-None
returns-in-None c =
    merged_nowhere c.args.self _ _ _ c.requires _ _ _ _ c.empty_cache-rec.ensures _ _ refl refl c.put_back.ensures
    (met _ _ _ _ _ _ c.in_ok-found.ensures c.in-None.is)
