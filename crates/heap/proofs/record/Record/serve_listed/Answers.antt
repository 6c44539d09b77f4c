-- `heap::record::Record::serve_listed` meets its contract: a law for each answer of the search; soundness keeps the counts in range.
use mathlib.Core.Path.{refl}
use native.Mathlib.Omega.{arith}
use Rattle.heap.proofs.Joins.{walked, met}
use Rattle.heap.proofs.Answers.{never_lost, met_few, missed, fitting, listed_nowhere, listed_found}
use Rattle.heap.proofs.record.Record.serve_listed.Goals as goal

pub returns-in_err-found : goal.returns-in_err-found
returns-in_err-found c = absurd (never_lost c.args.self _ _ c.requires (walked _ _ _ _ c.in_err-found.ensures))

pub overflow_cast-c : goal.overflow_cast-c
overflow_cast-c c =
    let few = met_few c.args.self _ _ c.requires _ _ (met _ _ _ _ _ _ c.in_ok-found.ensures refl) in
    record { fits = omega arith }

pub take_found-requires : goal.take_found-requires
take_found-requires c = fitting c.args.self _ _ c.requires _ _ (met _ _ _ _ _ _ c.in_ok-found.ensures c.in-Some.is)

pub serve_merged-requires : goal.serve_merged-requires
serve_merged-requires c = missed c.args.self _ _ c.requires _ (met _ _ _ _ _ _ c.in_ok-found.ensures c.in-None.is)

pub returns-in-Some : goal.returns-in-Some
returns-in-Some c =
    listed_found c.args.self _ _ c.requires _ _ _ (met _ _ _ _ _ _ c.in_ok-found.ensures c.in-Some.is) c.take_found.ensures

pub returns-in-None : goal.returns-in-None
returns-in-None c =
    listed_nowhere c.args.self _ _ c.requires _ _ (met _ _ _ _ _ _ c.in_ok-found.ensures c.in-None.is) c.serve_merged.ensures
