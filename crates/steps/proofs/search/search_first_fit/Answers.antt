-- `steps::search::search_first_fit` meets its contract; Invariants.antt says what its loop keeps.
use Rattle.std.proofs.Common.{sym, ◌∙◌, arith}
use Rattle.steps.proofs.Walks.{walk_bound, fit_out, fit_found, fit_none, fit_lost, told_err}
use Rattle.steps.proofs.search.search_first_fit.Goals as goal

pub returns-in_err-found : goal.returns-in_err-found
returns-in_err-found c =
    let endless = c.in_err-found.ensures in
    told_err _ c.from_residual.ensures.0 ∙ sym (c.loop-class.invariant.same ∙ fit_lost _ _ _ _ (omega arith) (sym endless))

pub returns-then-is_some : goal.returns-then-is_some
returns-then-is_some c =
    let found = c.in_ok-found.ensures in
    sym (c.loop-class.invariant.same ∙ fit_found _ _ _ _ _ _ (omega arith) (sym c.is_some.ensures ∙ c.if-is_some.true) (sym found))

pub loop-class-preserved : goal.loop-class-preserved
loop-class-preserved c =
    let missed = c.in_ok-found.ensures in
    record {
      same = c.loop-class.invariant.same ∙ fit_none _ _ _ _ _ _ _ (omega arith) (sym c.is_some.ensures ∙ c.if-is_some.false) (sym missed);
      within = walk_bound _ _ _ _ _ _ _ _ c.loop-class.invariant.within missed;
    }

pub returns : goal.returns
returns c = sym (c.loop-class.invariant.same ∙ fit_out _ _ _ _ (omega arith))
