-- `audit::front_right` meets its contract: a link is listed where one of the others is the same.
use Rattle.std.proofs.Common.{◌∙◌, sym, not, ap, ne_eqb, le-leb, length, rules, arith}
use Rattle.std.proofs.lemmas.Iterator.{YieldsList-from_range, cases_from_any}
use borrow.Author.Tests.{eqb-false, tests}
use Rattle.audit.specs.Cached.{front_right}
use Rattle.audit.proofs.Links.{Stands, listed_any}
use Rattle.audit.proofs.front_right.Goals as goal

pub returns-then-l-ge6 : goal.returns-then-l-ge6
unfolding front_right
returns-then-l-ge6 c =
    let some = eqb-false _ _ (sym c.eq.ensures ∙ c.if-eq.false) in
    let ls = c.args.rest.now in
    let found = cases_from_any _ _ _ (Stands c.args.l.0 ls) (λ k. Stands c.args.l.0 ls k → ⊥) c.any.ensures.ran
    (YieldsList-from_range 0 (length ls) (length ls) (cc) (omega arith)) (λ x q k. search (rules, tests)) (λ x q k. search (rules, tests)) in
    rw (ne_eqb _ _ some, le-leb _ _ c.if-l-ge6.true) (ap not (listed_any _ _ _ found))
