-- `audit::windows::Stretch::listed_fit` meets its contract; Invariants.antt says what its loop keeps.
use Rattle.std.proofs.Common.{sym, ◌∙◌}
use Rattle.audit.proofs.rings.Nodes.{inside_is}
use Rattle.audit.proofs.windows.Lists.{all_end, all_stop, all_on, all_first}
use Rattle.audit.proofs.windows.Stretch.listed_fit.Goals as goal

pub returns-then-not-fits : goal.returns-then-not-fits
returns-then-not-fits c =
    let bad = sym c.fits.ensures ∙ c.if-not-fits.true in
    sym (c.loop.invariant.0 ∙ all_stop _ _ _ _ _ c.loop-test.true bad)

pub links_of-requires : goal.links_of-requires
links_of-requires c = inside_is _ _ _ (all_first _ _ _ _ _ c.loop-test.true c.loop.invariant.1)

pub loop-preserved : goal.loop-preserved
loop-preserved c =
    let good = sym c.fits.ensures ∙ c.if-not-fits.false in
    let a = c.loop.invariant in
    let i = c.loop-test.true in
    let inside = all_first _ _ _ _ _ i a.1 in
    rw c.half-k.ensures (a.0 ∙ all_on _ _ _ _ _ i good _ c.links_of.ensures, sym (all_on _ _ _ _ _ i inside _ c.links_of.ensures) ∙ a.1)

pub returns : goal.returns
returns c = sym (c.loop.invariant.0 ∙ all_end _ _ _ _ _ c.loop-test.false)
