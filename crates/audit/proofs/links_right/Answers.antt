-- `audit::links_right` meets its contract: each link before those after it.
use Rattle.std.proofs.Common.{◌≡◌, true, sym, arith}
use Rattle.words.specs.Numbers.{numbers}
use Rattle.audit.specs.Cached.{right_links, links_right}
use Rattle.audit.proofs.Links.{right_stops, right_goes, right_ends}
use Rattle.audit.proofs.links_right.Goals as goal

pub loop-i-preserved : goal.loop-i-preserved
loop-i-preserved c =
    right_goes c.args.c c.loop-i.i _ (omega (arith, c.well_formed, c.loop-i-test.true)) c.loop-i.invariant (sym c.if-not-front_right.ensures)
    (omega (arith, c.well_formed, c.loop-i-test.true))

pub returns-then-not-front_right : goal.returns-then-not-front_right
unfolding links_right
returns-then-not-front_right c =
    let wrong = right_stops c.args.c c.loop-i.i _ (omega (arith, c.well_formed, c.loop-i-test.true)) c.loop-i.invariant
    (sym c.if-not-front_right.ensures) (omega (arith, c.well_formed, c.loop-i-test.true)) in
    rw wrong

pub returns : goal.returns
unfolding links_right
returns c =
    let right : right_links (numbers c.args.c) ≡ true = right_ends c.args.c _ (omega (arith, c.well_formed, c.loop-i-test.false)) c.loop-i.invariant in
    rw (right, sym c.used_places.ensures)
