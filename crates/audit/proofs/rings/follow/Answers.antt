-- `audit::rings::follow` meets its contract; Invariants.antt says what its loop keeps.
use Rattle.std.proofs.Common.{◌+◌, length, sym, refl, ◌∙◌, arith}
use Rattle.audit.specs.Rings.{chained}
use Rattle.audit.proofs.rings.Chases.{not_back, at_end, not_inside, goes_on_lem, ran_out}
use Rattle.audit.proofs.rings.Nodes.{next_start, next_in, prev_start, prev_in, inside_is}
use Rattle.audit.proofs.rings.follow.Goals as goal

pub loop-n-init : goal.loop-n-init
unfolding chained
loop-n-init c = (record { fuel = length c.args.heap.words.now + 1; left = omega arith; same = refl }, next_start _ _ _ c.requires)

pub returns-then-prev-class : goal.returns-then-prev-class
returns-then-prev-class c =
    let a = c.loop-n.invariant in
    let back = prev_start _ _ _ _ c.requires c.if-k-class.true in
    sym (not_back _ _ _ _ _ _ _ _ a.0 (omega arith) _ _ a.1 back c.if-prev-class.true)

pub returns-then-k-class : goal.returns-then-k-class
returns-then-k-class c =
    let a = c.loop-n.invariant in
    let back = prev_start _ _ _ _ c.requires c.if-k-class.true in
    sym (at_end _ _ _ _ _ _ _ _ a.0 (omega arith) _ _ a.1 back c.if-prev-class.false c.if-k-class.true)

pub returns-then-not-inside : goal.returns-then-not-inside
returns-then-not-inside c =
    let a = c.loop-n.invariant in
    let out = sym c.inside.ensures ∙ c.if-not-inside.true in
    sym (not_inside _ _ _ _ _ _ _ _ a.0 (omega arith) _ a.1 c.if-k-class.false out)

pub links_of-both-requires : goal.links_of-both-requires
links_of-both-requires c = inside_is _ _ _ (sym c.inside.ensures ∙ c.if-not-inside.false)

pub returns-then-back-from : goal.returns-then-back-from
returns-then-back-from c =
    let a = c.loop-n.invariant in
    let i = inside_is _ _ _ (sym c.inside.ensures ∙ c.if-not-inside.false) in
    let back = c.half-back.ensures ∙ prev_in _ _ _ _ i.0 c.links_of-both.ensures in
    sym (not_back _ _ _ _ _ _ _ _ a.0 (omega arith) _ _ a.1 back c.if-back-from.true)

pub loop-n-preserved : goal.loop-n-preserved
loop-n-preserved c =
    let a = c.loop-n.invariant in
    let o = sym c.inside.ensures ∙ c.if-not-inside.false in
    let i = inside_is _ _ _ o in
    let mirrored = c.half-back.ensures ∙ prev_in _ _ _ _ i.0 c.links_of-both.ensures in (
      goes_on_lem _ _ _ _ _ _ _ _ a.0 (omega arith) _ _ a.1 mirrored c.if-back-from.false c.if-k-class.false o,
      c.half-k.ensures ∙ next_in _ _ _ _ i.0 c.links_of-both.ensures,
    )

pub returns : goal.returns
returns c =
    let a = c.loop-n.invariant in
    sym (ran_out _ _ _ _ _ _ _ _ a.0 (omega arith))
