-- `audit::windows::lists_right` meets its contract; Invariants.antt says what its loop keeps.
use Rattle.std.proofs.Common.{sym, ◌∙◌, arith}
use mathlib.Core.Bool.{false≢true}
use Rattle.audit.proofs.windows.Lists.{showing_starts, showing_on, listed_fit}
use Rattle.audit.proofs.windows.Marks.{zeros}
use Rattle.audit.proofs.Counting.{refused}
use Rattle.audit.proofs.windows.Steps.{standing_here}
use Rattle.audit.proofs.windows.lists_right.Goals as goal

pub loop-stand-init : goal.loop-stand-init
loop-stand-init c = showing_starts _ _ _ _ c.requires

pub mark-end-requires : goal.mark-end-requires
mark-end-requires c = record {
  standing = c.loop-stand.invariant.standing;
  before = omega arith;
  some = omega arith;
  bare = zeros 128;
}

pub invariant_of-window : goal.invariant_of-window
invariant_of-window c =
    let marked = c.mark-end.ensures in
    let here = standing_here _ _ _ marked.standing in
    record { ordered = omega (arith, marked.further); inside = omega (arith, here); short = omega (arith, here) }

pub returns-then-not-window_right : goal.returns-then-not-window_right
returns-then-not-window_right c =
    refused
    (λ p. false≢true (sym c.if-not-window_right.true ∙ c.window_right.ensures.1
    (listed_fit _ _ _ _ c.requires _ _ _ c.mark-end.ensures p)))

pub loop-stand-preserved : goal.loop-stand-preserved
loop-stand-preserved c =
    showing_on _ _ _ _ c.requires _ _ _ c.mark-end.ensures _ c.loop-stand.invariant
    (c.window_right.ensures.0 c.if-not-window_right.false)
