-- `heap::record::Record::live_length` meets its contract: below 4, cached, or what the walk of the tiling says.
use mathlib.Core.Path.{◌∙◌}
use native.Mathlib.Omega.{arith}
use Rattle.heap.proofs.Answers.{live_low, live_cached, live_other}
use Rattle.heap.proofs.record.Record.live_length.Goals as goal

pub returns-in_err-b : goal.returns-in_err-b
returns-in_err-b c =
    c.from_residual.ensures ∙ live_low c.args.self c.args.heap.now c.args.p (omega (arith, c.in_err-b.ensures))

pub returns-then-cold : goal.returns-then-cold
returns-then-cold c =
    let low = c.in_ok-b.ensures in
    live_cached c.args.self c.args.heap.now c.args.p _ low.0 low.1 _ c.holds-cold.ensures c.if-cold.true

pub returns : goal.returns
returns c =
    let low = c.in_ok-b.ensures in
    live_other c.args.self c.args.heap.now c.args.p _ low.0 low.1 _ _ c.holds-cold.ensures c.if-cold.false
    c.used_length.ensures
