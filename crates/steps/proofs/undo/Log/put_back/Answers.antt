-- `steps::undo::Log::put_back` meets its contract; Invariants.antt says what its loop keeps.
use Rattle.std.proofs.Common.{◌≡◌, ◌+◌, ◌-◌, ◌∙◌, arith}
use Rattle.steps.proofs.Undone.{undone_none, undone_put, put_back_by}
use Rattle.steps.proofs.undo.Log.put_back.Goals as goal

pub loop-j-preserved : goal.loop-j-preserved
loop-j-preserved c =
    let log = c.args.self.now.notes.now in
    let j = c.loop-j.j in
    let one : j ≡ j - 1 + 1 = omega (arith, c.loop-j-test.true) in
    record {
      held = c.loop-j.invariant.held;
      same = c.loop-j.invariant.same ∙ undone_put log c.loop-j.heap _ j (j - 1) _ one (omega arith) c.put.ensures;
    }

pub returns : goal.returns
returns c =
    let none : c.loop-j.j ≡ 0 = omega (arith, c.loop-j-test.false) in
    put_back_by c.args.self.now.notes.now _ _ _ _ c.min-n.ensures (c.loop-j.invariant.same ∙ undone_none c.args.self.now.notes.now c.loop-j.heap _ none)
