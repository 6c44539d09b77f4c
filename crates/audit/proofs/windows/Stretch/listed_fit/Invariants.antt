-- `audit::windows::Stretch::listed_fit` meets its contract. Invariant: the test of the links left, of which k is the first, is that of all, and they
-- lie before the guard.
use Rattle.std.proofs.Common.{◌≡◌, ◌-◌, true}
use Rattle.audit.specs.Rings.{insideᵇ}
use Rattle.audit.specs.Window.{fitsᵇ, allᵇ}
use Rattle.audit.proofs.windows.Stretch.listed_fit.Given as goal

abbrev pub invariant-loop : goal.invariant-loop
invariant-loop l =
    let w = l.self in
    (allᵇ w.heap.words.now (fitsᵇ w.heap.words.now w.marks.now l.class w.from w.to) l.n l.initial.k.0
    ≡ allᵇ w.heap.words.now (fitsᵇ w.heap.words.now w.marks.now l.class w.from w.to) (l.n - l.counter) l.k.0)
    × (allᵇ w.heap.words.now (insideᵇ w.heap.words.now 0) (l.n - l.counter) l.k.0 ≡ true)
