-- `audit::windows::Stretch::window_right` meets its contract: the links of each list lie before the guard, as the test of it asks.
use Rattle.std.proofs.lemmas.Iterator.{serves_from_Range}
use Rattle.std.proofs.iter.Serving.{serving}
use Rattle.audit.proofs.windows.Lists.{lists_inside}
use Rattle.audit.proofs.windows.Stretch.window_right.Goals as goal

pub all-requires-clause-callable : goal.all-requires-clause-callable
all-requires-clause-callable c =
    serves_from_Range (grind serving)
    (λ x l h. let inside = lists_inside c.args.next.now c.args.self.now.heap.words.now c.args.frees.now c.requires x h in grind serving)
