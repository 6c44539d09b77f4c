-- `words::sizes::start_index` meets its contract: a class is below 6.
use Rattle.std.proofs.Common.{arith}
use Rattle.words.proofs.Laws.Sizes.{class_below}
use Rattle.words.proofs.sizes.start_index.Goals as goal

pub overflow_add-class : goal.overflow_add-class
overflow_add-class c = omega (arith, class_below c.args.size)
