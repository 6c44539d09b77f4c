-- `words::sizes::chunk_size_to_list_index` meets its contract: it reckons `class_by_zeros`, which is the class of every 32-bit length.
use Rattle.std.proofs.Common.{arith}
use Rattle.words.proofs.Laws.Sizes.{class_by_zeros_lem}
use Rattle.words.proofs.sizes.chunk_size_to_list_index.Goals as goal

pub returns : goal.returns
returns c = omega (arith, class_by_zeros_lem c.args.size (omega arith))
