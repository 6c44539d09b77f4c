-- `cache::put_last` meets its contract: a link is stored.
use Rattle.words.proofs.Laws.Numbers.{numbers_set}
use Rattle.cache.proofs.put_last.Goals as goal

pub returns-then-k-lt4 : goal.returns-then-k-lt4
returns-then-k-lt4 c = numbers_set c.args.c c.args.k c.args.l.0
