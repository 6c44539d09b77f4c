-- `steps::search::search_first_fit` meets its contract. Invariant: the whole search is the search of the lists from this class on, and no more than `limit`
-- were compared. A list without a fit keeps it, since its walk counts no further than the limit.
use Rattle.std.proofs.Common.{◌≡◌, ◌-◌, ◌≤◌}
use Rattle.words.specs.Numbers.{numbers}
use Rattle.words.specs.Sizes.{start_of}
use Rattle.rules.specs.Rules.Search.{search_all}
use Rattle.steps.specs.Found.{walk_in}
use Rattle.steps.proofs.search.search_first_fit.Given as goal

abbrev pub invariant-loop-class : goal.invariant-loop-class
invariant-loop-class l = record {
  same :
      search_all (walk_in (numbers l.next) l.heap l.size l.limit) (6 - start_of l.size) (start_of l.size) 0
      ≡ search_all (walk_in (numbers l.next) l.heap l.size l.limit) (6 - l.class) l.class l.k;
  within : l.k ≤ l.limit;
}
