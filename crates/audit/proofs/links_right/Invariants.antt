-- `audit::links_right` meets its contract. Invariant: the links from here on are right exactly where all are.
use Rattle.std.proofs.Common.{◌≡◌, drop}
use Rattle.words.specs.Numbers.{numbers}
use Rattle.audit.specs.Cached.{right_links}
use Rattle.audit.proofs.links_right.Given as goal

abbrev pub invariant-loop-i : goal.invariant-loop-i
invariant-loop-i l = right_links (numbers (drop l.i l.fn.c)) ≡ right_links (numbers l.fn.c)
