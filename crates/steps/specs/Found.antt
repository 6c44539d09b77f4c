-- What the code's search says, as the rules' search has it.
use Rattle.std.specs.Prelude.{ℕ, ◌-◌, List, Option, Some, None, Result, Ok, Err}
use Rattle.words.specs.declared.names.Link.{Link}
use Rattle.words.specs.Links.{narrow, next, node_link}
use Rattle.words.specs.Tags.{at, length_of}
use Rattle.rules.specs.Rules.Search.{find_walk}
use Rattle.rules.specs.Rules.Search as rule
use Rattle.steps.specs.declared.search.Found.{Found}
use Rattle.steps.specs.declared.search.Lost.{Lost}

abbrev pub told_at : Option Link → ℕ → rule.Found
told_at (Some l) c = rule.at l.0 c
told_at None c = rule.nowhere c

abbrev pub told : Result Found Lost → rule.Found
told (Ok f) = told_at f.at f.compared
told (Err e) = rule.lost

-- the first fit in list k, over the sentinels' next links and the words; at most `limit` are compared in all
unfoldable pub walk_in : List ℕ → List ℕ → ℕ → ℕ → ℕ → ℕ → rule.Found
walk_in nexts ws z limit k c =
    find_walk (λ x. node_link narrow next nexts ws x) (λ x. length_of (at ws (x - 6))) z k (limit - c) (node_link narrow next nexts ws k) c
