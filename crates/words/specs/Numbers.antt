-- The numbers of links: an array of links as the list of what each is.
use Rattle.std.specs.Prelude.{ℕ, List, map}
use Rattle.words.specs.declared.names.Link.{Link}

-- the numbers of an array of links
abbrev pub numbers : List Link → List ℕ
numbers ls = map (λ (l : Link). l.0) ls
