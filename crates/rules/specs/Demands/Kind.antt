-- KINDS OF HEAP: what a configuration chooses. The rules, the claims and their proofs take each as a number; a table or a run is of one kind.
use Rattle.std.specs.Prelude.{ℕ}
use Rattle.words.specs.Links.{Width, narrow}

-- link width, longest length, cache places
pub record Kind : Type 0 where
  pub links : Width
  pub most : ℕ
  pub places : ℕ

-- one place: document 01's heap, and the one that runs against the Rust
abbrev pub one : Kind
one = record { links = narrow; most = 65529; places = 1 }

-- four places
abbrev pub four : Kind
four = record { links = narrow; most = 65529; places = 4 }
