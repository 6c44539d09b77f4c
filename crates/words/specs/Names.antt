-- NAMES OF A HEADER (document 01, "Words, tags and links"): a link, a byte offset and a payload's byte offset all name the header at a word.
-- What holds of every kind of name is proved once, in proofs/Laws/Names.antt.
use Rattle.std.specs.Prelude.{◌≡◌, ℕ, ◌+◌, ◌-◌, ◌*◌, ◌/◌, ◌%◌}
use Rattle.std.proofs.Common.{arith}

-- a kind of name: the name of the header at a word, the word that a name leads to, what the names are below, and that nothing is lost
pub record Naming : Type 0 where
  pub name : ℕ → ℕ
  pub word : ℕ → ℕ
  pub limit : ℕ
  pub back : (w : ℕ) → word (name w) ≡ w

-- a link: 0 to 5 name the sentinels, w + 6 the header at word w; 16 bits
abbrev pub links : Naming
links = record { name = λ w. w + 6; word = λ l. l - 6; limit = 65536; back = λ w. omega arith }

-- a byte offset from the heap's start; 32 bits
abbrev pub offsets : Naming
offsets = record { name = λ w. 4 * w; word = λ b. b / 4; limit = 4294967296; back = λ w. omega arith }

-- a payload's byte offset: the payload begins a word after the header; 32 bits
abbrev pub payloads : Naming
payloads = record { name = λ w. 4 * w + 4; word = λ p. (p - 4) / 4; limit = 4294967296; back = λ w. omega arith }

-- what a machine word keeps of a name: the name itself, if it is below the limit
abbrev pub held_name : Naming → ℕ → ℕ
held_name N w = N.name w % N.limit
