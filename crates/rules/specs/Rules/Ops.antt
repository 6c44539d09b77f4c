-- WHAT A STATE OFFERS: a record and the words of its heap, whatever the link width and the record's form. The rules are written over these operations,
-- once for every edition; specs/Rules/State.antt gives them for narrow and for wide links. A node is named by its link: 0 to 5 a sentinel, w + 6 the chunk whose
-- header is word w.
use Rattle.std.specs.Prelude.{Bool, ℕ}

pub record Ops (S : Type 0) (R : Type 0) : Type 0 where
  -- links of a node, and stores into them
  pub next : S → ℕ → ℕ
  pub prev : S → ℕ → ℕ
  pub set_next : S → ℕ → ℕ → S
  pub set_prev : S → ℕ → ℕ → S
  -- the heap's words, and how many there are
  pub word : S → ℕ → ℕ
  pub set_word : S → ℕ → ℕ → S
  pub count : S → ℕ
  -- what else the record holds
  pub rest : S → R
  pub set_rest : S → R → S
  -- the record has six prev and six next links
  pub six : S → Bool
