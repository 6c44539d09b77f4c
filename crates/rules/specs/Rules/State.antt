-- RECORD AND WORDS as one state: six prev and six next links, the words, and the rest of the record. The links of nodes 0 to 5 stand in the record, those
-- of chunks in the words, as the link width has them.
use Rattle.std.specs.Prelude.{false, List, ℕ, eqb, length, get_or, set}
use Rattle.words.specs.Choice.{pick}
use Rattle.words.specs.Links.{Width, prev, next, node_link, set_sentinel, set_chunk_link}
use Rattle.rules.specs.Rules.Ops.{Ops}

-- a record's links, the words, and what else the record holds
pub record Heap (R : Type 0) : Type 0 where
  pub prevs : List ℕ
  pub nexts : List ℕ
  pub words : List ℕ
  pub rest : R

module _ {R : Type 0} (W : Width) where
  -- the operations on it, for a link width
  abbrev pub ops : Ops (Heap R) R
  ops = record {
    next = λ s x. node_link W next s.nexts s.words x;
    prev = λ s x. node_link W prev s.prevs s.words x;
    set_next = λ s x v. record { prevs = s.prevs; nexts = set_sentinel s.nexts x v; words = set_chunk_link W next s.words x v; rest = s.rest };
    set_prev = λ s x v. record { prevs = set_sentinel s.prevs x v; nexts = s.nexts; words = set_chunk_link W prev s.words x v; rest = s.rest };
    word = λ s i. get_or s.words i 0;
    set_word = λ s i v. record { prevs = s.prevs; nexts = s.nexts; words = set s.words i v; rest = s.rest };
    count = λ s. length s.words;
    rest = λ s. s.rest;
    set_rest = λ s r. record { prevs = s.prevs; nexts = s.nexts; words = s.words; rest = r };
    six = λ s. pick (eqb (length s.prevs) 6) (eqb (length s.nexts) 6) false;
  }
