-- THE PAIR AS THE RULES SEE IT: a record's links and figures, and its words, as a state of the rules. This is all of this folder that a reader of the
-- audit's contract has to read.
use Rattle.std.specs.Prelude.{ℕ, List}
use Rattle.words.specs.declared.names.Link.{Link}
use Rattle.words.specs.Numbers.{numbers}
use Rattle.rules.specs.Rules.Making.{State}
use Rattle.rules.specs.Rules.Calls as rules
use Rattle.cache.specs.Places.{cached_of}
use Rattle.audit.specs.declared.Figures.{Figures}

-- the figures, with the cached chunks as a list
abbrev pub figures_of : Figures → rules.Figures
figures_of f =
    record {
      words = f.words;
      cached = cached_of (numbers f.cached);
      in_use = f.in_use;
      committed = f.committed;
      peak = f.peak;
      high = f.high;
      flag = f.fresh;
    }

-- the state: the links as numbers, the words, and the figures
abbrev pub shown : List Link → List Link → Figures → List ℕ → State
shown prev next f ws =
    record {
      prevs = numbers prev;
      nexts = numbers next;
      words = ws;
      rest = figures_of f;
    }
