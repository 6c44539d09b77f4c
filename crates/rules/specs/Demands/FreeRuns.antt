-- THE RUNS of touching chunks that are free or cached, as a person sees them in the layout: what emptying the cache makes one free chunk of each.
use Rattle.std.specs.Prelude.{true, List, [], ◌∷◌, ℕ, ◌+◌, ◌≤◌, max, eqb}
use Rattle.words.specs.Choice.{pick}
use Rattle.rules.specs.Rules.Lists.{Mem}
use Rattle.rules.specs.Rules.Chunks.{Chunk}
use Rattle.rules.specs.Sound.Exact.{Slot, slot}
use Rattle.rules.specs.Rules.Calls.{name_of, listed}
use Rattle.rules.specs.Sound.Model.{Model}

-- a run of a bytes from byte e on, in front of the others; none where a is 0
abbrev pub ended : ℕ → ℕ → List Slot → List Slot
ended e a F = pick (eqb a 0) F (slot (name_of e) a ∷ F)

-- THE LONGEST RUN where ks are cached: of the chunks cs from byte b on, behind a run of a bytes
unfoldable pub longest_run : List ℕ → ℕ → ℕ → List Chunk → ℕ
longest_run ks b a [] = a
longest_run ks b a (c ∷ cs) =
    let on = longest_run ks (b + c.len) (a + c.len) cs in
    pick (pick c.used (listed (name_of b) ks) true) on (max a (longest_run ks (b + c.len) 0 cs))

-- the runs, each by the link of its first chunk and by its length, where ks are cached: those of the chunks cs, behind a run of a bytes from byte e on
unfoldable pub runs_from : List ℕ → ℕ → ℕ → List Chunk → List Slot
runs_from ks e a [] = ended e a []
runs_from ks e a (c ∷ cs) =
    let on = runs_from ks e (a + c.len) cs in
    let off = ended e a (runs_from ks (e + a + c.len) 0 cs) in
    pick (pick c.used (listed (name_of (e + a)) ks) true) on off

-- those of a model
abbrev pub free_runs : Model → List Slot
free_runs m = runs_from m.figs.cached 0 0 m.cs

-- the greatest length; 0 where there is none
abbrev pub greatest : List Slot → ℕ
greatest [] = 0
greatest (t ∷ F) = max t.len (greatest F)

-- THE LONGEST free chunk; 0 where none is free
abbrev pub longest : List Chunk → ℕ
longest [] = 0
longest (c ∷ cs) = max (pick c.used 0 c.len) (longest cs)

-- the n bytes from byte b on lie inside one of F
abbrev pub Inside : List Slot → ℕ → ℕ → Type 0
Inside F b n = (e : ℕ) × (l : ℕ) × Mem (slot (name_of e) l) F × (e ≤ b) × (b + n ≤ e + l)
