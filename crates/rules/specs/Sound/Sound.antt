-- SOUND (document 01), clause by clause: a state shows a model, its chunks, its six orders and its figures.
use Rattle.std.specs.Prelude.{◌≡◌, true, List, [], ◌∷◌, ℕ, ◌+◌, ◌-◌, ◌*◌, ◌%◌, ◌≤◌, ◌<◌, length}
use Rattle.words.specs.Choice.{pick}
use Rattle.rules.specs.Rules.Lists.{Mem, Distinct, Seg}
use Rattle.rules.specs.Rules.Chunks.{Chunk, total, Legal, Calm, used_sum}
use Rattle.rules.specs.Sound.Tags.{Tags}
use Rattle.rules.specs.Sound.Exact.{frees, Exact}
use Rattle.rules.specs.Rules.Place.{used_at}
use Rattle.words.specs.Sizes.{class_of}
use Rattle.rules.specs.Rules.Ops.{Ops}
use Rattle.rules.specs.Rules.Calls.{Figures, byte_of, name_of, listed}
use Rattle.rules.specs.Sound.Model.{Model}

-- an odd count of words, 5 to `most` (65,529 with narrow links)
abbrev pub Accepted : ℕ → ℕ → Type 0
Accepted most n = (5 ≤ n) × (n ≤ most) × (n % 2 ≡ 1)

-- no used chunk, from byte b on, ends beyond h
abbrev pub Under : ℕ → ℕ → List Chunk → Type 0
Under h b [] = Unit {0}
Under h b (c ∷ cs) = (pick c.used (b + c.len) 0 ≤ h) × Under h (b + c.len) cs

-- the sum of live lengths, from byte b on: used chunks that are not cached
abbrev pub live_sum : List ℕ → ℕ → List Chunk → ℕ
live_sum ks b [] = 0
live_sum ks b (c ∷ cs) = pick c.used (pick (listed (name_of b) ks) 0 c.len) 0 + live_sum ks (b + c.len) cs

-- the cached ones are used chunks, all different, no more than there are places
pub record CacheRight (places : ℕ) (ks : List ℕ) (cs : List Chunk) : Type 0 where
  pub used : (x : ℕ) → Mem x ks → (6 ≤ x) × (0 < used_at cs (byte_of x))
  pub once : Distinct ks
  pub room : length ks ≤ places

-- the figures, against b bytes before the guard: in use is the sum of live lengths, committed the sum of used ones
pub record FiguresRight (f : Figures) (b : ℕ) (cs : List Chunk) : Type 0 where
  pub in_use : f.in_use ≡ live_sum f.cached 0 cs
  pub committed : f.committed ≡ used_sum cs
  pub peak : f.committed ≤ f.peak
  pub high : f.peak ≤ f.high
  pub heap : f.high ≤ b
  pub eights : f.high % 8 ≡ 0
  pub ends : Under f.high 0 cs
  -- the flag is off, 0, or on, 1
  pub flag : f.flag ≤ 1

module _ {S : Type 0} (op : Ops S Figures) (most places : ℕ) where
  -- the state s shows the model m
  pub record Shows (s : S) (m : Model) : Type 0 where
    -- six links each way; the record's figures and word count, an accepted length
    pub six : op.six s ≡ true
    pub figs : op.rest s ≡ m.figs
    pub words : m.figs.words ≡ op.count s
    pub accepted : Accepted most (op.count s)
    -- the chunks tile the words up to the guard; headers, left bits, footers and guard are right; no two free chunks touch
    pub legal : Legal m.cs
    pub fills : total m.cs ≡ 4 * (op.count s - 1)
    pub tags : Tags (op.word s) 0 true m.cs
    pub calm : Calm m.cs
    -- each list, followed from its sentinel, is its order, prev mirroring next; the orders hold exactly the free chunks, by class
    pub lists : (k : ℕ) → k < 6 → Seg (op.next s) (op.prev s) k (m.orders k) k
    pub exact : Exact class_of m.orders (frees 0 m.cs)
    -- the cached ones and the figures are right
    pub cache : CacheRight places m.figs.cached m.cs
    pub right : FiguresRight m.figs (4 * (op.count s - 1)) m.cs

  -- it is sound if it shows some model
  abbrev pub Sound : S → Type 0
  Sound s = (m : Model) × Shows s m
