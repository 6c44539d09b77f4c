-- THE DEMANDS, FURTHER STATEMENTS about the rules; proofs/Demands/Promises.antt proves each, for both link widths and any number of cache places: one step and a run
-- as the machine without memory makes them, each answer exactly when with no premise, the figures after each call, and which words making writes.
use Rattle.std.specs.Prelude.{◌≡◌, ◌≢◌, ◌⊎◌, false, List, ℕ, ◌+◌, ◌-◌, ◌*◌, ◌≤◌, ◌<◌, max, length, get_or}
use Rattle.words.specs.Sizes.{rounded_of, threshold_of}
use Rattle.words.specs.Links.{Width, prev, next}
use Rattle.rules.specs.Rules.Lists.{Mem}
use Rattle.rules.specs.Rules.Ops.{Ops}
use Rattle.rules.specs.Sound.Exact.{slot, frees}
use Rattle.rules.specs.Rules.Steps.{length_at}
use Rattle.rules.specs.Rules.Calls.{Figures, serves, without_cache, without_cache_f}
use Rattle.rules.specs.Rules.Making.{make}
use Rattle.rules.specs.Sound.Model.{Model}
use Rattle.rules.specs.Machine.Machine.{Request, ask, answer_of, call_m}
use Rattle.rules.specs.Sound.Sound.{Accepted, Shows, Sound}
use Rattle.rules.specs.Demands.Events.{Event, requests, steps, run, Allowed}
use Rattle.rules.specs.Demands.TwoHeaps.{machine, acts, call}
use Rattle.rules.specs.Demands.Demands.{Iff, Allowable, asked, given}
use Rattle.rules.specs.Demands.Lives.{live_at}

-- THE FIGURES after a chunk of l bytes that ends at byte e came from a list
pub record CountedUp (f g : Figures) (l e : ℕ) : Type 0 where
  pub words : g.words ≡ f.words
  pub cached : g.cached ≡ f.cached
  pub in_use : g.in_use ≡ f.in_use + l
  pub committed : g.committed ≡ f.committed + l
  pub peak : g.peak ≡ max f.peak (f.committed + l)
  pub high : g.high ≡ max f.high e
  -- the flag goes on exactly where high water rises
  pub risen : f.high < e → g.flag ≡ 1
  pub below : e ≤ f.high → g.flag ≡ f.flag

-- after tasks hold i bytes, and only that or the cache changed: committed, the marks and the flag stay
pub record HeldOnly (f g : Figures) (i : ℕ) : Type 0 where
  pub words : g.words ≡ f.words
  pub in_use : g.in_use ≡ i
  pub committed : g.committed ≡ f.committed
  pub peak : g.peak ≡ f.peak
  pub high : g.high ≡ f.high
  pub flag : g.flag ≡ f.flag

module _ {S : Type 0} (op : Ops S Figures) (most places : ℕ) where
  -- ONE STEP AS THE MACHINE DOES IT: the answer, and then layout, six orders and figures, are those of the rules without memory
  abbrev pub AsTheMachine : Type 0
  AsTheMachine =
      (q : Request) (s : S) (m : Model) → Shows op most places s m
      → (answer_of (call op most places q s) ≡ answer_of (call_m places q m)) × Shows op most places (call op most places q s).after (call_m places q m).after

  -- so the model shown after a run is that of the requests alone
  abbrev pub RunAsTheMachine : Type 0
  RunAsTheMachine =
      (es : List (Event Request)) (s : S) (m : Model) → Shows op most places s m → Allowed (acts op most places) es s
      → Shows op most places (run (acts op most places) es s) (steps (machine places) (requests es) m)

  -- EXACTLY WHEN, whatever the state
  -- NEVER: the threshold for z bytes exceeds the heap's bytes less 4
  abbrev pub Never : S → ℕ → Type 0
  Never s z = 4 * (op.count s - 1) < threshold_of z

  -- NOTHING FITS z bytes, but may at another time: the state is sound, no cached chunk serves, and no free chunk of the layout with the cache emptied reaches
  -- the threshold
  pub record Unfit (s : S) (z : ℕ) : Type 0 where
    pub sound : Sound op most places s
    pub may : threshold_of z ≤ 4 * (op.count s - 1)
    pub cache : (x : ℕ) → Mem x (op.rest s).cached → serves (length_at op s x) z ≡ false
    pub merged : Model
    pub shows : Shows op most places (without_cache op s) merged
    pub lists : (x n : ℕ) → Mem (slot x n) (frees 0 merged.cs) → n < threshold_of z

  -- a handout is done exactly for an allowable size that may ever fit, on a sound state, where something fits
  abbrev pub ServedExactly : Type 0
  ServedExactly =
      (s : S) (size : ℕ)
      → Iff ((asked op most places s size).number ≡ 0)
      (Allowable (ask size) × Sound op most places s × (Never s (rounded_of size) → ⊥) × (Unfit s (rounded_of size) → ⊥))

  -- 8 exactly for an allowable size that can never fit, on a sound state
  abbrev pub EightExactly : Type 0
  EightExactly =
      (s : S) (size : ℕ) → Iff ((asked op most places s size).number ≡ 8) (Allowable (ask size) × Sound op most places s × Never s (rounded_of size))

  -- 3 exactly for an allowable size, on a sound state, where nothing fits
  abbrev pub ThreeExactly : Type 0
  ThreeExactly = (s : S) (size : ℕ) → Iff ((asked op most places s size).number ≡ 3) (Allowable (ask size) × Unfit s (rounded_of size))

  -- 5 exactly for an allowable request on a state that is not sound
  abbrev pub FiveExactly : Type 0
  FiveExactly = (q : Request) (s : S) → Iff ((call op most places q s).number ≡ 5) (Allowable q × (Sound op most places s → ⊥))

  -- a free is done exactly on a sound state with a live payload there
  abbrev pub TakenExactly : Type 0
  TakenExactly = (s : S) (p : ℕ) → Iff ((given op most places s p).number ≡ 0) (Sound op most places s × (0 < live_at op most places s p))

  -- 4 exactly on a sound state with no live payload there
  abbrev pub FourExactly : Type 0
  FourExactly = (s : S) (p : ℕ) → Iff ((given op most places s p).number ≡ 4) (Sound op most places s × (live_at op most places s p ≡ 0))

  -- below 512 at most one free chunk is compared, whatever the state
  abbrev pub FewCompared : Type 0
  FewCompared = (s : S) (size : ℕ) → rounded_of size < 512 → (asked op most places s size).compared ≤ 1

  -- THE FIGURES after each call. A handout from the cache compared nothing, one from a list something, be it that the cache was emptied before; l is the
  -- length handed out, and its payload at v begins 4 bytes after the chunk
  abbrev pub HandedFigures : Type 0
  HandedFigures =
      (s : S) (size : ℕ) → (asked op most places s size).number ≡ 0
      → let o = asked op most places s size in
      let l = live_at op most places o.after o.value in
      (o.compared ≡ 0 → HeldOnly (op.rest s) (op.rest o.after) ((op.rest s).in_use + l))
      × (0 < o.compared → CountedUp (op.rest s) (op.rest o.after) l (o.value - 4 + l)
      ⊎ CountedUp (without_cache_f (op.rest s)) (op.rest o.after) l (o.value - 4 + l))

  -- taking back: what tasks hold falls by the length given back; peak, high water and flag stay
  abbrev pub TakenFigures : Type 0
  TakenFigures =
      (s : S) (p : ℕ) → (given op most places s p).number ≡ 0
      → let t = (given op most places s p).after in
      ((op.rest t).in_use + live_at op most places s p ≡ (op.rest s).in_use)
      × ((op.rest t).peak ≡ (op.rest s).peak)
      × ((op.rest t).high ≡ (op.rest s).high)
      × ((op.rest t).flag ≡ (op.rest s).flag)

  -- the statements, together
  pub record Promises : Type 0 where
    pub step : AsTheMachine
    pub runs : RunAsTheMachine
    pub served : ServedExactly
    pub eight : EightExactly
    pub three : ThreeExactly
    pub five : FiveExactly
    pub taken : TakenExactly
    pub four : FourExactly
    pub few : FewCompared
    pub handed_figures : HandedFigures
    pub taken_figures : TakenFigures

-- MAKING: 6 exactly for other lengths; and it writes only words 0, the links' words after it, and the last two
abbrev pub SixExactly : Width → ℕ → Type 0
SixExactly W most = (ws : List ℕ) → Iff ((make W most ws).number ≡ 6) (Accepted most (length ws) → ⊥)

-- words 0, the links' words after it, n - 2 and n - 1 apart, each word stays
abbrev pub MakingWrites : Width → ℕ → Type 0
MakingWrites W most =
    (ws : List ℕ) → (length (make W most ws).after.words ≡ length ws)
    × ((i : ℕ) → i ≢ 0 → i ≢ W.place prev → i ≢ W.place next → i ≢ length ws - 2 → i ≢ length ws - 1 → get_or (make W most ws).after.words i 0 ≡ get_or ws i 0)
