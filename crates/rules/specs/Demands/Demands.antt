-- THE DEMANDS, as statements about the rules; proofs/Demands/Proved.antt proves each, for both link widths and any number of cache places.
use Rattle.std.specs.Prelude.{◌≡◌, ◌≢◌, ◌⊎◌, true, List, [], ◌∷◌, ℕ, ◌+◌, ◌-◌, ◌*◌, ◌≤◌, ◌<◌, length}
use Rattle.words.specs.Links.{Width}
use Rattle.words.specs.Sizes.{rounded_of, threshold_of}
use Rattle.rules.specs.Rules.Lists.{Mem}
use Rattle.rules.specs.Rules.Ops.{Ops}
use Rattle.rules.specs.Rules.State.{ops}
use Rattle.rules.specs.Rules.Calls.{Figures, Outcome}
use Rattle.rules.specs.Rules.Making.{make, empty}
use Rattle.rules.specs.Sound.Model.{Model}
use Rattle.rules.specs.Machine.Machine.{Request, ask, give, without_cache_m, made_m}
use Rattle.rules.specs.Sound.Sound.{Accepted, Shows, Sound}
use Rattle.rules.specs.Sound.Test.{soundᵇ}
use Rattle.rules.specs.Demands.FreeRuns.{longest_run}
use Rattle.rules.specs.Demands.Meaning.{NoneServes, NoFit, FromCache, FromList, FromMerged, LiveAt, Holds, hand, back}
use Rattle.rules.specs.Demands.Events.{Event, requests, run, answers, Allowed, replies}
use Rattle.rules.specs.Demands.TwoHeaps.{machine, acts, call, Live, Same}

-- exactly when
abbrev pub Iff : Type 0 → Type 0 → Type 0
Iff P Q = (P → Q) × (Q → P)

-- a request that is refused neither with 1 nor with 2
abbrev pub Allowable : Request → Type 0
Allowable (ask size) = (0 < size) × (size ≤ 4294967284)
Allowable (give p) = Unit {0}

-- the numbers that it may be answered with
abbrev pub numbers_of : Request → List ℕ
numbers_of (ask size) = 0 ∷ 1 ∷ 2 ∷ 3 ∷ 5 ∷ 8 ∷ []
numbers_of (give p) = 0 ∷ 4 ∷ 5 ∷ []

module _ {S : Type 0} (op : Ops S Figures) (most places : ℕ) where
  -- the outcome of asking a state for a size
  abbrev pub asked : S → ℕ → Outcome S
  asked s size = hand op most places s size

  -- and of giving a payload offset back to it
  abbrev pub given : S → ℕ → Outcome S
  given s p = back op most places s p

  -- DEMAND 1: whatever the state, an answer is one of document 01's, and after a refusal record and words are as they were
  abbrev pub Answers : Type 0
  Answers = (q : Request) (s : S) → Mem (call op most places q s).number (numbers_of q)

  -- after a refusal all is as it was
  abbrev pub RefusedUnchanged : Type 0
  RefusedUnchanged = (q : Request) (s : S) → (call op most places q s).number ≢ 0 → (call op most places q s).after ≡ s

  -- what is returned with it: 0 unless a chunk is handed out; and 0 compared but for handouts and no fit
  abbrev pub Returned : Type 0
  Returned =
      ((q : Request) (s : S) → (call op most places q s).number ≢ 0
      → ((call op most places q s).value ≡ 0) × ((call op most places q s).number ≢ 3 → (call op most places q s).compared ≡ 0))
      × ((s : S) (p : ℕ) → ((given s p).value ≡ 0) × ((given s p).compared ≡ 0))

  -- SOUND: the test agrees with it; layout, orders and figures are unique; the calls keep it
  abbrev pub SoundTested : Type 0
  SoundTested = (s : S) → Iff (soundᵇ op most places s ≡ true) (Sound op most places s)

  -- a state shows one layout, one order of each list and one set of figures
  abbrev pub SoundUnique : Type 0
  SoundUnique =
      (s : S) (m n : Model) → Shows op most places s m → Shows op most places s n
      → (m.cs ≡ n.cs) × ((k : ℕ) → k < 6 → m.orders k ≡ n.orders k) × (m.figs ≡ n.figs)

  -- a call on a sound state leaves one
  abbrev pub SoundKept : Type 0
  SoundKept = (q : Request) (s : S) → Sound op most places s → Sound op most places (call op most places q s).after

  -- what tasks hold is committed, committed is at most its peak, and that at most high water
  abbrev pub FiguresOrdered : Type 0
  FiguresOrdered =
      (s : S) → Sound op most places s
      → ((op.rest s).in_use ≤ (op.rest s).committed) × ((op.rest s).committed ≤ (op.rest s).peak) × ((op.rest s).peak ≤ (op.rest s).high)

  -- DEMAND 2: each answer exactly when
  abbrev pub ZeroExactly : Type 0
  ZeroExactly = (s : S) (size : ℕ) → Iff ((asked s size).number ≡ 1) (size ≡ 0)

  -- 2 exactly above 4,294,967,284
  abbrev pub LargeExactly : Type 0
  LargeExactly = (s : S) (size : ℕ) → Iff ((asked s size).number ≡ 2) (4294967284 < size)

  -- 5 exactly on a state that is not sound, for a request that gets neither 1 nor 2
  abbrev pub DamagedExactly : Type 0
  DamagedExactly = (q : Request) (s : S) → Allowable q → Iff ((call op most places q s).number ≡ 5) (Sound op most places s → ⊥)

  -- 3 exactly where the model has no fit
  abbrev pub NoFitExactly : Type 0
  NoFitExactly =
      (s : S) (m : Model) → Shows op most places s m → (size : ℕ) → Allowable (ask size) → Iff ((asked s size).number ≡ 3) (NoFit m (rounded_of size))

  -- and, where it may ever fit, as it is seen in the layout: no cached chunk serves, and the longest run of touching free or cached chunks does not reach the
  -- threshold
  abbrev pub NoFitByRuns : Type 0
  NoFitByRuns =
      (s : S) (m : Model) → Shows op most places s m → (size : ℕ) → Allowable (ask size)
      → threshold_of (rounded_of size) ≤ 4 * (m.figs.words - 1)
      → Iff ((asked s size).number ≡ 3) (NoneServes m (rounded_of size) × (longest_run m.figs.cached 0 0 m.cs < threshold_of (rounded_of size)))

  -- 4 exactly where no live payload begins
  abbrev pub NotLiveExactly : Type 0
  NotLiveExactly = (s : S) (m : Model) → Shows op most places s m → (p : ℕ) → Iff ((given s p).number ≡ 4) ((n : ℕ) → LiveAt m p n → ⊥)

  -- and the compared count: a place in the rules' search, or in the one after the cache was emptied
  abbrev pub Position : Type 0
  Position =
      (s : S) (m : Model) → Shows op most places s m → (size : ℕ) → (asked s size).number ≡ 0
      → ((asked s size).compared ≡ 0 → FromCache m (rounded_of size) (asked s size).value)
      × (0 < (asked s size).compared → FromList m (rounded_of size) (asked s size).value (asked s size).compared
      ⊎ FromMerged m (rounded_of size) (asked s size).value (asked s size).compared)

  -- at most 1 below 512; where nothing fits none, and from 512 on the whole class 5 list, and that of the state with its cache emptied
  abbrev pub Compared : Type 0
  Compared =
      (s : S) (m : Model) → Shows op most places s m → (size : ℕ)
      → (rounded_of size < 512 → (asked s size).compared ≤ 1)
      × (rounded_of size < 512 → (asked s size).number ≡ 3 → (asked s size).compared ≡ 0)
      × (512 ≤ rounded_of size → (asked s size).number ≡ 3 → (asked s size).compared ≡ length (m.orders 5) + length ((without_cache_m m).orders 5))

  -- DEMAND 3: two heaps that show one model answer alike, and as the rules without memory, whatever else their words hold and the tasks write
  abbrev pub TwoRunsAgree : Type 0
  TwoRunsAgree =
      (es fs : List (Event Request)) (s t : S) (m : Model) → requests es ≡ requests fs → Shows op most places s m → Shows op most places t m
      → Allowed (acts op most places) es s → Allowed (acts op most places) fs t
      → (answers (acts op most places) es s ≡ replies (machine places) (requests es) m)
      × (answers (acts op most places) es s ≡ answers (acts op most places) fs t)
      × Same op most places (run (acts op most places) es s) (run (acts op most places) fs t)

  -- no call changes a word of a payload that is live before and after it
  abbrev pub PayloadKept : Type 0
  PayloadKept =
      (q : Request) (s : S) (i : ℕ) → Live op most places s i → Live op most places (call op most places q s).after i
      → op.word (call op most places q s).after i ≡ op.word s i

  -- payloads arrive empty: what is handed out is a live payload, and every word of it is 0
  abbrev pub ArrivesEmpty : Type 0
  ArrivesEmpty =
      (s : S) (m : Model) (size : ℕ) → (asked s size).number ≡ 0 → Shows op most places (asked s size).after m
      → (n : ℕ) × LiveAt m (asked s size).value n × ((i : ℕ) → Holds (asked s size).value n i → op.word (asked s size).after i ≡ 0)

  -- so at the moment of handout its words are equal in two heaps that showed one model
  abbrev pub AlikeAtHandout : Type 0
  AlikeAtHandout =
      (s t : S) (m k : Model) (size : ℕ) → Shows op most places s m → Shows op most places t m → (asked s size).number ≡ 0
      → Shows op most places (asked s size).after k
      → (n i : ℕ) → LiveAt k (asked s size).value n → Holds (asked s size).value n i
      → op.word (asked s size).after i ≡ op.word (asked t size).after i

  -- the statements, together
  pub record Demands : Type 0 where
    pub numbers : Answers
    pub refused : RefusedUnchanged
    pub returned : Returned
    pub tested : SoundTested
    pub unique : SoundUnique
    pub kept : SoundKept
    pub ordered : FiguresOrdered
    pub zero : ZeroExactly
    pub large : LargeExactly
    pub damaged : DamagedExactly
    pub no_fit : NoFitExactly
    pub by_runs : NoFitByRuns
    pub not_live : NotLiveExactly
    pub position : Position
    pub compared : Compared
    pub runs : TwoRunsAgree
    pub payload : PayloadKept
    pub empty : ArrivesEmpty
    pub alike : AlikeAtHandout

-- MAKING: 0 exactly for accepted lengths, and then one model for all memories of that length; else 6, the empty record, the words as they were
abbrev pub MakingSound : Width → ℕ → ℕ → Type 0
MakingSound W most places =
    (ws : List ℕ) → Iff ((make W most ws).number ≡ 0) (Accepted most (length ws))
    × ((make W most ws).number ≡ 0 → Shows (ops W) most places (make W most ws).after (made_m (length ws)))
    × ((make W most ws).number ≢ 0 → ((make W most ws).number ≡ 6) × ((make W most ws).after ≡ empty ws))
