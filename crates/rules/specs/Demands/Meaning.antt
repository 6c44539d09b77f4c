-- WHAT THE ANSWERS MEAN, on models: no fit, live, and where a handout comes from; and the two calls as the demands speak of them, with the test for answer 5.
use Rattle.std.specs.Prelude.{◌≡◌, false, ℕ, ◌+◌, ◌-◌, ◌*◌, ◌≤◌, ◌<◌, leb, length}
use Rattle.words.specs.Sizes.{threshold_of}
use Rattle.rules.specs.Rules.Lists.{Mem, First}
use Rattle.rules.specs.Rules.Ops.{Ops}
use Rattle.rules.specs.Sound.Exact.{slot, frees}
use Rattle.rules.specs.Rules.Place.{UsedAt}
use Rattle.rules.specs.Rules.Calls.{Figures, Outcome, byte_of, name_of, serves, hand_out, take_back}
use Rattle.rules.specs.Sound.Model.{Model}
use Rattle.rules.specs.Machine.Machine.{size_m, searched, without_cache_m}
use Rattle.rules.specs.Sound.Test.{soundᵇ}

-- no cached chunk serves z
abbrev pub NoneServes : Model → ℕ → Type 0
NoneServes m z = (x : ℕ) → Mem x m.figs.cached → serves (size_m m x) z ≡ false

-- NO FIT: it may fit at another time, but no cached chunk serves, and no free chunk of the layout with the cache emptied reaches the threshold
pub record NoFit (m : Model) (z : ℕ) : Type 0 where
  pub may : threshold_of z ≤ 4 * (m.figs.words - 1)
  pub cache : NoneServes m z
  pub lists : (x n : ℕ) → Mem (slot x n) (frees 0 (without_cache_m m).cs) → n < threshold_of z

-- FROM THE CACHE: the payload at p is that of the oldest cached chunk that serves z
abbrev pub FromCache : Model → ℕ → ℕ → Type 0
FromCache m z p = (x : ℕ) × First (λ y. serves (size_m m y) z) m.figs.cached x × (p ≡ byte_of x + 4)

-- the payload at p is that of the first chunk, in the order of the search for z bytes, that reaches z; it is the c-th one
abbrev pub Met : Model → ℕ → ℕ → ℕ → Type 0
Met m z p c = (x : ℕ) × (f : First (λ y. leb z (size_m m y)) (searched m z) x) × (c ≡ length f.before + 1) × (p ≡ byte_of x + 4)

-- FROM A LIST: no cached chunk serves z, and the search meets this one
abbrev pub FromList : Model → ℕ → ℕ → ℕ → Type 0
FromList m z p c = NoneServes m z × Met m z p c

-- FROM A LIST, THE CACHE EMPTIED: no cached chunk serves z, all that the search meets are shorter, and the search after emptying meets this one; c counts both
abbrev pub FromMerged : Model → ℕ → ℕ → ℕ → Type 0
FromMerged m z p c =
    NoneServes m z × ((y : ℕ) → Mem y (searched m z) → size_m m y < z) × (d : ℕ) × Met (without_cache_m m) z p d × (c ≡ length (searched m z) + d)

-- LIVE: the payload at p is that of a used chunk of n bytes that is not cached
abbrev pub LiveAt : Model → ℕ → ℕ → Type 0
LiveAt m p n = (4 ≤ p) × UsedAt m.cs (p - 4) n × (Mem (name_of (p - 4)) m.figs.cached → ⊥)

-- word i lies in the payload at p of a chunk of n bytes, which ends n - 4 bytes after p
abbrev pub Holds : ℕ → ℕ → ℕ → Type 0
Holds p n i = (p ≤ 4 * i) × (4 * i + 4 ≤ p - 4 + n)

-- word i lies in the payload of a live chunk
abbrev pub LiveWord : Model → ℕ → Type 0
LiveWord m i = (p : ℕ) × (n : ℕ) × LiveAt m p n × Holds p n i

module _ {S : Type 0} (op : Ops S Figures) (most places : ℕ) where
  -- THE CALLS
  abbrev pub hand : S → ℕ → Outcome S
  hand s size = hand_out op (soundᵇ op most places) s size

  abbrev pub back : S → ℕ → Outcome S
  back s p = take_back op places (soundᵇ op most places) s p
