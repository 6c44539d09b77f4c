-- WHICH WORDS A CALL WRITES: only words of the chunks that it takes, cuts, releases or merges, the headers right of them, and link words of free chunks.
-- And what tasks keep in live payloads stays. proofs/Demands/Frame.antt proves the claims, for both link widths and any number of cache places; making's is in
-- specs/Demands/Promises.antt.
use Rattle.std.specs.Prelude.{◌≡◌, ◌≢◌, ◌⊎◌, List, [], ◌∷◌, ◌++◌, ℕ, ◌+◌, ◌-◌, ◌*◌, ◌/◌, ◌≤◌, ◌<◌}
use Rattle.words.specs.Sizes.{rounded_of}
use Rattle.rules.specs.Rules.Lists.{Mem}
use Rattle.rules.specs.Rules.Ops.{Ops}
use Rattle.rules.specs.Rules.Chunks.{Chunk, busy, total}
use Rattle.rules.specs.Sound.Exact.{slot, frees}
use Rattle.rules.specs.Machine.Orders.{free_head, free_last}
use Rattle.rules.specs.Rules.Calls.{Figures, byte_of, name_of}
use Rattle.rules.specs.Sound.Model.{Model}
use Rattle.rules.specs.Machine.Machine.{size_m, without_cache_m}
use Rattle.rules.specs.Sound.Sound.{Shows}
use Rattle.rules.specs.Demands.Meaning.{FromMerged, Holds}
use Rattle.rules.specs.Demands.Demands.{asked, given}
use Rattle.rules.specs.Demands.Lives.{live_at}

-- word i is neither of the two words after the header of a free chunk (links stand there; narrow ones in the first alone)
abbrev pub NoLink : Model → ℕ → Type 0
NoLink m i = (x n : ℕ) → Mem (slot x n) (frees 0 m.cs) → (i ≢ x - 5) × (i ≢ x - 4)

-- word i lies before word a, or after word b
abbrev pub Outside : ℕ → ℕ → ℕ → Type 0
Outside a b i = (i < a) ⊎ (b < i)

-- word i lies in no free chunk, and is not the header right of one
abbrev pub Clear : Model → ℕ → Type 0
Clear m i = (x n : ℕ) → Mem (slot x n) (frees 0 m.cs) → Outside (x - 6) (x - 6 + n / 4) i

module _ {S : Type 0} (op : Ops S Figures) (most places : ℕ) where
  -- HANDING OUT at payload v writes words of the chunk there, as long as it was before it was cut, the header right of it, and links; where the cache was
  -- emptied for it, words of the free chunks of the layout without the cache, and headers right of them
  abbrev pub HandFrame : Type 0
  HandFrame =
      (s : S) (m : Model) (size i : ℕ) → Shows op most places s m
      → let o = asked op most places s size in
      let b = o.value - 4 in
      NoLink m i → Outside (b / 4) ((b + size_m m (name_of b)) / 4) i → (FromMerged m (rounded_of size) o.value o.compared → Clear (without_cache_m m) i)
      → op.word o.after i ≡ op.word s i

  -- TAKING BACK writes, of k, the oldest of the cached chunks and this one: its words and those of its free neighbours, the header right of them, and links
  abbrev pub BackFrame : Type 0
  BackFrame =
      (s : S) (m : Model) (p i k n : ℕ) (ks : List ℕ) (pre post : List Chunk) → Shows op most places s m
      → m.figs.cached ++ name_of (p - 4) ∷ [] ≡ k ∷ ks → m.cs ≡ pre ++ busy n ∷ post → byte_of k ≡ total pre
      → NoLink m i → Outside ((total pre - free_last 0 pre) / 4) ((total pre + n + free_head post) / 4) i
      → op.word (given op most places s p).after i ≡ op.word s i

  -- WHAT TASKS KEEP THERE STAYS: whatever the answer, a handout changes no word of a live payload, and taking one back none of another
  abbrev pub ContentsStay : Type 0
  ContentsStay =
      ((s : S) (size p i : ℕ) → 0 < live_at op most places s p → Holds p (live_at op most places s p) i
      → op.word (asked op most places s size).after i ≡ op.word s i)
      × ((s : S) (p q i : ℕ) → q ≢ p → 0 < live_at op most places s q → Holds q (live_at op most places s q) i
      → op.word (given op most places s p).after i ≡ op.word s i)

  -- the statements, together
  pub record Frame : Type 0 where
    pub hand : HandFrame
    pub back : BackFrame
    pub contents : ContentsStay
