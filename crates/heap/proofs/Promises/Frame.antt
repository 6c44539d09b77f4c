-- WHICH WORDS A CALL WRITES. Assumes nothing.
--     making_writes_only     making changes words 0, 1, n - 2 and n - 1 and no other
--     handing_out_writes_only, taking_back_writes_only     a call changes only words of the chunks that it takes, cuts, releases or merges, the headers right of
--                          them, and link words of free chunks
use mathlib.Core.Path.{◌≡◌, sym, ap, ◌∙◌, subst}
use mathlib.Core.Logic.{◌≢◌}
use mathlib.Core.List.{List, [], ◌∷◌, ◌++◌}
use Prim.Native.Nat.{ℕ, ◌+◌, ◌-◌, ◌/◌}
use lib.ListN.{length}
use Rattle.words.specs.Links.{narrow}
use Rattle.words.specs.Sizes.{rounded_of}
use Rattle.words.specs.Tags.{at}
use Rattle.rules.specs.Rules.Chunks.{Chunk, busy, total}
use Rattle.rules.specs.Rules.Calls.{Outcome, byte_of, name_of}
use Rattle.rules.specs.Rules.Making.{State}
use Rattle.rules.specs.Sound.Model.{Model}
use Rattle.rules.specs.Machine.Machine.{size_m, without_cache_m}
use Rattle.heap.specs.declared.record.Record.{Record}
use Rattle.heap.specs.Seen.{seen}
use Rattle.heap.specs.Answer.{Out, value, compared}
use Rattle.heap.specs.Promises.{Makes, HandsOut, TakesBack, ShowsIn}
use Rattle.rules.specs.Machine.Orders.{free_head, free_last}
use Rattle.rules.specs.Demands.Frame.{NoLink, Outside, Clear}
use Rattle.rules.specs.Demands.Meaning.{FromMerged}
use Rattle.rules.proofs.Demands.Making.{making_writes}
use Rattle.rules.proofs.Demands.Frame.{narrow_frame}

module _ (places : ℕ) where
  -- making changes words 0, 1, n - 2 and n - 1 and no other
  pub making_writes_only : (ws vs : List ℕ) (o : Out) (i : ℕ)
      → Makes ws o vs
      → i ≢ 0
      → i ≢ 1
      → i ≢ length ws - 2
      → i ≢ length ws - 1
      → at vs i ≡ at ws i
  making_writes_only ws vs o i e a b c d =
      ap (λ (x : Outcome State). at x.after.words i) e ∙ (making_writes narrow 65529 ws).1 i a b b c d

  -- handing out at payload v: the chunk there, as long as it was before it was cut, and the header right of it; links of free chunks; where the cache was emptied
  -- for it, the free chunks of the layout without the cache, and headers right of them
  pub handing_out_writes_only : (r : Record) (ws vs : List ℕ) (n : ℕ) (o : Out) (m : Model) (i : ℕ)
      → HandsOut places r ws n o vs
      → ShowsIn places r ws m
      -- word i is neither of the two words after a free chunk's header
      → NoLink m i
      → Outside ((value o.answer - 4) / 4) ((value o.answer - 4 + size_m m (name_of (value o.answer - 4))) / 4) i
      → (FromMerged m (rounded_of n) (value o.answer) (compared o.answer) → Clear (without_cache_m m) i)
      → at vs i ≡ at ws i
  handing_out_writes_only r ws vs n o m i e h =
      subst (λ (x : Outcome State). NoLink m i → Outside ((x.value - 4) / 4) ((x.value - 4 + size_m m (name_of (x.value - 4))) / 4) i
      → (FromMerged m (rounded_of n) x.value x.compared → Clear (without_cache_m m) i) → at x.after.words i ≡ at ws i) (sym e)
      ((narrow_frame places).hand (seen r ws) m n i h)

  -- taking back: the older one of the cached chunk and this one, where there are both, with its free neighbours, and the header right of them; links of free
  -- chunks
  pub taking_back_writes_only : (r : Record) (ws vs : List ℕ) (p : ℕ) (o : Out) (m : Model) (i k n : ℕ) (ks : List ℕ) (pre post : List Chunk)
      → TakesBack places r ws p o vs
      → ShowsIn places r ws m
      -- the oldest of the cached chunk and this one is named k, and has n bytes, with the chunks pre before it and post after it
      → m.figs.cached ++ name_of (p - 4) ∷ [] ≡ k ∷ ks
      → m.cs ≡ pre ++ busy n ∷ post
      → byte_of k ≡ total pre
      → NoLink m i
      → Outside ((total pre - free_last 0 pre) / 4) ((total pre + n + free_head post) / 4) i
      → at vs i ≡ at ws i
  taking_back_writes_only r ws vs p o m i k n ks pre post e h a b c d f =
      ap (λ (x : Outcome State). at x.after.words i) e ∙ (narrow_frame places).back (seen r ws) m p i k n ks pre post h a b c d f
