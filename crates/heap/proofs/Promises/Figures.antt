-- THE FIGURES: in use, committed, peak, high water and flag, on any sound heap and after each call. Assumes nothing.
--     figures_sums, figures_ordered, figures_flag     in use is the sum of live lengths, committed the sum of used ones; in use ≤ committed ≤ peak ≤ high
--                          water; the flag is 0 or 1
--     figures_made, figures_handed_out, figures_taken_back     after each call
use mathlib.Core.Path.{◌≡◌, sym, ap, ◌∙◌, subst}
use mathlib.Core.Logic.{◌⊎◌}
use mathlib.Core.List.{List}
use Prim.Native.Nat.{ℕ, ◌≤◌, ◌<◌, ◌+◌, ◌-◌}
use Rattle.rules.specs.Rules.Chunks.{used_sum}
use Rattle.rules.specs.Rules.Calls.{Figures, Outcome, without_cache_f}
use Rattle.rules.specs.Rules.Making.{State}
use Rattle.rules.specs.Sound.Model.{Model}
use Rattle.rules.specs.Sound.Sound.{live_sum}
use Rattle.rules.specs.Demands.Demands.{Demands}
use Rattle.rules.proofs.Demands.Proved.{narrow_demands}
use Rattle.rules.proofs.Demands.Promises.{narrow_promises}
use Rattle.words.specs.Numbers.{numbers}
use Rattle.cache.specs.Places.{cached_of}
use Rattle.heap.specs.declared.record.Record.{Record}
use Rattle.heap.specs.Seen.{seen, base, figures_of}
use Rattle.heap.specs.Answer.{Out, number, value, compared}
use Rattle.heap.specs.Promises.{Makes, HandsOut, TakesBack, ShowsIn, SoundIn, live_in}
use Rattle.rules.specs.Demands.Lives.{live_at}
use Rattle.rules.specs.Demands.Promises.{CountedUp, HeldOnly, Promises}
use Rattle.heap.proofs.Promises.Kept.{made_sound}

module _ (places : ℕ) where
  -- the demands, of narrow links
  ours : Demands base 65529 places
  ours = narrow_demands places

  -- the further promises, of narrow links
  told : Promises base 65529 places
  told = narrow_promises places

  pub figures_sums : (r : Record) (ws : List ℕ) (m : Model)
      → ShowsIn places r ws m
      → (r.in_use ≡ live_sum (cached_of (numbers r.cached)) 0 m.cs) × (r.committed ≡ used_sum m.cs)
  figures_sums r ws m h = (
    ap (λ (f : Figures). f.in_use) h.figs ∙ h.right.in_use ∙ ap (λ (f : Figures). live_sum f.cached 0 m.cs) (sym h.figs),
    ap (λ (f : Figures). f.committed) h.figs ∙ h.right.committed,
  )

  pub figures_ordered : (r : Record) (ws : List ℕ)
      → SoundIn places r ws
      → (r.in_use ≤ r.committed) × (r.committed ≤ r.peak) × (r.peak ≤ r.high)
  figures_ordered r ws h = ours.ordered (seen r ws) h

  -- the flag of a sound pair is off or on; so with any other value the calls answer 5, by `demand-2-damaged-exact`
  pub figures_flag : (r : Record) (ws : List ℕ)
      → SoundIn places r ws
      → r.fresh ≤ 1
  figures_flag r ws h = subst (λ (f : Figures). f.flag ≤ 1) (sym h.1.figs) h.1.right.flag

  -- after making all figures are 0 and the flag is off
  pub figures_made : (ws vs : List ℕ) (o : Out)
      → Makes ws o vs
      → number o.answer ≡ 0
      → (o.rec.in_use ≡ 0)
      × (o.rec.committed ≡ 0)
      × (o.rec.peak ≡ 0)
      × (o.rec.high ≡ 0)
      × (o.rec.fresh ≡ 0)
  figures_made ws vs o e z =
      let f = (made_sound places ws vs o e z).figs in (
        ap (λ (g : Figures). g.in_use) f,
        ap (λ (g : Figures). g.committed) f,
        ap (λ (g : Figures). g.peak) f,
        ap (λ (g : Figures). g.high) f,
        ap (λ (g : Figures). g.flag) f,
      )

  -- the length handed out, in an outcome of the rules
  abbrev handed : Outcome State → ℕ
  handed x = live_at base 65529 places x.after x.value

  -- a handout with count 0, from the cache: in use grows by the length handed out, l, and committed, peak, high water and flag stay; with another count, from a
  -- list: in use and committed grow by l, peak and high water rise to what is now committed and to the chunk's end, and the flag goes on where high water rose;
  -- the same where the cache was emptied for it, from the figures with the cache empty: committed was what tasks hold
  pub figures_handed_out : (r : Record) (ws vs : List ℕ) (n : ℕ) (o : Out)
      → HandsOut places r ws n o vs
      → number o.answer ≡ 0
      → (compared o.answer ≡ 0
      → HeldOnly (figures_of r) (figures_of o.rec) (r.in_use + live_in o.rec vs (value o.answer)))
      × (0 < compared o.answer
      → let l = live_in o.rec vs (value o.answer) in
      CountedUp (figures_of r) (figures_of o.rec) l (value o.answer - 4 + l)
      ⊎ CountedUp (without_cache_f (figures_of r)) (figures_of o.rec) l (value o.answer - 4 + l))
  figures_handed_out r ws vs n o e z =
      subst (λ (x : Outcome State). x.number ≡ 0
      → (x.compared ≡ 0 → HeldOnly (figures_of r) x.after.rest (r.in_use + handed x))
      × (0 < x.compared
      → CountedUp (figures_of r) x.after.rest (handed x) (x.value - 4 + handed x)
      ⊎ CountedUp (without_cache_f (figures_of r)) x.after.rest (handed x) (x.value - 4 + handed x)))
      (sym e) (told.handed_figures (seen r ws) n) z

  -- after taking back
  pub figures_taken_back : (r : Record) (ws vs : List ℕ) (p : ℕ) (o : Out)
      → TakesBack places r ws p o vs
      → number o.answer ≡ 0
      -- in use falls by the length given back; peak, high water and flag stay
      → (o.rec.in_use + live_in r ws p ≡ r.in_use)
      × (o.rec.peak ≡ r.peak)
      × (o.rec.high ≡ r.high)
      × (o.rec.fresh ≡ r.fresh)
  figures_taken_back r ws vs p o e z =
      subst (λ (x : Outcome State). x.number ≡ 0 → (x.after.rest.in_use + live_in r ws p ≡ r.in_use) × (x.after.rest.peak ≡ r.peak)
      × (x.after.rest.high ≡ r.high) × (x.after.rest.flag ≡ r.fresh)) (sym e) (told.taken_figures (seen r ws) p) z
