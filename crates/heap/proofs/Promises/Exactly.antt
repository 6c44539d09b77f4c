-- EACH ANSWER EXACTLY WHEN, for any record, words and number; what comes with it; which chunk is handed out, and how many were compared. 3 is
-- `demand_2_no_fit_exact`, 8 `demand_2_never_exact`, and "at most one below 512" `demand_2_few_compared`. Assumes nothing.
--     sizes_exactly     1 and 2
--     served_exactly, taken_exactly     done
--     four_exactly, four_by_layout     4, by what `live_in` gives and by the layout
--     five_exactly, six_exactly
--     answers_possible, answers_returned, freed_returned     the numbers there are, and what comes with them
--     no_fit_by_runs     3 as it is seen in the layout: by the longest run of touching free or cached chunks
--     position, compared_exactly     which chunk is handed out, and how many were compared where nothing fits
use mathlib.Core.Path.{◌≡◌, sym, ap, ◌∙◌, subst}
use mathlib.Core.Logic.{◌≢◌, ◌⊎◌}
use mathlib.Core.List.{List}
use Prim.Native.Nat.{ℕ, ◌+◌, ◌-◌, ◌*◌, ◌≤◌, ◌<◌}
use lib.ListN.{length}
use Rattle.words.specs.Sizes.{rounded_of, threshold_of}
use Rattle.rules.specs.Rules.Calls.{Outcome}
use Rattle.rules.specs.Rules.Making.{State}
use Rattle.rules.specs.Sound.Model.{Model}
use Rattle.rules.specs.Machine.Machine.{Request, ask, without_cache_m}
use Rattle.rules.specs.Sound.Sound.{Accepted}
use Rattle.rules.specs.Demands.FreeRuns.{longest_run}
use Rattle.rules.specs.Demands.Meaning.{NoneServes, FromCache, FromList, FromMerged, LiveAt}
use Rattle.rules.specs.Demands.Demands.{Demands, Iff, Allowable, numbers_of}
use Rattle.rules.proofs.Demands.Proved.{narrow_demands}
use Rattle.rules.proofs.Demands.Promises.{narrow_promises}
use Rattle.heap.specs.declared.record.Record.{Record}
use Rattle.heap.specs.Seen.{seen, base}
use Rattle.heap.specs.Answer.{Out, number, value, compared}
use Rattle.heap.specs.Promises.{Makes, HandsOut, TakesBack, Calls, ShowsIn, SoundIn, NeverIn, UnfitIn, live_in}
use Rattle.heap.proofs.Histories.{outcome_call}
use Rattle.rules.specs.Rules.Lists.{Mem}
use Rattle.rules.specs.Demands.Promises.{Promises}
use Rattle.rules.proofs.Demands.Making.{narrow_six}

module _ (places : ℕ) where
  -- the demands, of narrow links
  ours : Demands base 65529 places
  ours = narrow_demands places

  -- the further promises, of narrow links
  told : Promises base 65529 places
  told = narrow_promises places

  module _ (r : Record) (ws vs : List ℕ) (n : ℕ) (o : Out) where
    -- 1 exactly for size 0, 2 exactly above 4,294,967,284, whatever the record and the words
    pub sizes_exactly : HandsOut places r ws n o vs
        → Iff (number o.answer ≡ 1) (n ≡ 0) × Iff (number o.answer ≡ 2) (4294967284 < n)
    sizes_exactly e =
        let q = ap (λ (q : Outcome State). q.number) e in
        let a = ours.zero (seen r ws) n in
        let b = ours.large (seen r ws) n in
        ((λ z. a.0 (sym q ∙ z), λ z. q ∙ a.1 z), (λ z. b.0 (sym q ∙ z), λ z. q ∙ b.1 z))

    -- a handout is done exactly for an allowable size that may ever fit, on a sound heap where something fits
    pub served_exactly : HandsOut places r ws n o vs
        → Iff (number o.answer ≡ 0)
        (Allowable (ask n) × SoundIn places r ws × (NeverIn ws (rounded_of n) → ⊥) × (UnfitIn places r ws (rounded_of n) → ⊥))
    served_exactly e =
        subst (λ (x : Outcome State). Iff (x.number ≡ 0)
        (Allowable (ask n) × SoundIn places r ws × (NeverIn ws (rounded_of n) → ⊥) × (UnfitIn places r ws (rounded_of n) → ⊥))) (sym e)
        (told.served (seen r ws) n)

    -- a free is done exactly on a sound heap with a live payload there
    pub taken_exactly : TakesBack places r ws n o vs
        → Iff (number o.answer ≡ 0) (SoundIn places r ws × (0 < live_in r ws n))
    taken_exactly e = subst (λ (x : Outcome State). Iff (x.number ≡ 0) (SoundIn places r ws × (0 < live_in r ws n))) (sym e) (told.taken (seen r ws) n)

    -- 4 exactly on a sound heap with no live payload there
    pub four_exactly : TakesBack places r ws n o vs
        → Iff (number o.answer ≡ 4) (SoundIn places r ws × (live_in r ws n ≡ 0))
    four_exactly e = subst (λ (x : Outcome State). Iff (x.number ≡ 4) (SoundIn places r ws × (live_in r ws n ≡ 0))) (sym e) (told.four (seen r ws) n)

    module _ (m : Model) (h : ShowsIn places r ws m) where
      -- 4 exactly when the offset is no live chunk's payload start, whatever the words before it look like
      pub four_by_layout : TakesBack places r ws n o vs
          → Iff (number o.answer ≡ 4) ((k : ℕ) → LiveAt m n k → ⊥)
      four_by_layout e =
          let q = ap (λ (q : Outcome State). q.number) e in
          (λ z. (ours.not_live (seen r ws) m h n).0 (sym q ∙ z), λ z. q ∙ (ours.not_live (seen r ws) m h n).1 z)

      -- 3 as it is seen in the layout: no cached chunk serves, and no run of touching free or cached chunks reaches the threshold
      pub no_fit_by_runs : HandsOut places r ws n o vs
          → Allowable (ask n)
          -- it may ever fit
          → threshold_of (rounded_of n) ≤ 4 * (length ws - 1)
          → Iff (number o.answer ≡ 3) (NoneServes m (rounded_of n) × (longest_run m.figs.cached 0 0 m.cs < threshold_of (rounded_of n)))
      no_fit_by_runs e a k =
          let q = ap (λ (q : Outcome State). q.number) e in
          let w = ours.by_runs (seen r ws) m h n a (subst (λ (i : ℕ). threshold_of (rounded_of n) ≤ 4 * (i - 1)) (sym h.words) k) in
          (λ z. w.0 (sym q ∙ z), λ z. q ∙ w.1 z)

      -- below 512 at most one free chunk is compared; for no fit none below 512, else the whole class 5 list and that with every cached chunk released
      pub compared_exactly : HandsOut places r ws n o vs
          → (rounded_of n < 512 → compared o.answer ≤ 1)
          × (rounded_of n < 512 → number o.answer ≡ 3 → compared o.answer ≡ 0)
          × (512 ≤ rounded_of n → number o.answer ≡ 3 → compared o.answer ≡ length (m.orders 5) + length ((without_cache_m m).orders 5))
      compared_exactly e =
          let q = ap (λ (q : Outcome State). q.number) e in
          let c = ap (λ (q : Outcome State). q.compared) e in
          let d = ours.compared (seen r ws) m h n in
          (λ s. subst (λ (x : ℕ). x ≤ 1) (sym c) (d.0 s), λ s z. c ∙ d.1 s (sym q ∙ z), λ s z. c ∙ d.2 s (sym q ∙ z))

      -- a handout with count 0 is the oldest cached chunk that serves; with count c none serves, and it is the c-th chunk of the search, the first that reaches;
      -- or none of the search reaches, and it is the first that does with every cached chunk released, c counting both
      pub position : HandsOut places r ws n o vs
          → number o.answer ≡ 0
          → (compared o.answer ≡ 0 → FromCache m (rounded_of n) (value o.answer))
          × (0 < compared o.answer → FromList m (rounded_of n) (value o.answer) (compared o.answer)
          ⊎ FromMerged m (rounded_of n) (value o.answer) (compared o.answer))
      position e z =
          subst (λ (x : Outcome State). (x.compared ≡ 0 → FromCache m (rounded_of n) x.value)
          × (0 < x.compared → FromList m (rounded_of n) x.value x.compared ⊎ FromMerged m (rounded_of n) x.value x.compared)) (sym e)
          (ours.position (seen r ws) m h n (sym (ap (λ (q : Outcome State). q.number) e) ∙ z))

  -- 5 exactly for an allowable request to a heap that is not sound
  pub five_exactly : (r : Record) (ws vs : List ℕ) (k : Request) (o : Out)
      → Calls places k r ws o vs
      → Iff (number o.answer ≡ 5) (Allowable k × (SoundIn places r ws → ⊥))
  five_exactly r ws vs k o e =
      subst (λ (x : Outcome State). Iff (x.number ≡ 5) (Allowable k × (SoundIn places r ws → ⊥))) (sym (outcome_call places r ws vs k o e))
      (told.five k (seen r ws))

  -- the numbers there are
  pub answers_possible : (r : Record) (ws vs : List ℕ) (k : Request) (o : Out)
      → Calls places k r ws o vs
      → Mem (number o.answer) (numbers_of k)
  answers_possible r ws vs k o e =
      subst (λ (x : Outcome State). Mem x.number (numbers_of k)) (sym (outcome_call places r ws vs k o e)) (ours.numbers k (seen r ws))

  -- what comes with a refusal: the value 0, and 0 compared but for no fit
  pub answers_returned : (r : Record) (ws vs : List ℕ) (k : Request) (o : Out)
      → Calls places k r ws o vs
      → number o.answer ≢ 0
      → (value o.answer ≡ 0) × (number o.answer ≢ 3 → compared o.answer ≡ 0)
  answers_returned r ws vs k o e =
      subst (λ (x : Outcome State). x.number ≢ 0 → (x.value ≡ 0) × (x.number ≢ 3 → x.compared ≡ 0)) (sym (outcome_call places r ws vs k o e))
      (ours.returned.0 k (seen r ws))

  -- with taking back always both 0
  pub freed_returned : (r : Record) (ws vs : List ℕ) (p : ℕ) (o : Out)
      → TakesBack places r ws p o vs
      → (value o.answer ≡ 0) × (compared o.answer ≡ 0)
  freed_returned r ws vs p o e = subst (λ (x : Outcome State). (x.value ≡ 0) × (x.compared ≡ 0)) (sym e) (ours.returned.1 (seen r ws) p)

  -- 6 exactly for a length that is not accepted
  pub six_exactly : (ws vs : List ℕ) (o : Out)
      → Makes ws o vs
      → Iff (number o.answer ≡ 6) (Accepted 65529 (length ws) → ⊥)
  six_exactly ws vs o e = subst (λ (x : Outcome State). Iff (x.number ≡ 6) (Accepted 65529 (length ws) → ⊥)) (sym e) (narrow_six ws)
