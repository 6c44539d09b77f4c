-- WHAT IS LIVE, pointwise: `live_in r ws p` is the length of the live chunk whose payload begins at offset p, and 0 where none does. Assumes nothing.
--     live_made, live_handed_out, live_taken_back     long enough, new, and every other payload stays live with its length
--     live_place, live_apart     no payload leaves the heap, no two overlap
--     handing_out_keeps, taking_back_keeps     no call changes a word of a live payload, but of the one given back
use mathlib.Core.Path.{◌≡◌, sym, ap, ◌∙◌, subst}
use mathlib.Core.Logic.{◌≢◌}
use mathlib.Core.List.{List}
use Prim.Native.Nat.{ℕ, ◌≤◌, ◌<◌, ◌+◌, ◌-◌, ◌*◌, ◌%◌}
use lib.ListN.{length}
use Rattle.words.specs.Sizes.{rounded_of}
use Rattle.words.specs.Tags.{at}
use Rattle.rules.specs.Rules.Calls.{Outcome}
use Rattle.rules.specs.Rules.Making.{State}
use Rattle.rules.specs.Sound.Model.{Model}
use Rattle.rules.specs.Machine.Machine.{ask}
use Rattle.rules.specs.Sound.Sound.{Shows}
use Rattle.rules.specs.Demands.Meaning.{LiveAt, Holds}
use Rattle.rules.specs.Demands.Demands.{Demands}
use Rattle.rules.proofs.Demands.Proved.{narrow_demands}
use Rattle.heap.specs.declared.record.Record.{Record}
use Rattle.heap.specs.Seen.{seen, base}
use Rattle.heap.specs.Answer.{Out, number, value}
use Rattle.heap.specs.Promises.{Makes, HandsOut, TakesBack, ShowsIn, SoundIn, live_in}
use Rattle.heap.proofs.Promises.Kept.{sound_kept}
use Rattle.heap.proofs.Promises.Exactly.{served_exactly}
use native.Mathlib.Omega.{arith}
use Rattle.rules.specs.Demands.Lives.{live_at, NewPayload, GonePayload, Lives}
use Rattle.rules.proofs.Demands.Lives.{narrow_lives}
use Rattle.rules.proofs.Demands.Making.{narrow_none_live}
use Rattle.rules.proofs.Demands.Frame.{narrow_frame}

module _ (places : ℕ) where
  -- the demands, of narrow links
  ours : Demands base 65529 places
  ours = narrow_demands places

  -- what is live, of narrow links
  lives : Lives base 65529 places
  lives = narrow_lives places

  -- after making nothing is live
  pub live_made : (ws vs : List ℕ) (o : Out) (p : ℕ)
      → Makes ws o vs
      → number o.answer ≡ 0
      → live_in o.rec vs p ≡ 0
  live_made ws vs o p e z =
      ap (λ (x : Outcome State). live_at base 65529 places x.after p) e ∙ narrow_none_live places ws (sym (ap (λ (x : Outcome State). x.number) e) ∙ z) p

  -- LONG ENOUGH, NEW, AND THE OTHERS STAY
  pub live_handed_out : (r : Record) (ws vs : List ℕ) (n : ℕ) (o : Out)
      → HandsOut places r ws n o vs
      → number o.answer ≡ 0
      -- the payload was not live
      → (live_in r ws (value o.answer) ≡ 0)
      -- its chunk has the rounded size, so n bytes after its header, and at most 512 more
      × (rounded_of n ≤ live_in o.rec vs (value o.answer))
      × (n + 4 ≤ live_in o.rec vs (value o.answer))
      × (live_in o.rec vs (value o.answer) ≤ rounded_of n + 512)
      -- every other payload is live as it was, with the same length
      × ((q : ℕ) → q ≢ value o.answer → live_in o.rec vs q ≡ live_in r ws q)
  live_handed_out r ws vs n o e z =
      let w = subst (λ (x : Outcome State). x.number ≡ 0 → NewPayload base 65529 places (seen r ws) x.after (rounded_of n) x.value) (sym e)
      (lives.handed (seen r ws) n) z in
      let a = w.enough in
      (w.new, w.enough, omega arith, w.slack, w.others)

  -- what is freed is live no more, and the others stay
  pub live_taken_back : (r : Record) (ws vs : List ℕ) (p : ℕ) (o : Out)
      → TakesBack places r ws p o vs
      → number o.answer ≡ 0
      -- it was live and is no more
      → (0 < live_in r ws p)
      × (live_in o.rec vs p ≡ 0)
      -- every other payload is live as it was, with the same length
      × ((q : ℕ) → q ≢ p → live_in o.rec vs q ≡ live_in r ws q)
  live_taken_back r ws vs p o e z =
      let w = subst (λ (x : Outcome State). x.number ≡ 0 → GonePayload base 65529 places (seen r ws) x.after p) (sym e) (lives.taken (seen r ws) p) z in
      (w.was, w.gone, w.others)

  -- none leaves the heap
  pub live_place : (r : Record) (ws : List ℕ) (p : ℕ)
      → SoundIn places r ws
      → 0 < live_in r ws p
      → (p % 8 ≡ 4)
      × (4 ≤ p)
      × (16 ≤ live_in r ws p)
      × (live_in r ws p % 8 ≡ 0)
      -- the chunk, whose header is the 4 bytes before the payload, ends before the guard
      × (p - 4 + live_in r ws p ≤ 4 * (length ws - 1))
  live_place r ws p h a = let w = lives.inside (seen r ws) p h a in let i = w.inside in let l = w.low in (w.place, w.low, w.least, w.eights, omega arith)

  -- of two live payloads the lower one's chunk ends where the other's begins, or before
  pub live_apart : (r : Record) (ws : List ℕ) (p q : ℕ)
      → SoundIn places r ws
      → 0 < live_in r ws p
      → 0 < live_in r ws q
      → p < q
      → p - 4 + live_in r ws p ≤ q - 4
  live_apart r ws p q h a b l = let w = lives.apart (seen r ws) p q h a b l in let i = (lives.inside (seen r ws) p h a).low in omega arith

  -- what tasks keep in live payloads stays, whatever the answer
  pub handing_out_keeps : (r : Record) (ws vs : List ℕ) (n : ℕ) (o : Out) (p i : ℕ)
      → HandsOut places r ws n o vs
      → 0 < live_in r ws p
      -- word i lies in the payload at p
      → Holds p (live_in r ws p) i
      → at vs i ≡ at ws i
  handing_out_keeps r ws vs n o p i e a h = ap (λ (x : Outcome State). at x.after.words i) e ∙ (narrow_frame places).contents.0 (seen r ws) n p i a h

  -- taking one back leaves the others' words
  pub taking_back_keeps : (r : Record) (ws vs : List ℕ) (p : ℕ) (o : Out) (q i : ℕ)
      → TakesBack places r ws p o vs
      -- another payload than the one given back
      → q ≢ p
      → 0 < live_in r ws q
      → Holds q (live_in r ws q) i
      → at vs i ≡ at ws i
  taking_back_keeps r ws vs p o q i e d a h = ap (λ (x : Outcome State). at x.after.words i) e ∙ (narrow_frame places).contents.1 (seen r ws) p q i d a h

  -- after a handout that is done: the model shown, and the payload in it, with every word 0
  pub empty_there : (r : Record) (ws vs : List ℕ) (n : ℕ) (o : Out) → HandsOut places r ws n o vs → number o.answer ≡ 0
      → (m : Model) × ShowsIn places o.rec vs m × ((k : ℕ) × LiveAt m (value o.answer) k × ((i : ℕ) → Holds (value o.answer) k i → at vs i ≡ 0))
  empty_there r ws vs n o e z =
      let h = sound_kept places r ws vs (ask n) o e ((served_exactly places r ws vs n o e).0 z).1 in
      let s = ap (λ (q : Outcome State). q.after) e in
      let v = ap (λ (q : Outcome State). q.value) e in
      let done = sym (ap (λ (q : Outcome State). q.number) e) ∙ z in
      let f = ours.empty (seen r ws) h.0 n done (subst (λ (t : State). Shows base 65529 places t h.0) s h.1) in (
        h.0,
        h.1,
        (
          f.0,
          subst (λ (x : ℕ). LiveAt h.0 x f.0) (sym v) f.1,
          λ i p. ap (λ (t : State). at t.words i) s ∙ f.2 i (subst (λ (x : ℕ). Holds x f.0 i) v p),
        ),
      )
