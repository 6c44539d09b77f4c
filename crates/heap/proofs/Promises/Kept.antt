-- SOUND AND DETERMINED: making gives a sound heap, the calls keep it so, and a contract leaves nothing open. Assumes nothing.
--     made_sound, sound_kept
--     one_layout     what a sound pair shows is unique
--     calls_determined, making_determined     any two outcomes that a contract allows for one input are the same outcome
--     hand_out_determined, take_back_determined, make_determined     so are any two answers of the code, and the words after them
use mathlib.Core.Path.{◌≡◌, sym, ap, ◌∙◌, subst}
use mathlib.Core.List.{List}
use Prim.Native.Nat.{ℕ, ◌<◌}
use lib.ListN.{length}
use Rattle.std.specs.Prelude.{Result}
use Rattle.rules.specs.Rules.Calls.{Outcome}
use Rattle.rules.specs.Rules.Making.{State}
use Rattle.rules.specs.Sound.Model.{Model}
use Rattle.rules.specs.Machine.Machine.{Request, ask, give, made_m}
use Rattle.rules.specs.Sound.Sound.{Shows, Sound}
use Rattle.rules.specs.Demands.Demands.{Demands}
use Rattle.rules.proofs.Demands.Proved.{narrow_demands, narrow_making}
use Rattle.heap.specs.declared.answer.Done.{Done}
use Rattle.heap.specs.declared.answer.NotMade.{NotMade}
use Rattle.heap.specs.declared.answer.Refusal.{Refusal}
use Rattle.heap.specs.declared.record.Record.{Record}
use Rattle.heap.specs.Seen.{seen, base, FourPlaces}
use Rattle.heap.specs.Answer.{Out, number, out_of, out_after, out_made}
use Rattle.heap.specs.Promises.{Makes, HandsOut, TakesBack, Calls, ShowsIn, SoundIn}
use Rattle.heap.proofs.Apart.{outcome_same, out_of_same, out_after_same, out_made_same}
use Rattle.heap.proofs.Histories.{outcome_call, after_call}

module _ (places : ℕ) where
  -- the demands, of narrow links
  ours : Demands base 65529 places
  ours = narrow_demands places

  pub made_sound : (ws vs : List ℕ) (o : Out)
      → Makes ws o vs
      → number o.answer ≡ 0
      -- one free chunk, listed; the same model whatever the words held
      → ShowsIn places o.rec vs (made_m (length ws))
  made_sound ws vs o e z =
      subst (λ (s : State). Shows base 65529 places s (made_m (length ws))) (sym (ap (λ (q : Outcome State). q.after) e))
      ((narrow_making places ws).1 (sym (ap (λ (q : Outcome State). q.number) e) ∙ z))

  pub sound_kept : (r : Record) (ws vs : List ℕ) (k : Request) (o : Out)
      → Calls places k r ws o vs
      → SoundIn places r ws
      → SoundIn places o.rec vs
  sound_kept r ws vs k o e h = subst (Sound base 65529 places) (sym (after_call places r ws vs k o e)) (ours.kept k (seen r ws) h)

  -- a sound pair has one layout, one order of each list and one set of figures
  pub one_layout : (r : Record) (ws : List ℕ) (m n : Model)
      → ShowsIn places r ws m
      → ShowsIn places r ws n
      → (m.cs ≡ n.cs) × ((k : ℕ) → k < 6 → m.orders k ≡ n.orders k) × (m.figs ≡ n.figs)
  one_layout r ws = ours.unique (seen r ws)

  pub calls_determined : (r : Record) (ws vs us : List ℕ) (k : Request) (o p : Out)
      → Calls places k r ws o vs
      → Calls places k r ws p us
      → FourPlaces o.rec
      → FourPlaces p.rec
      → (o ≡ p) × (vs ≡ us)
  calls_determined r ws vs us k o p e d fo fp = outcome_same o p vs us fo fp (outcome_call places r ws vs k o e ∙ sym (outcome_call places r ws us k p d))

  pub making_determined : (ws vs us : List ℕ) (o p : Out)
      → Makes ws o vs
      → Makes ws p us
      → FourPlaces o.rec
      → FourPlaces p.rec
      → (o ≡ p) × (vs ≡ us)
  making_determined ws vs us o p e d fo fp = outcome_same o p vs us fo fp (e ∙ sym d)

  -- the same of what the code returns
  pub hand_out_determined : (r : Record) (ws vs us : List ℕ) (n : ℕ) (a b : Result (Done × Record) Refusal)
      → HandsOut places r ws n (out_of r a) vs
      → HandsOut places r ws n (out_of r b) us
      → FourPlaces (out_of r a).rec
      → FourPlaces (out_of r b).rec
      → (a ≡ b) × (vs ≡ us)
  hand_out_determined r ws vs us n a b e d fa fb =
      let same = calls_determined r ws vs us (ask n) (out_of r a) (out_of r b) e d fa fb in (out_of_same r a b same.0, same.1)

  pub take_back_determined : (r : Record) (ws vs us : List ℕ) (p : ℕ) (a b : Result Record Refusal)
      → TakesBack places r ws p (out_after r a) vs
      → TakesBack places r ws p (out_after r b) us
      → FourPlaces (out_after r a).rec
      → FourPlaces (out_after r b).rec
      → (a ≡ b) × (vs ≡ us)
  take_back_determined r ws vs us p a b e d fa fb =
      let same = calls_determined r ws vs us (give p) (out_after r a) (out_after r b) e d fa fb in (out_after_same r a b same.0, same.1)

  pub make_determined : (ws vs us : List ℕ) (a b : Result Record NotMade)
      → Makes ws (out_made a) vs
      → Makes ws (out_made b) us
      → FourPlaces (out_made a).rec
      → FourPlaces (out_made b).rec
      → (a ≡ b) × (vs ≡ us)
  make_determined ws vs us a b e d fa fb =
      let same = making_determined ws vs us (out_made a) (out_made b) e d fa fb in (out_made_same a b same.0, same.1)
