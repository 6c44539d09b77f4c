-- MAKING OVER an existing record, by making by value.
--     over_other    other words than are lent: 6, and all stays
--     over_made     as many as are lent: what making by value answers; the record made, or the one that is lent
-- Assumes nothing.
use Rattle.std.proofs.Common.{◌≡◌, Bool, true, false, List, ℕ, length, refl, sym, ap, ◌∙◌, arith}
use Rattle.std.specs.Prelude.{Result, Ok, Err}
use Rattle.std.specs.Result.{result_unwrap_or}
use borrow.Author.Tests.{eq-eqb, ne_eqb}
use Rattle.words.specs.Choice.{pick}
use Rattle.words.specs.Links.{narrow}
use Rattle.rules.specs.Rules.Calls.{Outcome, says}
use Rattle.rules.specs.Rules.Making.{State, make, acceptedᵇ}
use Rattle.heap.specs.declared.answer.NotMade.{NotMade}
use Rattle.heap.specs.declared.answer.Refusal.{Refusal}
use Rattle.heap.specs.declared.answer.Refusal.TheVariants.{ZeroSize, TooLarge, NoFit, NotLive, Damaged, BadLength, NeverFits}
use Rattle.heap.specs.declared.record.Record.{Record}
use Rattle.heap.specs.Seen.{seen}
use Rattle.heap.specs.Answer.{number_of, out_made, outcome}
use Rattle.heap.specs.Promises.{Makes}
use Rattle.door.specs.Reply.{make_over}

-- other words than are lent
pub over_other : (s : State) (n : ℕ) → (n ≡ length s.words → ⊥) → says 6 0 0 s ≡ make_over s n
unfolding make_over
over_other s n d = rw (ne_eqb _ _ d)

-- making over as many words as are lent
over_lent : (s : State) (n : ℕ) → n ≡ length s.words → make_over s n ≡ pick (acceptedᵇ 65529 (length s.words)) (make narrow 65529 s.words) (says 6 0 0 s)
unfolding make_over
over_lent s n e = rw (e, eq-eqb (length s.words) (length s.words) refl)

-- no refusal says 0
not_done : (e : Refusal) → number_of e ≡ 0 → ⊥
not_done ZeroSize z = omega arith
not_done TooLarge z = omega arith
not_done (NoFit c) z = omega arith
not_done NotLive z = omega arith
not_done Damaged z = omega arith
not_done BadLength z = omega arith
not_done NeverFits z = omega arith

module _ (r : Record) (ws vs : List ℕ) where
  -- what is left there says what making by value does, or 6 with all as it was
  left : (a : Result Record NotMade) (b : Bool) → acceptedᵇ 65529 (length ws) ≡ b → Makes ws (out_made a) vs
      → outcome (out_made a).answer (seen (result_unwrap_or a r) vs) ≡ pick b (make narrow 65529 ws) (says 6 0 0 (seen r ws))
  unfolding make
  left (Ok q) true f m = m
  left (Ok q) false f m = let no : ◌≡◌ {A = ℕ} 0 6 = ap (λ (o : Outcome State). o.number) (rw f at m) in absurd (omega arith)
  left (Err e) true f m = absurd (not_done e.refusal (ap (λ (o : Outcome State). o.number) (rw f at m)))
  left (Err e) false f m = ap (λ (o : Outcome State). says o.number 0 o.compared (seen r o.after.words)) (rw f at m)

  -- as many as are lent
  pub over_made : (a : Result Record NotMade) (n : ℕ) → n ≡ length ws → Makes ws (out_made a) vs
      → outcome (out_made a).answer (seen (result_unwrap_or a r) vs) ≡ make_over (seen r ws) n
  over_made a n e m = left a _ refl m ∙ sym (over_lent (seen r ws) n e)
