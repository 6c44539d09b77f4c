-- THE DEMANDS, PROVED: for any edition, and so for both link widths and any number of cache places; and making. Assumes nothing.
use mathlib.Core.Path.{◌≡◌, refl, sym, ◌∙◌}
use mathlib.Core.Logic.{◌≢◌}
use mathlib.Core.Bool.{Bool, true, false}
use mathlib.Core.List.{List}
use Prim.Native.Nat.{ℕ, ◌+◌, ◌-◌, ◌*◌, ◌≤◌}
use native.Mathlib.Omega.{arith}
use lib.ListN.{length}
use Rattle.words.specs.Choice.{pick}
use Rattle.words.specs.Links.{Width, narrow, wide}
use Rattle.rules.specs.Rules.Ops.{Ops}
use Rattle.rules.specs.Rules.Steps.{one_chunk}
use Rattle.rules.specs.Rules.State.{ops}
use Rattle.rules.specs.Rules.Calls.{Figures, Outcome, says}
use Rattle.rules.specs.Rules.Making.{State, acceptedᵇ, make, empty, fresh}
use Rattle.rules.specs.Machine.Machine.{Request, ask, give, made_m}
use Rattle.rules.specs.Sound.Sound.{Accepted, Shows}
use Rattle.rules.specs.Demands.TwoHeaps.{call}
use Rattle.rules.specs.Demands.Demands.{Iff, Answers, RefusedUnchanged, Returned, SoundKept, DamagedExactly, Demands, MakingSound}
use Rattle.words.proofs.Laws.Links.{Lawful, narrow_lawful, wide_lawful}
use Rattle.rules.proofs.Steps.Store.{Edition}
use Rattle.rules.proofs.Demands.Decide.{sound_true, true_sound, layout_unique, orders_unique, figures_unique}
use Rattle.rules.proofs.Demands.Editions.{edition, narrow_fits, wide_fits, made_shows, accepted_true, true_accepted}
use Rattle.rules.proofs.Demands.Answers.{hand_numbers, back_numbers, hand_refused, back_refused, hand_returned, back_returned, hand_zero, hand_large, hand_sound}
use Rattle.rules.proofs.Demands.Answers.{back_sound, hand_fine, back_fine, hand_damaged, back_damaged, no_fit-exact, not_live-exact, position, compared_small}
use Rattle.rules.proofs.Demands.Answers.{compared_small_refused, compared_large_refused}
use Rattle.rules.proofs.Demands.FreeRuns.{no_fit-by_runs}
use Rattle.rules.proofs.Demands.Runs.{runs_agree, run_follows, payload_kept}
use Rattle.rules.proofs.Demands.Bounds.{figures_fit}
use Rattle.rules.proofs.Demands.Arrival.{arrives_empty, alike_at_handout}

-- request by request
module _ {S : Type 0} (op : Ops S Figures) (most places : ℕ) where
  numbers : Answers op most places
  unfolding call
  numbers (ask n) s = hand_numbers op most places s n
  numbers (give p) s = back_numbers op most places s p

  refused : RefusedUnchanged op most places
  unfolding call
  refused (ask n) s = hand_refused op most places s n
  refused (give p) s = back_refused op most places s p

  returned : Returned op most places
  unfolding call
  returned = (each, λ s p. back_returned op most places s p)
    where
      each : (q : Request) (s : S) → (call op most places q s).number ≢ 0
          → ((call op most places q s).value ≡ 0) × ((call op most places q s).number ≢ 3 → (call op most places q s).compared ≡ 0)
      each (ask n) s = hand_returned op most places s n
      each (give p) s = λ h. ((back_returned op most places s p).0, λ k. (back_returned op most places s p).1)

module _ {S : Type 0} {op : Ops S Figures} {most places : ℕ} (E : Edition op most places) where
  kept : SoundKept op most places
  unfolding call
  kept (ask n) s = hand_sound E s n
  kept (give p) s = back_sound E s p

  damaged : DamagedExactly op most places
  unfolding call
  damaged (ask n) s a = (λ e h. hand_fine E s h.0 h.1 n e, hand_damaged E s n a.0 a.1)
  damaged (give p) s a = (λ e h. back_fine E s h.0 h.1 p e, back_damaged E s p)

-- the demands
pub demands : {S : Type 0} {op : Ops S Figures} {most places : ℕ} → Edition op most places → Demands op most places
demands {op = op} {most = most} {places = places} E = record {
  numbers = numbers op most places;
  refused = refused op most places;
  returned = returned op most places;
  tested = λ s. (sound_true E s, true_sound E s);
  unique = λ s m n h g. (layout_unique E s m n h g, orders_unique E s m n h g, figures_unique E s m n h g);
  kept = kept E;
  ordered = λ s h. let f = figures_fit E s h.0 h.1 in (f.in_use, f.committed, f.peak);
  zero = hand_zero op most places;
  large = hand_large op most places;
  damaged = damaged E;
  no_fit = λ s m h size a. no_fit-exact E s m h size a.0 a.1;
  by_runs = λ s m h size a k. no_fit-by_runs E s m h size a.0 a.1 k;
  not_live = λ s m h p. not_live-exact E s m h p;
  position = position E;
  compared = λ s m h size. (compared_small E s m h size, compared_small_refused E s m h size, compared_large_refused E s m h size);
  runs = λ es fs s t m e h g a b. let r = runs_agree E es fs s t m e h g a b in ((run_follows E es s m h a).0, r.0, r.1);
  payload = payload_kept E;
  empty = arrives_empty E;
  alike = alike_at_handout E;
}

-- BOTH WIDTHS
pub narrow_edition : (places : ℕ) → Edition (ops {R = Figures} narrow) 65529 places
narrow_edition places = edition narrow_lawful 65529 places narrow_fits

pub wide_edition : (places : ℕ) → Edition (ops {R = Figures} wide) 4194303 places
wide_edition places = edition wide_lawful 4194303 places wide_fits

pub narrow_demands : (places : ℕ) → Demands (ops {R = Figures} narrow) 65529 places
narrow_demands places = demands (narrow_edition places)

pub wide_demands : (places : ℕ) → Demands (ops {R = Figures} wide) 4194303 places
wide_demands places = demands (wide_edition places)

-- MAKING
module _ {W : Width} (E : Lawful W) (most places : ℕ) (f : most + 6 ≤ W.limit) where
  abbrev Made : List ℕ → Outcome State → Type 0
  Made ws o = Iff (o.number ≡ 0) (Accepted most (length ws)) × (o.number ≡ 0 → Shows (ops W) most places o.after (made_m (length ws)))
      × (o.number ≢ 0 → (o.number ≡ 6) × (o.after ≡ empty ws))

  pub making : MakingSound W most places
  unfolding make
  making ws = go (acceptedᵇ most (length ws)) refl
    where
      go : (t : Bool) → acceptedᵇ most (length ws) ≡ t
          → Made ws (pick t (says 0 0 0 (one_chunk (ops W) (fresh ws) (4 * (length ws - 1)))) (says 6 0 0 (empty ws)))
      go true e =
          let a = accepted_true most (length ws) e in
          ((λ q. a, λ b. refl), λ q. made_shows E most places f ws a, λ q. absurd (q refl))
      go false e = (
        (λ q. absurd (let u : ◌≡◌ {A = ℕ} 6 0 = q in omega arith), λ a. absurd (no (sym e ∙ true_accepted most (length ws) a))),
        λ q. absurd (let u : ◌≡◌ {A = ℕ} 6 0 = q in omega arith),
        λ q. (refl, refl),
      )
        where
          no : false ≡ true → ⊥
          no q = let z : ◌≡◌ {A = ℕ} 0 1 = cc in omega arith

pub narrow_making : (places : ℕ) → MakingSound narrow 65529 places
narrow_making places = making narrow_lawful 65529 places narrow_fits

pub wide_making : (places : ℕ) → MakingSound wide 4194303 places
wide_making places = making wide_lawful 4194303 places wide_fits
