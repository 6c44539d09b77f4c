-- A WORD OF A LIVE PAYLOAD, told of a state and of the model that it shows: the two agree. Assumes nothing.
--     live_length    a live payload's length is what `live` gives
--     live_told      what is live on the model is live by the state's own headers
--     live_found     and the other way
use mathlib.Core.Path.{◌≡◌, sym, ap, ◌∙◌, subst}
use mathlib.Core.List.{◌∷◌}
use Prim.Native.Nat.{ℕ, ◌-◌}
use native.Mathlib.Omega.{arith}
use Rattle.rules.specs.Rules.Ops.{Ops}
use Rattle.rules.specs.Rules.Chunks.{busy, total, Legal}
use Rattle.rules.specs.Rules.Place.{used_at}
use Rattle.rules.proofs.Tiling.Place.{used_at_lem}
use Rattle.rules.proofs.Steps.Part.{legal_front}
use Rattle.rules.proofs.Steps.Store.{Edition}
use Rattle.rules.specs.Rules.Calls.{Figures, live}
use Rattle.rules.specs.Sound.Model.{Model}
use Rattle.rules.specs.Sound.Sound.{Shows, Sound}
use Rattle.rules.specs.Demands.Meaning.{LiveAt, Holds}
use Rattle.rules.specs.Demands.TwoHeaps.{Live}
use Rattle.rules.proofs.Demands.Follow.{live_same, live_is, live_len}
use Rattle.rules.proofs.Demands.Answers.{used_there}
use Rattle.rules.proofs.Demands.Lives.{live_used}

module _ {S : Type 0} {op : Ops S Figures} {most places : ℕ} (E : Edition op most places) where
  -- a live payload's length is what `live` gives
  pub live_length : (s : S) (m : Model) → Shows op most places s m → (p n : ℕ) → LiveAt m p n → live op s p ≡ n
  live_length s m h p n a =
      let u = a.1 in
      let l = subst Legal u.is h.legal in
      live_same E s m h p ∙ live_used m p a.0 a.2 ∙ ap (used_at m.cs) u.byte ∙ ap (λ cs. used_at cs (total u.pre)) u.is
      ∙ used_there u.pre n u.post (legal_front u.pre (busy n ∷ u.post) l)

  -- what is live on the model is live by the state's own headers
  pub live_told : (s : S) (i : ℕ) → Live op most places s i → Sound op most places s × ((p : ℕ) × Holds p (live op s p) i)
  live_told s i w =
      let m = w.0 in
      let p = w.2.0 in
      ((m, w.1), (p, subst (λ (n : ℕ). Holds p n i) (sym (live_length s m w.1 p w.2.1 w.2.2)) w.2.3))

  -- and the other way
  pub live_found : (s : S) (i p : ℕ) → Sound op most places s → Holds p (live op s p) i → Live op most places s i
  live_found s i p k w =
      let m = k.0 in
      let e = live_same E s m k.1 p in
      let a = w.0 in
      let b = w.1 in
      let v = live_is E s m k.1 p (λ z. omega arith) in
      let n = live_len E s m k.1 p (λ z. omega arith) in
      let u = v.1 in
      (m, k.1, (p, used_at m.cs (p - 4), (v.3, used_at_lem m.cs (p - 4) (λ z. omega arith), v.2), subst (λ (t : ℕ). Holds p t i) (e ∙ n) w))
