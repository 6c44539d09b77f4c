-- ONE STEP AND A RUN AS THE MACHINE, each answer exactly when, the figures after each call, and the words that making writes. Assumes nothing.
use mathlib.Core.Path.{◌≡◌, refl, sym, ap, ◌∙◌, subst}
use mathlib.Core.Logic.{◌≢◌, ◌⊎◌, inl, inr}
use mathlib.Core.Bool.{Bool, true, false}
use mathlib.Core.List.Memᴰ
use mathlib.Core.List.{List, [], ◌∷◌, ◌++◌}
use Prim.Native.Nat.{ℕ, ◌+◌, ◌-◌, ◌*◌, ◌≤◌, ◌<◌}
use native.Mathlib.Omega.{arith}
use lib.Dec.{leb}
use lib.ListN.{length}
use borrow.Author.Tests.{lt-ltb, le-ltb}
use Rattle.words.specs.Choice.{pick}
use Rattle.words.specs.Links.{narrow, wide}
use Rattle.words.specs.Sizes.{rounded_of, threshold_of}
use Rattle.rules.specs.Rules.Lists.{Mem}
use Rattle.rules.specs.Rules.Ops.{Ops}
use Rattle.rules.specs.Rules.State.{ops}
use Rattle.rules.specs.Rules.Calls.{Figures, Outcome, says, byte_of, name_of, serves, with_cached, counted, without_cache, without_cache_f}
use Rattle.rules.specs.Sound.Model.{Model}
use Rattle.rules.specs.Machine.Machine.{ask, give, size_m, live_m, gave_m, settled_m, without_cache_m}
use Rattle.rules.specs.Sound.Exact.{slot, frees}
use Rattle.rules.specs.Sound.Sound.{Shows, Sound}
use Rattle.rules.specs.Sound.Test.{soundᵇ}
use Rattle.rules.specs.Demands.Meaning.{NoFit, hand, back}
use Rattle.rules.specs.Demands.TwoHeaps.{call}
use Rattle.rules.specs.Demands.Demands.{Allowable}
use Rattle.rules.specs.Demands.Lives.{live_at}
use Rattle.rules.specs.Demands.Promises.{AsTheMachine, RunAsTheMachine, Never, Unfit, ServedExactly, EightExactly, ThreeExactly, FiveExactly, TakenExactly, FourExactly, FewCompared}
use Rattle.rules.specs.Demands.Promises.{CountedUp, HandedFigures, TakenFigures, Promises}
use Rattle.rules.proofs.Steps.Store.{Edition}
use Rattle.rules.proofs.Demands.Shown.{used_same}
use Rattle.rules.proofs.Demands.Released.{without_cache_shows}
use Rattle.rules.proofs.Demands.Follow.{live_last}
use Rattle.rules.proofs.Demands.Cases.{hand_cases, back_cases, hand_m-cases, serve_m-cases, back_m-cases}
use Rattle.rules.proofs.Demands.Decide.{sound_true, layout_unique}
use Rattle.rules.proofs.Demands.Answers.{hand_follows, back_follows, hand_fine, back_fine, hand_damaged, back_damaged, no_fit-exact, compared_small}
use Rattle.rules.proofs.Demands.Runs.{follows, run_follows}
use Rattle.rules.proofs.Demands.Lives.{served_sound, settled_sound, live_shown, handed_figures_lem}
use Rattle.rules.proofs.Demands.Proved.{narrow_edition, wide_edition}

-- the figures, part by part
flag_up : (f : Figures) (l e : ℕ) → CountedUp f (counted f l e) l e
flag_up f l e = record {
  words = refl;
  cached = refl;
  in_use = refl;
  committed = refl;
  peak = refl;
  high = refl;
  risen = λ h. rw (lt-ltb f.high e h) refl;
  below = λ h. rw (le-ltb f.high e h) refl;
}

module _ {S : Type 0} {op : Ops S Figures} {most places : ℕ} (E : Edition op most places) where
  -- one step as the machine does it
  pub step : AsTheMachine op most places
  step q s m h = let f = follows E q s m h in (λ i. record { number = f.number i; value = f.value i; compared = f.compared i }, f.after)

  -- a run as the machine does it
  pub run_step : RunAsTheMachine op most places
  run_step es s m h a = (run_follows E es s m h a).1

  -- 3 and 5 are answered for allowable sizes only, and 3 on sound states only
  allowed : (s : S) (size : ℕ) → (hand op most places s size).number ≢ 1 → (hand op most places s size).number ≢ 2 → Allowable (ask size)
  allowed s size =
      hand_cases op places (soundᵇ op most places) s size (λ o. o.number ≢ 1 → o.number ≢ 2 → Allowable (ask size)) (λ e a b. absurd (a refl))
      (λ e a b. absurd (b refl))
      (λ p q e a b. (p, q)) (λ p q e k a b. (p, q)) (λ p q e k a b. (p, q))

  -- what is not answered 5 was sound
  sound_by : (s : S) (size : ℕ) → Allowable (ask size) → (hand op most places s size).number ≢ 5 → Sound op most places s
  sound_by s size a n = go (soundᵇ op most places s) refl
    where
      P : Outcome S → Type 0
      P o = o.number ≢ 5 → soundᵇ op most places s ≡ true

      go : (t : Bool) → soundᵇ op most places s ≡ t → Sound op most places s
      go true e = sound_true E s e
      go false e =
          sound_true E s (hand_cases op places (soundᵇ op most places) s size P (λ z. absurd (let q = a.0 in omega arith))
          (λ z. absurd (let q = a.1 in omega arith))
          (λ p q f k. absurd (k refl)) (λ p q f r k. f) (λ p q f r k. f) n)

  -- no fit on the model, told of the state
  unfit_told : (s : S) (m : Model) (h : Shows op most places s m) (z : ℕ) → NoFit m z → Unfit op most places s z
  unfit_told s m h z w =
      record {
        sound = (m, h);
        may = subst (λ (n : ℕ). threshold_of z ≤ 4 * (n - 1)) h.words w.may;
        cache = λ x i. let j = subst (λ (f : Figures). Mem x f.cached) h.figs i in
            let u = h.cache.used x j in
            ap (λ (n : ℕ). serves n z) (used_same E s m h x u.0 u.1) ∙ w.cache x j;
        merged = without_cache_m m;
        shows = without_cache_shows E s m h;
        lists = w.lists;
      }

  -- and the other way
  unfit_shown : (s : S) (m : Model) (h : Shows op most places s m) (z : ℕ) → Unfit op most places s z → NoFit m z
  unfit_shown s m h z w =
      let c = layout_unique E (without_cache op s) (without_cache_m m) w.merged (without_cache_shows E s m h) w.shows in
      record {
        may = subst (λ (n : ℕ). threshold_of z ≤ 4 * (n - 1)) (sym h.words) w.may;
        cache = λ x j. let u = h.cache.used x j in
            ap (λ (n : ℕ). serves n z) (sym (used_same E s m h x u.0 u.1)) ∙ w.cache x (subst (λ (f : Figures). Mem x f.cached) (sym h.figs) j);
        lists = λ x n i. w.lists x n (subst (λ cs. Mem (slot x n) (frees 0 cs)) c i);
      }

  -- 3, exactly
  pub three_exactly : ThreeExactly op most places
  three_exactly s size = (
    λ e. let a = allowed s size (λ z. (let u : ◌≡◌ {A = ℕ} 3 1 = sym e ∙ z in omega arith)) (λ z. (let u : ◌≡◌ {A = ℕ} 3 2 = sym e ∙ z in omega arith)) in
        let k = sound_by s size a (λ z. (let u : ◌≡◌ {A = ℕ} 3 5 = sym e ∙ z in omega arith)) in
        (a, unfit_told s k.0 k.1 (rounded_of size) ((no_fit-exact E s k.0 k.1 size a.0 a.1).0 e)),
    λ w. let k = w.1.sound in
        (no_fit-exact E s k.0 k.1 size w.0.0 w.0.1).1 (unfit_shown s k.0 k.1 (rounded_of size) w.1),
  )

  -- 8 where it can never fit; else served, or no fit
  three_ways : (s : S) (m : Model) → Shows op most places s m → (size : ℕ) → Allowable (ask size)
      → (((hand op most places s size).number ≡ 8) × Never op most places s (rounded_of size))
      ⊎ ((Never op most places s (rounded_of size) → ⊥) × (((hand op most places s size).number ≡ 0) ⊎ ((hand op most places s size).number ≡ 3)))
  three_ways s m h size a =
      rw ((hand_follows E s m h size).number, ← h.words)
      (hand_m-cases m size W (λ z. absurd (let q = a.0 in omega arith)) (λ z. absurd (let q = a.1 in omega arith)) (λ p q k. inl (refl, k))
      (λ p q k. serve_m-cases m (rounded_of size) W (λ x ks r. inr (λ n. omega arith, inl refl)) (λ r x c e. inr (λ n. omega arith, inl refl))
      (λ r c e x d g. inr (λ n. omega arith, inl refl)) (λ r c e d g. inr (λ n. omega arith, inr refl))))
    where
      N : Type 0
      N = 4 * (m.figs.words - 1) < threshold_of (rounded_of size)

      W : Outcome Model → Type 0
      W o = ((o.number ≡ 8) × N) ⊎ ((N → ⊥) × ((o.number ≡ 0) ⊎ (o.number ≡ 3)))

  -- 0, exactly
  pub served_exactly : ServedExactly op most places
  served_exactly s size = (
    λ e. let a = allowed s size (λ z. (let u : ◌≡◌ {A = ℕ} 0 1 = sym e ∙ z in omega arith)) (λ z. (let u : ◌≡◌ {A = ℕ} 0 2 = sym e ∙ z in omega arith)) in
        let k = served_sound E s size e in
        (a, k, may e (three_ways s k.0 k.1 size a), λ u. (let z : ◌≡◌ {A = ℕ} 0 3 = sym e ∙ (three_exactly s size).1 (a, u) in omega arith)),
    λ w. done w.2 w.3 (three_ways s w.1.0 w.1.1 size w.0),
  )
    where
      n : ℕ
      n = (hand op most places s size).number

      Nv : Type 0
      Nv = Never op most places s (rounded_of size)

      may : n ≡ 0 → ((n ≡ 8) × Nv) ⊎ ((Nv → ⊥) × ((n ≡ 0) ⊎ (n ≡ 3))) → Nv → ⊥
      may e (inl q) = absurd (let u : ◌≡◌ {A = ℕ} 0 8 = sym e ∙ q.0 in omega arith)
      may e (inr q) = q.0

      done : (Nv → ⊥) → (Unfit op most places s (rounded_of size) → ⊥) → ((n ≡ 8) × Nv) ⊎ ((Nv → ⊥) × ((n ≡ 0) ⊎ (n ≡ 3))) → n ≡ 0
      done m u (inl q) = absurd (m q.1)
      done m u (inr q) = fit q.1
        where
          fit : (n ≡ 0) ⊎ (n ≡ 3) → n ≡ 0
          fit (inl e) = e
          fit (inr e) = absurd (u ((three_exactly s size).0 e).1)

  -- 8, exactly
  pub eight_exactly : EightExactly op most places
  eight_exactly s size = (
    λ e. let a = allowed s size (λ z. (let u : ◌≡◌ {A = ℕ} 8 1 = sym e ∙ z in omega arith)) (λ z. (let u : ◌≡◌ {A = ℕ} 8 2 = sym e ∙ z in omega arith)) in
        let k = sound_by s size a (λ z. (let u : ◌≡◌ {A = ℕ} 8 5 = sym e ∙ z in omega arith)) in
        (a, k, to e (three_ways s k.0 k.1 size a)),
    λ w. from w.2 (three_ways s w.1.0 w.1.1 size w.0),
  )
    where
      n : ℕ
      n = (hand op most places s size).number

      Nv : Type 0
      Nv = Never op most places s (rounded_of size)

      to : n ≡ 8 → ((n ≡ 8) × Nv) ⊎ ((Nv → ⊥) × ((n ≡ 0) ⊎ (n ≡ 3))) → Nv
      to e (inl q) = q.1
      to e (inr q) = absurd (off q.1)
        where
          off : (n ≡ 0) ⊎ (n ≡ 3) → ⊥
          off (inl z) = let u : ◌≡◌ {A = ℕ} 8 0 = sym e ∙ z in omega arith
          off (inr z) = let u : ◌≡◌ {A = ℕ} 8 3 = sym e ∙ z in omega arith

      from : Nv → ((n ≡ 8) × Nv) ⊎ ((Nv → ⊥) × ((n ≡ 0) ⊎ (n ≡ 3))) → n ≡ 8
      from v (inl q) = q.0
      from v (inr q) = absurd (q.0 v)

  -- 5, exactly
  pub five_exactly : FiveExactly op most places
  unfolding call
  five_exactly (ask size) s = (
    λ e. (
      allowed s size (λ z. (let u : ◌≡◌ {A = ℕ} 5 1 = sym e ∙ z in omega arith)) (λ z. (let u : ◌≡◌ {A = ℕ} 5 2 = sym e ∙ z in omega arith)),
      λ k. hand_fine E s k.0 k.1 size e,
    ),
    λ w. hand_damaged E s size w.0.0 w.0.1 w.1,
  )
  five_exactly (give p) s = (λ e. (tt, λ k. back_fine E s k.0 k.1 p e), λ w. back_damaged E s p w.1)

  -- taking back: done or not live, on sound states
  abbrev Backed : S → ℕ → ℕ → Type 0
  Backed s p n = ((n ≡ 0) → 0 < live_at op most places s p) × ((0 < live_at op most places s p) → n ≡ 0) × ((n ≡ 4) → live_at op most places s p ≡ 0) ×
      ((live_at op most places s p ≡ 0) → n ≡ 4)

  -- on a sound state 0 and 4 tell whether the payload is live
  backed : (s : S) (k : Sound op most places s) (p : ℕ) → Backed s p (back op most places s p).number
  backed s k p =
      let m = k.0 in
      let e = live_shown E s m k.1 p in
      rw ((back_follows E s m k.1 p).number, e)
      (back_m-cases m places p
      (λ o. ((o.number ≡ 0) → 0 < live_m m p) × ((0 < live_m m p) → o.number ≡ 0) × ((o.number ≡ 4) → live_m m p ≡ 0) × ((live_m m p ≡ 0) → o.number ≡ 4))
      (λ z. (λ n. absurd (let u : ◌≡◌ {A = ℕ} 4 0 = n in omega arith), λ n. absurd (omega arith), λ n. z, λ n. refl))
      (λ z. (λ n. omega arith, λ n. refl, λ n. absurd (let u : ◌≡◌ {A = ℕ} 0 4 = n in omega arith), λ n. absurd (z n))))

  -- taking back what is not answered 5 was sound
  sound_back : (s : S) (p : ℕ) → (back op most places s p).number ≢ 5 → Sound op most places s
  sound_back s p n =
      sound_true E s
      (back_cases op places (soundᵇ op most places) s p (λ o. o.number ≢ 5 → soundᵇ op most places s ≡ true) (λ e k. absurd (k refl)) (λ e f k. e)
      (λ e f k. e) n)

  -- 0 of taking back, exactly
  pub taken_exactly : TakenExactly op most places
  taken_exactly s p = (
    λ e. let k = sound_back s p (λ z. (let u : ◌≡◌ {A = ℕ} 0 5 = sym e ∙ z in omega arith)) in (k, (backed s k p).0 e),
    λ w. (backed s w.0 p).1 w.1,
  )

  -- 4, exactly
  pub four_exactly : FourExactly op most places
  four_exactly s p = (
    λ e. let k = sound_back s p (λ z. (let u : ◌≡◌ {A = ℕ} 4 5 = sym e ∙ z in omega arith)) in (k, (backed s k p).2 e),
    λ w. (backed s w.0 p).3 w.1,
  )

  -- at most one compared below 512
  pub few_compared : FewCompared op most places
  few_compared s size q =
      go (hand_cases op places (soundᵇ op most places) s size (λ o. (soundᵇ op most places s ≡ true) ⊎ (o.compared ≡ 0)) (λ e. inr refl) (λ e. inr refl)
      (λ a b e. inr refl) (λ a b e k. inl e) (λ a b e k. inl e))
    where
      go : (soundᵇ op most places s ≡ true) ⊎ ((hand op most places s size).compared ≡ 0) → (hand op most places s size).compared ≤ 1
      go (inl e) = let k = sound_true E s e in compared_small E s k.0 k.1 size q
      go (inr e) = omega arith

  -- the figures after a handout
  pub handed_figured : HandedFigures op most places
  handed_figured s size n =
      let w = handed_figures_lem E s size n in (
        λ c. let e = w.0 c in record {
          words = ap (λ (f : Figures). f.words) e;
          in_use = ap (λ (f : Figures). f.in_use) e;
          committed = ap (λ (f : Figures). f.committed) e;
          peak = ap (λ (f : Figures). f.peak) e;
          high = ap (λ (f : Figures). f.high) e;
          flag = ap (λ (f : Figures). f.flag) e;
        },
        λ c. up (w.1 c),
      )
    where
      v : ℕ
      v = (hand op most places s size).value

      l : ℕ
      l = live_at op most places (hand op most places s size).after v

      t : Figures
      t = op.rest (hand op most places s size).after

      -- from the figures as they were, or with the cache emptied
      from : (f : Figures) → t ≡ counted f l (v - 4 + l) → CountedUp f t l (v - 4 + l)
      from f e = subst (λ (g : Figures). CountedUp f g l (v - 4 + l)) (sym e) (flag_up f l (v - 4 + l))

      up : (t ≡ counted (op.rest s) l (v - 4 + l)) ⊎ (t ≡ counted (without_cache_f (op.rest s)) l (v - 4 + l))
          → CountedUp (op.rest s) t l (v - 4 + l) ⊎ CountedUp (without_cache_f (op.rest s)) t l (v - 4 + l)
      up (inl e) = inl (from (op.rest s) e)
      up (inr e) = inr (from (without_cache_f (op.rest s)) e)

  -- the figures after taking back
  pub taken_figured : TakenFigures op most places
  unfolding gave_m
  taken_figured s p n =
      let k = settled_sound E s p n in
      let m = k.0 in
      let h = k.1 in
      let f = back_follows E s m h p in
      rw (f.after.figs, live_shown E s m h p, h.figs)
      (back_m-cases m places p (λ o. o.number ≡ 0 → Kept m o) (λ e z. absurd (let u : ◌≡◌ {A = ℕ} 4 0 = z in omega arith))
      (λ a z. settles m a (m.figs.cached ++ name_of (p - 4) ∷ []) (Memᴰ.append_right m.figs.cached (Memᴰ.head refl))
      (let r = live_last E s m h p a in omega arith)) (sym f.number ∙ n))
    where
      Kept : Model → Outcome Model → Type 0
      Kept m o = (o.after.figs.in_use + live_m m p ≡ m.figs.in_use) × (o.after.figs.peak ≡ m.figs.peak) × (o.after.figs.high ≡ m.figs.high) ×
          (o.after.figs.flag ≡ m.figs.flag)

      settles : (m : Model) → live_m m p ≢ 0 → (ks : List ℕ) → Mem (name_of (p - 4)) ks → m.figs.in_use - live_m m p + live_m m p ≡ m.figs.in_use
          → Kept m (says 0 0 0 (settled_m places m (m.figs.in_use - live_m m p) ks))
      settles m a [] i e = absurd (Memᴰ.not-nil i)
      settles m a (k ∷ ks) i e = go (leb (length (k ∷ ks)) places)
        where
          go : (t : Bool) → Kept m (says 0 0 0 (pick t (record {
            cs = m.cs;
            orders = m.orders;
            figs = with_cached m.figs (m.figs.in_use - live_m m p)
                (k ∷ ks);
          })
              (gave_m m (m.figs.in_use - live_m m p) ks (byte_of k) (size_m m k))))
          go true = (e, refl, refl, refl)
          go false = (e, refl, refl, refl)

  -- the claims, together
  pub promises : Promises op most places
  promises = record {
    step = step;
    runs = run_step;
    served = served_exactly;
    eight = eight_exactly;
    three = three_exactly;
    five = five_exactly;
    taken = taken_exactly;
    four = four_exactly;
    few = few_compared;
    handed_figures = handed_figured;
    taken_figures = taken_figured;
  }

-- BOTH WIDTHS
pub narrow_promises : (places : ℕ) → Promises (ops {R = Figures} narrow) 65529 places
narrow_promises places = promises (narrow_edition places)

-- with wide links
pub wide_promises : (places : ℕ) → Promises (ops {R = Figures} wide) 4194303 places
wide_promises places = promises (wide_edition places)
