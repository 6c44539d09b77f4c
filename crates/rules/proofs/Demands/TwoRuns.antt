-- Two runs with the same requests over different memory, with different writes by the tasks, give the same answers: once, over any rules whose
-- new model and answer depend on the model alone. Assumes nothing.
use mathlib.Core.Path.{◌≡◌, refl, sym, ap, ◌∙◌, subst}
use mathlib.Core.List.{List, [], ◌∷◌}
use Prim.Native.Nat.{ℕ}
use Rattle.rules.specs.Demands.Events.{Event, asks, writes, Acts, Machine, requests, steps, replies, run, answers, Allowed}

pub record Laws {S M Q A : Type 0} (R : Acts S Q A) (K : Machine M Q A) : Type 1 where
  -- the two states agree on what the model tells
  pub Same : S → S → Type 0
  -- the state is sound, and shows the model
  pub Abs : S → M → Type 0
  pub call_abs : (q : Q) (s : S) (m : M) → Abs s m → Abs (R.call q s) (K.step q m)
  pub call_answer : (q : Q) (s : S) (m : M) → Abs s m → R.answer q s ≡ K.reply q m
  pub write_abs : (s : S) (m : M) (i v : ℕ) → Abs s m → R.Live s i → Abs (R.write s i v) m
  pub same : (s t : S) (m : M) → Abs s m → Abs t m → Same s t

module _ {S M Q A : Type 0} {R : Acts S Q A} {K : Machine M Q A} (T : Laws R K) where
  pub run_abs : (es : List (Event Q)) (s : S) (m : M) → T.Abs s m → Allowed R es s → T.Abs (run R es s) (steps K (requests es) m)
  unfolding run requests steps
  run_abs [] s m a w = a
  run_abs (asks q ∷ es) s m a w = run_abs es (R.call q s) (K.step q m) (T.call_abs q s m a) w
  run_abs (writes i v ∷ es) s m a w = run_abs es (R.write s i v) m (T.write_abs s m i v a w.0) w.1

  pub run_answers : (es : List (Event Q)) (s : S) (m : M) → T.Abs s m → Allowed R es s → answers R es s ≡ replies K (requests es) m
  unfolding answers requests replies
  run_answers [] s m a w = refl
  run_answers (asks q ∷ es) s m a w =
      λ i. T.call_answer q s m a i ∷ run_answers es (R.call q s) (K.step q m) (T.call_abs q s m a) w i
  run_answers (writes i v ∷ es) s m a w = run_answers es (R.write s i v) m (T.write_abs s m i v a w.0) w.1

  -- TWO RUNS
  pub two_runs : (es fs : List (Event Q)) (s t : S) (m : M) → requests es ≡ requests fs → T.Abs s m → T.Abs t m → Allowed R es s → Allowed R fs t
      → (answers R es s ≡ answers R fs t) × T.Same (run R es s) (run R fs t)
  two_runs es fs s t m e a b w x =
      let shown = subst (λ (qs : List Q). T.Abs (run R es s) (steps K qs m)) e (run_abs es s m a w) in (
        run_answers es s m a w ∙ ap (λ (qs : List Q). replies K qs m) e ∙ sym (run_answers fs t m b x),
        T.same (run R es s) (run R fs t) (steps K (requests fs) m) shown (run_abs fs t m b x),
      )
