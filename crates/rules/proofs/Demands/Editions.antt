-- Both link widths are editions, and what making gives is sound. Assumes nothing.
use mathlib.Core.Path.{◌≡◌, refl, ap, ◌∙◌}
use mathlib.Core.Bool.{Bool, true, false}
use mathlib.Core.List.Memᴰ
use mathlib.Core.List.{List, []}
use Prim.Native.Nat.{ℕ, zero, suc, ◌+◌, ◌-◌, ◌*◌, ◌/◌, ◌%◌, ◌≤◌, ◌<◌}
use native.Mathlib.Omega.{arith}
use lib.Dec.{eqb, leb, lit<}
use lib.Arith.{digits_mod}
use lib.ListN.{length, get_or}
use borrow.Author.Tests.{lt-ltb, leb-true, eqb-true, le-leb, eq-eqb}
use Rattle.words.specs.Choice.{pick}
use Rattle.words.specs.Links.{Width, narrow, wide}
use Rattle.words.proofs.Laws.Links.{Lawful}
use Rattle.rules.specs.Rules.Steps.{link, mark_free, one_chunk}
use Rattle.rules.proofs.Steps.Store.{LinkStore, Edition}
use Rattle.rules.specs.Rules.State.{ops}
use Rattle.rules.proofs.Steps.Heap.{store}
use Rattle.rules.proofs.Lists.Rings.{Rings, empty_rings}
use Rattle.rules.proofs.Steps.Make.{made_whole}
use Rattle.rules.specs.Rules.Calls.{Figures}
use Rattle.rules.specs.Machine.Machine.{made_m}
use Rattle.rules.specs.Sound.Sound.{Accepted, Shows}
use Rattle.rules.proofs.Demands.Shown.{shown}
use Rattle.rules.specs.Rules.Making.{selves, fresh, acceptedᵇ}

pos : (most n : ℕ) → Accepted most n → 0 < n
pos most n a = omega arith

fits : (l most n : ℕ) → most + 6 ≤ l → Accepted most n → n + 6 ≤ l
fits l most n f a = omega arith

pub edition : {W : Width} (E : Lawful W) (most places : ℕ) → most + 6 ≤ W.limit → Edition (ops {R = Figures} W) most places
edition {W = W} E most places f = record {
  store = λ n a. store {R = Figures} E n (pos most n a) (fits W.limit most n f a);
  bytes = λ n a. refl;
  fit = λ n a r q h. tt;
}

pub narrow_fits : 65529 + 6 ≤ narrow.limit
narrow_fits = omega arith

pub wide_fits : 4194303 + 6 ≤ wide.limit
wide_fits = omega arith

pub selves_at : (k : ℕ) → k < 6 → get_or selves k 0 ≡ k
selves_at zero h = refl
selves_at (suc zero) h = refl
selves_at (suc (suc zero)) h = refl
selves_at (suc (suc (suc zero))) h = refl
selves_at (suc (suc (suc (suc zero)))) h = refl
selves_at (suc (suc (suc (suc (suc zero))))) h = refl
selves_at (suc (suc (suc (suc (suc (suc k)))))) h = absurd (omega arith)

pub accepted_true : (most n : ℕ) → acceptedᵇ most n ≡ true → Accepted most n
accepted_true most n e = go (leb 5 n) refl (leb n most) refl e
  where
    go : (a : Bool) → leb 5 n ≡ a → (b : Bool) → leb n most ≡ b → pick a (pick b (eqb (n % 2) 1) false) false ≡ true → Accepted most n
    go true p true q r = (leb-true 5 n p, leb-true n most q, eqb-true (n % 2) 1 r)
    go true p false q r = absurd (let z : ◌≡◌ {A = ℕ} 0 1 = cc in omega arith)
    go false p b q r = absurd (let z : ◌≡◌ {A = ℕ} 0 1 = cc in omega arith)

pub true_accepted : (most n : ℕ) → Accepted most n → acceptedᵇ most n ≡ true
true_accepted most n a = rw (le-leb 5 n a.0, le-leb n most a.1) (eq-eqb (n % 2) 1 a.2)

module _ {W : Width} (E : Lawful W) (most places : ℕ) (f : most + 6 ≤ W.limit) (ws : List ℕ) (a : Accepted most (length ws)) where
  L : LinkStore (ops {R = Figures} W)
  L = store {R = Figures} E (length ws) (pos most (length ws) a) (fits W.limit most (length ws) f a)

  fresh_rings : Rings L (fresh ws) (λ k. [])
  unfolding L
  fresh_rings = empty_rings L (fresh ws) (refl, refl, refl) (λ k h. rw (lt-ltb k 6 h) (selves_at k h)) (λ k h. rw (lt-ltb k 6 h) (selves_at k h))

  -- MAKING IS SOUND
  pub made_shows : Shows (ops {R = Figures} W) most places (one_chunk (ops {R = Figures} W) (fresh ws) (4 * (length ws - 1))) (made_m (length ws))
  unfolding L edition one_chunk link mark_free
  made_shows =
      let h : 16 ≤ 4 * (length ws - 1) = omega arith in
      let o : 4 * (length ws - 1) % 8 ≡ 0 =
      let k : length ws - 1 ≡ 2 * (length ws / 2) = omega arith in let j : 4 * (length ws - 1) ≡ length ws / 2 * 8 + 0 = omega arith in
      ap (λ (x : ℕ). x % 8) j ∙ digits_mod (length ws / 2) (lit< tt) in
      shown (edition E most places f) (length ws) a (one_chunk (ops {R = Figures} W) (fresh ws) (4 * (length ws - 1))) (made_m (length ws))
      (made_whole L h o (fresh ws) fresh_rings) (refl, tt) refl refl
      (record { used = λ x m. absurd (Memᴰ.not-nil m); once = tt; room = omega arith })
      (record {
        in_use = refl;
        committed = refl;
        peak = omega arith;
        high = omega arith;
        heap = omega arith;
        eights = refl;
        ends = (omega arith, tt);
        flag = omega arith;
      })
