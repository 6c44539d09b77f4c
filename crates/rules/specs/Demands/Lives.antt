-- WHAT A USER BELIEVES OF AN ALLOCATOR, as statements about the rules; proofs/Demands/Lives.antt proves each, for both link widths and any number of cache places.
-- "Live" is told pointwise, by `live_at`: the length of the live chunk whose payload begins at an offset, 0 where none does.
use Rattle.std.specs.Prelude.{◌≡◌, ◌≢◌, List, ℕ, ◌+◌, ◌*◌, ◌%◌, ◌≤◌, ◌<◌}
use Rattle.words.specs.Sizes.{rounded_of}
use Rattle.words.specs.Links.{Width}
use Rattle.rules.specs.Rules.Ops.{Ops}
use Rattle.rules.specs.Rules.State.{ops}
use Rattle.rules.specs.Rules.Calls.{Figures, live}
use Rattle.rules.specs.Rules.Making.{make}
use Rattle.rules.specs.Sound.Sound.{Sound}
use Rattle.rules.specs.Sound.Test.{soundᵇ}
use Rattle.rules.specs.Demands.Demands.{asked, given}

module _ {S : Type 0} (op : Ops S Figures) (most places : ℕ) where
  -- the length of the live chunk whose payload begins at p; 0 where none does
  abbrev pub live_at : S → ℕ → ℕ
  live_at s p = live op s p

  -- from s to t every payload but the one at v stays as it was: live with the same length, or not live
  abbrev pub OthersStay : S → S → ℕ → Type 0
  OthersStay s t v = (q : ℕ) → q ≢ v → live_at t q ≡ live_at s q

  -- LONG ENOUGH, NEW, AND THE OTHERS STAY: what a handout of the rounded size z at payload v does
  pub record NewPayload (s t : S) (z v : ℕ) : Type 0 where
    pub new : live_at s v ≡ 0
    pub enough : z ≤ live_at t v
    pub slack : live_at t v ≤ z + 512
    pub others : OthersStay s t v

  -- a handout that is done does so, whatever the state
  abbrev pub HandedOut : Type 0
  HandedOut = (s : S) (size : ℕ) → (asked op most places s size).number ≡ 0
      → NewPayload s (asked op most places s size).after (rounded_of size) (asked op most places s size).value

  -- what taking back the payload at p does
  pub record GonePayload (s t : S) (p : ℕ) : Type 0 where
    pub was : 0 < live_at s p
    pub gone : live_at t p ≡ 0
    pub others : OthersStay s t p

  -- a free that is done does so, whatever the state
  abbrev pub TakenBack : Type 0
  TakenBack = (s : S) (p : ℕ) → (given op most places s p).number ≡ 0 → GonePayload s (given op most places s p).after p

  -- NO OVERLAP, AND NONE LEAVES THE HEAP: the chunk of a payload at p has its header in the four bytes before p and ends before the guard, the last word
  pub record LivePlace (s : S) (p : ℕ) : Type 0 where
    pub low : 4 ≤ p
    pub place : p % 8 ≡ 4
    pub least : 16 ≤ live_at s p
    pub eights : live_at s p % 8 ≡ 0
    pub inside : p + live_at s p ≤ 4 * op.count s

  -- every live payload of a sound state is placed so
  abbrev pub Inside : Type 0
  Inside = (s : S) (p : ℕ) → Sound op most places s → 0 < live_at s p → LivePlace s p

  -- of two live payloads the lower one's chunk ends where the other's begins, or before
  abbrev pub Apart : Type 0
  Apart = (s : S) (p q : ℕ) → Sound op most places s → 0 < live_at s p → 0 < live_at s q → p < q → p + live_at s p ≤ q

  -- the statements, together
  pub record Lives : Type 0 where
    pub handed : HandedOut
    pub taken : TakenBack
    pub inside : Inside
    pub apart : Apart

-- MAKING leaves nothing live
abbrev pub NoneLive : Width → ℕ → ℕ → Type 0
NoneLive W most places = (ws : List ℕ) → (make W most ws).number ≡ 0 → (p : ℕ) → live_at (ops W) most places (make W most ws).after p ≡ 0
