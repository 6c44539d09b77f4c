-- Laws of the rules' used_walk, in the form that the code's tests have: one turn of the walk along the tiling.
--     used_guard                the chunks are at an end
--     fueled                    there is fuel at a chunk, if there was some for each word from there on
--     used_here, used_inside    the byte asked for is here, or inside this chunk
--     used_on                   it is further on
--     none_used, some_used      the length, or none, as the code says it
use Rattle.std.proofs.Common.{◌≡◌, ℕ, zero, suc, ◌+◌, ◌-◌, ◌/◌, ◌<◌, ◌≤◌, Bool, List, length, Some, None, refl, ap, ◌∙◌, arith, eq-eqb, ne_eqb, le-leb}
use Rattle.std.proofs.lemmas.List.{get_or_past}
use borrow.Author.Tests.{lt-leb}
use Rattle.words.specs.Choice.{pick}
use Rattle.words.specs.Tags.{at, length_of, freeᵇ}
use Rattle.rules.specs.Rules.Place.{used_walk}
use Rattle.steps.specs.Live.{if_used}

-- the words by their places, and the header at byte e with its length n
module _ (f : ℕ → ℕ) (e n : ℕ) (en : n ≡ length_of (f (e / 4))) where
  -- at a header without length too: the guard
  pub used_guard : (fuel b : ℕ) → n ≡ 0 → used_walk f fuel e b ≡ 0
  unfolding used_walk
  used_guard zero b z = refl
  used_guard (suc fuel) b z = rw (← en, eq-eqb n 0 z)

  -- at the byte asked for, the length if the chunk is used
  pub used_here : (fuel b : ℕ) (t : Bool) → t ≡ freeᵇ (f (e / 4)) → 0 < fuel → (n ≡ 0 → ⊥) → b ≡ 0
      → used_walk f fuel e b ≡ pick t 0 n
  unfolding used_walk
  used_here zero b t et p z h = absurd (omega arith)
  used_here (suc fuel) b t et p z h = rw (← en, ← et, ne_eqb n 0 z, eq-eqb b 0 h)

  -- inside a chunk none begins
  pub used_inside : (fuel b : ℕ) → (n ≡ 0 → ⊥) → (b ≡ 0 → ⊥) → b < n → used_walk f fuel e b ≡ 0
  unfolding used_walk
  used_inside zero b z h q = refl
  used_inside (suc fuel) b z h q = rw (← en, ne_eqb n 0 z, ne_eqb b 0 h, lt-leb n b q)

  -- past it the walk goes on
  pub used_on : (fuel b : ℕ) → 0 < fuel → (n ≡ 0 → ⊥) → (b ≡ 0 → ⊥) → n ≤ b
      → used_walk f fuel e b ≡ used_walk f (fuel - 1) (e + n) (b - n)
  unfolding used_walk
  used_on zero b p z h q = absurd (omega arith)
  used_on (suc fuel) b p z h q =
      let o : suc fuel - 1 ≡ fuel = omega arith in
      rw (← en, ne_eqb n 0 z, ne_eqb b 0 h, le-leb n b q, o)

-- at a chunk there is fuel, if there is some for each word from there on
pub fueled : (ws : List ℕ) (e n fuel : ℕ) → n ≡ length_of (at ws (e / 4)) → (n ≡ 0 → ⊥) → length ws ≤ fuel + e / 4 → 0 < fuel
fueled ws e n zero en h p = absurd (h (en ∙ ap length_of (get_or_past ws (e / 4) 0 (omega (arith, p)))))
fueled ws e n (suc fuel) en h p = omega arith

-- no chunk, and one of n bytes, as the code says it
pub none_used : (m : ℕ) → m ≡ 0 → None ≡ if_used m
none_used m e = rw e refl

pub some_used : (m n : ℕ) → m ≡ n → (n ≡ 0 → ⊥) → Some n ≡ if_used m
some_used m zero e h = absurd (h refl)
some_used m (suc n) e h = rw e refl
