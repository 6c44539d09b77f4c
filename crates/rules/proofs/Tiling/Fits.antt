-- WHAT A SEARCH FINDS, on models: "no fit" exactly below the threshold, for all sizes; few compared below 512, and list 5 from there on.
-- Assumes nothing.
use mathlib.Core.Path.{◌≡◌, refl, ◌∙◌, subst}
use mathlib.Core.List.Memᴰ
use mathlib.Core.List.{List, [], ◌∷◌}
use Prim.Native.Nat.{ℕ, suc, ◌-◌, ◌≤◌, ◌<◌}
use native.Mathlib.Omega.{arith}
use native.Mathlib.Decide.{dec_le}
use lib.ListN.{length, length-append}
use borrow.Author.Tests.{le-leb}
use Rattle.words.specs.Sizes.{class_of, start_of, threshold_of}
use Rattle.words.proofs.Laws.Sizes.{class_below, class_small, class_reaches, class_mono, threshold_large, threshold_reached, threshold_class, threshold_from}
use Rattle.rules.specs.Rules.Lists.{Mem}
use Rattle.rules.specs.Rules.Search.{Found, at, nowhere, lost, find, in_turn}
use Rattle.rules.proofs.Lists.Search.{find_fits, Fits, in_turn_lem, turn_in}

-- from 512 on the class is the last
pub class_large : (z : ℕ) → 512 ≤ z → class_of z ≡ 5
class_large z h = let a = class_reaches 5 z (omega arith) h in let b = class_below z in omega arith

-- a length that reaches the threshold is in a class that is searched, and one of a class searched that is no shorter reaches it
pub reaches : (z n : ℕ) → threshold_of z ≤ n → start_of z ≤ class_of n
reaches z n h = go (dec_le 512 z)
  where
    go : Dec (512 ≤ z) → start_of z ≤ class_of n
    go (yes q) = let e = class_large z q in let t = threshold_large z q in let m = class_mono z n (omega arith) in omega arith
    go (no q) = let m = threshold_class z (omega arith) n h in omega arith

pub reached : (z n : ℕ) → start_of z ≤ class_of n → z ≤ n → threshold_of z ≤ n
reached z n h k = go (dec_le 512 z)
  where
    go : Dec (512 ≤ z) → threshold_of z ≤ n
    go (yes q) = let t = threshold_large z q in omega arith
    go (no q) = let s = class_small z (omega arith) in threshold_reached z (omega arith) n (omega arith)

-- below 512 every length of a class searched is long enough
pub enough : (z n : ℕ) → z < 512 → start_of z ≤ class_of n → z ≤ n
enough z n h k = let s = class_small z h in let t = threshold_reached z h n (omega arith) in let f = threshold_from z in omega arith

-- a list whose members all serve: nothing compared, or one
abbrev pub Few : Found → ℕ → Type 0
Few (nowhere d) c = d ≡ c
Few (at x d) c = d ≡ suc c
Few lost c = ⊥

find_few : (size : ℕ → ℕ) (z : ℕ) (xs : List ℕ) (c : ℕ) → ((x : ℕ) → Mem x xs → z ≤ size x) → Few (find size z xs c) c
unfolding find
find_few size z [] c h = refl
find_few size z (x ∷ xs) c h = rw (le-leb z (size x) (h x (Memᴰ.head refl))) refl

module _ (size : ℕ → ℕ) (O : ℕ → List ℕ) (classed : (j x : ℕ) → j < 6 → Mem x (O j) → class_of (size x) ≡ j) (z : ℕ) where
  abbrev listed : List ℕ
  listed = in_turn O (6 - start_of z) (start_of z)

  abbrev result : Found
  result = find size z listed 0

  -- what is met is of a class searched
  met : (x : ℕ) → Mem x listed → (j : ℕ) × (j < 6) × (start_of z ≤ class_of (size x)) × Mem x (O j)
  met x m =
      let t = in_turn_lem O (6 - start_of z) (start_of z) x m in
      let a = t.1 in
      let b = t.2 in
      let e = classed t.0 x (omega arith) t.3 in
      (t.0, omega arith, omega arith, t.3)

  -- NO FIT: no listed chunk reaches the threshold
  pub none_fits : (c : ℕ) → result ≡ nowhere c → (j x : ℕ) → j < 6 → Mem x (O j) → size x < threshold_of z
  none_fits c q j x hj m = go (dec_le (threshold_of z) (size x))
    where
      f : (y : ℕ) → Mem y listed → size y < z
      f = subst (Fits size z listed) q (find_fits size z listed 0)

      go : Dec (threshold_of z ≤ size x) → size x < threshold_of z
      go (yes h) =
          let e = classed j x hj m in
          let r = reaches z (size x) h in
          let s = f x (turn_in O (6 - start_of z) (start_of z) x j (omega arith) (omega arith) m) in
          let t = threshold_from z in
          absurd (omega arith)
      go (no h) = omega arith

  -- A FIT: what is found reaches it
  pub some_fits : (x c : ℕ) → result ≡ at x c → (j : ℕ) × (j < 6) × Mem x (O j) × (threshold_of z ≤ size x)
  some_fits x c q =
      let f : Mem x listed × (z ≤ size x) = subst (Fits size z listed) q (find_fits size z listed 0) in
      let t = met x f.0 in
      (t.0, t.1, t.3, reached z (size x) t.2 f.1)

  -- COMPARED below 512: 0 where nothing fits, else 1
  pub few_compared : z < 512 → Few result 0
  few_compared h = find_few size z listed 0 (λ x m. enough z (size x) h (met x m).2)

  -- from 512 on list 5 alone is searched
  pub five_listed : 512 ≤ z → length listed ≡ length (O 5)
  unfolding in_turn
  five_listed h = let e : start_of z ≡ 5 = (let k = class_large z h in omega arith) in rw e (length-append (O 5) [] ∙ omega arith)
