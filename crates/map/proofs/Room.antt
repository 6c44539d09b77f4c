-- THE ROOM AND WHAT STANDS OVER IT: laws of `over` (`specs/Calls.antt`), also for a room that is filled part after part. Assumes nothing.
--     over_is, take_over        by the number of places that xs takes
--     over_none, over_append    from place i on: nothing, and xs with ys behind them
use mathlib.Core.Path.{◌≡◌, ap}
use mathlib.Core.List.{List, [], ◌++◌, append_assoc}
use Prim.Native.Nat.{ℕ, ◌+◌, ◌≤◌}
use native.Mathlib.Omega.{arith}
use lib.ListN.{length, take, drop, length-append, take-append-drop}
use lib.Seq.{take_at, drop_at, drop-drop, length-take-le}
use Rattle.map.specs.Calls.{over}

module _ (xs room : List ℕ) (n : ℕ) (e : length xs ≡ n) where
  -- the n places of xs, and the room past them
  pub over_is : over xs room ≡ xs ++ drop n room
  unfolding over
  over_is = ap (λ (k : ℕ). xs ++ drop k room) e

  pub take_over : take n (over xs room) ≡ xs
  unfolding over
  take_over = take_at xs (drop (length xs) room) n e

-- xs over the room from place i on
unfoldable pub over_from : ℕ → List ℕ → List ℕ → List ℕ
over_from i xs room = take i room ++ over xs (drop i room)

-- nothing
pub over_none : (i : ℕ) (room : List ℕ) → over_from i [] room ≡ room
unfolding over_from over
over_none i room = take-append-drop i room

-- of three parts, what the first two have and what the third
take_two : (p x q : List ℕ) (n : ℕ) → length (p ++ x) ≡ n → take n (p ++ (x ++ q)) ≡ p ++ x
take_two p x q n l = rw (← (append_assoc p x q)) (take_at (p ++ x) q n l)

drop_two : (p x q : List ℕ) (n : ℕ) → length (p ++ x) ≡ n → drop n (p ++ (x ++ q)) ≡ q
drop_two p x q n l = rw (← (append_assoc p x q)) (drop_at (p ++ x) q n l)

-- first xs, then ys behind them
pub over_append : (i : ℕ) (xs ys room : List ℕ) → i + length xs ≤ length room
    → over_from i (xs ++ ys) room ≡ over_from (i + length xs) ys (over_from i xs room)
unfolding over_from over
over_append i xs ys room h =
    let p : List ℕ = take i room in
    let q : List ℕ = drop (length xs) (drop i room) in
    let l : length (p ++ xs) ≡ i + length xs = simp (length-append, length-take-le i room (omega arith)) in
    rw (take_two p xs q (i + length xs) l, drop_two p xs q (i + length xs) l)
    (rw (length-append xs ys, drop-drop (length ys) (length xs) (drop i room), append_assoc xs ys, append_assoc p xs))
