-- Laws of `specs/Choice.antt`. Assumes nothing.
--     by_cases      of two numbers, one is at most the other or above it
--     by_order      a choice by an order is what it is both ways
--     bit_small, bit_none     a test as a number is at most 1, and 0 exactly where the test fails
use Rattle.std.proofs.Common.{◌≡◌, ℕ, ◌<◌, ◌≤◌, Bool, true, false, not, eqb, leb, refl, arith, le-leb}
use native.Mathlib.Decide.{dec_le}
use borrow.Author.Tests.{lt-leb}
use Rattle.words.specs.Choice.{pick, bit}

-- what follows both where m is at most n and where it is above n holds
pub by_cases : {C : Type 0} (m n : ℕ) → (m ≤ n → C) → (n < m → C) → C
by_cases {C} m n f g = go (dec_le m n)
  where
    go : Dec (m ≤ n) → C
    go (yes h) = f h
    go (no h) = g (omega arith)

-- a choice by an order is r, if it is r both ways
pub by_order : {A : Type 0} (m n : ℕ) {x y r : A} → (m ≤ n → x ≡ r) → (n < m → y ≡ r) → pick (leb m n) x y ≡ r
by_order m n f g = by_cases m n (λ h. rw (le-leb m n h) (f h)) (λ h. rw (lt-leb m n h) (g h))

-- a test as a number is at most 1
pub bit_small : (t : Bool) → bit t ≤ 1
bit_small true = omega arith
bit_small false = omega arith

-- and it is 0 exactly where the test fails
pub bit_none : (t : Bool) → eqb (bit t) 0 ≡ not t
bit_none true = refl
bit_none false = refl
