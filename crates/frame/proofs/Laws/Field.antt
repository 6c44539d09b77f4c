-- Laws of `specs/Field.antt`. Assumes nothing.
--     field_is, field_end, field_bad, field_over, field_on     a field is read digit by digit: where it starts and ends, what refuses it, what goes on
--     field_number, field_none     what the answer tells of the bytes
--     field_of_digits     a number's digits are read as it, where they hold it
use mathlib.Core.Path.{◌≡◌, refl, sym, ◌∙◌}
use mathlib.Core.Bool.{Bool, true, false, ◌&&◌, cond, and-false}
use mathlib.Core.List.{List}
use Prim.Native.Nat.{ℕ, suc, ◌+◌, ◌*◌, ◌^◌, ◌≤◌, ◌<◌}
use native.Mathlib.Nat.{pow-le-pow_right, lt_of_lt_of_le, mod-eq_of_lt}
use native.Mathlib.Numerals.{add-one}
use native.Mathlib.Omega.{arith}
use lib.Dec.{ltb, lit<}
use lib.ListN.{length, get_or, drop, drop_of_length-le}
use lib.Seq.{drop-cons}
use borrow.Author.Tests.{lt-ltb, le-ltb, ltb-true}
use Rattle.std.specs.Prelude.{Option, Some, None}
use Rattle.frame.specs.Hex.{digit_of, digit_in, all_digits, value_from, value_of, digits_of}
use Rattle.frame.specs.Field.{field_of}
use Rattle.frame.proofs.Laws.Hex.{in_some, no_digit, all_digits_lem, value_grows, value_of_digits, value_below}

-- a field that is read on after digits that said n
unfoldable pub field_from : ℕ → List ℕ → Option ℕ
field_from n bs = cond (all_digits bs && ltb (value_from n bs) (2 ^ 32)) (Some (value_from n bs)) None

-- ---- digit by digit

-- a field is read from 0 on
pub field_is : (bs : List ℕ) → field_of bs ≡ field_from 0 (drop 0 bs)
unfolding field_of field_from
field_is bs = refl

module _ (bs : List ℕ) (k n : ℕ) where
  -- at its end it says the number read
  pub field_end : length bs ≤ k → n < 2 ^ 32 → field_from n (drop k bs) ≡ Some n
  unfolding field_from
  field_end h l = rw (drop_of_length-le bs h, lt-ltb n (2 ^ 32) l)

  module _ (h : k < length bs) where
    -- a number with no room for a digit refuses it
    pub field_over : 2 ^ 32 ≤ n * 16 → field_from n (drop k bs) ≡ None
    unfolding field_from
    field_over l =
        let m : ℕ = value_from (n * 16 + digit_of (get_or bs k 0)) (drop (suc k) bs) in
        let large : 2 ^ 32 ≤ m = omega (arith, value_grows (n * 16 + digit_of (get_or bs k 0)) (drop (suc k) bs)) in
        rw (drop-cons bs k 0 h, le-ltb m (2 ^ 32) large, and-false)

    -- so does a byte that is no digit
    pub field_bad : None ≡ digit_in (get_or bs k 0) → field_from n (drop k bs) ≡ None
    unfolding field_from
    field_bad e = rw (drop-cons bs k 0 h, no_digit (get_or bs k 0) e)

    -- a digit goes on
    pub field_on : (m d : ℕ) → m ≡ n * 16 → Some d ≡ digit_in (get_or bs k 0) → field_from n (drop k bs) ≡ field_from (m + d) (drop (k + 1) bs)
    unfolding field_from
    field_on m d s e =
        let f = in_some (get_or bs k 0) d e in
        let small : digit_of (get_or bs k 0) < 16 = omega (arith, f.0, f.1) in
        rw (s, sym f.0, add-one k, drop-cons bs k 0 h, lt-ltb (digit_of (get_or bs k 0)) 16 small)

-- as the code reads
pub ruleset by_digit = (field_is, field_end, field_bad, field_over, field_on, in_some)

-- ---- what the answer tells

-- a number: the bytes are digits, they say it, and it has 32 bits
pub field_number : (bs : List ℕ) (n : ℕ) → Some n ≡ field_of bs → (all_digits bs ≡ true) × (value_of bs ≡ n) × (n < 2 ^ 32)
unfolding field_of
field_number bs n = go (all_digits bs) (ltb (value_of bs) (2 ^ 32)) refl refl
  where
    go : (s t : Bool) → all_digits bs ≡ s → ltb (value_of bs) (2 ^ 32) ≡ t
        → Some n ≡ cond (s && t) (Some (value_of bs)) None → (all_digits bs ≡ true) × (value_of bs ≡ n) × (n < 2 ^ 32)
    go true true e f h = let same : value_of bs ≡ n = cc in (e, same, rw same at (ltb-true (value_of bs) (2 ^ 32) f))
    go true false e f h = let z : ◌≡◌ {A = ℕ} 0 1 = cc in absurd (omega arith)
    go false t e f h = let z : ◌≡◌ {A = ℕ} 0 1 = cc in absurd (omega arith)

-- none, of at most eight bytes: one of them is no digit
pub field_none : (bs : List ℕ) → length bs ≤ 8 → None ≡ field_of bs → all_digits bs ≡ false
unfolding field_of
field_none bs l = go (all_digits bs) refl
  where
    go : (s : Bool) → all_digits bs ≡ s → None ≡ cond (s && ltb (value_of bs) (2 ^ 32)) (Some (value_of bs)) None → all_digits bs ≡ false
    go true e h =
        let room : value_of bs < 2 ^ 32 = lt_of_lt_of_le (value_below bs e) (pow-le-pow_right {n = 16} (lit< tt) l) in
        let same : None ≡ Some (value_of bs) = rw (lt-ltb (value_of bs) (2 ^ 32) room) at h in
        let z : ◌≡◌ {A = ℕ} 0 1 = cc in
        absurd (omega arith)
    go false e h = e

-- ---- a number's digits

-- as many digits as hold a number are read as it
pub field_of_digits : (w n : ℕ) → n < 16 ^ w → n < 2 ^ 32 → field_of (digits_of w n) ≡ Some n
unfolding field_of
field_of_digits w n h l =
    let e : value_of (digits_of w n) ≡ n = value_of_digits w n ∙ mod-eq_of_lt h in
    rw (all_digits_lem w n, e, lt-ltb n (2 ^ 32) l)
