-- Laws of `specs/Hex.antt`, over any number of digits. Assumes nothing.
--     digit_low, digit_high, digit_none     which bytes are digits, and what they say
--     digit_of_byte, byte_of_digit          a value's digit says the value, and a digit is the digit of what it says
--     all_append, length_digits, all_digits_lem     a number's w digits are w bytes, each a digit
--     value_append, value_grows, value_below    digits read on; w of them say a number below 16 ^ w
--     value_of_digits     a number's last w digits say what is left of it by 16 ^ w
--     digits_of_value     w digits are the last w digits of the number that they say
--     write_on, write_end     digits written from the last to the first
use mathlib.Core.Path.{◌≡◌, refl, sym, ap, ◌∙◌}
use mathlib.Core.Bool.{Bool, true, false, ◌&&◌, cond, and_assoc, false≢true}
use mathlib.Core.List.{List, [], ◌∷◌, ◌++◌, append_assoc, append-nil}
use Prim.Native.Nat.{ℕ, zero, suc, ◌+◌, ◌-◌, ◌*◌, ◌/◌, ◌%◌, ◌^◌, ◌≤◌, ◌<◌}
use native.Mathlib.Nat.{pow-suc, mod-lt, add-zero, zero-add, le_refl}
use native.Mathlib.Numerals.{add-one}
use native.Mathlib.Omega.{arith}
use lib.Arith.{mod-mul}
use lib.Dec.{leb, ltb, lit<}
use lib.ListN.{length, drop, set, length-append, length-set}
use lib.Seq.{drop-cons, get_or-set_same, drop-set-lt}
use borrow.Author.Tests.{lt-ltb, le-ltb, le-leb, lt-leb, ltb-true, ltb-false, leb-true}
use Rattle.std.specs.Prelude.{Some, None}
use Rattle.frame.specs.Hex.{digit_of, digit_in, byte_of, all_digits, value_from, value_of, digits_of}

-- where "both" holds, each does
pub both : (s t : Bool) → (s && t) ≡ true → (s ≡ true) × (t ≡ true)
both true t h = (refl, h)
both false t h = (h, absurd (false≢true h))

-- ---- one digit

-- 0–9
pub digit_low : (b : ℕ) → 48 ≤ b → b ≤ 57 → digit_of b ≡ b - 48
unfolding digit_of
digit_low b h l = rw (le-leb 48 b h, le-leb b 57 l)

-- A–F
pub digit_high : (b : ℕ) → 65 ≤ b → b ≤ 70 → digit_of b ≡ b - 55
unfolding digit_of
digit_high b h l = simp (le-leb 48 b (omega arith), lt-leb b 57 (omega arith), le-leb 65 b h, le-leb b 70 l)

-- what holds of 0–9, of A–F and of no digit holds of every byte
by_digit : (C : ℕ → Type 0) (b : ℕ) → (48 ≤ b → b ≤ 57 → C (b - 48)) → (65 ≤ b → b ≤ 70 → C (b - 55)) → C 16 → C (digit_of b)
unfolding digit_of
by_digit C b f g z = go (leb 48 b && leb b 57) (leb 65 b && leb b 70) refl refl
  where
    go : (s t : Bool) → (leb 48 b && leb b 57) ≡ s → (leb 65 b && leb b 70) ≡ t → C (cond s (b - 48) (cond t (b - 55) 16))
    go true t e d = f (leb-true 48 b (both (leb 48 b) (leb b 57) e).0) (leb-true b 57 (both (leb 48 b) (leb b 57) e).1)
    go false true e d = g (leb-true 65 b (both (leb 65 b) (leb b 70) d).0) (leb-true b 70 (both (leb 65 b) (leb b 70) d).1)
    go false false e d = z

-- a byte in neither range is none
pub digit_none : (b : ℕ) → (48 ≤ b → 57 < b) → (65 ≤ b → 70 < b) → digit_of b ≡ 16
digit_none b p q = by_digit (λ d. d ≡ 16) b (λ h l. absurd (omega (arith, p h))) (λ h l. absurd (omega (arith, q h))) refl

-- the same as the code has it
pub in_low : (b : ℕ) → 48 ≤ b → b ≤ 57 → digit_in b ≡ Some (b - 48)
unfolding digit_in
in_low b h l = rw (digit_low b h l, lt-ltb (b - 48) 16 (omega arith))

pub in_high : (b : ℕ) → 65 ≤ b → b ≤ 70 → digit_in b ≡ Some (b - 65 + 10)
unfolding digit_in
in_high b h l = let e : b - 55 ≡ b - 65 + 10 = omega arith in rw (digit_high b h l, e, lt-ltb (b - 65 + 10) 16 (omega arith))

pub in_none : (b : ℕ) → (48 ≤ b → 57 < b) → (65 ≤ b → 70 < b) → digit_in b ≡ None
unfolding digit_in
in_none b p q = rw (digit_none b p q)

-- as the code asks, range by range
pub ruleset by_range = (in_low, in_high, in_none)

-- what the code's answer tells of a byte
pub in_some : (b d : ℕ) → Some d ≡ digit_in b → (digit_of b ≡ d) × (d < 16)
unfolding digit_in
in_some b d = go (ltb (digit_of b) 16) refl
  where
    go : (t : Bool) → ltb (digit_of b) 16 ≡ t → Some d ≡ cond t (Some (digit_of b)) None → (digit_of b ≡ d) × (d < 16)
    go true e h = let same : digit_of b ≡ d = cc in (same, rw same at (ltb-true (digit_of b) 16 e))
    go false e h = let z : ◌≡◌ {A = ℕ} 0 1 = cc in absurd (omega arith)

pub no_digit : (b : ℕ) → None ≡ digit_in b → ltb (digit_of b) 16 ≡ false
unfolding digit_in
no_digit b = go (ltb (digit_of b) 16)
  where
    go : (t : Bool) → None ≡ cond t (Some (digit_of b)) None → t ≡ false
    go true h = let z : ◌≡◌ {A = ℕ} 0 1 = cc in absurd (omega arith)
    go false h = refl

-- the digit of a value says that value
pub digit_of_byte : (d : ℕ) → d < 16 → digit_of (byte_of d) ≡ d
unfolding byte_of
digit_of_byte d h = go (ltb d 10) refl
  where
    go : (t : Bool) → ltb d 10 ≡ t → digit_of (cond t (d + 48) (d + 55)) ≡ d
    go true e = let l : d < 10 = ltb-true d 10 e in digit_low (d + 48) (omega arith) (omega arith) ∙ omega arith
    go false e = let l : 10 ≤ d = ltb-false d 10 e in digit_high (d + 55) (omega arith) (omega arith) ∙ omega arith

-- and a byte that is a digit is the digit of its value
pub byte_of_digit : (b : ℕ) → digit_of b < 16 → byte_of (digit_of b) ≡ b
unfolding byte_of
byte_of_digit b =
    by_digit (λ d. d < 16 → byte_of d ≡ b) b
    (λ h l k. rw (lt-ltb (b - 48) 10 (omega arith)) (omega arith))
    (λ h l k. rw (le-ltb (b - 55) 10 (omega arith)) (omega arith))
    (λ k. absurd (omega arith))

-- ---- bytes that are all digits

-- of two runs, each
pub all_append : (xs bs : List ℕ) → all_digits (xs ++ bs) ≡ (all_digits xs && all_digits bs)
all_append [] bs = refl
all_append (a ∷ xs) bs = rw (all_append xs bs) (sym (and_assoc (ltb (digit_of a) 16) (all_digits xs) (all_digits bs)))

-- ---- the digits of a number

-- how many they are
pub length_digits : (w n : ℕ) → length (digits_of w n) ≡ w
unfolding digits_of
length_digits zero n = refl
length_digits (suc w) n = rw (length-append, length_digits w (n / 16)) (add-one w)

-- and each is a digit
pub all_digits_lem : (w n : ℕ) → all_digits (digits_of w n) ≡ true
unfolding digits_of
all_digits_lem zero n = refl
all_digits_lem (suc w) n =
    let low : n % 16 < 16 = omega arith in
    rw (all_append, all_digits_lem w (n / 16), digit_of_byte (n % 16) low, lt-ltb (n % 16) 16 low)

-- ---- the number that digits say

-- digits are read on after the number that others said
pub value_append : (n : ℕ) (xs bs : List ℕ) → value_from n (xs ++ bs) ≡ value_from (value_from n xs) bs
value_append n [] bs = refl
value_append n (a ∷ xs) bs = value_append (n * 16 + digit_of a) xs bs

-- a number does not fall as it is read
pub value_grows : (n : ℕ) (bs : List ℕ) → n ≤ value_from n bs
value_grows n [] = omega arith
value_grows n (b ∷ bs) = omega (arith, value_grows (n * 16 + digit_of b) bs)

-- a power of 16 is no zero
pub power_some : (w : ℕ) → 0 < 16 ^ w
power_some zero = lit< tt
power_some (suc w) = rw pow-suc (omega (arith, power_some w))

-- the last w digits of a number say what is left of it by 16 ^ w
pub value_of_digits : (w n : ℕ) → value_of (digits_of w n) ≡ n % 16 ^ w
unfolding digits_of
value_of_digits zero n = omega arith
value_of_digits (suc w) n =
    let low : n % 16 < 16 = omega arith in
    rw (value_append, digit_of_byte (n % 16) low, value_of_digits w (n / 16), pow-suc) (sym (mod-mul n (power_some w) (lit< tt)))

-- digits read on after the number that w digits said are the digits after those w
digits_of_value_from : (w n : ℕ) (bs : List ℕ) → all_digits bs ≡ true → digits_of (w + length bs) (value_from n bs) ≡ digits_of w n ++ bs
unfolding digits_of
digits_of_value_from w n [] h = rw (add-zero w, append-nil)
digits_of_value_from w n (b ∷ bs) h =
    let d : digit_of b < 16 = ltb-true (digit_of b) 16 (both (ltb (digit_of b) 16) (all_digits bs) h).0 in
    let e : w + suc (length bs) ≡ suc w + length bs = omega arith in
    let q : (n * 16 + digit_of b) / 16 ≡ n = omega arith in
    let r : (n * 16 + digit_of b) % 16 ≡ digit_of b = omega arith in
    rw e
    (digits_of_value_from (suc w) (n * 16 + digit_of b) bs (both (ltb (digit_of b) 16) (all_digits bs) h).1
    ∙ rw (q, r, byte_of_digit b d, append_assoc))

-- digits are the digits of the number that they say
pub digits_of_value : (bs : List ℕ) → all_digits bs ≡ true → digits_of (length bs) (value_of bs) ≡ bs
unfolding digits_of
digits_of_value bs h = rw zero-add at (digits_of_value_from 0 0 bs h)

-- w digits say a number below 16 ^ w
pub value_below : (bs : List ℕ) → all_digits bs ≡ true → value_of bs < 16 ^ length bs
value_below bs h =
    let e : value_of bs ≡ value_of bs % 16 ^ length bs = sym (ap value_of (digits_of_value bs h)) ∙ value_of_digits (length bs) (value_of bs) in
    omega (arith, mod-lt (value_of bs) (power_some (length bs)))

-- ---- digits written from the last to the first

-- the last digit of what is left, written before those that are
pub write_on : (out : List ℕ) (k n b : ℕ) → 0 < k → k ≤ length out → b ≡ byte_of (n % 16)
    → digits_of k n ++ drop k out ≡ digits_of (k - 1) (n / 16) ++ drop (k - 1) (set out (k - 1) b)
unfolding digits_of
write_on out zero n b h l e = absurd (omega arith)
write_on out (suc j) n b h l e =
    let p : suc j - 1 ≡ j = omega arith in
    let q : j < length (set out j b) = omega (arith, length-set out j b) in
    rw (p, drop-cons (set out j b) j 0 q, get_or-set_same out j b 0 l, drop-set-lt (suc j) out j b (le_refl (suc j)), e, append_assoc)

-- all of them
pub write_end : (out : List ℕ) (k n : ℕ) → k ≤ 0 → digits_of k n ++ drop k out ≡ out
unfolding digits_of
write_end out zero n h = refl
write_end out (suc k) n h = absurd (omega arith)

-- as the code writes
pub ruleset from_the_end = (write_on, write_end)
