-- HEXADECIMAL (document 01, "Trace frames"): digits 0–9 A–F as ASCII has them, upper case only, the most significant first.
use Rattle.std.specs.Prelude.{Option, Some, None, Bool, true, ◌&&◌, cond, List, [], ◌∷◌, ◌++◌, ℕ, zero, suc, ◌+◌, ◌-◌, ◌*◌, ◌/◌, ◌%◌, leb, ltb}

-- the value of a digit; 16 for any other byte
unfoldable pub digit_of : ℕ → ℕ
digit_of b = cond (leb 48 b && leb b 57) (b - 48) (cond (leb 65 b && leb b 70) (b - 55) 16)

-- the same as the code has it: none for any other byte
unfoldable pub digit_in : ℕ → Option ℕ
digit_in b = cond (ltb (digit_of b) 16) (Some (digit_of b)) None

-- the digit of a value below 16
unfoldable pub byte_of : ℕ → ℕ
byte_of d = cond (ltb d 10) (d + 48) (d + 55)

-- every byte is a digit
abbrev pub all_digits : List ℕ → Bool
all_digits [] = true
all_digits (b ∷ bs) = ltb (digit_of b) 16 && all_digits bs

-- the number that digits spell after those that spelt n
abbrev pub value_from : ℕ → List ℕ → ℕ
value_from n [] = n
value_from n (b ∷ bs) = value_from (n * 16 + digit_of b) bs

-- the number that digits spell
abbrev pub value_of : List ℕ → ℕ
value_of bs = value_from 0 bs

-- the last w digits of a number
unfoldable pub digits_of : ℕ → ℕ → List ℕ
digits_of zero n = []
digits_of (suc w) n = digits_of w (n / 16) ++ (byte_of (n % 16) ∷ [])
