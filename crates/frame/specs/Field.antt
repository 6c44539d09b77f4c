-- A FIELD of digits as the code reads it: a number of 32 bits, or none.
use Rattle.std.specs.Prelude.{Option, Some, None, ◌&&◌, cond, List, ℕ, ◌^◌, ltb}
use Rattle.frame.specs.Hex.{all_digits, value_of}

-- the number that digits spell; none if a byte is not a digit or the number does not fit in 32 bits
unfoldable pub field_of : List ℕ → Option ℕ
field_of bs = cond (all_digits bs && ltb (value_of bs) (2 ^ 32)) (Some (value_of bs)) None
