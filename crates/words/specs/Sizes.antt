-- ROUNDING, CLASSES, THRESHOLD (document 01, under that heading).
use Rattle.std.specs.Prelude.{ℕ, ◌+◌, ◌-◌, ◌*◌, ◌/◌, min, max, nat_le}
use Rattle.std.specs.Int.Count.{count_leading_zeros}
use Rattle.words.specs.Choice.{pick}

-- rounded size: size + 4, raised to at least 16, then up to a multiple of 8
abbrev pub rounded_of : ℕ → ℕ
rounded_of size = (max (size + 4) 16 + 7) / 8 * 8

-- class by length: 16–31, 32–63, 64–127, 128–255, 256–511, 512 and above, numbered 0 to 5; below 16 is also 0
unfoldable pub class_of : ℕ → ℕ
class_of n = pick (nat_le 32 n) (pick (nat_le 64 n) (pick (nat_le 128 n) (pick (nat_le 256 n) (pick (nat_le 512 n) 5 4) 3) 2) 1) 0

-- the class as heap.rs counts it: leading zeros of a 32-bit length
abbrev pub class_by_zeros : ℕ → ℕ
class_by_zeros n = min (27 - count_leading_zeros 32 n) 5

-- search starts at class of s plus one, at most 5
abbrev pub start_of : ℕ → ℕ
start_of s = min (class_of s + 1) 5

-- threshold: below 512, the next power of two above s; from 512, s itself
abbrev pub threshold_of : ℕ → ℕ
threshold_of s = pick (nat_le 512 s) s (pick (nat_le 256 s) 512 (pick (nat_le 128 s) 256 (pick (nat_le 64 s) 128 (pick (nat_le 32 s) 64 32))))
