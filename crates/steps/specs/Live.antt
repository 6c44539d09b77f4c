-- The length of a live chunk as the code says it, from the rules' walk, which says 0 where no used chunk begins.
use Rattle.std.specs.Prelude.{ℕ, zero, suc, Option, Some, None}

-- n bytes, none where there are 0
abbrev pub if_used : ℕ → Option ℕ
if_used zero = None
if_used (suc n) = Some (suc n)
