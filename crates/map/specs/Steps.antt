-- THE READER'S STEPS (W-201): what trying the lines gives, and the words of lines that are laid into the room.
use Rattle.std.specs.Prelude.{List, [], ◌∷◌, ℕ, zero, suc, ◌+◌, length, take, drop, Option, Some, None, Result, Ok, Err}
use Rattle.map.specs.declared.refusal.Refusal.{Refusal}
use Rattle.map.specs.declared.refusal.Refusal.TheVariants.{BadLine}
use Rattle.map.specs.declared.rows.Row.{Row}
use Rattle.map.specs.Rows.{number_of}
use Rattle.map.specs.Reading.{Read, rows, bad, row_in}

-- how many rows were read, after n others, or the number of the first bad line
abbrev pub counted : ℕ → Read → Result ℕ Refusal
counted n (rows rs) = Ok (n + length rs)
counted n (bad k) = Err (BadLine k)

-- the words of a line before the words of the lines after it; a bad line has none, nor has what comes after it
abbrev pub words_on : List ℕ → Option Row → List ℕ
words_on more None = []
words_on more (Some r) = number_of r.kind ∷ r.at ∷ r.len ∷ more

-- the words of the first n lines, up to a bad one
unfoldable pub words_in : ℕ → List ℕ → List ℕ
words_in zero bs = []
words_in (suc n) bs = let more = words_in n (drop 19 bs) in words_on more (row_in (take 19 bs))
