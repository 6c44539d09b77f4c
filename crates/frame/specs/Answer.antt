-- LINES OF OUTPUT (document 01, "Trace frames"): the bytes of an answer, and where they are written.
use Rattle.std.specs.Prelude.{cond, List, [], ◌∷◌, ◌++◌, ℕ, leb, length, drop}
use Rattle.frame.specs.Hex.{digits_of}

-- an answer's line: two digits for its number, eight for its value, eight for the compared count, and a line feed
unfoldable pub answer_bytes : ℕ → ℕ → ℕ → List ℕ
answer_bytes number value compared = digits_of 2 number ++ digits_of 8 value ++ digits_of 8 compared ++ (10 ∷ [])

-- lent bytes with an answer's line written at their start, if there is room for it
unfoldable pub answered : List ℕ → ℕ → ℕ → ℕ → List ℕ
answered out number value compared = cond (leb 19 (length out)) (answer_bytes number value compared ++ drop 19 out) out
