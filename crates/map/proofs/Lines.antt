-- Laws of `specs/Rows.antt` and `specs/Layout.antt` on how long things are. Assumes nothing.
--     length_line, length_lines    nineteen bytes for each row
--     length_words                 three words for each row
--     length-map                   a row for each chunk
use mathlib.Core.Path.{◌≡◌, refl, ap}
use mathlib.Core.List.{List, [], ◌∷◌}
use Prim.Native.Nat.{ℕ, suc, ◌+◌, ◌*◌}
use native.Mathlib.Omega.{arith}
use lib.ListN.{length, length-append}
use Rattle.rules.specs.Rules.Chunks.{Chunk}
use Rattle.frame.proofs.Laws.Answer.{length_answer}
use Rattle.map.specs.declared.rows.Row.{Row}
use Rattle.map.specs.Rows.{number_of, line_of, lines_of, words_of}
use Rattle.map.specs.Layout.{map_of}

-- a line's bytes
pub length_line : (r : Row) → length (line_of r) ≡ 19
length_line r = length_answer (number_of r.kind) r.at r.len

-- nineteen bytes for each row
pub length_lines : (rs : List Row) → length (lines_of rs) ≡ 19 * length rs
unfolding lines_of
length_lines [] = refl
length_lines (r ∷ rs) = rw (length-append (line_of r) (lines_of rs), length_line r, length_lines rs) (omega arith)

-- three words for each row
pub length_words : (rs : List Row) → length (words_of rs) ≡ 3 * length rs
unfolding words_of
length_words [] = refl
length_words (r ∷ rs) = rw (length_words rs) (omega arith)

-- a row for each chunk
pub length-map : (ks : List ℕ) (b : ℕ) (cs : List Chunk) → length (map_of ks b cs) ≡ length cs
unfolding map_of
length-map ks b [] = refl
length-map ks b (c ∷ cs) = ap suc (length-map ks (b + c.len) cs)
