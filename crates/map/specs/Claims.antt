-- WHICH LINE IS THE FIRST BAD ONE (W-201), in terms of legal maps. proofs/Maps.antt proves the claims.
use Rattle.std.specs.Prelude.{◌≡◌, ◌⊎◌, List, [], ◌∷◌, ◌++◌, ℕ, suc, length}
use Rattle.map.specs.declared.rows.Row.{Row}
use Rattle.map.specs.Rows.{line_of, lines_of}
use Rattle.map.specs.Layout.{LegalMap}

-- LINE k OF THE BYTES IS THE FIRST BAD ONE: the lines before it, if any, are a legal map, and the bytes after them do not begin with
-- the line of a row that goes on with that map.
-- No line after it could mend it: the first rows of a legal map are a legal map themselves (`beginning_of_a_map`).
pub record FirstBad (most places : ℕ) (bs : List ℕ) (k : ℕ) : Type 0 where
  pub good : List Row
  pub rest : List ℕ
  pub is : bs ≡ lines_of good ++ rest
  pub line : k ≡ suc (length good)
  pub legal : (good ≡ []) ⊎ LegalMap most places good
  -- there is such a line; without any line it is the first
  pub some : rest ≡ [] → good ≡ []
  pub stops : (r : Row) (more : List ℕ) → rest ≡ line_of r ++ more → LegalMap most places (good ++ (r ∷ [])) → ⊥
