-- READING A MAP (W-201), line by line: which row can follow those before it, and which line is the first that cannot.
use Rattle.std.specs.Prelude.{◌≡◌, Bool, false, not, List, [], ◌∷◌, ℕ, zero, suc, ◌+◌, ◌-◌, ◌*◌, ◌%◌, eqb, leb, length, take, drop, get_or, Option, Some, None, option_map, Result, IfErr}
use Rattle.std.specs.Result.{result_ok}
use Rattle.words.specs.Choice.{pick, bit}
use Rattle.rules.specs.Sound.Test.{both}
use Rattle.frame.specs.Hex.{all_digits, value_of}
use Rattle.map.specs.declared.kind.ChunkKind.{ChunkKind}
use Rattle.map.specs.declared.kind.ChunkKind.TheVariants.{Free, Live, Cached}
use Rattle.map.specs.declared.kind.UnknownKind.{UnknownKind}
use Rattle.map.specs.declared.rows.Row.{Row}
use Rattle.map.specs.declared.rows.Place.{Place}
use Rattle.map.specs.Rows.{row, is_free, is_cached}

-- the kind with this number, if there is one
abbrev pub kind_in : ℕ → Option ChunkKind
kind_in n = pick (eqb n 16) (Some Free) (pick (eqb n 17) (Some Live) (pick (eqb n 18) (Some Cached) None))

-- the result is the kind with this number, or an error with a number that no kind has
abbrev pub Decodes : ℕ → Result ChunkKind UnknownKind → Type 0
Decodes n r = (result_ok r ≡ kind_in n) × IfErr r (λ e. e.0 ≡ n)

-- a line with its line feed: eighteen digits, two for the kind, eight for the offset, eight for the length
unfoldable pub row_in : List ℕ → Option Row
row_in l =
    let r = option_map (λ k. row k (value_of (take 8 (drop 2 l))) (value_of (take 8 (drop 10 l)))) (kind_in (value_of (take 2 l))) in
    pick (both (eqb (length l) 19) (both (all_digits (take 18 l)) (eqb (get_or l 18 0) 10))) r None

-- before the first row
abbrev pub start : Place
start = record { at = 0; free = false; held = 0 }

-- a row begins at byte b, and has a legal length that ends in an accepted one
unfoldable pub standsᵇ : ℕ → ℕ → Row → Bool
standsᵇ most b r =
    both (eqb r.at b) (both (leb 16 r.len) (both (eqb (r.len % 8) 0) (leb (b + r.len) (4 * (most - 1)))))

-- a row can follow at this place: it stands there, is not free after a free one, and has a cache place if it is cached
unfoldable pub followsᵇ : ℕ → ℕ → Place → Row → Bool
followsᵇ most places p r =
    both (standsᵇ most p.at r)
    (both (not (both p.free (is_free r.kind))) (leb (p.held + bit (is_cached r.kind)) places))

-- the place after a row
abbrev pub past : Place → Row → Place
past p r = record { at = p.at + r.len; free = is_free r.kind; held = p.held + bit (is_cached r.kind) }

-- WHAT READING GIVES: all rows, or the number of the first bad line
pub data Read : Type 0 where
  rows : List Row → Read
  bad : ℕ → Read

-- a row read before what is read after it
abbrev pub before : Row → Read → Read
before r (rows rs) = rows (r ∷ rs)
before r (bad k) = bad k

module _ (most places : ℕ) where
  -- line k is l; what comes after it is read by `more` from the place after l's row
  unfoldable pub line_read : Place → ℕ → (Place → Read) → Option Row → Read
  line_read p k more None = bad k
  line_read p k more (Some r) = let q = before r (more (past p r)) in pick (followsᵇ most places p r) q (bad k)

  -- the bytes bs from line k on, as at most this many lines
  unfoldable pub read_from : ℕ → Place → ℕ → List ℕ → Read
  read_from zero p k bs = rows []
  read_from (suc fuel) p k bs =
      let q = line_read p k (λ p'. read_from fuel p' (suc k) (drop 19 bs)) (row_in (take 19 bs)) in
      pick (eqb (length bs) 0) (rows []) q

  -- all bytes; where there is no line at all, line 1 is bad
  unfoldable pub read_all : List ℕ → Read
  read_all bs = pick (eqb (length bs) 0) (bad 1) (read_from (length bs) start 1 bs)
