-- ALL LINES of a map, tried in a loop: laws of `counted` (`specs/Steps.antt`). Assumes nothing.
--     counted_on, counted_rows, counted_bad     rows counted, and what the count tells
--     chunk, row_chunk     a turn over the bytes' chunks of nineteen
--     tried_start, tried_end, tried_bad, tried_stuck, tried_on     a turn of the loop over the bytes, by what its line is
use mathlib.Core.Path.{◌≡◌, refl, sym, ap, ◌∙◌}
use mathlib.Core.Bool.{true, false}
use mathlib.Core.List.{List, [], ◌∷◌, ◌++◌, append-nil}
use Prim.Native.Nat.{ℕ, suc, ◌+◌, ◌-◌, ◌≤◌, ◌<◌, min}
use native.Mathlib.Numerals.{add-one}
use native.Mathlib.Decide.{dec_le}
use native.Mathlib.Omega.{arith}
use lib.ListN.{length, take, drop, length-append, drop_of_length-le}
use lib.Seq.{take_at, drop_at}
use Rattle.std.proofs.lemmas.List.{take_all}
use Rattle.map.specs.declared.rows.Row.{Row}
use Rattle.map.specs.declared.rows.Place.{Place}
use Rattle.std.specs.Prelude.{Some, None, Result, Ok, Err}
use Rattle.map.specs.declared.refusal.Refusal.{Refusal}
use Rattle.map.specs.declared.refusal.Refusal.TheVariants.{BadLine}
use Rattle.map.specs.Reading.{row_in, start, followsᵇ, past, Read, rows, bad, before, read_from}
use Rattle.map.specs.Steps.{counted}
use Rattle.map.proofs.RowLaws.{row_whole}
use Rattle.map.proofs.Through.{read_end, read_bad, read_stuck, read_on_lem}

-- ---- rows counted

-- a row before what is read counts one more
pub counted_on : (n : ℕ) (r : Row) (q : Read) → counted n (before r q) ≡ counted (n + 1) q
counted_on n r (rows rs) = let e : n + suc (length rs) ≡ n + 1 + length rs = omega arith in ap Ok e
counted_on n r (bad k) = refl

-- what the count says: that all are rows, and how many
pub counted_rows : (q : Read) (n : ℕ) → Ok n ≡ counted 0 q → (rs : List Row) × (q ≡ rows rs) × (length rs ≡ n)
counted_rows (rows rs) n e = let h : n ≡ 0 + length rs = cc in (rs, refl, omega arith)
counted_rows (bad k) n e = let z : ◌≡◌ {A = ℕ} 0 1 = cc in absurd (omega arith)

-- or the first bad line
pub counted_bad : (q : Read) (k : ℕ) → Err (BadLine k) ≡ counted 0 q → q ≡ bad k
counted_bad (rows rs) k e = let z : ◌≡◌ {A = ℕ} 0 1 = cc in absurd (omega arith)
counted_bad (bad j) k e = let h : j ≡ k = cc in ap bad h

-- ---- a chunk of the bytes

-- the first nineteen bytes, or all where fewer are left, and the bytes after them
pub record Chunk (bs line after : List ℕ) : Type 0 where
  pub is : line ≡ take 19 bs
  pub left : after ≡ drop 19 bs
  pub some : 0 < length bs

none_left : (xs : List ℕ) → length xs ≡ 0 → xs ≡ []
none_left [] z = refl
none_left (x ∷ xs) z = absurd (omega arith)

-- as the library says it of a turn
pub chunk : (bs line after : List ℕ) (size : ℕ) → size ≡ 19 → (bs ≡ line ++ after) × (length line ≡ min size (length bs)) × (0 < length bs)
    → Chunk bs line after
chunk bs line after size e (parts, len, some) = go (dec_le 19 (length bs))
  where
    all : length bs ≡ length line + length after
    all = ap length parts ∙ length-append line after

    go : Dec (19 ≤ length bs) → Chunk bs line after
    go (yes h) =
        let n : length line ≡ 19 = omega (arith, e, len) in
        record { is = rw parts (sym (take_at line after 19 n)); left = rw parts (sym (drop_at line after 19 n)); some = some }
    go (no h) =
        let none : length after ≡ 0 = omega (arith, e, len, all) in
        let over : drop 19 bs ≡ [] = drop_of_length-le bs {i = 19} (omega arith) in
        let empty : after ≡ [] = none_left after none in
        record {
          is = sym (take_all 19 bs (omega arith) ∙ parts ∙ rw empty (append-nil line));
          left = empty ∙ sym over;
          some = some;
        }

-- a turn whose line is a row
pub record RowChunk (bs after : List ℕ) (r : Row) : Type 0 where
  pub row : Some r ≡ row_in (take 19 bs)
  pub left : after ≡ drop 19 bs
  pub whole : 19 ≤ length bs

pub row_chunk : (bs line after : List ℕ) (size : ℕ) → size ≡ 19 → (bs ≡ line ++ after) × (length line ≡ min size (length bs)) × (0 < length bs)
    → (r : Row) → Some r ≡ row_in line → RowChunk bs after r
row_chunk bs line after size e parts r t =
    let turn = chunk bs line after size e parts in
    let row : Some r ≡ row_in (take 19 bs) = t ∙ ap row_in turn.is in
    record { row = row; left = turn.left; whole = row_whole bs r row }

-- ---- lines tried in a loop: n rows are read, and these bytes are left of the whole

module _ (most places : ℕ) (p : Place) (whole n : ℕ) (bs : List ℕ) where
  -- what the lines from here on count to
  unfoldable pub tried : Result ℕ Refusal
  tried = counted n (read_from most places (whole - n) p (n + 1) bs)

  -- no byte is left
  pub tried_end : length bs ≡ 0 → tried ≡ Ok n
  unfolding tried
  tried_end e =
      let z : n + 0 ≡ n = omega arith in
      ap (counted n) (read_end most places (whole - n) p (n + 1) bs e) ∙ ap Ok z

  module _ (some : 0 < length bs) (l : n < whole) where
    fuel : whole - n ≡ suc (whole - (n + 1))
    fuel = omega arith

    -- the line is no row
    pub tried_bad : None ≡ row_in (take 19 bs) → tried ≡ Err (BadLine (n + 1))
    unfolding tried
    tried_bad e = rw fuel (ap (counted n) (read_bad most places (whole - (n + 1)) p (n + 1) bs some (sym e)))

    module _ (r : Row) (e : Some r ≡ row_in (take 19 bs)) where
      -- its row cannot follow
      pub tried_stuck : false ≡ followsᵇ most places p r → tried ≡ Err (BadLine (n + 1))
      unfolding tried
      tried_stuck t = rw fuel (ap (counted n) (read_stuck most places (whole - (n + 1)) p (n + 1) bs some r (sym e) (sym t)))

-- its row can: one more is read
pub tried_on : (most places : ℕ) (p : Place) (whole n : ℕ) (bs : List ℕ) → 0 < length bs → n < whole → (r : Row) → Some r ≡ row_in (take 19 bs)
    → true ≡ followsᵇ most places p r → (q : Place) → q ≡ past p r → tried most places p whole n bs ≡ tried most places q whole (n + 1) (drop 19 bs)
unfolding tried
tried_on most places p whole n bs some l r e t q g =
    let f : ℕ = whole - (n + 1) in
    let x : Read = read_from most places f (past p r) (suc (n + 1)) (drop 19 bs) in
    let one : counted n (read_from most places (suc f) p (n + 1) bs) ≡ counted n (before r x) =
    ap (counted n) (read_on_lem most places f p (n + 1) bs some r (sym e) (sym t)) in
    let two : counted n (before r x) ≡ counted (n + 1) (read_from most places f (past p r) (n + 1 + 1) (drop 19 bs)) =
    counted_on n r x ∙ rw (add-one (n + 1)) refl in
    rw (fuel most places p whole n bs some l, g) (one ∙ two)

-- before the first line
pub tried_start : (most places : ℕ) (bs : List ℕ) → counted 0 (read_from most places (length bs) start 1 bs) ≡ tried most places start (length bs) 0 bs
unfolding tried
tried_start most places bs = let e : length bs - 0 ≡ length bs = omega arith in rw e
