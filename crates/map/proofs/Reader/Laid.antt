-- ROWS LAID into the room: laws of `words_in` (`specs/Steps.antt`) and of `read_into` (`specs/Calls.antt`). Assumes nothing.
--     words_bad, words_on_lem, words_none, words_lines     the words of lines
--     laying_start, laying_end, laying_bad, laying_on     words laid in a loop
--     told_bad, told_rows     what the count of all lines tells
--     into_none, into_bad, into_bad_line, into_refused, into_short, into_bytes, into_done     a map read into the room, as the answers have it
use mathlib.Core.Path.{◌≡◌, refl, sym, ap, ◌∙◌}
use mathlib.Core.Bool.{Bool, false}
use mathlib.Core.List.{List, [], ◌∷◌, ◌++◌, append_assoc}
use Prim.Native.Nat.{ℕ, zero, suc, ◌+◌, ◌-◌, ◌*◌, ◌/◌, ◌^◌, ◌≤◌, ◌<◌}
use native.Mathlib.Omega.{arith}
use lib.Dec.{eqb}
use lib.ListN.{length, take, drop, set, length-take}
use lib.Seq.{drop_at, drop-drop, sets-eq}
use borrow.Author.Tests.{eq-eqb}
use Rattle.std.proofs.lemmas.Bool.{eqb-false}
use Rattle.rules.specs.Rules.Calls.{says}
use Rattle.map.specs.declared.rows.Row.{Row}
use Rattle.map.specs.declared.rows.Place.{Place}
use Rattle.std.specs.Prelude.{Some, None, Result, Ok, Err}
use Rattle.map.specs.declared.refusal.Refusal.{Refusal}
use Rattle.map.specs.Answer.{told}
use Rattle.map.specs.declared.refusal.Refusal.TheVariants.{BadLine}
use Rattle.map.specs.Layout.{LegalMap}
use Rattle.map.specs.Rows.{number_of, line_of, lines_of, words_of}
use Rattle.map.specs.Reading.{row_in, start, past, Read, rows, bad, read_from, read_all}
use Rattle.map.specs.Steps.{counted, words_on, words_in}
use Rattle.map.specs.Calls.{over, read_into}
use Rattle.map.proofs.Lines.{length_line, length_lines, length_words}
use Rattle.map.proofs.Room.{over_from, over_none, over_append}
use Rattle.map.proofs.Answers.{laid_fits, laid_short}
use Rattle.map.proofs.Places.{Goes, map_goes}
use Rattle.map.proofs.RowLaws.{row_length}
use Rattle.map.proofs.Through.{row_read}
use Rattle.map.proofs.Exactly.{read_some, read_legal}
use Rattle.map.proofs.Reader.AllLines.{counted_rows, counted_bad}

-- ---- words of lines

-- a bad line has no words
pub words_bad : (n : ℕ) (bs : List ℕ) → None ≡ row_in (take 19 bs) → words_in n bs ≡ []
unfolding words_in
words_bad zero bs e = refl
words_bad (suc n) bs e = rw (← e)

-- a row has three, before those of the lines after it
pub words_on_lem : (n : ℕ) (bs : List ℕ) (r : Row) → Some r ≡ row_in (take 19 bs)
    → words_in (suc n) bs ≡ number_of r.kind ∷ r.at ∷ r.len ∷ words_in n (drop 19 bs)
unfolding words_in
words_on_lem n bs r e = ap (words_on (words_in n (drop 19 bs))) (sym e)

-- no bytes have none
pub words_none : (n : ℕ) (bs : List ℕ) → length bs ≡ 0 → words_in n bs ≡ []
words_none n bs e = words_bad n bs (row_length (take 19 bs) (λ z. omega (arith, length-take 19 bs)))

-- the lines of rows that follow have the words of those rows
words_lines : (most places : ℕ) → 4 * most ≤ 2 ^ 32 → (rs : List Row) (p : Place) (left : ℕ) → Goes most places p rs
    → words_in (length rs + left) (lines_of rs) ≡ words_of rs
unfolding lines_of words_of
words_lines most places h [] p left g = words_none (0 + left) [] refl
words_lines most places h (r ∷ rs) p left g =
    let n : suc (length rs) + left ≡ suc (length rs + left) = omega arith in
    ap (λ (m : ℕ). words_in m (line_of r ++ lines_of rs)) n
    ∙ words_on_lem (length rs + left) (line_of r ++ lines_of rs) r (sym (row_read most places h p r (lines_of rs) g.0))
    ∙ rw (drop_at (line_of r) (lines_of rs) 19 (length_line r), words_lines most places h rs (past p r) left g.1)

-- ---- words laid in a loop: k rows are laid, and these bytes are left of the whole

-- the room once the lines from here on are laid
unfoldable pub laying : ℕ → ℕ → List ℕ → List ℕ → List ℕ
laying whole k bs room = over_from (k * 3) (words_in (whole - k) bs) room

-- nothing is laid yet
pub laying_start : (bs room : List ℕ) → over (words_in (length bs) bs) room ≡ laying (length bs) 0 bs room
unfolding laying over_from
laying_start bs room = let e : length bs - 0 ≡ length bs = omega arith in rw e

module _ (whole k : ℕ) (bs room : List ℕ) where
  -- all rows are laid
  pub laying_end : length bs ≡ 0 → laying whole k bs room ≡ room
  unfolding laying
  laying_end e = rw (words_none (whole - k) bs e) (over_none (k * 3) room)

  -- a bad line ends it
  pub laying_bad : None ≡ row_in (take 19 bs) → laying whole k bs room ≡ room
  unfolding laying
  laying_bad e = rw (words_bad (whole - k) bs e) (over_none (k * 3) room)

-- three words stored from place j on stand over the room
stored : (room : List ℕ) (j a b c : ℕ) → j + 3 ≤ length room → over_from j (a ∷ b ∷ c ∷ []) room ≡ set (set (set room j a) (j + 1) b) (j + 2) c
unfolding over_from over
stored room j a b c h =
    let ys : List ℕ = a ∷ b ∷ c ∷ [] in
    let one : j + 1 ≡ suc j = omega arith in
    let two : j + 2 ≡ suc (suc j) = omega arith in
    rw (one, two, drop-drop 3 j room) (sym (sets-eq ys room j h ∙ append_assoc (take j room) ys (drop (j + 3) room)))

-- a row is laid, with the number n of its kind
pub laying_on : (whole k n : ℕ) (bs room : List ℕ) (r : Row) → k < whole → (k + 1) * 3 ≤ length room → Some r ≡ row_in (take 19 bs) → n ≡ number_of r.kind
    → laying whole k bs room ≡ laying whole (k + 1) (drop 19 bs) (set (set (set room (k * 3) n) (k * 3 + 1) r.at) (k * 3 + 2) r.len)
unfolding laying
laying_on whole k n bs room r h l e en =
    let f : whole - k ≡ suc (whole - (k + 1)) = omega arith in
    let t : (k + 1) * 3 ≡ k * 3 + 3 = omega arith in
    let ys : List ℕ = number_of r.kind ∷ r.at ∷ r.len ∷ [] in
    let xs : List ℕ = words_in (whole - (k + 1)) (drop 19 bs) in
    let here : words_in (whole - k) bs ≡ ys ++ xs = rw f (words_on_lem (whole - (k + 1)) bs r e) in
    rw (here, t, en)
    (over_append (k * 3) ys xs room (omega arith) ∙ ap (over_from (k * 3 + 3) xs) (stored room (k * 3) (number_of r.kind) r.at r.len (omega arith)))

-- ---- a map read

-- the bytes are read as n rows
abbrev pub ReadAs : ℕ → List ℕ → ℕ → Type 0
ReadAs places bs n = (rs : List Row) × (length rs ≡ n) × (read_all 65529 places bs ≡ rows rs)

-- what the count of some lines tells of them
module _ (places : ℕ) (bs : List ℕ) (some : length bs ≡ 0 → ⊥) where
  whole : (q : Read) → read_from 65529 places (length bs) start 1 bs ≡ q → read_all 65529 places bs ≡ q
  whole q e = read_some 65529 places bs (omega arith) ∙ e

  pub told_bad : (k : ℕ) → Err (BadLine k) ≡ counted 0 (read_from 65529 places (length bs) start 1 bs) → read_all 65529 places bs ≡ bad k
  told_bad k e = whole (bad k) (counted_bad (read_from 65529 places (length bs) start 1 bs) k e)

  pub told_rows : (n : ℕ) → Ok n ≡ counted 0 (read_from 65529 places (length bs) start 1 bs) → ReadAs places bs n
  told_rows n e = let t = counted_rows (read_from 65529 places (length bs) start 1 bs) n e in (t.0, t.2, whole (rows t.0) t.1)

module _ (places : ℕ) (bs room : List ℕ) where
  -- no line at all
  pub into_none : length bs ≡ 0 → says 7 1 0 room ≡ read_into (read_all 65529 places bs) room
  unfolding read_all
  into_none h = rw (eq-eqb (length bs) 0 h)

  -- the first bad line
  pub into_bad : (k : ℕ) → read_all 65529 places bs ≡ bad k → says 7 k 0 room ≡ read_into (read_all 65529 places bs) room
  into_bad k e = rw e

  -- the same as the code finds it: there are bytes, and trying their lines gives its number
  pub into_bad_line : (k : ℕ) {b : Bool} → b ≡ eqb (length bs) 0 → b ≡ false
      → Err (BadLine k) ≡ counted 0 (read_from 65529 places (length bs) start 1 bs) → says 7 k 0 room ≡ read_into (read_all 65529 places bs) room
  into_bad_line k e f h = into_bad k (told_bad places bs (eqb-false (length bs) 0 (sym e ∙ f)) k h)

  -- what trying the lines refuses is the first bad one
  pub into_refused : (length bs ≡ 0 → ⊥) → (e : Refusal) → Err e ≡ counted 0 (read_from 65529 places (length bs) start 1 bs)
      → told (Err e) room ≡ read_into (read_all 65529 places bs) room
  into_refused any e h = go (read_from 65529 places (length bs) start 1 bs) refl
    where
      go : (q : Read) → read_from 65529 places (length bs) start 1 bs ≡ q → told (Err e) room ≡ read_into (read_all 65529 places bs) room
      go (rows rs) t = let no : Err e ≡ Ok (0 + length rs) = h ∙ ap (counted 0) t in cc
      go (bad k) t =
          let is : Err e ≡ Err (BadLine k) = h ∙ ap (counted 0) t in
          ap (λ (x : Result ℕ Refusal). told x room) is ∙ into_bad k (told_bad places bs any k (sym is ∙ h))

  module _ (n : ℕ) (all : ReadAs places bs n) where
    -- too short a room
    pub into_short : length room / 3 < n → says 6 0 0 room ≡ read_into (read_all 65529 places bs) room
    into_short h = rw all.2 (sym (laid_short (length all.0) (words_of all.0) room (3 * length all.0) (length_words all.0) (omega arith)))

    -- they are the lines of a legal map, nineteen bytes for each
    legal : LegalMap 65529 places all.0 × (bs ≡ lines_of all.0)
    legal = read_legal 65529 places (omega arith) bs all.0 all.2

    pub into_bytes : length bs ≡ n * 19
    into_bytes = omega (arith, ap length legal.1, length_lines all.0, all.1)

    -- room enough
    pub into_done : (out : List ℕ) → n ≤ length room / 3 → out ≡ over (words_in (length bs) bs) room
        → says 0 n 0 out ≡ read_into (read_all 65529 places bs) room
    into_done out h o =
        let f : length bs ≡ length all.0 + 18 * length all.0 = omega (arith, into_bytes, all.1) in
        let w : words_in (length bs) bs ≡ words_of all.0 =
        ap (λ (m : ℕ). words_in m bs) f
        ∙ ap (words_in (length all.0 + 18 * length all.0)) legal.1
        ∙ words_lines 65529 places (omega arith) all.0 start (18 * length all.0) (map_goes 65529 places all.0 legal.0) in
        rw (all.2, o, w, ← all.1)
        (sym (laid_fits (length all.0) (words_of all.0) room (3 * length all.0) (length_words all.0) (omega arith)))
