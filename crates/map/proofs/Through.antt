-- READING, LINE BY LINE: laws of `read_from` (`specs/Reading.antt`), for lists of any length. Assumes nothing.
--     read_end, read_bad, read_stuck, read_on_lem     at the end, at a line that is no row, at a row that cannot follow, past one that can
--     row_read         a row that follows is read from its line
--     through          lines of rows that follow are read through, and the reader goes on after them
--     read_stop        bytes with which no row goes on are bad at once
--     reads            whatever the bytes: what is read is so
use mathlib.Core.Path.{◌≡◌, refl, sym, ap, subst, ◌∙◌}
use mathlib.Core.Bool.{Bool, true, false}
use mathlib.Core.List.{List, [], ◌∷◌, ◌++◌, append_assoc}
use Prim.Native.Nat.{ℕ, zero, suc, ◌+◌, ◌*◌, ◌^◌, ◌≤◌, ◌<◌}
use native.Mathlib.Omega.{arith}
use lib.ListN.{length, take, drop, take-append-drop, length-append}
use lib.Seq.{take_at, drop_at}
use borrow.Author.Tests.{eq-eqb, ne_eqb}
use Rattle.map.specs.declared.rows.Row.{Row}
use Rattle.map.specs.declared.rows.Place.{Place}
use Rattle.std.specs.Prelude.{Option, Some, None}
use Rattle.map.specs.Rows.{line_of, lines_of}
use Rattle.map.specs.Reading.{row_in, followsᵇ, past, Read, rows, bad, before, line_read, read_from}
use Rattle.map.proofs.Lines.{length_line}
use Rattle.map.proofs.RowTests.{row_fits}
use Rattle.map.proofs.RowLaws.{row_of_line, line_of_row}
use Rattle.map.proofs.Places.{past_all, Goes}

-- rows read before what is read after them
abbrev pub before_all : List Row → Read → Read
before_all [] q = q
before_all (r ∷ rs) q = before r (before_all rs q)

pub all_rows : (rs : List Row) → before_all rs (rows []) ≡ rows rs
all_rows [] = refl
all_rows (r ∷ rs) = ap (before r) (all_rows rs)

pub all_bad : (rs : List Row) (k : ℕ) → before_all rs (bad k) ≡ bad k
all_bad [] k = refl
all_bad (r ∷ rs) k = ap (before r) (all_bad rs k)

module _ (most places : ℕ) where
  -- ---- ONE LINE

  -- at the end there is nothing more
  pub read_end : (f : ℕ) (p : Place) (k : ℕ) (bs : List ℕ) → length bs ≡ 0 → read_from most places f p k bs ≡ rows []
  unfolding read_from
  read_end zero p k bs h = refl
  read_end (suc f) p k bs h = rw (eq-eqb (length bs) 0 h)

  module _ (f : ℕ) (p : Place) (k : ℕ) (bs : List ℕ) (some : 0 < length bs) where
    line : (l : Option Row) → row_in (take 19 bs) ≡ l
        → read_from most places (suc f) p k bs ≡ line_read most places p k (λ q. read_from most places f q (suc k) (drop 19 bs)) l
    unfolding read_from
    line l e = rw (ne_eqb (length bs) 0 (λ z. omega arith), e)

    -- a line that is no row is bad
    pub read_bad : row_in (take 19 bs) ≡ None → read_from most places (suc f) p k bs ≡ bad k
    unfolding line_read
    read_bad e = line None e

    module _ (r : Row) (e : row_in (take 19 bs) ≡ Some r) where
      -- so is one whose row cannot follow
      pub read_stuck : followsᵇ most places p r ≡ false → read_from most places (suc f) p k bs ≡ bad k
      unfolding line_read
      read_stuck h = line (Some r) e ∙ rw h

      -- one whose row can stands before what is read after it
      pub read_on_lem : followsᵇ most places p r ≡ true
          → read_from most places (suc f) p k bs ≡ before r (read_from most places f (past p r) (suc k) (drop 19 bs))
      unfolding line_read
      read_on_lem h = line (Some r) e ∙ rw h

  -- ---- WHAT BEGINS THE BYTES

  -- with no row do these bytes go on from the place p
  abbrev pub Stops : Place → List ℕ → Type 0
  Stops p rest = (r : Row) (more : List ℕ) → rest ≡ line_of r ++ more → followsᵇ most places p r ≡ true → ⊥

  -- the line of a row that follows, or none, and then the first line is bad
  data Next (p : Place) (bs : List ℕ) : Type 0 where
    one : (r : Row) (more : List ℕ) → bs ≡ line_of r ++ more → followsᵇ most places p r ≡ true → Next p bs
    none : Stops p bs → ((fuel k : ℕ) → read_from most places (suc fuel) p k bs ≡ bad k) → Next p bs

  -- ---- WHAT IS READ

  -- reading from the place p and line k on stops at line j
  pub record Stopped (p : Place) (k : ℕ) (bs : List ℕ) (j : ℕ) : Type 0 where
    pub good : List Row
    pub rest : List ℕ
    pub is : bs ≡ lines_of good ++ rest
    pub line : j ≡ length good + k
    pub goes : Goes most places p good
    pub some : 0 < length rest
    pub stops : Stops (past_all p good) rest

  -- what is read is so
  abbrev pub Says : Place → ℕ → List ℕ → Read → Type 0
  Says p k bs (rows rs) = Goes most places p rs × (bs ≡ lines_of rs)
  Says p k bs (bad j) = Stopped p k bs j

  module _ (h : 4 * most ≤ 2 ^ 32) where
    -- a row that follows is read from its line
    pub row_read : (p : Place) (r : Row) (more : List ℕ) → followsᵇ most places p r ≡ true → row_in (take 19 (line_of r ++ more)) ≡ Some r
    row_read p r more e =
        let f = row_fits most places p r h e in
        ap row_in (take_at (line_of r) more 19 (length_line r)) ∙ row_of_line r f.0 f.1

    read_line : (fuel : ℕ) (p : Place) (k : ℕ) (r : Row) (rest : List ℕ) → followsᵇ most places p r ≡ true
        → read_from most places (suc fuel) p k (line_of r ++ rest) ≡ before r (read_from most places fuel (past p r) (suc k) rest)
    read_line fuel p k r rest e =
        let some : 0 < length (line_of r ++ rest) = omega (arith, length-append (line_of r) rest, length_line r) in
        rw (drop_at (line_of r) rest 19 (length_line r)) at (read_on_lem fuel p k (line_of r ++ rest) some r (row_read p r rest e) e)

    -- LINES OF ROWS THAT FOLLOW are read through
    pub through : (rs : List Row) (p : Place) (k fuel left : ℕ) (rest : List ℕ) → Goes most places p rs → fuel ≡ length rs + left
        → read_from most places fuel p k (lines_of rs ++ rest) ≡ before_all rs (read_from most places left (past_all p rs) (length rs + k) rest)
    unfolding lines_of
    through [] p k fuel left rest g e =
        let f : fuel ≡ left = omega arith in
        let n : k ≡ 0 + k = omega arith in
        ap (λ (x : ℕ). read_from most places x p k rest) f ∙ ap (λ (x : ℕ). read_from most places left p x rest) n
    through (r ∷ rs) p k zero left rest g e = absurd (omega arith)
    through (r ∷ rs) p k (suc fuel) left rest g e =
        let n : length rs + suc k ≡ suc (length rs) + k = omega arith in
        ap (λ (x : List ℕ). read_from most places (suc fuel) p k x) (append_assoc (line_of r) (lines_of rs) rest)
        ∙ read_line fuel p k r (lines_of rs ++ rest) g.0
        ∙ ap (before r) (through rs (past p r) (suc k) fuel left rest g.1 (omega arith))
        ∙ ap (λ (x : ℕ). before r (before_all rs (read_from most places left (past_all (past p r) rs) x rest))) n

    -- what begins some bytes
    next : (p : Place) (bs : List ℕ) → 0 < length bs → Next p bs
    next p bs some = go (row_in (take 19 bs)) refl
      where
        -- their first line is no row that follows
        stops : ((r : Row) → row_in (take 19 bs) ≡ Some r → followsᵇ most places p r ≡ true → ⊥) → Stops p bs
        stops n r more e f = n r (ap (λ (x : List ℕ). row_in (take 19 x)) e ∙ row_read p r more f) f

        follow : (r : Row) → row_in (take 19 bs) ≡ Some r → (t : Bool) → followsᵇ most places p r ≡ t → Next p bs
        follow r e true f =
            one r (drop 19 bs) (sym (take-append-drop 19 bs) ∙ ap (λ (x : List ℕ). x ++ drop 19 bs) (line_of_row (take 19 bs) r e).0) f
        follow r e false f = none (stops (λ x d g. other x d g)) (λ fuel k. read_stuck fuel p k bs some r e f)
          where
            other : (x : Row) → row_in (take 19 bs) ≡ Some x → followsᵇ most places p x ≡ true → ⊥
            other x d g = let same : r ≡ x = cc (e, d) in let z : ◌≡◌ {A = ℕ} 0 1 = cc in omega arith

        go : (l : Option Row) → row_in (take 19 bs) ≡ l → Next p bs
        go None e = none (stops (λ r d g. let z : ◌≡◌ {A = ℕ} 0 1 = cc in omega arith)) (λ fuel k. read_bad fuel p k bs some e)
        go (Some r) e = follow r e (followsᵇ most places p r) refl

    -- BYTES WITH WHICH NO ROW GOES ON are bad at once
    pub read_stop : (fuel : ℕ) (p : Place) (k : ℕ) (rest : List ℕ) → 0 < length rest → Stops p rest → read_from most places (suc fuel) p k rest ≡ bad k
    read_stop fuel p k rest some stops = go (next p rest some)
      where
        go : Next p rest → read_from most places (suc fuel) p k rest ≡ bad k
        go (one r more e f) = absurd (stops r more e f)
        go (none s q) = q fuel k

    -- a row that follows, before what is read after it
    onward : (p : Place) (k : ℕ) (r : Row) (more : List ℕ) → followsᵇ most places p r ≡ true → (q : Read)
        → Says (past p r) (suc k) more q → Says p k (line_of r ++ more) (before r q)
    unfolding lines_of
    onward p k r more f (rows rs) s = ((f, s.0), ap (λ (x : List ℕ). line_of r ++ x) s.1)
    onward p k r more f (bad j) s = record {
      good = r ∷ s.good;
      rest = s.rest;
      is = ap (λ (x : List ℕ). line_of r ++ x) s.is ∙ sym (append_assoc (line_of r) (lines_of s.good) s.rest);
      line = omega (arith, s.line);
      goes = (f, s.goes);
      some = s.some;
      stops = s.stops;
    }

    -- WHATEVER THE BYTES: what is read is so
    pub reads : (fuel : ℕ) (p : Place) (k : ℕ) (bs : List ℕ) → length bs ≤ fuel → Says p k bs (read_from most places fuel p k bs)
    unfolding read_from lines_of
    reads zero p k [] l = (tt, refl)
    reads zero p k (b ∷ bs) l = absurd (omega arith)
    reads (suc fuel) p k [] l = (tt, refl)
    reads (suc fuel) p k (b ∷ bs) l = go (λ q more m. reads fuel q (suc k) more m) (next p (b ∷ bs) (omega arith))
      where
        go : ((q : Place) (more : List ℕ) → length more ≤ fuel → Says q (suc k) more (read_from most places fuel q (suc k) more))
            → Next p (b ∷ bs) → Says p k (b ∷ bs) (read_from most places (suc fuel) p k (b ∷ bs))
        go ih (one r more e f) =
            let m : length more ≤ fuel = omega (arith, ap length e, length-append (line_of r) more, length_line r) in
            subst (λ (x : List ℕ). Says p k x (read_from most places (suc fuel) p k x)) (sym e)
            (subst (Says p k (line_of r ++ more)) (sym (read_line fuel p k r more f))
            (onward p k r more f (read_from most places fuel (past p r) (suc k) more) (ih (past p r) more m)))
        go ih (none s q) =
            subst (Says p k (b ∷ bs)) (sym (q fuel k))
            (record { good = []; rest = b ∷ bs; is = refl; line = omega arith; goes = tt; some = omega arith; stops = s })
