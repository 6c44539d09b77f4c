-- A LINE AND ITS ROW: laws of `row_in` (`specs/Reading.antt`). Assumes nothing.
--     row_length, row_end, row_none, row_unknown, row_is     as the code reads a line: what makes it no row, and what it is where nothing does
--     row_of_line     a row's line is read as that row, if its numbers fit their digits
--     line_of_row     a line that is read as a row is that row's line, and the numbers fit
--     row_whole     where some bytes begin with a row, nineteen are left
use mathlib.Core.Path.{◌≡◌, refl, sym, ap, subst, ◌∙◌}
use mathlib.Core.Bool.{Bool, true, false, ◌&&◌, and-false}
use mathlib.Core.List.{List, [], ◌∷◌, ◌++◌, append_assoc}
use Prim.Native.Nat.{ℕ, ◌+◌, ◌-◌, ◌^◌, ◌≤◌, ◌<◌}
use native.Mathlib.Nat.{mod-eq_of_lt}
use native.Mathlib.Omega.{arith}
use lib.Dec.{eqb}
use lib.ListN.{length, get_or, take, drop, take-append-drop, length-take, length-drop, drop_of_length-le}
use lib.Seq.{take-add, drop-cons, drop-drop, length-take-le}
use borrow.Author.Tests.{eq-eqb, ne_eqb, eqb-true}
use Rattle.words.specs.Choice.{pick}
use Rattle.rules.specs.Sound.Test.{both}
use Rattle.std.specs.Prelude.{Option, Some, None, option_map}
use Rattle.frame.specs.Hex.{all_digits, value_of, digits_of}
use Rattle.frame.specs.Answer.{answer_bytes}
use Rattle.frame.specs.Field.{field_of}
use Rattle.frame.proofs.Laws.Hex.{all_append, value_of_digits, digits_of_value, value_below}
use Rattle.frame.proofs.Laws.Hex as hex
use Rattle.frame.proofs.Laws.Field.{field_number, field_none}
use Rattle.frame.proofs.Laws.Answer.{length_answer, answer_number, answer_value, answer_compared, answer_digits, answer_end}
use Rattle.map.specs.declared.kind.ChunkKind.{ChunkKind}
use Rattle.map.specs.declared.kind.ChunkKind.TheVariants.{Free, Live, Cached}
use Rattle.map.specs.declared.rows.Row.{Row}
use Rattle.std.specs.Prelude.{Option, Some, None, option_map}
use Rattle.map.specs.Rows.{number_of, row, line_of}
use Rattle.map.specs.Reading.{kind_in, row_in}
use Rattle.map.proofs.Lines.{length_line}
use Rattle.map.proofs.RowTests.{both_true, both_false}

-- ---- the fields of a line

-- its first eighteen bytes are three fields
fields : (l : List ℕ) → take 18 l ≡ take 2 l ++ (take 8 (drop 2 l) ++ take 8 (drop 10 l))
fields l =
    let b : take 16 (drop 2 l) ≡ take 8 (drop 2 l) ++ take 8 (drop 8 (drop 2 l)) = take-add 8 8 (drop 2 l) in
    take-add 2 16 l ∙ rw (b, drop-drop 8 2 l)

-- and are digits where these are
digits : (l : List ℕ) → all_digits (take 18 l) ≡ (all_digits (take 2 l) && (all_digits (take 8 (drop 2 l)) && all_digits (take 8 (drop 10 l))))
digits l = rw (fields l, all_append, all_append)

-- ---- a line, as the code reads it

-- a line of another length than nineteen is no row
pub row_length : (l : List ℕ) → (length l ≡ 19 → ⊥) → None ≡ row_in l
unfolding row_in
row_length l h = rw (ne_eqb (length l) 19 h)

module _ (l : List ℕ) (h : length l ≡ 19) where
  -- with another byte than a line feed at its end it is no row
  pub row_end : (get_or l 18 0 ≡ 10 → ⊥) → None ≡ row_in l
  unfolding row_in
  row_end e = rw (eq-eqb (length l) 19 h, ne_eqb (get_or l 18 0) 10 e, both_false (all_digits (take 18 l)))

  -- nor with a field, n bytes from byte a on, that is no number
  pub row_none : (a n : ℕ) → n ≤ 8 → a + n ≤ 18 → None ≡ field_of (take n (drop a l)) → None ≡ row_in l
  unfolding row_in
  row_none a n s m e =
      let k : ℕ = 18 - (a + n) in
      let f : all_digits (take n (drop a l)) ≡ false = field_none (take n (drop a l)) (omega (arith, length-take n (drop a l))) e in
      let c : take (n + k) (drop a l) ≡ take n (drop a l) ++ take k (drop n (drop a l)) = take-add n k (drop a l) in
      let w : 18 ≡ a + (n + k) = omega arith in
      let t : take 18 l ≡ take a l ++ take (n + k) (drop a l) = ap (λ (x : ℕ). take x l) w ∙ take-add a (n + k) l in
      rw (eq-eqb (length l) 19 h, t, c, all_append, all_append, f, and-false)

  -- nor with a number that no kind has
  pub row_unknown : (m : ℕ) → Some m ≡ field_of (take 2 l) → None ≡ kind_in m → None ≡ row_in l
  unfolding row_in
  row_unknown m x q =
      let f = field_number (take 2 l) m x in
      rw (f.1, ← q) (pick_none (both (eqb (length l) 19) (both (all_digits (take 18 l)) (eqb (get_or l 18 0) 10))))
    where
      pick_none : (t : Bool) → ◌≡◌ {A = Option Row} None (pick t None None)
      pick_none true = refl
      pick_none false = refl

  -- with the number of a kind and two others it is their row
  pub row_is : (m : ℕ) (k : ChunkKind) (b n : ℕ) → get_or l 18 0 ≡ 10 → Some m ≡ field_of (take 2 l) → Some k ≡ kind_in m
      → Some b ≡ field_of (take 8 (drop 2 l)) → Some n ≡ field_of (take 8 (drop 10 l)) → Some (row k b n) ≡ row_in l
  unfolding row_in
  row_is m k b n e x q y z =
      let f = field_number (take 2 l) m x in
      let g = field_number (take 8 (drop 2 l)) b y in
      let i = field_number (take 8 (drop 10 l)) n z in
      rw (eq-eqb (length l) 19 h, eq-eqb (get_or l 18 0) 10 e, digits l, f.0, g.0, i.0, f.1, g.1, i.1, ← q)

-- ---- a row's line, and back

-- a kind's number fits its two digits, and tells the kind
number_small : (k : ChunkKind) → number_of k < 2 ^ 8
number_small Free = omega arith
number_small Live = omega arith
number_small Cached = omega arith

kind_back : (k : ChunkKind) → kind_in (number_of k) ≡ Some k
kind_back Free = refl
kind_back Live = refl
kind_back Cached = refl

-- the kind with a number has it
kind_number : (m : ℕ) (k : ChunkKind) → kind_in m ≡ Some k → number_of k ≡ m
kind_number m k = go (eqb m 16) refl (eqb m 17) refl (eqb m 18) refl
  where
    go : (s : Bool) → eqb m 16 ≡ s → (t : Bool) → eqb m 17 ≡ t → (u : Bool) → eqb m 18 ≡ u
        → pick s (Some Free) (pick t (Some Live) (pick u (Some Cached) None)) ≡ Some k → number_of k ≡ m
    go true e t f u g h = let same : Free ≡ k = cc in ap number_of (sym same) ∙ sym (eqb-true m 16 e)
    go false e true f u g h = let same : Live ≡ k = cc in ap number_of (sym same) ∙ sym (eqb-true m 17 f)
    go false e false f true g h = let same : Cached ≡ k = cc in ap number_of (sym same) ∙ sym (eqb-true m 18 g)
    go false e false f false g h = cc

-- a row's line is read as that row
pub row_of_line : (r : Row) → r.at < 2 ^ 32 → r.len < 2 ^ 32 → row_in (line_of r) ≡ Some r
unfolding row_in
row_of_line r ha hl =
    let k = number_of r.kind in
    let a = r.at in
    let n = r.len in
    let l : List ℕ = line_of r in
    let m : 18 < length l = omega (arith, length_answer k a n) in
    let f : get_or l 18 0 ≡ 10 = ap (λ (xs : List ℕ). get_or xs 0 0) (sym (drop-cons l 18 0 m) ∙ answer_end k a n) in
    let vk : value_of (digits_of 2 k) ≡ k = value_of_digits 2 k ∙ mod-eq_of_lt (number_small r.kind) in
    let va : value_of (digits_of 8 a) ≡ a = value_of_digits 8 a ∙ mod-eq_of_lt ha in
    let vn : value_of (digits_of 8 n) ≡ n = value_of_digits 8 n ∙ mod-eq_of_lt hl in
    rw (length_answer k a n, answer_digits k a n, f, answer_number k a n, answer_value k a n, answer_compared k a n, vk, va, vn, kind_back r.kind)

-- a line of eighteen digits and a line feed is the line of the numbers that its fields say
module _ (l : List ℕ) (h : length l ≡ 19) (d : all_digits (take 18 l) ≡ true) (e : get_or l 18 0 ≡ 10) where
  -- the number of n digits from byte a on, written, is those digits, and fits them
  said : (a n : ℕ) → a + n ≤ 18 → all_digits (take n (drop a l)) ≡ true
      → (digits_of n (value_of (take n (drop a l))) ≡ take n (drop a l)) × (value_of (take n (drop a l)) < 16 ^ n)
  said a n m g =
      let x : List ℕ = take n (drop a l) in
      let s : length x ≡ n = length-take-le n (drop a l) (omega (arith, length-drop a l)) in
      (rw s at (digits_of_value x g), rw s at (value_below x g))

  written : (l ≡ answer_bytes (value_of (take 2 l)) (value_of (take 8 (drop 2 l))) (value_of (take 8 (drop 10 l))))
      × (value_of (take 8 (drop 2 l)) < 2 ^ 32) × (value_of (take 8 (drop 10 l)) < 2 ^ 32)
  unfolding answer_bytes
  written =
      let s = hex.both (all_digits (take 2 l)) (all_digits (take 8 (drop 2 l)) && all_digits (take 8 (drop 10 l))) (sym (digits l) ∙ d) in
      let t = hex.both (all_digits (take 8 (drop 2 l))) (all_digits (take 8 (drop 10 l))) s.1 in
      let a = said 0 2 (omega arith) s.0 in
      let b = said 2 8 (omega arith) t.0 in
      let c = said 10 8 (omega arith) t.1 in
      let m : 18 < length l = omega arith in
      let z : drop 19 l ≡ [] = drop_of_length-le l {i = 19} (omega arith) in
      let p : drop 18 l ≡ 10 ∷ [] = drop-cons l 18 0 m ∙ rw (e, z) in
      let w : l ≡ take 2 l ++ take 8 (drop 2 l) ++ take 8 (drop 10 l) ++ (10 ∷ []) =
      sym (take-append-drop 18 l) ∙ rw (fields l, p) (regroup (take 2 l) (take 8 (drop 2 l)) (take 8 (drop 10 l)) (10 ∷ [])) in
      (rw (a.0, b.0, c.0) w, b.1, c.1)
    where
      regroup : (a b c d : List ℕ) → (a ++ (b ++ c)) ++ d ≡ a ++ b ++ c ++ d
      regroup a b c d = rw (append_assoc a b c)

-- a line that is read as a row is that row's line, and the numbers fit
pub line_of_row : (l : List ℕ) (r : Row) → row_in l ≡ Some r → (l ≡ line_of r) × (r.at < 2 ^ 32) × (r.len < 2 ^ 32)
unfolding row_in
line_of_row l r = go (both (eqb (length l) 19) (both (all_digits (take 18 l)) (eqb (get_or l 18 0) 10))) refl (kind_in (value_of (take 2 l))) refl
  where
    go : (t : Bool) → both (eqb (length l) 19) (both (all_digits (take 18 l)) (eqb (get_or l 18 0) 10)) ≡ t
        → (o : Option ChunkKind) → kind_in (value_of (take 2 l)) ≡ o
        → pick t (option_map (λ k. row k (value_of (take 8 (drop 2 l))) (value_of (take 8 (drop 10 l)))) o) None ≡ Some r
        → (l ≡ line_of r) × (r.at < 2 ^ 32) × (r.len < 2 ^ 32)
    go true t (Some k) n e =
        let same : row k (value_of (take 8 (drop 2 l))) (value_of (take 8 (drop 10 l))) ≡ r = cc in
        let p = both_true _ _ t in
        let q = both_true _ _ p.1 in
        let w = written l (eqb-true _ _ p.0) q.0 (eqb-true _ _ q.1) in
        subst (λ (x : Row). (l ≡ line_of x) × (x.at < 2 ^ 32) × (x.len < 2 ^ 32)) same
        (rw (kind_number (value_of (take 2 l)) k n) w.0, w.1, w.2)
    go true t None n e = cc
    go false t o n e = cc

-- ---- the line that begins some bytes

-- where it is a row's, it has nineteen bytes
pub row_whole : (bs : List ℕ) (r : Row) → Some r ≡ row_in (take 19 bs) → 19 ≤ length bs
row_whole bs r e =
    let n : length (take 19 bs) ≡ 19 = ap length (line_of_row (take 19 bs) r (sym e)).0 ∙ length_line r in
    omega (arith, length-take 19 bs)
