-- WHAT ALL BYTES ARE READ AS: the two answers of the reader, each from what it says and back. Assumes nothing.
--     map_read, read_legal       rows, exactly for the lines of a legal map
--     bad_read, read_first       a bad line, exactly where the first one is
use mathlib.Core.Path.{◌≡◌, refl, sym, ap, subst, ◌∙◌}
use mathlib.Core.Logic.{inl}
use mathlib.Core.List.{List, [], ◌∷◌, ◌++◌, append-nil}
use Prim.Native.Nat.{ℕ, suc, ◌+◌, ◌*◌, ◌^◌, ◌≤◌, ◌<◌}
use native.Mathlib.Nat.{le_refl}
use native.Mathlib.Omega.{arith}
use lib.ListN.{length, length-append}
use borrow.Author.Tests.{ne_eqb}
use Rattle.map.specs.declared.rows.Row.{Row}
use Rattle.map.specs.Rows.{line_of, lines_of}
use Rattle.map.specs.Layout.{LegalMap}
use Rattle.map.specs.Reading.{start, Read, rows, bad, read_from, read_all}
use Rattle.map.specs.Claims.{FirstBad}
use Rattle.map.proofs.Lines.{length_line, length_lines}
use Rattle.map.proofs.Places.{past_all, Goes, goes_on_lem, goes_parts, goes_map, map_goes, map_some, goes_begun, begun_goes}
use Rattle.map.proofs.Through.{before_all, all_rows, all_bad, Stopped, Says, read_end, through, read_stop, reads}

-- a line is not nothing
line_some : (r : Row) (more : List ℕ) → [] ≡ line_of r ++ more → ⊥
line_some r more e = let n : 0 ≡ length (line_of r ++ more) = ap length e in omega (arith, length-append (line_of r) more, length_line r)

-- one row more is some
one_more : (rs : List Row) (r : Row) → 0 < length (rs ++ (r ∷ []))
one_more rs r = omega (arith, length-append rs (r ∷ []))

module _ (most places : ℕ) where
  -- the bytes are read from the start, if there are any
  pub read_some : (bs : List ℕ) → 0 < length bs → read_all most places bs ≡ read_from most places (length bs) start 1 bs
  unfolding read_all
  read_some bs some = rw (ne_eqb (length bs) 0 (λ z. omega arith))

  module _ (h : 4 * most ≤ 2 ^ 32) where
    -- the lines of a legal map
    pub map_read : (rs : List Row) → LegalMap most places rs → read_all most places (lines_of rs) ≡ rows rs
    map_read [] m = absurd (map_some most places m)
    map_read (r ∷ rs) m =
        let ls : List ℕ = lines_of (r ∷ rs) in
        let n : length ls ≡ 19 * suc (length rs) = length_lines (r ∷ rs) in
        let some : 0 < length ls = omega arith in
        let fuel : length ls ≡ suc (length rs) + 18 * suc (length rs) = omega arith in
        let goes = map_goes most places (r ∷ rs) m in
        read_some ls some
        ∙ ap (λ (x : List ℕ). read_from most places (length ls) start 1 x) (sym (append-nil ls))
        ∙ through most places h (r ∷ rs) start 1 (length ls) (18 * suc (length rs)) [] goes fuel
        ∙ ap (before_all (r ∷ rs)) (read_end most places (18 * suc (length rs)) (past_all start (r ∷ rs)) (suc (length rs) + 1) [] refl)
        ∙ all_rows (r ∷ rs)

    -- what is read, of some bytes
    told : (b : ℕ) (bs : List ℕ) (q : Read) → read_all most places (b ∷ bs) ≡ q → Says most places start 1 (b ∷ bs) q
    told b bs q e =
        let some : 0 < length (b ∷ bs) = omega arith in
        subst (Says most places start 1 (b ∷ bs)) (sym (read_some (b ∷ bs) some) ∙ e)
        (reads most places h (length (b ∷ bs)) start 1 (b ∷ bs) (le_refl (length (b ∷ bs))))

    -- rows read are a legal map, and the bytes are its lines
    pub read_legal : (bs : List ℕ) (rs : List Row) → read_all most places bs ≡ rows rs → LegalMap most places rs × (bs ≡ lines_of rs)
    unfolding read_all lines_of
    read_legal [] rs e = absurd (let z : ◌≡◌ {A = ℕ} 0 1 = cc in omega arith)
    read_legal (b ∷ bs) [] e = let s = told b bs (rows []) e in absurd (let n : suc (length bs) ≡ 0 = ap length s.1 in omega arith)
    read_legal (b ∷ bs) (r ∷ rs) e = let s = told b bs (rows (r ∷ rs)) e in (goes_map most places (r ∷ rs) (omega arith) s.0, s.1)

    -- rows that follow, and bytes after them with which no row goes on
    stopped : (good : List Row) (rest : List ℕ) → Goes most places start good → (rest ≡ [] → good ≡ [])
        → ((r : Row) (more : List ℕ) → rest ≡ line_of r ++ more → LegalMap most places (good ++ (r ∷ [])) → ⊥)
        → read_all most places (lines_of good ++ rest) ≡ bad (suc (length good))
    unfolding read_all lines_of
    stopped [] [] goes some stops = refl
    stopped (r ∷ rs) [] goes some stops = absurd (let n : suc (length rs) ≡ 0 = ap length (some refl) in omega arith)
    stopped good (b ∷ bs) goes some stops =
        let all : List ℕ = lines_of good ++ b ∷ bs in
        let n : length all ≡ 19 * length good + suc (length bs) =
        length-append (lines_of good) (b ∷ bs) ∙ ap (λ (x : ℕ). x + suc (length bs)) (length_lines good) in
        let any : 0 < length all = omega arith in
        let left : ℕ = 18 * length good + length bs in
        let fuel : length all ≡ length good + suc left = omega arith in
        let here : 0 < length (b ∷ bs) = omega arith in
        let k : length good + 1 ≡ suc (length good) = omega arith in
        read_some all any
        ∙ through most places h good start 1 (length all) (suc left) (b ∷ bs) goes fuel
        ∙ ap (before_all good) (read_stop most places h left (past_all start good) (length good + 1) (b ∷ bs) here
        (λ r more e f. stops r more e (goes_map most places (good ++ (r ∷ [])) (one_more good r) (goes_on_lem most places start good (r ∷ []) goes (f, tt)))))
        ∙ all_bad good (length good + 1)
        ∙ ap bad k

    -- where the first bad line is
    pub bad_read : (bs : List ℕ) (k : ℕ) → FirstBad most places bs k → read_all most places bs ≡ bad k
    bad_read bs k f =
        let goes = begun_goes most places f.good f.legal in
        ap (read_all most places) f.is ∙ stopped f.good f.rest goes f.some f.stops ∙ ap bad (sym f.line)

    pub read_first : (bs : List ℕ) (k : ℕ) → read_all most places bs ≡ bad k → FirstBad most places bs k
    unfolding read_all lines_of
    read_first [] k e = record {
      good = [];
      rest = [];
      is = refl;
      line = (let n : 1 ≡ k = cc in sym n);
      legal = inl refl;
      some = λ z. refl;
      stops = λ r more z m. line_some r more z;
    }
    read_first (b ∷ bs) k e =
        let s : Stopped most places start 1 (b ∷ bs) k = told b bs (bad k) e in
        record {
          good = s.good;
          rest = s.rest;
          is = s.is;
          line = (let n = s.line in omega arith);
          legal = goes_begun most places s.good s.goes;
          some = λ z. absurd (let n : length s.rest ≡ 0 = ap length z in omega (arith, s.some));
          stops = λ r more z m. s.stops r more z (goes_parts most places start s.good (r ∷ []) (map_goes most places (s.good ++ (r ∷ [])) m)).1.0;
        }
