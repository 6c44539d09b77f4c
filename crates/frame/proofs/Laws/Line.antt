-- Laws of `specs/Line.antt`. Assumes nothing.
--     line_length, line_kind, line_number, line_is     a line read: what makes it no frame, and what it is where nothing does
--     length_frame, frame_digits, frame_kind, frame_number     a request's ten digits
--     line_of_frame, frame_of_line, frame_of_digits     which lines are frames
use mathlib.Core.Path.{◌≡◌, refl, sym, ap, subst, ◌∙◌}
use mathlib.Core.Bool.{Bool, true, false, ◌&&◌, cond, and-false}
use mathlib.Core.List.{List}
use Prim.Native.Nat.{ℕ, zero, suc, ◌^◌, ◌<◌}
use native.Mathlib.Nat.{mod-eq_of_lt, lt_trans}
use native.Mathlib.Omega.{arith}
use lib.Dec.{lit<, eqb}
use lib.ListN.{length, take, drop, length-take, length-drop, length-append, take-append-drop}
use lib.Seq.{take_at, drop_at, take_all}
use borrow.Author.Tests.{eq-eqb, ne_eqb, eqb-true}
use Rattle.std.specs.Prelude.{Some, None}
use Rattle.frame.specs.declared.line.Request.{Request}
use Rattle.frame.specs.declared.line.Request.TheVariants.{Make, HandOut, TakeBack}
use Rattle.frame.specs.Hex.{all_digits, value_of, digits_of}
use Rattle.frame.specs.Field.{field_of}
use Rattle.frame.specs.Line.{request_of, line_of, kind_of, number_of, frame_of}
use Rattle.frame.proofs.Laws.Hex.{both, all_append, length_digits, all_digits_lem, value_of_digits, digits_of_value, value_below}
use Rattle.frame.proofs.Laws.Field.{field_number, field_none}

-- ---- a line read

-- a line of another length than ten is no frame
pub line_length : (l : List ℕ) → (length l ≡ 10 → ⊥) → None ≡ line_of l
unfolding line_of
line_length l h = rw (ne_eqb (length l) 10 h)

module _ (l : List ℕ) (h : length l ≡ 10) where
  -- its kind and its number are all of a line
  parts : all_digits l ≡ (all_digits (take 2 l) && all_digits (drop 2 l))
  parts = ap all_digits (sym (take-append-drop 2 l)) ∙ all_append (take 2 l) (drop 2 l)

  -- and eight bytes after the kind are the rest of it
  tail : take 8 (drop 2 l) ≡ drop 2 l
  tail = take_all 8 (drop 2 l) (omega (arith, length-drop 2 l))

  -- with no kind it is no frame
  pub line_kind : None ≡ field_of (take 2 l) → None ≡ line_of l
  unfolding line_of
  line_kind e =
      let f : all_digits (take 2 l) ≡ false = field_none (take 2 l) (omega (arith, length-take 2 l)) e in
      rw (eq-eqb (length l) 10 h, parts, f)

  -- nor with no number
  pub line_number : None ≡ field_of (take 8 (drop 2 l)) → None ≡ line_of l
  unfolding line_of
  line_number e =
      let f : all_digits (drop 2 l) ≡ false = field_none (drop 2 l) (omega (arith, length-drop 2 l)) (rw tail at e) in
      rw (eq-eqb (length l) 10 h, parts, f, and-false)

  -- with both it is what its kind asks
  pub line_is : (k n : ℕ) → Some k ≡ field_of (take 2 l) → Some n ≡ field_of (take 8 (drop 2 l)) → request_of k n ≡ line_of l
  unfolding line_of
  line_is k n a b =
      let f = field_number (take 2 l) k a in
      let g = field_number (drop 2 l) n (rw tail at b) in
      rw (eq-eqb (length l) 10 h, parts, f.0, g.0, f.1, g.1)

-- as the code reads, field by field
pub ruleset by_field = (line_length, line_kind, line_number, line_is)

-- ---- which lines are frames

-- a request is of its kind, with its number
request_is : (k n : ℕ) (q : Request) → request_of k n ≡ Some q → (k ≡ kind_of q) × (n ≡ number_of q)
request_is zero n q h = let e : Make n ≡ q = cc in subst (λ (p : Request). (0 ≡ kind_of p) × (n ≡ number_of p)) e (refl, refl)
request_is (suc zero) n q h = let e : HandOut n ≡ q = cc in subst (λ (p : Request). (1 ≡ kind_of p) × (n ≡ number_of p)) e (refl, refl)
request_is (suc (suc zero)) n q h = let e : TakeBack n ≡ q = cc in subst (λ (p : Request). (2 ≡ kind_of p) × (n ≡ number_of p)) e (refl, refl)
request_is (suc (suc (suc k))) n q h = let z : ◌≡◌ {A = ℕ} 0 1 = cc in absurd (omega arith)

-- a kind below 03 asks something
request_some : (k n : ℕ) → k < 3 → (q : Request) × (request_of k n ≡ Some q)
request_some zero n h = (Make n, refl)
request_some (suc zero) n h = (HandOut n, refl)
request_some (suc (suc zero)) n h = (TakeBack n, refl)
request_some (suc (suc (suc k))) n h = absurd (omega arith)

-- a request is what its kind asks of its number
request_back : (q : Request) → request_of (kind_of q) (number_of q) ≡ Some q
request_back (Make n) = refl
request_back (HandOut n) = refl
request_back (TakeBack n) = refl

-- there are three kinds
pub kind_below : (q : Request) → kind_of q < 3
kind_below (Make n) = lit< tt
kind_below (HandOut n) = lit< tt
kind_below (TakeBack n) = lit< tt

module _ (q : Request) where
  -- a request's bytes are ten
  pub length_frame : length (frame_of q) ≡ 10
  length_frame = rw (length-append, length_digits 2 (kind_of q), length_digits 8 (number_of q))

  -- each is a digit
  pub frame_digits : all_digits (frame_of q) ≡ true
  frame_digits = rw (all_append, all_digits_lem 2 (kind_of q), all_digits_lem 8 (number_of q))

  -- two of them say the kind
  pub frame_kind : value_of (take 2 (frame_of q)) ≡ kind_of q
  frame_kind =
      ap value_of (take_at (digits_of 2 (kind_of q)) (digits_of 8 (number_of q)) 2 (length_digits 2 (kind_of q)))
      ∙ value_of_digits 2 (kind_of q)
      ∙ mod-eq_of_lt (lt_trans (kind_below q) (lit< tt))

  -- and the others the number
  pub frame_number : number_of q < 2 ^ 32 → value_of (drop 2 (frame_of q)) ≡ number_of q
  frame_number h =
      ap value_of (drop_at (digits_of 2 (kind_of q)) (digits_of 8 (number_of q)) 2 (length_digits 2 (kind_of q)))
      ∙ value_of_digits 8 (number_of q)
      ∙ mod-eq_of_lt h

  -- they are read as that request
  pub line_of_frame : number_of q < 2 ^ 32 → line_of (frame_of q) ≡ Some q
  unfolding line_of
  line_of_frame h = rw (eq-eqb (length (frame_of q)) 10 length_frame, frame_digits, frame_kind, frame_number h) (request_back q)

-- a line that is read as a request is that request's ten digits
pub frame_of_line : (l : List ℕ) (q : Request) → line_of l ≡ Some q → (number_of q < 2 ^ 32) × (l ≡ frame_of q)
unfolding line_of
frame_of_line l q = go (eqb (length l) 10) (all_digits l) refl refl
  where
    found : length l ≡ 10 → all_digits l ≡ true → request_of (value_of (take 2 l)) (value_of (drop 2 l)) ≡ Some q → (number_of q < 2 ^ 32) × (l ≡ frame_of q)
    found h d e =
        let r = request_is (value_of (take 2 l)) (value_of (drop 2 l)) q e in
        let ds = both (all_digits (take 2 l)) (all_digits (drop 2 l)) (sym (parts l h) ∙ d) in
        let a : length (take 2 l) ≡ 2 = omega (arith, length-take 2 l) in
        let b : length (drop 2 l) ≡ 8 = omega (arith, length-drop 2 l) in
        let front : digits_of 2 (kind_of q) ≡ take 2 l = rw (a, r.0) at (digits_of_value (take 2 l) ds.0) in
        let back : digits_of 8 (number_of q) ≡ drop 2 l = rw (b, r.1) at (digits_of_value (drop 2 l) ds.1) in
        (rw (b, r.1) at (value_below (drop 2 l) ds.1), sym (rw (front, back) (take-append-drop 2 l)))

    go : (s t : Bool) → eqb (length l) 10 ≡ s → all_digits l ≡ t
        → cond (s && t) (request_of (value_of (take 2 l)) (value_of (drop 2 l))) None ≡ Some q → (number_of q < 2 ^ 32) × (l ≡ frame_of q)
    go true true a b e = found (eqb-true (length l) 10 a) b e
    go true false a b e = let z : ◌≡◌ {A = ℕ} 0 1 = cc in absurd (omega arith)
    go false t a b e = let z : ◌≡◌ {A = ℕ} 0 1 = cc in absurd (omega arith)

-- ten digits with a kind below 03 are read as a request
pub frame_of_digits : (l : List ℕ) → length l ≡ 10 → all_digits l ≡ true → value_of (take 2 l) < 3 → (q : Request) × (line_of l ≡ Some q)
unfolding line_of
frame_of_digits l h d k =
    let r = request_some (value_of (take 2 l)) (value_of (drop 2 l)) k in (r.0, rw (eq-eqb (length l) 10 h, d) r.1)
