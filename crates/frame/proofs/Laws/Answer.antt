-- Laws of `specs/Answer.antt`. Assumes nothing.
--     length_answer, answer_number, answer_value, answer_compared, answer_digits, answer_end     an answer's nineteen bytes
--     length_answered, answered_room, answered_all, answered_short, answered_by     an answer written over lent bytes, field by field
use mathlib.Core.Path.{◌≡◌, refl, ◌∙◌}
use mathlib.Core.Bool.{Bool, true, false, cond}
use mathlib.Core.List.{List, [], ◌∷◌, ◌++◌, append-nil, append_assoc}
use Prim.Native.Nat.{ℕ, ◌+◌, ◌≤◌, ◌<◌}
use native.Mathlib.Omega.{arith}
use lib.Dec.{leb}
use lib.ListN.{length, get_or, take, drop, set, length-drop, length-append, drop_of_length-le}
use lib.Seq.{take_at, drop_at, drop-drop, drop-cons, set_at, length-take-le}
use borrow.Rule.Slice.PartMut.{mid_of, put_mid}
use borrow.Author.Tests.{le-leb, lt-leb, leb-true}
use Rattle.frame.specs.Hex.{all_digits, digits_of}
use Rattle.frame.specs.Answer.{answer_bytes, answered}
use Rattle.frame.proofs.Laws.Hex.{all_append, length_digits, all_digits_lem}

-- ---- an answer's bytes

-- nineteen bytes
pub length_answer : (number value compared : ℕ) → length (answer_bytes number value compared) ≡ 19
unfolding answer_bytes
length_answer number value compared = simp (length-append, length_digits)

module _ (number value compared : ℕ) where
  -- its bytes before the line feed
  digits : List ℕ
  digits = digits_of 2 number ++ digits_of 8 value ++ digits_of 8 compared

  -- their lengths
  length_front : length (digits_of 2 number ++ digits_of 8 value) ≡ 10
  length_front = simp (length-append, length_digits)

  length_all : length digits ≡ 18
  unfolding digits
  length_all = simp (length-append, length_digits)

  -- its first two are the number's digits
  pub answer_number : take 2 (answer_bytes number value compared) ≡ digits_of 2 number
  unfolding answer_bytes
  answer_number =
      rw (append_assoc (digits_of 2 number ++ digits_of 8 value) (digits_of 8 compared) (10 ∷ []), append_assoc (digits_of 2 number))
      (take_at (digits_of 2 number) _ 2 (length_digits 2 number))

  -- the next eight the value's
  pub answer_value : take 8 (drop 2 (answer_bytes number value compared)) ≡ digits_of 8 value
  unfolding answer_bytes
  answer_value =
      rw (append_assoc (digits_of 2 number ++ digits_of 8 value) (digits_of 8 compared) (10 ∷ []), append_assoc (digits_of 2 number))
      (rw (drop_at (digits_of 2 number) (digits_of 8 value ++ (digits_of 8 compared ++ (10 ∷ []))) 2 (length_digits 2 number))
      (take_at (digits_of 8 value) (digits_of 8 compared ++ (10 ∷ [])) 8 (length_digits 8 value)))

  -- and the eight after them the count's
  pub answer_compared : take 8 (drop 10 (answer_bytes number value compared)) ≡ digits_of 8 compared
  unfolding answer_bytes
  answer_compared =
      rw (append_assoc (digits_of 2 number ++ digits_of 8 value) (digits_of 8 compared) (10 ∷ []))
      (rw (drop_at (digits_of 2 number ++ digits_of 8 value) (digits_of 8 compared ++ (10 ∷ [])) 10 length_front)
      (take_at (digits_of 8 compared) (10 ∷ []) 8 (length_digits 8 compared)))

  -- those eighteen are digits
  pub answer_digits : all_digits (take 18 (answer_bytes number value compared)) ≡ true
  unfolding answer_bytes digits
  answer_digits = rw (take_at digits (10 ∷ []) 18 length_all) (simp (all_append, all_digits_lem))

  -- and a line feed ends it
  pub answer_end : drop 18 (answer_bytes number value compared) ≡ 10 ∷ []
  unfolding answer_bytes digits
  answer_end = drop_at digits (10 ∷ []) 18 length_all

-- ---- an answer written

-- lent bytes keep their number
pub length_answered : (out : List ℕ) (number value compared : ℕ) → length (answered out number value compared) ≡ length out
unfolding answered
length_answered out number value compared = go (leb 19 (length out)) refl
  where
    go : (t : Bool) → leb 19 (length out) ≡ t → length (cond t (answer_bytes number value compared ++ drop 19 out) out) ≡ length out
    go true e = rw (length-append, length_answer number value compared, length-drop) (omega (arith, leb-true 19 (length out) e))
    go false e = refl

-- where there is room, the line stands before the rest of them
pub answered_room : (out : List ℕ) (number value compared : ℕ) → 19 ≤ length out
    → answered out number value compared ≡ answer_bytes number value compared ++ drop 19 out
unfolding answered
answered_room out number value compared h = rw (le-leb 19 (length out) h)

-- where there is just room for it, the line is all
pub answered_all : (out : List ℕ) (number value compared : ℕ) → length out ≡ 19 → answered out number value compared ≡ answer_bytes number value compared
answered_all out number value compared l =
    answered_room out number value compared (omega arith) ∙ rw (drop_of_length-le out {i = 19} (omega arith), append-nil)

-- too short for a line, they stay
pub answered_short : (out : List ℕ) (number value compared : ℕ) → length out < 19 → out ≡ answered out number value compared
unfolding answered
answered_short out number value compared h = rw (lt-leb 19 (length out) h)

-- a field put behind the bytes p that stand at the start
put_behind : (out p xs x : List ℕ) (a w n : ℕ) → length p ≡ a → a + w ≤ length out → xs ≡ p ++ drop a out
    → x ≡ digits_of (length (mid_of a w xs)) n → put_mid a w xs x ≡ p ++ digits_of w n ++ drop (a + w) out
put_behind out p xs x a w n l r e f =
    let m : length (take w (drop a out)) ≡ w = length-take-le w (drop a out) (omega (arith, length-drop a out)) in
    rw (f, e, take_at p (drop a out) a l, drop_at p (drop a out) a l, m, drop-drop w a out, append_assoc)

-- three fields and a line feed, written one after the other
pub answered_by : (out x y z : List ℕ) (number value compared : ℕ) → 19 ≤ length out
    → x ≡ digits_of (length (mid_of 0 2 out)) number
    → y ≡ digits_of (length (mid_of 2 8 (put_mid 0 2 out x))) value
    → z ≡ digits_of (length (mid_of 10 8 (put_mid 2 8 (put_mid 0 2 out x) y))) compared
    → set (put_mid 10 8 (put_mid 2 8 (put_mid 0 2 out x) y) z) 18 10 ≡ answered out number value compared
unfolding answer_bytes
answered_by out x y z number value compared h e f g =
    let d : List ℕ = digits_of 2 number in
    let one = put_behind out [] out x 0 2 number refl (omega arith) refl e in
    let two = put_behind out d (put_mid 0 2 out x) y 2 8 value (length_digits 2 number) (omega arith) one f in
    let l : length (d ++ digits_of 8 value) ≡ 10 = simp (length-append, length_digits) in
    let three = put_behind out (d ++ digits_of 8 value) (put_mid 2 8 (put_mid 0 2 out x) y) z 10 8 compared l (omega arith) two g in
    let p : List ℕ = d ++ digits_of 8 value ++ digits_of 8 compared in
    let m : length p ≡ 18 = simp (length-append, length_digits) in
    let fed = set_at p (get_or out 18 0) (drop 19 out) 10 18 m in
    rw (answered_room out number value compared h, three, drop-cons out 18 0 h, fed, append_assoc p (10 ∷ []) (drop 19 out))

-- as the code writes, if there is room
pub ruleset by_room = (length_answered, answered_short, answered_by)
