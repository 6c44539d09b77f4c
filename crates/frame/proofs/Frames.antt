-- WHAT IS PROVED OF FRAMES, over the definitions of `specs/` alone. The contracts say that the code computes `field_of`, `line_of` and `answered`.
--     field_exactly         of any width: a field is read as a number exactly if it is that number's digits
--     read_exactly          a line is read as a request exactly if it is that request's ten digits
--     frames_exactly        a line is read as a request exactly if it is ten digits 0–9 A–F of kind 00, 01 or 02
--     request_read_back     a request's ten digits are read as that request
--     answer_read_back      an answer's three fields are read as its number, value and compared count
--     answers_told_apart    two answers with the same bytes are the same
--     answer_one_line       an answer is eighteen digits and a line feed
-- Rests on `Laws/Hex.antt`: `value_of_digits` and `digits_of_value`, over the number of digits. Assumes nothing.
use mathlib.Core.Path.{◌≡◌, sym, ap, subst, ◌∙◌}
use mathlib.Core.Bool.{true}
use mathlib.Core.List.{List, [], ◌∷◌}
use mathlib.Core.Logic.{◌↔◌}
use Prim.Native.Nat.{ℕ, ◌^◌, ◌<◌}
use native.Mathlib.Nat.{lt_trans}
use lib.Dec.{lit<}
use lib.ListN.{length, take, drop}
use Rattle.std.specs.Prelude.{Option, Some}
use Rattle.frame.specs.declared.line.Request.{Request}
use Rattle.frame.specs.Hex.{all_digits, value_of, digits_of}
use Rattle.frame.specs.Field.{field_of}
use Rattle.frame.specs.Line.{line_of, number_of, frame_of}
use Rattle.frame.specs.Answer.{answer_bytes}
use Rattle.frame.proofs.Laws.Hex.{digits_of_value, value_below}
use Rattle.frame.proofs.Laws.Field.{field_number, field_of_digits}
use Rattle.frame.proofs.Laws.Line.{kind_below, length_frame, frame_digits, frame_kind, line_of_frame, frame_of_line, frame_of_digits}
use Rattle.frame.proofs.Laws.Answer.{answer_number, answer_value, answer_compared, answer_digits, answer_end}

-- a field is read as n exactly if n has 32 bits, the field has room for it, and the field is n's digits
pub field_exactly : (bs : List ℕ) (n : ℕ) → (field_of bs ≡ Some n) ↔ ((n < 2 ^ 32) × (n < 16 ^ length bs) × (bs ≡ digits_of (length bs) n))
field_exactly bs n = (there, back)
  where
    there : field_of bs ≡ Some n → (n < 2 ^ 32) × (n < 16 ^ length bs) × (bs ≡ digits_of (length bs) n)
    there e =
        let f = field_number bs n (sym e) in
        (f.2, rw f.1 at (value_below bs f.0), sym (rw f.1 at (digits_of_value bs f.0)))

    back : (n < 2 ^ 32) × (n < 16 ^ length bs) × (bs ≡ digits_of (length bs) n) → field_of bs ≡ Some n
    back h = ap field_of h.2 ∙ field_of_digits (length bs) n h.1 h.0

-- a line is read as a request exactly if its number has 32 bits and the line is its ten digits
pub read_exactly : (l : List ℕ) (q : Request) → (line_of l ≡ Some q) ↔ ((number_of q < 2 ^ 32) × (l ≡ frame_of q))
read_exactly l q = (frame_of_line l q, λ h. ap line_of h.1 ∙ line_of_frame q h.0)

-- a line is read as a request exactly if it is ten digits and two of them say a kind below 03
pub frames_exactly : (l : List ℕ)
    → ((q : Request) × (line_of l ≡ Some q)) ↔ ((length l ≡ 10) × (all_digits l ≡ true) × (value_of (take 2 l) < 3))
frames_exactly l = (λ r. there r.0 (frame_of_line l r.0 r.1).1, λ h. frame_of_digits l h.0 h.1 h.2)
  where
    there : (q : Request) → l ≡ frame_of q → (length l ≡ 10) × (all_digits l ≡ true) × (value_of (take 2 l) < 3)
    there q e =
        subst (λ (m : List ℕ). (length m ≡ 10) × (all_digits m ≡ true) × (value_of (take 2 m) < 3)) (sym e)
        (length_frame q, frame_digits q, rw (frame_kind q) (kind_below q))

-- a request's ten digits are read as that request
pub request_read_back : (q : Request) → number_of q < 2 ^ 32 → line_of (frame_of q) ≡ Some q
request_read_back q h = line_of_frame q h

-- an answer's three fields are read as its number, value and compared count
pub answer_read_back : (number value compared : ℕ) → number < 2 ^ 8 → value < 2 ^ 32 → compared < 2 ^ 32
    → (field_of (take 2 (answer_bytes number value compared)) ≡ Some number)
    × (field_of (take 8 (drop 2 (answer_bytes number value compared))) ≡ Some value)
    × (field_of (take 8 (drop 10 (answer_bytes number value compared))) ≡ Some compared)
answer_read_back number value compared n v c = (
  ap field_of (answer_number number value compared) ∙ field_of_digits 2 number n (lt_trans n (lit< tt)),
  ap field_of (answer_value number value compared) ∙ field_of_digits 8 value v v,
  ap field_of (answer_compared number value compared) ∙ field_of_digits 8 compared c c,
)

-- so two answers with the same bytes are the same
pub answers_told_apart : (a b c x y z : ℕ) → a < 2 ^ 8 → b < 2 ^ 32 → c < 2 ^ 32 → x < 2 ^ 8 → y < 2 ^ 32 → z < 2 ^ 32
    → answer_bytes a b c ≡ answer_bytes x y z → (a ≡ x) × (b ≡ y) × (c ≡ z)
answers_told_apart a b c x y z an bn cn xn yn zn e =
    let r = answer_read_back a b c an bn cn in
    let s = answer_read_back x y z xn yn zn in (
      same (sym r.0 ∙ ap (λ (l : List ℕ). field_of (take 2 l)) e ∙ s.0),
      same (sym r.1 ∙ ap (λ (l : List ℕ). field_of (take 8 (drop 2 l))) e ∙ s.1),
      same (sym r.2 ∙ ap (λ (l : List ℕ). field_of (take 8 (drop 10 l))) e ∙ s.2),
    )
  where
    same : {m n : ℕ} → ◌≡◌ {A = Option ℕ} (Some m) (Some n) → m ≡ n
    same h = cc

-- an answer is eighteen digits and a line feed
pub answer_one_line : (number value compared : ℕ)
    → (all_digits (take 18 (answer_bytes number value compared)) ≡ true) × (drop 18 (answer_bytes number value compared) ≡ 10 ∷ [])
answer_one_line number value compared = (answer_digits number value compared, answer_end number value compared)
