-- LINES OF INPUT (document 01, "Trace frames"): which lines are frames, what they ask for, and the frame of a request.
use Rattle.std.specs.Prelude.{Option, Some, None, ◌&&◌, cond, List, ◌++◌, ℕ, zero, suc, eqb, length, take, drop}
use Rattle.frame.specs.declared.line.Request.{Request}
use Rattle.frame.specs.declared.line.Request.TheVariants.{Make, HandOut, TakeBack}
use Rattle.frame.specs.Hex.{all_digits, value_of, digits_of}

-- kinds: 00 make, 01 hand out, 02 take back; no others
abbrev pub request_of : ℕ → ℕ → Option Request
request_of zero n = Some (Make n)
request_of (suc zero) n = Some (HandOut n)
request_of (suc (suc zero)) n = Some (TakeBack n)
request_of (suc (suc (suc k))) n = None

-- a line without its line feed: a frame is ten digits, two for the kind and eight for the number; any other line is no frame
unfoldable pub line_of : List ℕ → Option Request
line_of l = cond (eqb (length l) 10 && all_digits l) (request_of (value_of (take 2 l)) (value_of (drop 2 l))) None

-- a request's kind
abbrev pub kind_of : Request → ℕ
kind_of (Make n) = 0
kind_of (HandOut n) = 1
kind_of (TakeBack n) = 2

-- a request's number: words, bytes asked for, payload offset
abbrev pub number_of : Request → ℕ
number_of (Make n) = n
number_of (HandOut n) = n
number_of (TakeBack n) = n

-- a request's ten digits
abbrev pub frame_of : Request → List ℕ
frame_of q = digits_of 2 (kind_of q) ++ digits_of 8 (number_of q)
