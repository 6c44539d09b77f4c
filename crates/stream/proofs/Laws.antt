-- Laws of specs/Stepping.antt and specs/Ran.antt. Assumes nothing.
use mathlib.Core.Path.{◌≡◌, refl, sym, ap, ◌∙◌}
use mathlib.Core.Logic.{◌≢◌}
use mathlib.Core.Bool.{Bool, true}
use mathlib.Core.List.{List, [], ◌++◌}
use Prim.Native.Nat.{ℕ, ◌+◌, ◌-◌, ◌*◌, ◌≤◌, ◌<◌}
use native.Mathlib.Omega.{arith}
use lib.ListN.{length, take, length-append}
use lib.Seq.{length-take-le}
use borrow.Author.Tests.{le-leb, lt-leb}
use denote.Enum.Bare.{sameb, same_true}
use Rattle.std.specs.Prelude.{Result}
use Rattle.heap.specs.declared.record.Record.{Record}
use Rattle.cache.specs.Places.{cached_of}
use Rattle.heap.specs.Seen.{seen, empty_record}
use Rattle.feed.specs.declared.pieces.Trace.{Trace}
use Rattle.feed.specs.Reading.{text_of}
use Rattle.feed.specs.declared.pieces.Fed.{Fed}
use Rattle.feed.specs.Feeding.{standing, stands, steps, last_line}
use Rattle.feed.specs.Trace.{trace_of}
use Rattle.feed.proofs.Laws.{on_line, steps_none, all_taken}
use Rattle.feed.proofs.Whole.{steps_after, all_answers, whole_from}
use Rattle.rules.specs.Rules.Making.{empty}
use Rattle.stream.specs.contracts.step.Course.{the_type}
use Rattle.stream.specs.declared.step.Course.{Course}
use Rattle.stream.specs.declared.step.Course.TheVariants.{Going as going, Ended, Failed}
use Rattle.stream.specs.declared.step.Stream.{Stream}
use Rattle.stream.specs.Stepping.{ended, counted, piece_of, Takes, Next, Writes}
use Rattle.stream.specs.Ran.{most, at_first, Going, Answered}

-- ---- the course

-- a test of the course
pub is_course : (c d : Course) → sameb the_type c d ≡ true → c ≡ d
is_course c d e = same_true the_type tt c d e

-- ---- one step

-- nothing taken: the run is at an end
pub takes_none : {places : ℕ} (s : Stream) (c : Course) (memory out : List ℕ) → c ≢ going → Takes places s [] memory (ended s c) memory out
takes_none s c memory out n =
    record {
      stands = steps_none _ _;
      counts = omega arith;
      goes = (λ g. absurd (n g), λ h. absurd (omega arith));
      fits = omega arith;
      each = omega arith;
      same = refl;
    }

-- no piece: the read gave nothing, or more than may still be read
pub piece_none : {E : Type 0} (left n : ℕ) (got : Result ℕ E) (input : List ℕ) → n ≡ counted got (length input) → n ≡ 0 → piece_of left got input ≡ []
unfolding piece_of
piece_none left n got input e z = rw (sym e, z, le-leb 0 left (omega arith))

pub piece_over : {E : Type 0} (left n : ℕ) (got : Result ℕ E) (input : List ℕ) → n ≡ counted got (length input) → left < n → piece_of left got input ≡ []
unfolding piece_of
piece_over left n got input e h = rw (sym e, lt-leb n left h)

-- a piece: the first bytes of the buffer
piece_is : {E : Type 0} (left n : ℕ) (got : Result ℕ E) (input : List ℕ) → n ≡ counted got (length input) → n ≤ left → piece_of left got input ≡ take n input
unfolding piece_of
piece_is left n got input e h = rw (sym e, le-leb n left h)

pub takes_end : {places : ℕ} (s r : Stream) (c : Course) (piece memory out : List ℕ) → r ≡ ended s c → c ≢ going → piece ≡ []
    → Takes places s piece memory r memory out
takes_end s r c piece memory out e n f = rw (e, f) (takes_none s c memory out n)

-- a piece fed whole
pub takes_fed : {places : ℕ} {E : Type 0} (s : Stream) (f : Fed) (got : Result ℕ E) (n : ℕ) (memory input out memory' out' : List ℕ)
    → n ≡ counted got (length input) → n ≤ length input → 0 < n → n ≤ s.left → 19 * length input ≤ length out → length out' ≡ length out
    → stands f memory' out' ≡ steps places (standing s.trace memory []) (take f.taken (take n input))
    → f.filled ≤ length out → (f.taken < length (take n input) → length out < f.filled + 19) → f.filled ≤ 19 * f.taken → f.taken ≤ length (take n input)
    → Takes places s (piece_of s.left got input) memory
    (record { trace = f.trace; left = s.left - n; filled = f.filled; written = s.written; course = going }) memory' out'
takes_fed s f got n memory input out memory' out' e k h g room same d fits full each some =
    let long : length (take n input) ≡ n = length-take-le n input k in
    rw (piece_is s.left n got input e g)
    (record {
      stands = all_taken _ _ _ (take n input) (length out) f.taken f.filled (omega (arith, long)) full each d;
      counts = omega (arith, long);
      goes = (λ _. omega (arith, long), λ _. refl);
      fits = omega (arith, same, fits);
      each = omega (arith, each, some);
      same = refl;
    })

-- ---- a run

-- a run begins with the empty record and no line
pub first_stands : (places : ℕ) (memory : List ℕ) (t : Trace) → t.rec ≡ empty_record → text_of t.line ≡ []
    → standing t memory [] ≡ steps places (at_first memory) []
unfolding cached_of
first_stands places memory t r l =
    ap (λ (x : Record). on_line (seen x memory) (text_of t.line) []) r
    ∙ ap (λ (x : List ℕ). on_line (empty memory) x []) l
    ∙ steps_none _ _

-- before the first byte
pub going_first : {places : ℕ} (a : Bool) (memory : List ℕ) (s : Stream)
    → s.trace.rec ≡ empty_record → text_of s.trace.line ≡ [] → s.left ≡ most → s.written ≡ 0
    → Going places a memory s memory
going_first a memory s r l n w =
    record {
      ran = record {
        input = [];
        answers = [];
        stands = first_stands _ memory s.trace r l;
        counted = omega (arith, n);
      };
      written = λ _. w;
      bound = omega (arith, w);
    }

-- the turns that a run has left: a byte each, and the last
abbrev pub last_turn : Course → ℕ
last_turn going = 1
last_turn Ended = 0
last_turn Failed = 0

abbrev pub turns_left : Stream → ℕ
turns_left s = s.left + last_turn s.course

-- a piece more, whose answers were handed over, or are not wanted
pub going_on_lem : {places : ℕ} {a : Bool} {memory ms ns os : List ℕ} {s r : Stream} (w : Stream) (k : ℕ)
    → Going places a memory s ms → Next places s ms r ns os → w.trace ≡ r.trace
    → w.left ≡ r.left → w.written ≡ r.written + k → (a ≡ true → k ≡ r.filled) → k ≤ r.filled → Going places a memory w ns
going_on_lem {memory = memory} {ns = ns} {os = os} {r = r} w k g n t l e f h =
    let x = g.ran in
    let y = n.takes in
    let more : length (x.input ++ n.piece) ≡ length x.input + length n.piece = length-append x.input n.piece in
    let said : length (x.answers ++ take r.filled os) ≡ length x.answers + r.filled =
    length-append x.answers (take r.filled os) ∙ ap (λ (z : ℕ). length x.answers + z) (length-take-le r.filled os y.fits) in
    record {
      ran = record {
        input = x.input ++ n.piece;
        answers = x.answers ++ take r.filled os;
        stands = ap (λ (z : Trace). standing z ns (x.answers ++ take r.filled os)) t
            ∙ steps_after _ (at_first memory) _ _ _ _ x.answers (take r.filled os) x.input n.piece x.stands y.stands;
        counted = omega (arith, more, x.counted, y.counts, l);
      };
      written = λ b. omega (arith, said, g.written b, y.same, e, f b);
      bound = omega (arith, more, g.bound, y.same, y.each, e, h);
    }

-- ---- the end of a run

-- BYTES IN, BYTES OUT: what was handed over has the length of the trace
pub answered_all : {places : ℕ} {a : Bool} {memory ms : List ℕ} {s : Stream} (r : Stream)
    → Going places a memory s ms → Writes s (length (last_line (text_of s.trace.line))) r
    → Answered places a memory r ms
answered_all {places = places} {memory = memory} {ms = ms} {s = s} r g w =
    let x = g.ran in
    let all : x.answers ++ last_line (text_of s.trace.line) ≡ trace_of places memory x.input =
    ap all_answers x.stands ∙ whole_from _ x.input [] (empty memory) [] in
    record {
      ran = record {
        input = x.input;
        answers = x.answers;
        stands = ap (λ (z : Trace). standing z ms x.answers) w.trace ∙ x.stands;
        counted = omega (arith, x.counted, w.left);
      };
      written = λ b _. w.written
          ∙ ap (λ (z : ℕ). z + length (last_line (text_of s.trace.line))) (g.written b)
          ∙ sym (length-append x.answers (last_line (text_of s.trace.line)))
          ∙ ap length all;
    }
