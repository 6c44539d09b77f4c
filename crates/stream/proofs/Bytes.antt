-- Laws of specs/Bytes.antt. Assumes nothing.
use Rattle.std.proofs.Common.{◌≡◌, refl, sym, ap, subst, ◌∙◌, Bool, true, false, List, [], ◌++◌, ℕ, ◌<◌, ◌≤◌, min, length, take, append-nil, arith}
use mathlib.Core.Logic.{◌≢◌}
use lib.Dec.{leb, ltb}
use borrow.Author.Tests.{ltb-false}
use Rattle.std.specs.Prelude.{Result, Ok, Err, Option, None, Some, IfSome}
use Rattle.std.specs.Io.{ReadsAtMost}
use Rattle.std.specs.Io.KnownBytes.{Keeps, Appends, Consumes, IsAtEnd, ReadConsumes}
use Rattle.std.proofs.KnownBytes.{Consumes-nil, Consumes-trans, Appends-nil, Appends-trans, Keeps-refl, Keeps-trans}
use Rattle.heap.specs.Seen.{empty_record}
use Rattle.rules.specs.Rules.Making.{empty}
use Rattle.feed.specs.declared.pieces.Trace.{Trace}
use Rattle.feed.specs.Reading.{text_of}
use Rattle.feed.specs.Feeding.{standing, last_line}
use Rattle.feed.specs.Trace.{trace_of}
use Rattle.feed.proofs.Whole.{steps_after, all_answers, whole_from}
use Rattle.stream.specs.declared.step.Course.TheVariants.{Going, Ended, Failed}
use Rattle.stream.specs.declared.step.Stream.{Stream}
use Rattle.stream.specs.Stepping.{ended, course_of, piece_of, Takes}
use Rattle.stream.specs.Ran.{at_first}
use Rattle.stream.specs.Bytes.{Reads, Wrote, Carried, Through}
use Rattle.stream.proofs.Laws.{takes_end, first_stands}

-- ---- one step

-- nothing was read
pub reads_failed : {places : ℕ} (s r : Stream) (memory out : List ℕ) (room : ℕ) (left : Option (List ℕ)) → r ≡ ended s Failed
    → Reads places s memory r memory out room left left
reads_failed s r memory out room left e =
    let bad : r.course ≡ Failed = ap (λ (x : Stream). x.course) e in
    record {
      piece = [];
      takes = takes_end s r Failed [] memory out e (λ f. cc) refl;
      lost = λ f. absurd (f bad);
      at_end = λ m. cc;
    }

module _ {places : ℕ} (s r : Stream) (memory input memory' out' : List ℕ) (room : ℕ) (left left' : Option (List ℕ)) (all : length input ≡ room) where
  -- the piece is what an answer says
  given : (k : ℕ) → k ≤ length input → Consumes left left' (take k input) → (k ≡ 0 → 0 < length input → IsAtEnd left')
      → (piece : List ℕ) → piece ≡ take k input → Takes places s piece memory r memory' out' → (r.course ≡ Ended → k ≡ 0)
      → Reads places s memory r memory' out' room left left'
  given k bound lost end piece e t none =
      record {
        piece = piece;
        takes = t;
        lost = λ _. subst (Consumes left left') (sym e) lost;
        at_end = λ m some. end (none m) (omega (arith, all, some));
      }

  -- a failure
  failed : (piece : List ℕ) → Takes places s piece memory r memory' out' → r.course ≡ Failed → Reads places s memory r memory' out' room left left'
  failed piece t bad = record { piece = piece; takes = t; lost = λ f. absurd (f bad); at_end = λ m. cc }

  -- a read's answer, and the piece that it leads to
  pub reads_taken : {E : Type 0} (got : Result ℕ E) → ReadsAtMost got input → ReadConsumes left left' got input
      → Takes places s (piece_of s.left got input) memory r memory' out' → r.course ≡ course_of s.left got (length input)
      → Reads places s memory r memory' out' room left left'
  unfolding piece_of
  reads_taken {E = E} (Ok k) bound bytes t f = go (leb (min k (length input)) s.left) refl
    where
      go : (b : Bool) → leb (min k (length input)) s.left ≡ b → Reads places s memory r memory' out' room left left'
      go true e = given k bound.0 bytes.0 bytes.1 (piece_of {E = E} s.left (Ok k) input)
          (rw e (ap (λ (m : ℕ). take m input) (omega (arith, bound.0)))) t (none (ltb 0 (min k (length input))) refl)
        where
          none : (b : Bool) → ltb 0 (min k (length input)) ≡ b → r.course ≡ Ended → k ≡ 0
          none true g m = let h = rw (e, g) at f in cc
          none false g m = omega (arith, bound.0, ltb-false 0 (min k (length input)) g)
      go false e = failed (piece_of {E = E} s.left (Ok k) input) t (rw e at f)
  reads_taken {E = E} (Err x) bound bytes t f = failed (piece_of {E = E} s.left (Err x) input) t f

-- ---- a run

-- before the first byte
pub carried_first : {places : ℕ} (a : Bool) (memory : List ℕ) (s : Stream) (room : ℕ) (left held : Option (List ℕ))
    → s.trace.rec ≡ empty_record → text_of s.trace.line ≡ [] → s.course ≡ Going
    → Carried places a memory s memory room left left held held
carried_first a memory s room left held r l m =
    record {
      input = [];
      answers = [];
      stands = first_stands _ memory s.trace r l;
      lost = λ _. Consumes-nil left;
      at_end = λ e. cc;
      got = λ _ _. Appends-nil held;
      quiet = λ _. Keeps-refl held;
    }

-- a piece more, whose answers the writer got, or which are not wanted
pub carried_on : {places : ℕ} {a : Bool} {memory ms ns os : List ℕ} {s r : Stream} {room n : ℕ} {left mid next held had : Option (List ℕ)}
    (w : Stream) (has : Option (List ℕ))
    → Carried places a memory s ms room left mid held had → s.course ≡ Going → Reads places s ms r ns os n mid next → n ≡ room
    → w.trace ≡ r.trace → (w.course ≢ Failed → w.course ≡ r.course)
    → (a ≡ true → w.course ≢ Failed → Appends had has (take r.filled os)) → (a ≡ false → Keeps had has)
    → Carried places a memory w ns room left next held has
carried_on {memory = memory} {ns = ns} {os = os} {s = s} {r = r} {left = left} {mid = mid} {next = next} {held = held} {had = had}
    w has c on n long t same got quiet =
    let well : s.course ≢ Failed = λ f. cc in
    let also : w.course ≢ Failed → r.course ≢ Failed = λ f g. f (same f ∙ g) in
    record {
      input = c.input ++ n.piece;
      answers = c.answers ++ take r.filled os;
      stands = ap (λ (z : Trace). standing z ns (c.answers ++ take r.filled os)) t
          ∙ steps_after _ (at_first memory) _ _ _ _ c.answers (take r.filled os) c.input n.piece c.stands n.takes.stands;
      lost = λ f. Consumes-trans left mid next c.input n.piece (c.lost well) (n.lost (also f));
      at_end = λ m some. n.at_end (sym (same (λ f. cc)) ∙ m) (omega (arith, long, some));
      got = λ f b. Appends-trans held had has c.answers (take r.filled os) (c.got well b) (got b f);
      quiet = λ b. Keeps-trans held had has (c.quiet b) (quiet b);
    }

-- ---- the end of a run

-- known bytes that were all lost
all_lost : (left next : Option (List ℕ)) (input : List ℕ) (P : List ℕ → Type 0) → Consumes left next input → IsAtEnd next → P input → IfSome left P
all_lost None next input P c e p = tt
all_lost (Some xs) None input P c e p = absurd c
all_lost (Some xs) (Some ys) input P c e p = subst P (sym (c ∙ ap (λ l. input ++ l) e ∙ append-nil input)) p

module _ {places : ℕ} {memory ms : List ℕ} {s : Stream} {room : ℕ} {left next held had : Option (List ℕ)} where
  -- BYTES IN, BYTES OUT: what the writer got is the trace
  pub through_all : {a : Bool} (r : Stream) (has : Option (List ℕ)) → Carried places a memory s ms room left next held had
      → s.course ≡ Ended → 0 < room → a ≡ true → r.trace ≡ s.trace → r.course ≢ Failed → Wrote s (last_line (text_of s.trace.line)) r had has
      → IfSome left (λ xs. Through places a memory xs r ms held has)
  through_all {a = a} r has c m some b t g w =
      let f : s.course ≢ Failed = λ bad. cc in
      let last = last_line (text_of s.trace.line) in
      let all : c.answers ++ last ≡ trace_of places memory c.input = ap all_answers c.stands ∙ whole_from _ c.input [] (empty memory) [] in
      all_lost left next c.input (λ xs. Through places a memory xs r ms held has) (c.lost f) (c.at_end m some)
      (record {
        answers = c.answers;
        stands = ap (λ (z : Trace). standing z ms c.answers) t ∙ c.stands;
        got = λ _. subst (Appends held has) all (Appends-trans held had has c.answers last (c.got f b) (w.got g));
        quiet = λ q. cc;
      })
