-- WHAT A TURN ALLOWS: one outcome, and after a refusal record and memory as they were. A caller knows of `turn` only its contract (src/lib.rt).
-- Assumes nothing.
--     turn_determined            any two outcomes that the contract allows coincide
--     turn_answer_determined     the code's own answers too: their numbers tell them apart
--     turn_refused               after every number but 0 the record and every word of the memory are as they were
use mathlib.Core.Path.{◌≡◌, refl, sym, ap, ◌∙◌}
use mathlib.Core.Logic.{◌≢◌}
use mathlib.Core.Bool.{Bool, true, false}
use mathlib.Core.List.{List, [], ◌∷◌, ◌++◌}
use Prim.Native.Nat.{ℕ}
use native.Mathlib.Decide.{ℕ_discrete}
use lib.Dec.{eqb, leb}
use lib.ListN.{length, get_or, take, drop, take-append-drop}
use borrow.Author.Tests.{eqb-false}
use Rattle.words.specs.Choice.{pick}
use Rattle.words.specs.Links.{narrow}
use Rattle.rules.specs.Rules.Calls.{Outcome, says}
use Rattle.rules.specs.Rules.Making.{State, make}
use Rattle.rules.specs.Demands.Meaning.{hand, back}
use Rattle.rules.specs.Machine.Machine.{ask, give}
use Rattle.rules.specs.Demands.TwoHeaps.{call}
use Rattle.rules.proofs.Demands.Proved.{narrow_demands, narrow_making}
use Rattle.heap.specs.declared.answer.Refusal.TheVariants.{ZeroSize, TooLarge, NoFit, NotLive, Damaged, BadLength, NeverFits}
use Rattle.heap.specs.declared.record.Record.{Record}
use Rattle.rules.specs.Demands.Kind.{four}
use Rattle.heap.specs.Seen.{seen, base, FourPlaces}
use Rattle.heap.proofs.Apart.{seen_same}
use Rattle.frame.specs.declared.line.Request.TheVariants.{Make, HandOut, TakeBack}
use Rattle.std.specs.Prelude.{Option, Some, None, Ok, Err}
use Rattle.frame.specs.declared.line.Request.{Request}
use Rattle.turn.specs.declared.Refusal.TheVariants.{NoFrame, Heap}
use Rattle.turn.specs.Told.{Answer, told_of, Reply, reply_of, outcome_of}
use Rattle.turn.specs.Turned.{with_words, before, on_first, going_on, making, turned}

-- the contract of `turn`, with this many cache places: the record r over the memory ws, and the line l, give the reply t and leave the memory vs
abbrev pub Turns : ℕ → Record → List ℕ → Option Request → Reply → List ℕ → Type 0
Turns places r ws l t vs = outcome_of t vs ≡ turned places (seen r ws) l

-- one outcome
pub turn_determined : (places : ℕ) (r : Record) (ws vs us : List ℕ) (l : Option Request) (t u : Reply)
    → Turns places r ws l t vs
    → Turns places r ws l u us
    -- the records have four places for cached chunks, as their type says
    → FourPlaces t.rec
    → FourPlaces u.rec
    → (t ≡ u) × (vs ≡ us)
turn_determined places r ws vs us l t u e d ft fu =
    let g : outcome_of t vs ≡ outcome_of u us = e ∙ sym d in
    let s = seen_same t.rec u.rec vs us ft fu (ap (λ (o : Outcome State). o.after) g) in
    (λ i. record { number = (g i).number; value = (g i).value; compared = (g i).compared; rec = s.0 i }, s.1)

-- the answer that three numbers tell
told_in : ℕ → ℕ → ℕ → Answer
told_in n v c =
    let refusals : List Answer =
    Err (Heap ZeroSize) ∷ Err (Heap TooLarge) ∷ Err (Heap (NoFit c)) ∷ Err (Heap NotLive) ∷ Err (Heap Damaged) ∷ Err (Heap BadLength) ∷ Err NoFrame ∷ [] in
    get_or (Ok (record { payload = record { 0 = v }; compared = c }) ∷ refusals) n (Err (Heap NeverFits))

-- NOTHING IS LOST in an answer's numbers
told_back : (a : Answer) → told_in (told_of a).number (told_of a).value (told_of a).compared ≡ a
unfolding told_in
told_back (Ok d) = refl
told_back (Err NoFrame) = refl
told_back (Err (Heap ZeroSize)) = refl
told_back (Err (Heap TooLarge)) = refl
told_back (Err (Heap (NoFit c))) = refl
told_back (Err (Heap NotLive)) = refl
told_back (Err (Heap Damaged)) = refl
told_back (Err (Heap BadLength)) = refl
told_back (Err (Heap NeverFits)) = refl

-- one answer of the code
pub turn_answer_determined : (places : ℕ) (r p q : Record) (ws vs us : List ℕ) (l : Option Request) (a b : Answer)
    → Turns places r ws l (reply_of a p) vs
    → Turns places r ws l (reply_of b q) us
    → FourPlaces p
    → FourPlaces q
    → (a ≡ b) × (p ≡ q) × (vs ≡ us)
turn_answer_determined places r p q ws vs us l a b e d fp fq =
    let s = turn_determined places r ws vs us l (reply_of a p) (reply_of b q) e d fp fq in
    (sym (told_back a) ∙ ap (λ (t : Reply). told_in t.number t.value t.compared) s.0 ∙ told_back b, ap (λ (t : Reply). t.rec) s.0, s.1)

-- after every number but 0 the state is as it was
abbrev Kept : State → Outcome State → Type 0
Kept s o = o.number ≢ 0 → o.after ≡ s

-- a call on the first words that keeps them, keeps all
first_kept : (n : ℕ) (call : State → Outcome State) (s : State) → ((t : State) → Kept t (call t)) → Kept s (on_first n call s)
unfolding on_first
first_kept n call s f h =
    let k = f (with_words s (take n s.words)) h in
    ap (λ (t : State). with_words t (t.words ++ drop n s.words)) k ∙ ap (with_words s) (take-append-drop n s.words)

-- making says 0 or 6
made_number : (ws : List ℕ) → (make narrow 65529 ws).number ≢ 6 → (make narrow 65529 ws).number ≡ 0
made_number ws h = go (ℕ_discrete (make narrow 65529 ws).number 0)
  where
    go : Dec ((make narrow 65529 ws).number ≡ 0) → (make narrow 65529 ws).number ≡ 0
    go (yes e) = e
    go (no n) = absurd (h ((narrow_making four.places ws).2 n).0)

-- making that is refused keeps all
making_kept : (s : State) (n : ℕ) → Kept s (making s n)
unfolding making on_first
making_kept s n = fits (leb n (length s.words))
  where
    six : (t : Bool) → eqb (make narrow 65529 (take n s.words)).number 6 ≡ t
        → Kept s (pick t (says 6 0 0 s) (before (make narrow 65529 (take n s.words)) (drop n s.words)))
    six true e h = refl
    six false e h = absurd (h (made_number (take n s.words) (eqb-false (make narrow 65529 (take n s.words)).number 6 e)))

    fits : (t : Bool) → Kept s (pick t (going_on s (before (make narrow 65529 (take n s.words)) (drop n s.words))) (says 6 0 0 s))
    fits true = six (eqb (make narrow 65529 (take n s.words)).number 6) refl
    fits false = λ h. refl

-- whatever the line
turned_kept : (places : ℕ) (s : State) (l : Option Request) → Kept s (turned places s l)
unfolding call
turned_kept places s None = λ h. refl
turned_kept places s (Some (Make n)) = making_kept s n
turned_kept places s (Some (HandOut size)) =
    first_kept s.rest.words (λ t. hand base 65529 places t size) s ((narrow_demands places).refused (ask size))
turned_kept places s (Some (TakeBack p)) =
    first_kept s.rest.words (λ t. back base 65529 places t p) s ((narrow_demands places).refused (give p))

-- a refusal changes nothing
pub turn_refused : (places : ℕ) (r : Record) (ws vs : List ℕ) (l : Option Request) (t : Reply)
    → Turns places r ws l t vs
    → t.number ≢ 0
    → FourPlaces t.rec
    → FourPlaces r
    → (t.rec ≡ r) × (vs ≡ ws)
turn_refused places r ws vs l t e h ft fr =
    let kept = turned_kept places (seen r ws) l (λ z. h (ap (λ (o : Outcome State). o.number) e ∙ z)) in
    seen_same t.rec r vs ws ft fr (ap (λ (o : Outcome State). o.after) e ∙ kept)
