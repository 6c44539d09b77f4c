-- Laws of `specs/Turned.antt`, one for each way a turn can go, from the callees' contracts as the code has them. Assumes nothing.
--     lent_min       how many words are lent
--     first_by       a call on the lent part of the memory, the part put back
--     hand_by, back_by       a handout and a free on the heap in use
--     make_more       more words than the memory has
--     make_done, make_refused       a heap made of the first words; a length that the rules refuse, where nothing has changed
use mathlib.Core.Path.{◌≡◌, refl, sym, ap, ◌∙◌}
use mathlib.Core.Bool.{Bool, true, false}
use mathlib.Core.List.{List}
use Prim.Native.Nat.{ℕ, ◌-◌, ◌*◌, ◌≤◌, ◌<◌, min}
use native.Mathlib.Omega.{arith}
use native.Mathlib.Nat.{sub-zero}
use lib.Dec.{leb}
use lib.ListN.{length, take, drop, drop_of_length-le}
use lib.Seq.{take_all, drop-length}
use borrow.Rule.Slice.PartMut.{mid_of, post_of, put_mid, put_same}
use borrow.Author.Tests.{le-leb, lt-leb, leb-true, leb-false, eq-eqb, ne_eqb}
use Rattle.words.specs.Choice.{pick}
use Rattle.words.specs.Links.{narrow}
use Rattle.rules.specs.Rules.Calls.{Outcome, says}
use Rattle.rules.specs.Rules.Steps.{one_chunk}
use Rattle.rules.specs.Rules.State.{ops}
use Rattle.rules.specs.Rules.Making.{State, make, acceptedᵇ, fresh, empty}
use Rattle.rules.specs.Demands.Meaning.{hand, back}
use Rattle.heap.specs.declared.record.Record.{Record}
use Rattle.heap.specs.declared.answer.NotMade.{NotMade}
use Rattle.heap.specs.declared.answer.Refusal.{Refusal}
use Rattle.heap.specs.declared.answer.Refusal.TheVariants.{ZeroSize, TooLarge, NoFit, NotLive, Damaged, BadLength, NeverFits}
use Rattle.heap.specs.Seen.{seen, base}
use Rattle.heap.specs.Answer.{out_made, just_done, number_of, count_of, outcome}
use Rattle.heap.specs.Answer as heap
use Rattle.heap.specs.Promises.{Makes, HandsOut, TakesBack}
use Rattle.frame.specs.declared.line.Request.{Request}
use Rattle.frame.specs.declared.line.Request.TheVariants.{HandOut, TakeBack}
use Rattle.std.specs.Prelude.{Option, Some, Ok, Err}
use Rattle.turn.specs.declared.Refusal.TheVariants.{Heap}
use Rattle.turn.specs.Turned.{with_words, before, on_first, going_on, making, turned, lent_of}
use Rattle.turn.specs.Told.{in_turn, reply_of, outcome_of}

-- ---- the lent part

-- as many words as the record says, or all: either way the same part of the memory
take_lent : (n : ℕ) (ws : List ℕ) → take (lent_of n (length ws)) ws ≡ take n ws
take_lent n ws = go (leb n (length ws)) refl
  where
    go : (t : Bool) → leb n (length ws) ≡ t → take (pick t n (length ws)) ws ≡ take n ws
    go true e = refl
    go false e = take_all (length ws) ws (omega arith) ∙ sym (take_all n ws (omega (arith, leb-false n (length ws) e)))

drop_lent : (n : ℕ) (ws : List ℕ) → drop (lent_of n (length ws)) ws ≡ drop n ws
drop_lent n ws = go (leb n (length ws)) refl
  where
    go : (t : Bool) → leb n (length ws) ≡ t → drop (pick t n (length ws)) ws ≡ drop n ws
    go true e = refl
    go false e =
        let h : length ws ≤ n = omega (arith, leb-false n (length ws) e) in
        drop-length ws ∙ sym (drop_of_length-le ws {i = n} h)

-- the smaller of the two
pub lent_min : (n most : ℕ) → min most n ≡ lent_of n most
lent_min n most = go (leb n most) refl
  where
    go : (t : Bool) → leb n most ≡ t → min most n ≡ pick t n most
    go true f = omega (arith, leb-true n most f)
    go false f = omega (arith, leb-false n most f)

-- the part that the code lends, and what lies behind it
mid_lent : (n m : ℕ) (ws : List ℕ) → m ≡ lent_of n (length ws) → mid_of 0 (m - 0) ws ≡ take n ws
mid_lent n m ws e = ap (λ (k : ℕ). take k ws) (sub-zero m ∙ e) ∙ take_lent n ws

post_lent : (n m : ℕ) (ws : List ℕ) → m ≡ lent_of n (length ws) → post_of 0 (m - 0) ws ≡ drop n ws
post_lent n m ws e = ap (λ (k : ℕ). drop k ws) (sub-zero m ∙ e) ∙ drop_lent n ws

-- a call on the lent part, the part put back: the call on the first n words
pub first_by : (s : State) (n m : ℕ) (call : State → Outcome State) (o : Outcome State) → m ≡ lent_of n (length s.words)
    → o ≡ call (with_words s (mid_of 0 (m - 0) s.words)) → before o (post_of 0 (m - 0) s.words) ≡ on_first n call s
unfolding on_first
first_by s n m call o e f =
    ap (λ (x : Outcome State). before x (post_of 0 (m - 0) s.words)) f
    ∙ ap (λ (xs : List ℕ). before (call (with_words s xs)) (post_of 0 (m - 0) s.words)) (mid_lent n m s.words e)
    ∙ ap (λ (ys : List ℕ). before (call (with_words s (take n s.words))) ys) (post_lent n m s.words e)

-- ---- handing out and taking back

-- a turn's answer from the heap's says what that says
same_outcome : (a : heap.Answer) (q : Record) (ws : List ℕ) → outcome_of (reply_of (in_turn a) q) ws ≡ outcome a (seen q ws)
same_outcome (Ok d) q ws = refl
same_outcome (Err e) q ws = refl

module _ (places : ℕ) (r q : Record) (ws vs : List ℕ) (m : ℕ) (a : heap.Answer) (l : Option Request) (e : m ≡ lent_of r.words (length ws)) where
  -- a call on the heap in use
  call_by : (call : State → Outcome State) → outcome a (seen q vs) ≡ call (seen r (mid_of 0 (m - 0) ws))
      → outcome_of (reply_of (in_turn a) q) (put_mid 0 (m - 0) ws vs) ≡ on_first r.words call (seen r ws)
  call_by call f = same_outcome a q (put_mid 0 (m - 0) ws vs) ∙ first_by (seen r ws) r.words m call (outcome a (seen q vs)) e f

  -- a size asked of it
  pub hand_by : (size : ℕ) → l ≡ Some (HandOut size) → HandsOut places r (mid_of 0 (m - 0) ws) size (record { answer = a; rec = q }) vs
      → outcome_of (reply_of (in_turn a) q) (put_mid 0 (m - 0) ws vs) ≡ turned places (seen r ws) l
  hand_by size h f = call_by (λ s. hand base 65529 places s size) f ∙ sym (ap (λ (x : Option Request). turned places (seen r ws) x) h)

  -- a payload given back to it
  pub back_by : (p : ℕ) → l ≡ Some (TakeBack p) → TakesBack places r (mid_of 0 (m - 0) ws) p (record { answer = a; rec = q }) vs
      → outcome_of (reply_of (in_turn a) q) (put_mid 0 (m - 0) ws vs) ≡ turned places (seen r ws) l
  back_by p h f = call_by (λ s. back base 65529 places s p) f ∙ sym (ap (λ (x : Option Request). turned places (seen r ws) x) h)

-- ---- making

-- a heap made, or not
abbrev made_or : List ℕ → Bool → Outcome State
made_or ws b = pick b (says 0 0 0 (one_chunk (ops narrow) (fresh ws) (4 * (length ws - 1)))) (says 6 0 0 (empty ws))

-- a refused making says 6, compares nothing and leaves the words
refused : (ws : List ℕ) → ((make narrow 65529 ws).number ≡ 0 → ⊥)
    → ((make narrow 65529 ws).number ≡ 6) × ((make narrow 65529 ws).compared ≡ 0) × ((make narrow 65529 ws).after.words ≡ ws)
unfolding make
refused ws = go (acceptedᵇ 65529 (length ws))
  where
    go : (b : Bool) → ((made_or ws b).number ≡ 0 → ⊥)
        → ((made_or ws b).number ≡ 6) × ((made_or ws b).compared ≡ 0) × ((made_or ws b).after.words ≡ ws)
    go true z = absurd (z refl)
    go false z = (refl, refl, refl)

-- no refusal has the number 0
number_some : (e : Refusal) → number_of e ≡ 0 → ⊥
number_some ZeroSize h = omega (arith, h)
number_some TooLarge h = omega (arith, h)
number_some (NoFit c) h = omega (arith, h)
number_some NotLive h = omega (arith, h)
number_some Damaged h = omega (arith, h)
number_some BadLength h = omega (arith, h)
number_some NeverFits h = omega (arith, h)

-- an outcome whose number is not 6 is the outcome; one whose number is 6 is that nothing has changed
going_on_lem : (s : State) (o : Outcome State) → (o.number ≡ 6 → ⊥) → o ≡ going_on s o
going_on_lem s o h = sym (ap (λ (b : Bool). pick b (says 6 0 0 s) o) (ne_eqb o.number 6 h))

going_back : (s : State) (o : Outcome State) → o.number ≡ 6 → says 6 0 0 s ≡ going_on s o
going_back s o h = sym (ap (λ (b : Bool). pick b (says 6 0 0 s) o) (eq-eqb o.number 6 h))

-- a length that the memory has
making_fits : (s : State) (n : ℕ) → n ≤ length s.words → going_on s (on_first n (λ t. make narrow 65529 t.words) s) ≡ making s n
unfolding making
making_fits s n h = rw (le-leb n (length s.words) h)

-- more words than the memory has
pub make_more : (r : Record) (ws : List ℕ) (n : ℕ) → length ws < n → outcome_of (reply_of (Err (Heap BadLength)) r) ws ≡ making (seen r ws) n
unfolding making
make_more r ws n h = rw (lt-leb n (length ws) h)

module _ (r q : Record) (ws vs : List ℕ) (n : ℕ) (a : heap.Answer) (fits : n ≤ length ws)
    (f : Makes (mid_of 0 (n - 0) ws) (record { answer = a; rec = q }) vs) where
  -- all n words are lent
  lent_all : n ≡ lent_of n (length ws)
  lent_all = rw (le-leb n (length ws) fits)

  -- the making, before its number is looked at
  made_first : outcome a (seen q (put_mid 0 (n - 0) ws vs)) ≡ on_first n (λ s. make narrow 65529 s.words) (seen r ws)
  made_first = first_by (seen r ws) n n (λ s. make narrow 65529 s.words) (outcome a (seen q vs)) lent_all f

  -- the same with its number looked at
  made_going : going_on (seen r ws) (outcome a (seen q (put_mid 0 (n - 0) ws vs))) ≡ making (seen r ws) n
  made_going = ap (λ (o : Outcome State). going_on (seen r ws) o) made_first ∙ making_fits (seen r ws) n fits

-- a heap made of the first n words
pub make_done : (r q : Record) (ws vs : List ℕ) (n : ℕ) → n ≤ length ws → Makes (mid_of 0 (n - 0) ws) (out_made (Ok q)) vs
    → outcome_of (reply_of (in_turn just_done) q) (put_mid 0 (n - 0) ws vs) ≡ making (seen r ws) n
make_done r q ws vs n fits f =
    going_on_lem (seen r ws) (outcome just_done (seen q (put_mid 0 (n - 0) ws vs))) (λ z. omega (arith, z)) ∙ made_going r q ws vs n just_done fits f

-- a length that the rules refuse: 6, and nothing has changed
pub make_refused : (r : Record) (ws vs : List ℕ) (n : ℕ) (e : NotMade) → n ≤ length ws → Makes (mid_of 0 (n - 0) ws) (out_made (Err e)) vs
    → outcome_of (reply_of (Err (Heap e.refusal)) r) (put_mid 0 (n - 0) ws vs) ≡ making (seen r ws) n
make_refused r ws vs n e fits f =
    let mid : List ℕ = mid_of 0 (n - 0) ws in
    let no = refused mid (λ z. number_some e.refusal (ap (λ (o : Outcome State). o.number) f ∙ z)) in
    let six : number_of e.refusal ≡ 6 = ap (λ (o : Outcome State). o.number) f ∙ no.0 in
    let none : count_of e.refusal ≡ 0 = ap (λ (o : Outcome State). o.compared) f ∙ no.1 in
    let kept : put_mid 0 (n - 0) ws vs ≡ ws =
    ap (λ (x : List ℕ). put_mid 0 (n - 0) ws x) (ap (λ (o : Outcome State). o.after.words) f ∙ no.2) ∙ put_same 0 (n - 0) ws in
    ap (λ (x : List ℕ). says (number_of e.refusal) 0 (count_of e.refusal) (seen r x)) kept
    ∙ ap (λ (k : ℕ). says k 0 (count_of e.refusal) (seen r ws)) six
    ∙ ap (λ (k : ℕ). says 6 0 k (seen r ws)) none
    ∙ going_back (seen r ws) (outcome (Err e.refusal) (seen e.rec (put_mid 0 (n - 0) ws vs))) six
    ∙ made_going r e.rec ws vs n (Err e.refusal) fits f
