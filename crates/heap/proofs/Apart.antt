-- Nothing of an outcome is lost when it is seen: two records, words and answers that are seen alike are the same. Nor is anything of what the code
-- returns lost in what a call gives. Assumes nothing.
--     seen_same       record and words
--     outcome_same    answer, record and words
--     out_of_same, out_after_same, out_made_same    what handing out, taking back and making return
use mathlib.Core.Path.{◌≡◌, refl, sym, ap, ◌∙◌}
use mathlib.Core.List.{List, [], ◌∷◌}
use Prim.Native.Nat.{ℕ, zero, suc}
use lib.ListN.{length}
use native.Mathlib.Omega.{arith}
use Rattle.std.specs.Prelude.{Result, Ok, Err}
use Rattle.words.specs.declared.names.Link.{Link}
use Rattle.words.specs.Numbers.{numbers}
use Rattle.words.proofs.Laws.Numbers.{length_numbers}
use Rattle.cache.proofs.Laws.{cached_back}
use Rattle.rules.specs.Rules.Calls.{Outcome}
use Rattle.rules.specs.Rules.Making.{State}
use Rattle.heap.specs.declared.record.Record.{Record}
use Rattle.heap.specs.declared.answer.Done.{Done}
use Rattle.heap.specs.declared.answer.NotMade.{NotMade}
use Rattle.heap.specs.declared.answer.Refusal.{Refusal}
use Rattle.heap.specs.declared.answer.Refusal.TheVariants.{ZeroSize, TooLarge, NoFit, NotLive, Damaged, BadLength, NeverFits}
use Rattle.heap.specs.Seen.{seen, FourPlaces}
use Rattle.heap.specs.Answer.{Answer, Out, number, number_of, value, compared, outcome, out_of, out_after, out_made}

-- an array of links is known by its numbers
abbrev links_of : List ℕ → List Link
links_of [] = []
links_of (n ∷ ns) = record { 0 = n } ∷ links_of ns

links_back : (ls : List Link) → links_of (numbers ls) ≡ ls
links_back [] = refl
links_back (l ∷ ls) = ap (λ (t : List Link). l ∷ t) (links_back ls)

pub numbers_same : (ls ks : List Link) → numbers ls ≡ numbers ks → ls ≡ ks
numbers_same ls ks e = sym (links_back ls) ∙ ap links_of e ∙ links_back ks

-- record and words are known by what is seen of them; the cache's places too, since there are four of them
pub seen_same : (r q : Record) (ws vs : List ℕ) → FourPlaces r → FourPlaces q → seen r ws ≡ seen q vs → (r ≡ q) × (ws ≡ vs)
seen_same r q ws vs fr fq e = (same, ap (λ (s : State). s.words) e)
  where
    prev : r.prev ≡ q.prev
    prev = numbers_same r.prev q.prev (ap (λ (s : State). s.prevs) e)

    next : r.next ≡ q.next
    next = numbers_same r.next q.next (ap (λ (s : State). s.nexts) e)

    long : length (numbers r.cached) ≡ length (numbers q.cached)
    long = length_numbers r.cached ∙ fr ∙ sym (length_numbers q.cached ∙ fq)

    cached : r.cached ≡ q.cached
    cached = numbers_same r.cached q.cached (cached_back (numbers r.cached) (numbers q.cached) long (ap (λ (s : State). s.rest.cached) e))

    same : r ≡ q
    same =
        λ i. record {
          prev = prev i;
          next = next i;
          words = (e i).rest.words;
          in_use = (e i).rest.in_use;
          committed = (e i).rest.committed;
          peak = (e i).rest.peak;
          high = (e i).rest.high;
          cached = cached i;
          fresh = (e i).rest.flag;
        }

-- an answer is known by its three numbers
abbrev answer_of_lem : ℕ → ℕ → ℕ → Answer
answer_of_lem zero v c = Ok (record { payload = record { 0 = v }; compared = c })
answer_of_lem (suc zero) v c = Err ZeroSize
answer_of_lem (suc (suc zero)) v c = Err TooLarge
answer_of_lem (suc (suc (suc zero))) v c = Err (NoFit c)
answer_of_lem (suc (suc (suc (suc zero)))) v c = Err NotLive
answer_of_lem (suc (suc (suc (suc (suc zero))))) v c = Err Damaged
answer_of_lem (suc (suc (suc (suc (suc (suc zero)))))) v c = Err BadLength
answer_of_lem (suc (suc (suc (suc (suc (suc (suc n))))))) v c = Err NeverFits

answer_back : (a : Answer) → answer_of_lem (number a) (value a) (compared a) ≡ a
answer_back (Ok d) = refl
answer_back (Err ZeroSize) = refl
answer_back (Err TooLarge) = refl
answer_back (Err (NoFit c)) = refl
answer_back (Err NotLive) = refl
answer_back (Err Damaged) = refl
answer_back (Err BadLength) = refl
answer_back (Err NeverFits) = refl

-- answer, record and words are known by the outcome
pub outcome_same : (o p : Out) (ws vs : List ℕ) → FourPlaces o.rec → FourPlaces p.rec
    → outcome o.answer (seen o.rec ws) ≡ outcome p.answer (seen p.rec vs) → (o ≡ p) × (ws ≡ vs)
outcome_same o p ws vs fo fp e = (λ i. record { answer = answer i; rec = state.0 i }, state.1)
  where
    state : (o.rec ≡ p.rec) × (ws ≡ vs)
    state = seen_same o.rec p.rec ws vs fo fp (ap (λ (q : Outcome State). q.after) e)

    answer : o.answer ≡ p.answer
    answer = sym (answer_back o.answer) ∙ ap (λ (q : Outcome State). answer_of_lem q.number q.value q.compared) e ∙ answer_back p.answer

-- a handout or a refusal is known by the answer that it gives; a number tells which of the two
abbrev done_in : Answer → Done → Done
done_in (Ok d) c = d
done_in (Err e) c = c

abbrev refusal_in : Answer → Refusal → Refusal
refusal_in (Ok d) f = f
refusal_in (Err e) f = e

no_refusal : (e : Refusal) → 0 ≡ number_of e → ⊥
no_refusal ZeroSize z = omega (arith, z)
no_refusal TooLarge z = omega (arith, z)
no_refusal (NoFit c) z = omega (arith, z)
no_refusal NotLive z = omega (arith, z)
no_refusal Damaged z = omega (arith, z)
no_refusal BadLength z = omega (arith, z)
no_refusal NeverFits z = omega (arith, z)

-- what is returned is known by what the call gives: answer, and the record after it
pub out_of_same : (r : Record) (a b : Result (Done × Record) Refusal) → out_of r a ≡ out_of r b → a ≡ b
out_of_same r (Ok d) (Ok e) s = λ i. Ok (done_in (s i).answer d.0, (s i).rec)
out_of_same r (Ok d) (Err e) s = absurd (no_refusal e (ap (λ (o : Out). number o.answer) s))
out_of_same r (Err e) (Ok d) s = absurd (no_refusal e (sym (ap (λ (o : Out). number o.answer) s)))
out_of_same r (Err e) (Err f) s = λ i. Err (refusal_in (s i).answer e)

pub out_after_same : (r : Record) (a b : Result Record Refusal) → out_after r a ≡ out_after r b → a ≡ b
out_after_same r (Ok q) (Ok p) s = λ i. Ok (s i).rec
out_after_same r (Ok q) (Err e) s = absurd (no_refusal e (ap (λ (o : Out). number o.answer) s))
out_after_same r (Err e) (Ok q) s = absurd (no_refusal e (sym (ap (λ (o : Out). number o.answer) s)))
out_after_same r (Err e) (Err f) s = λ i. Err (refusal_in (s i).answer e)

pub out_made_same : (a b : Result Record NotMade) → out_made a ≡ out_made b → a ≡ b
out_made_same (Ok q) (Ok p) s = λ i. Ok (s i).rec
out_made_same (Ok q) (Err e) s = absurd (no_refusal e.refusal (ap (λ (o : Out). number o.answer) s))
out_made_same (Err e) (Ok q) s = absurd (no_refusal e.refusal (sym (ap (λ (o : Out). number o.answer) s)))
out_made_same (Err e) (Err f) s = λ i. Err (record { rec = (s i).rec; refusal = refusal_in (s i).answer e.refusal })
