-- AS THE RULES WITHOUT MEMORY: layout, six orders, figures and answers, after a call and after any run; and one step of demand 3, by itself. Assumes nothing.
--     one_step, run_steps, run_answers     what a machine that has no memory does
--     same_seen, alike_at_handout     two runs of the same requests: what they have in common, and the words of what is then handed out
--     alike_made, alike_call, alike_stores, alike_turned, alike_live     two heaps that show one model
use mathlib.Core.Path.{◌≡◌, refl, sym, ap, ◌∙◌, subst}
use mathlib.Core.List.{List}
use Prim.Native.Nat.{ℕ}
use lib.ListN.{length, set}
use Rattle.words.specs.Tags.{at}
use Rattle.rules.specs.Rules.Calls.{Outcome}
use Rattle.rules.specs.Rules.Making.{State}
use Rattle.rules.specs.Sound.Model.{Model}
use Rattle.rules.specs.Machine.Machine.{Request, made_m, steps_m, replies_m, answer_of, call_m}
use Rattle.rules.specs.Machine.Machine as rule
use Rattle.rules.specs.Sound.Sound.{Shows}
use Rattle.rules.specs.Demands.Meaning.{LiveAt, Holds}
use Rattle.rules.specs.Demands.Events.{Event, requests, run}
use Rattle.rules.specs.Demands.TwoHeaps.{acts, Same}
use Rattle.rules.specs.Demands.Demands.{Demands}
use Rattle.rules.proofs.Demands.Proved.{narrow_demands, narrow_edition}
use Rattle.rules.proofs.Demands.Promises.{narrow_promises}
use Rattle.rules.proofs.Demands.Runs.{steps_machine, replies_machine, write_shows}
use Rattle.heap.specs.declared.record.Record.{Record}
use Rattle.heap.specs.Seen.{seen, base}
use Rattle.heap.specs.Answer.{Out, number, value, said}
use Rattle.heap.specs.Promises.{Makes, HandsOut, Calls, LiveIn, FromMaking, ShowsIn, live_in}
use Rattle.heap.proofs.Histories.{after_call, history, answer_call}
use Rattle.rules.specs.Demands.Promises.{Promises}
use Rattle.rules.proofs.Demands.Lives.{live_shown}
use Rattle.rules.proofs.Demands.LiveWords.{live_length, live_found}
use Rattle.heap.proofs.Promises.Kept.{made_sound}
use Rattle.heap.proofs.Promises.Lives.{empty_there}

module _ (places : ℕ) where
  -- the demands, of narrow links
  ours : Demands base 65529 places
  ours = narrow_demands places

  -- the further promises, of narrow links
  told : Promises base 65529 places
  told = narrow_promises places

  -- a call on a heap that shows the model m answers as the rules without memory answer to m, and leaves a heap that shows what they leave
  pub one_step : (r : Record) (ws vs : List ℕ) (k : Request) (o : Out) (m : Model)
      → Calls places k r ws o vs
      → ShowsIn places r ws m
      → (said o.answer ≡ answer_of (call_m places k m))
      × ShowsIn places o.rec vs (call_m places k m).after
  one_step r ws vs k o m e h =
      let w = told.step k (seen r ws) m h in
      let s = after_call places r ws vs k o e in
      (answer_call places r ws vs k o e ∙ w.0, subst (λ (v : State). Shows base 65529 places v (call_m places k m).after) (sym s) w.1)

  -- what a heap from making on showed at first
  pub made_shown : (n : ℕ) (es : List (Event Request)) (bs : List rule.Answer) (q : Record) (vs : List ℕ) (x : FromMaking places n es bs q vs)
      → ShowsIn places x.out.rec x.words (made_m n)
  made_shown n es bs q vs x =
      subst (λ (k : ℕ). ShowsIn places x.out.rec x.words (made_m k)) x.long (made_sound places x.memory x.words x.out x.makes x.made)

  -- after any run from making on, whatever the memory held and tasks wrote: the model of the requests alone
  pub run_steps : (n : ℕ) (es : List (Event Request)) (bs : List rule.Answer) (q : Record) (vs : List ℕ)
      → FromMaking places n es bs q vs
      → ShowsIn places q vs (steps_m places (requests es) (made_m n))
  run_steps n es bs q vs x =
      let a = history places x.runs in
      subst (λ (v : State). Shows base 65529 places v (steps_m places (requests es) (made_m n))) (sym a.2)
      (subst (Shows base 65529 places (run (acts base 65529 places) es (seen x.out.rec x.words))) (steps_machine places (requests es) (made_m n))
      (told.runs es (seen x.out.rec x.words) (made_m n) (made_shown n es bs q vs x) a.0))

  -- and the answers are those to the requests alone
  pub run_answers : (n : ℕ) (es : List (Event Request)) (bs : List rule.Answer) (q : Record) (vs : List ℕ)
      → FromMaking places n es bs q vs
      → bs ≡ replies_m places (requests es) (made_m n)
  run_answers n es bs q vs x =
      let a = history places x.runs in
      let h = made_shown n es bs q vs x in
      let s = seen x.out.rec x.words in
      a.1 ∙ (ours.runs es es s s (made_m n) refl h h a.0 a.0).0 ∙ replies_machine places (requests es) (made_m n)

  -- two heaps show one model: the same layout, orders and figures, whatever else their words hold
  abbrev pub Alike : Record → List ℕ → Record → List ℕ → Type 0
  Alike r ws q us = (m : Model) × ShowsIn places r ws m × ShowsIn places q us m

  -- two heaps made with one length are alike
  pub alike_made : (ws vs us xs : List ℕ) (o p : Out)
      → length ws ≡ length us
      → Makes ws o vs
      → Makes us p xs
      → number o.answer ≡ 0
      → number p.answer ≡ 0
      → Alike o.rec vs p.rec xs
  alike_made ws vs us xs o p l e d z y =
      (made_m (length ws), made_sound places ws vs o e z, subst (λ (n : ℕ). ShowsIn places p.rec xs (made_m n)) (sym l) (made_sound places us xs p d y))

  -- one request leaves them alike, and is answered alike
  pub alike_call : (r q : Record) (ws vs us xs : List ℕ) (k : Request) (o p : Out)
      → Alike r ws q us
      → Calls places k r ws o vs
      → Calls places k q us p xs
      → (said o.answer ≡ said p.answer)
      × Alike o.rec vs p.rec xs
  alike_call r q ws vs us xs k o p a e d =
      let x = one_step r ws vs k o a.0 e a.1 in
      let y = one_step q us xs k p a.0 d a.2 in
      (x.0 ∙ sym y.0, ((call_m places k a.0).after, x.1, y.1))

  -- a task stores into a payload live in the first heap
  pub alike_stores : (r q : Record) (ws us : List ℕ) (i v : ℕ)
      → Alike r ws q us
      → LiveIn places r ws i
      → Alike r (set ws i v) q us
  alike_stores r q ws us i v a l =
      let E = narrow_edition places in
      (a.0, write_shows E (seen r ws) a.0 i v a.1 (live_found E (seen r ws) i l.1.0 l.0 l.1.1), a.2)

  -- the other way round
  pub alike_turned : (r q : Record) (ws us : List ℕ)
      → Alike r ws q us
      → Alike q us r ws
  alike_turned r q ws us a = (a.0, a.2, a.1)

  -- the same payloads are live, with the same lengths
  pub alike_live : (r q : Record) (ws us : List ℕ) (p : ℕ)
      → Alike r ws q us
      → live_in r ws p ≡ live_in q us p
  alike_live r q ws us p a =
      live_shown (narrow_edition places) (seen r ws) a.0 a.1 p ∙ sym (live_shown (narrow_edition places) (seen q us) a.0 a.2 p)

  -- ---- TWO RUNS

  -- what the two runs have in common, but for the records
  pub same_seen : (n : ℕ) (es fs : List (Event Request)) (bs cs : List rule.Answer) (q t : Record) (vs us : List ℕ)
      → FromMaking places n es bs q vs
      → FromMaking places n fs cs t us
      → requests es ≡ requests fs
      → (bs ≡ cs) × Same base 65529 places (seen q vs) (seen t us)
  same_seen n es fs bs cs q t vs us x y s =
      let a = history places x.runs in
      let b = history places y.runs in
      let first = seen x.out.rec x.words in
      let second = seen y.out.rec y.words in
      let r = ours.runs es fs first second (made_m n) s (made_shown n es bs q vs x) (made_shown n fs cs t us y) a.0 b.0 in (
        a.1 ∙ r.1 ∙ sym b.1,
        subst (λ (v : State). Same base 65529 places v (seen t us)) (sym a.2)
            (subst (λ (v : State). Same base 65529 places (run (acts base 65529 places) es first) v) (sym b.2) r.2),
      )

  -- the two runs of `demand_3_two_runs`, and the same handout after each
  pub alike_at_handout : (n size i : ℕ) (es fs : List (Event Request)) (bs cs : List rule.Answer) (q t : Record) (vs vs₁ us us₁ : List ℕ) (a b : Out)
      → FromMaking places n es bs q vs
      → FromMaking places n fs cs t us
      → requests es ≡ requests fs
      → HandsOut places q vs size a vs₁
      → HandsOut places t us size b us₁
      → number a.answer ≡ 0
      -- word i lies in the payload that the first heap handed out
      → Holds (value a.answer) (live_in a.rec vs₁ (value a.answer)) i
      → at vs₁ i ≡ at us₁ i
  alike_at_handout n size i es fs bs cs q t vs vs₁ us us₁ a b x y s ha hb z w =
      let r = (same_seen n es fs bs cs q t vs us x y s).1 in
      let sa = ap (λ (o : Outcome State). o.after) ha in
      let va = ap (λ (o : Outcome State). o.value) ha in
      let e = empty_there places q vs vs₁ size a ha z in
      let l = live_length (narrow_edition places) (seen a.rec vs₁) e.0 e.1 (value a.answer) e.2.0 e.2.1 in
      let f = ours.alike (seen q vs) (seen t us) r.shows e.0 size r.left r.right (sym (ap (λ (o : Outcome State). o.number) ha) ∙ z)
      (subst (λ (v : State). Shows base 65529 places v e.0) sa e.1) e.2.0 i (subst (λ (p : ℕ). LiveAt e.0 p e.2.0) va e.2.1)
      (subst (λ (p : ℕ). Holds p e.2.0 i) va (subst (λ (k : ℕ). Holds (value a.answer) k i) l w)) in
      ap (λ (v : State). at v.words i) sa ∙ f ∙ sym (ap (λ (o : Outcome State). at o.after.words i) hb)
