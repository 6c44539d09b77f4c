-- WHAT THE DOORS ALLOW: one outcome each, and after a refusal record and words as they were. Firmware knows of a door only its contract (src/lib.rt).
-- Assumes nothing.
--     doors_determined     any two outcomes that a contract allows coincide
--     doors_refused        after every number but 0 the record and the words are as they were, making's 6 too
--     map_door_determined, map_door_refused     the same of the map's door
use mathlib.Core.Path.{◌≡◌, refl, sym, ap, ◌∙◌, subst}
use mathlib.Core.Logic.{◌≢◌}
use mathlib.Core.Bool.{Bool, true, false}
use mathlib.Core.List.{List}
use Prim.Native.Nat.{ℕ}
use lib.Dec.{eqb}
use lib.ListN.{length}
use borrow.Author.Tests.{eqb-true}
use Rattle.words.specs.Choice.{pick}
use Rattle.words.specs.Links.{narrow}
use Rattle.rules.specs.Rules.Calls.{Outcome, says}
use Rattle.rules.specs.Rules.Making.{State, make, acceptedᵇ}
use Rattle.rules.specs.Demands.Meaning.{hand, back}
use Rattle.rules.specs.Machine.Machine.{ask, give}
use Rattle.rules.specs.Demands.TwoHeaps.{call}
use Rattle.rules.specs.Sound.Sound.{Accepted}
use Rattle.rules.proofs.Demands.Proved.{narrow_demands, narrow_making}
use Rattle.rules.proofs.Demands.Editions.{accepted_true}
use Rattle.heap.specs.declared.record.Record.{Record}
use Rattle.rules.specs.Demands.Kind.{four}
use Rattle.heap.specs.Seen.{seen, base, FourPlaces}
use Rattle.heap.proofs.Apart.{seen_same}
use Rattle.map.specs.Calls.{written}
use Rattle.map.proofs.Told.{written_kept}
use Rattle.door.specs.declared.reply.Reply.{Reply}
use Rattle.door.specs.Reply.{replied, make_over}

-- the doors that change a record where it lies
pub data Door : Type 0 where
  making : ℕ → Door
  handing_out : ℕ → Door
  taking_back : ℕ → Door

-- what a state becomes by the contract of each, with this many cache places
abbrev pub through : ℕ → Door → State → Outcome State
through places (making n) s = make_over s n
through places (handing_out size) s = hand base 65529 places s size
through places (taking_back p) s = back base 65529 places s p

-- through the door d the record r over the words ws gives the reply a, and q and vs are left there
abbrev pub Replies : ℕ → Door → Record → List ℕ → Reply → Record → List ℕ → Type 0
Replies places d r ws a q vs = replied a (seen q vs) ≡ through places d (seen r ws)

-- one outcome
pub doors_determined : (places : ℕ) (d : Door) (r q t : Record) (ws vs us : List ℕ) (a b : Reply)
    → Replies places d r ws a q vs
    → Replies places d r ws b t us
    -- the records have four places for cached chunks, as their type says
    → FourPlaces q
    → FourPlaces t
    → (a ≡ b) × (q ≡ t) × (vs ≡ us)
doors_determined places d r q t ws vs us a b e f fq ft =
    let g : replied a (seen q vs) ≡ replied b (seen t us) = e ∙ sym f in
    let s = seen_same q t vs us fq ft (ap (λ (o : Outcome State). o.after) g) in
    (λ i. record { number = (g i).number; value = (g i).value; compared = (g i).compared }, s.0, s.1)

-- making over: 6 leaves the state, and nothing else than 6 and 0 is said
over_kept : (s : State) (n : ℕ) → (make_over s n).number ≢ 0 → (make_over s n).after ≡ s
unfolding make_over
over_kept s n = go (eqb n (length s.words)) refl (acceptedᵇ 65529 n) refl
  where
    go : (t : Bool) → eqb n (length s.words) ≡ t → (u : Bool) → acceptedᵇ 65529 n ≡ u
        → (pick t (pick u (make narrow 65529 s.words) (says 6 0 0 s)) (says 6 0 0 s)).number ≢ 0
        → (pick t (pick u (make narrow 65529 s.words) (says 6 0 0 s)) (says 6 0 0 s)).after ≡ s
    go false e u f h = refl
    go true e false f h = refl
    go true e true f h =
        let lent : Accepted 65529 (length s.words) = subst (Accepted 65529) (eqb-true n (length s.words) e) (accepted_true 65529 n f) in
        absurd (h ((narrow_making four.places s.words).0.1 lent))

-- each of the three keeps the state it refuses
kept : (places : ℕ) (d : Door) (s : State) → (through places d s).number ≢ 0 → (through places d s).after ≡ s
unfolding call
kept places (making n) s h = over_kept s n h
kept places (handing_out size) s h = (narrow_demands places).refused (ask size) s h
kept places (taking_back p) s h = (narrow_demands places).refused (give p) s h

-- a refusal changes nothing
pub doors_refused : (places : ℕ) (d : Door) (r q : Record) (ws vs : List ℕ) (a : Reply)
    → Replies places d r ws a q vs
    → a.number ≢ 0
    → FourPlaces q
    → FourPlaces r
    → (q ≡ r) × (vs ≡ ws)
doors_refused places d r q ws vs a e h fq fr =
    seen_same q r vs ws fq fr (ap (λ (o : Outcome State). o.after) e ∙ kept places d (seen r ws) (λ z. h (ap (λ (o : Outcome State). o.number) e ∙ z)))

-- the map's door: the room after it
abbrev pub RepliesMap : ℕ → Record → List ℕ → List ℕ → Reply → List ℕ → Type 0
RepliesMap places r ws room a x = replied a x ≡ written places (seen r ws) room

-- one outcome of the map's door
pub map_door_determined : (places : ℕ) (r : Record) (ws room x y : List ℕ) (a b : Reply)
    → RepliesMap places r ws room a x
    → RepliesMap places r ws room b y
    → (a ≡ b) × (x ≡ y)
map_door_determined places r ws room x y a b e f =
    let g : replied a x ≡ replied b y = e ∙ sym f in
    (λ i. record { number = (g i).number; value = (g i).value; compared = (g i).compared }, λ i. (g i).after)

-- a refused map leaves the room
pub map_door_refused : (places : ℕ) (r : Record) (ws room x : List ℕ) (a : Reply)
    → RepliesMap places r ws room a x
    → a.number ≢ 0
    → x ≡ room
map_door_refused places r ws room x a e h =
    ap (λ (o : Outcome (List ℕ)). o.after) e ∙ written_kept places r ws room (λ z. h (ap (λ (o : Outcome (List ℕ)). o.number) e ∙ z))
