-- WHAT THE PUBLIC CALLS PROMISE, with any number of cache places, and runs of a heap whose calls keep to it. The contracts of src/calls.rt are these; the
-- demands (proofs/Demands.antt) speak of nothing else.
use Rattle.std.specs.Prelude.{◌≡◌, List, [], ◌∷◌, ℕ, ◌-◌, ◌*◌, ◌<◌, length, set}
use Rattle.words.specs.Links.{narrow}
use Rattle.words.specs.Sizes.{threshold_of}
use Rattle.rules.specs.Rules.Making.{make}
use Rattle.rules.specs.Rules.Calls.{hand_out, take_back, live}
use Rattle.rules.specs.Sound.Sound.{Shows, Sound}
use Rattle.rules.specs.Demands.Meaning.{Holds}
use Rattle.rules.specs.Demands.Promises.{Unfit}
use Rattle.rules.specs.Sound.Model.{Model}
use Rattle.rules.specs.Machine.Machine.{Request, ask, give}
use Rattle.rules.specs.Machine.Machine as rule
use Rattle.rules.specs.Demands.Events.{Event, asks, writes}
use Rattle.heap.specs.declared.record.Record.{Record}
use Rattle.heap.specs.Seen.{seen, base}
use Rattle.heap.specs.Answer.{Out, said, number, outcome, sound_at}

-- making over the words ws gives o and the words vs
abbrev pub Makes : List ℕ → Out → List ℕ → Type 0
Makes ws o vs = outcome o.answer (seen o.rec vs) ≡ make narrow 65529 ws

-- LIVE: the length of the live chunk whose payload begins at offset p; 0 where none does
abbrev pub live_in : Record → List ℕ → ℕ → ℕ
live_in r ws p = live base (seen r ws) p

-- NEVER: the threshold for z bytes exceeds the heap's bytes less 4
abbrev pub NeverIn : List ℕ → ℕ → Type 0
NeverIn ws z = 4 * (length ws - 1) < threshold_of z

module _ (places : ℕ) where
  -- asked for a size, the record r over the words ws gives o and the words vs
  abbrev pub HandsOut : Record → List ℕ → ℕ → Out → List ℕ → Type 0
  HandsOut r ws size o vs = outcome o.answer (seen o.rec vs) ≡ hand_out base (sound_at places) (seen r ws) size

  -- given back the payload at offset p, it gives o and the words vs
  abbrev pub TakesBack : Record → List ℕ → ℕ → Out → List ℕ → Type 0
  TakesBack r ws p o vs = outcome o.answer (seen o.rec vs) ≡ take_back base places (sound_at places) (seen r ws) p

  -- a request of either kind
  abbrev pub Calls : Request → Record → List ℕ → Out → List ℕ → Type 0
  Calls (ask size) r ws o vs = HandsOut r ws size o vs
  Calls (give p) r ws o vs = TakesBack r ws p o vs

  -- record and words show the model m: its layout, its six orders and its figures
  abbrev pub ShowsIn : Record → List ℕ → Model → Type 0
  ShowsIn r ws m = Shows base 65529 places (seen r ws) m

  -- record and words are sound
  abbrev pub SoundIn : Record → List ℕ → Type 0
  SoundIn r ws = Sound base 65529 places (seen r ws)

  -- nothing fits z bytes, but may at another time: they are sound, no cached chunk serves, and no free chunk of the layout with the cache emptied reaches the threshold
  abbrev pub UnfitIn : Record → List ℕ → ℕ → Type 0
  UnfitIn r ws z = Unfit base 65529 places (seen r ws) z

  -- word i lies in a payload that is live at this moment
  abbrev pub LiveIn : Record → List ℕ → ℕ → Type 0
  LiveIn r ws i = SoundIn r ws × ((p : ℕ) × Holds p (live_in r ws p) i)

-- A RUN from record r and words ws to q and vs, all calls with one number of cache places: requests, each given what the last call and the tasks' writes
-- left, and tasks' writes of any value into words of payloads live at that moment; the answers in order
pub data Run (places : ℕ) : Record → List ℕ → List (Event Request) → List rule.Answer → Record → List ℕ → Type 0 where
  done : {r : Record} {ws : List ℕ} → Run places r ws [] [] r ws
  calls : {r q : Record} {ws us vs : List ℕ} {es : List (Event Request)} {bs : List rule.Answer} {k : Request} (o : Out)
      → Calls places k r ws o us → Run places o.rec us es bs q vs → Run places r ws (asks k ∷ es) (said o.answer ∷ bs) q vs
  stores : {r q : Record} {ws vs : List ℕ} {es : List (Event Request)} {bs : List rule.Answer} {i v : ℕ}
      → LiveIn places r ws i → Run places r (set ws i v) es bs q vs → Run places r ws (writes i v ∷ es) bs q vs

-- FROM MAKING ON: n words, whatever they held, are made a heap, and a run follows, with these events and answers, to q and vs
pub record FromMaking (places n : ℕ) (es : List (Event Request)) (bs : List rule.Answer) (q : Record) (vs : List ℕ) : Type 0 where
  pub memory : List ℕ
  pub long : length memory ≡ n
  pub out : Out
  pub words : List ℕ
  pub makes : Makes memory out words
  pub made : number out.answer ≡ 0
  pub runs : Run places out.rec words es bs q vs
