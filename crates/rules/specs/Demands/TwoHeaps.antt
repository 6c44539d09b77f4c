-- WHAT DEMAND 3 SPEAKS OF: runs of a heap with the words that its tasks may write, the machine without memory, and what two heaps have in common.
use Rattle.std.specs.Prelude.{◌≡◌, List, ◌∷◌, ℕ, ◌<◌}
use Rattle.rules.specs.Rules.Lists.{Mem}
use Rattle.rules.specs.Rules.Ops.{Ops}
use Rattle.rules.specs.Sound.Tags.{Tag}
use Rattle.rules.specs.Demands.Events.{Acts}
use Rattle.rules.specs.Demands.Events as two
use Rattle.rules.specs.Rules.Calls.{Figures, Outcome}
use Rattle.rules.specs.Sound.Model.{Model}
use Rattle.rules.specs.Machine.Machine.{Request, ask, give, Answer, answer_of, call_m}
use Rattle.rules.specs.Sound.Sound.{Shows}
use Rattle.rules.specs.Demands.Meaning.{LiveWord, hand, back}

-- the rules without memory as a machine
abbrev pub machine : ℕ → two.Machine Model Request Answer
machine places = record { step = λ q m. (call_m places q m).after; reply = λ q m. answer_of (call_m places q m) }

module _ {S : Type 0} (op : Ops S Figures) (most places : ℕ) where
  -- a request to a state
  unfoldable pub call : Request → S → Outcome S
  call (ask n) s = hand op most places s n
  call (give p) s = back op most places s p

  -- word i lies in a payload live at this moment
  abbrev pub Live : S → ℕ → Type 0
  Live s i = (m : Model) × Shows op most places s m × LiveWord m i

  -- requests and stores, as runs are made of them
  abbrev pub acts : Acts S Request Answer
  acts = record { call = λ q s. (call q s).after; answer = λ q s. answer_of (call q s); write = op.set_word; Live = Live }

  -- the same layout and record; the same headers, footers and guard; the same links of every sentinel and free chunk
  pub record Same (s t : S) : Type 0 where
    pub shows : Model
    pub left : Shows op most places s shows
    pub right : Shows op most places t shows
    pub tags : (i : ℕ) → Tag 0 shows.cs i → op.word s i ≡ op.word t i
    pub nexts : (k x : ℕ) → k < 6 → Mem x (k ∷ shows.orders k) → op.next s x ≡ op.next t x
    pub prevs : (k x : ℕ) → k < 6 → Mem x (k ∷ shows.orders k) → op.prev s x ≡ op.prev t x
