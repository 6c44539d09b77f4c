-- DOCUMENT 01, "Reckoned by hand": the P entries, as one table and one claim about the rules themselves. A table is true of a kind of heap, so that another
-- link width or number of cache places can be held to it too.
use Rattle.std.specs.Prelude.{◌≡◌, refl, Bool, true, ◌&&◌, List, [], ◌∷◌, ℕ, eqb, get_or, replicate}
use Rattle.words.specs.Sizes.{rounded_of, class_of}
use Rattle.words.specs.Links.{set_link_at}
use Rattle.rules.specs.Rules.Steps.{unlink, link, set_left, clear_left, mark_free, mark_used, one_chunk, return_excess, take_chunk, cleared, emptied}
use Rattle.rules.specs.Rules.Steps.{left_free, right_free, merge, merged, release_chunk}
use Rattle.rules.specs.Rules.State.{ops}
use Rattle.rules.specs.Rules.Search.{find, in_turn}
use Rattle.rules.specs.Rules.Place.{used_at, tile}
use Rattle.rules.specs.Rules.Lists.{walk}
use Rattle.rules.specs.Sound.Exact.{frees}
use Rattle.rules.specs.Rules.Calls.{Outcome, choose, listed, empty_cache, first_fit, from_merged, from_list, from_cache, serve, hand_out, live, settled, take_back}
use Rattle.rules.specs.Rules.Making.{State, make}
use Rattle.rules.specs.Machine.Machine.{Request, ask, give}
use Rattle.rules.specs.Sound.Test.{legalᵇ, calmᵇ, tagsᵇ, segᵇ, belowᵇ, everyᵇ, slotᵇ, exactᵇ, distinctᵇ, underᵇ, cacheᵇ, figuresᵇ, showsᵇ, candidate, soundᵇ}
use Rattle.rules.specs.Demands.TwoHeaps.{call}
use Rattle.rules.specs.Demands.Kind.{Kind, one, four}

-- n words of 0 made, and the last outcome of these requests
abbrev pub made : Kind → ℕ → Outcome State
made k n = make k.links k.most (replicate n 0)

abbrev pub after : Kind → Outcome State → List Request → Outcome State
after k o [] = o
after k o (q ∷ qs) = after k (call (ops k.links) k.most k.places q o.after) qs

pub data Entry : Type 0 where
  -- making n words answers a
  making : ℕ → ℕ → Entry
  -- n words made, these requests: the last is answered so: number, value, compared
  last : ℕ → List Request → ℕ → ℕ → ℕ → Entry
  -- n words made, these requests: word i is v
  word : ℕ → List Request → ℕ → ℕ → Entry
  -- n words made: sentinel j links both ways to l
  links : ℕ → ℕ → ℕ → Entry
  -- a size rounds to
  rounds : ℕ → ℕ → Entry

abbrev pub right : Kind → Entry → Bool
right k (making n a) = eqb (made k n).number a
right k (last n qs a v c) = let o : Outcome State = after k (made k n) qs in eqb o.number a && (eqb o.value v && eqb o.compared c)
right k (word n qs i v) = eqb (get_or (after k (made k n) qs).after.words i 0) v
right k (links n j l) = eqb (get_or (made k n).after.nexts j 0) l && eqb (get_or (made k n).after.prevs j 0) l
right k (rounds n r) = eqb (rounded_of n) r

abbrev pub all : Kind → List Entry → Bool
all k [] = true
all k (e ∷ es) = right k e && all k es

abbrev pub table : List Entry
table =
    -- 4 words, 65,530, 65,531: refused 6; 65,529: made
    making 4 6 ∷ making 65530 6 ∷ making 65531 6 ∷ making 65529 0
    -- 33 words made: words 0, 1, 31, 32; sentinel 3
    ∷ word 33 [] 0 129 ∷ word 33 [] 1 196611 ∷ word 33 [] 31 128 ∷ word 33 [] 32 2 ∷ links 33 3 6
    -- 5 words and 7 words, ask 1: never fits
    ∷ last 5 (ask 1 ∷ []) 8 0 0 ∷ last 7 (ask 1 ∷ []) 8 0 0
    -- 9 words, ask 12: offset 4, 16 left over; ask 1 next: no fit
    ∷ last 9 (ask 12 ∷ []) 0 4 1 ∷ word 9 (ask 12 ∷ []) 4 17 ∷ last 9 (ask 12 ∷ ask 1 ∷ []) 3 0 0
    -- 9 words, ask 20: the whole 32; ask 28: never fits, not even with the 32 cached
    ∷ last 9 (ask 20 ∷ []) 0 4 1 ∷ word 9 (ask 20 ∷ []) 0 35 ∷ last 9 (ask 28 ∷ []) 8 0 0
    ∷ last 9 (ask 20 ∷ give 4 ∷ ask 28 ∷ []) 8 0 0
    -- sizes 1 and 12 round to 16, 13 to 24
    ∷ rounds 1 16 ∷ rounds 12 16 ∷ rounds 13 24
    -- size 4,294,967,284 rounds to 4,294,967,288: never fits; 4,294,967,285: refused 2
    ∷ rounds 4294967284 4294967288 ∷ last 33 (ask 4294967284 ∷ []) 8 0 0 ∷ last 33 (ask 4294967285 ∷ []) 2 0 0
    -- cached 536 serves s = 24; cached 544 doesn't
    ∷ last 333 (ask 532 ∷ give 4 ∷ ask 13 ∷ []) 0 4 0 ∷ last 333 (ask 540 ∷ give 4 ∷ ask 13 ∷ []) 0 548 1
    -- 9 words, ask 12, free it, ask 20: served once the cache is emptied
    ∷ last 9 (ask 12 ∷ give 4 ∷ ask 20 ∷ []) 0 4 1
    -- 17 words, ask 12 three times, free two, ask 28: emptied or not, 32 bytes do not reach 64
    ∷ last 17 (ask 12 ∷ ask 12 ∷ ask 12 ∷ give 4 ∷ give 20 ∷ ask 28 ∷ []) 3 0 0
    -- no fit counts both searches, with nothing cached too; and all is as it was: the cached chunk still serves. In 131 words it could never fit
    ∷ last 131 (ask 541 ∷ []) 8 0 0 ∷ last 139 (ask 12 ∷ ask 541 ∷ []) 3 0 2 ∷ last 139 (ask 12 ∷ ask 4 ∷ give 4 ∷ ask 541 ∷ []) 3 0 2
    ∷ last 139 (ask 12 ∷ ask 4 ∷ give 4 ∷ ask 541 ∷ ask 12 ∷ []) 0 4 0
    ∷ []

-- where one place and four differ: two chunks given back, and a request that both serve; first with one place
abbrev pub newest : List Entry
newest = last 13 (ask 12 ∷ ask 12 ∷ give 4 ∷ give 20 ∷ ask 12 ∷ []) 0 20 0 ∷ []

-- and with four
abbrev pub bursts : List Entry
bursts =
    -- the oldest of two is handed out, whichever stands left
    last 13 (ask 12 ∷ ask 12 ∷ give 4 ∷ give 20 ∷ ask 12 ∷ []) 0 4 0 ∷ last 13 (ask 12 ∷ ask 12 ∷ give 20 ∷ give 4 ∷ ask 12 ∷ []) 0 20 0
    -- one handed out again, the other is the oldest then
    ∷ last 13 (ask 12 ∷ ask 12 ∷ give 4 ∷ give 20 ∷ ask 12 ∷ ask 12 ∷ []) 0 20 0
    -- the oldest that serves: 16 bytes are too short for 20
    ∷ last 25 (ask 12 ∷ ask 20 ∷ give 4 ∷ give 20 ∷ ask 20 ∷ []) 0 20 0
    -- a fifth one lets the oldest go: its header says free, and the second is the oldest then
    ∷ word 25 (ask 12 ∷ ask 12 ∷ ask 12 ∷ ask 12 ∷ ask 12 ∷ give 4 ∷ give 20 ∷ give 36 ∷ give 52 ∷ give 68 ∷ []) 0 17
    ∷ last 25 (ask 12 ∷ ask 12 ∷ ask 12 ∷ ask 12 ∷ ask 12 ∷ give 4 ∷ give 20 ∷ give 36 ∷ give 52 ∷ give 68 ∷ ask 12 ∷ []) 0 20 0
    -- three are let go before no, the oldest first: word 8 is the header that the third then had
    ∷ last 17 (ask 12 ∷ ask 12 ∷ ask 12 ∷ give 4 ∷ give 20 ∷ give 36 ∷ ask 20 ∷ []) 0 4 1
    ∷ word 17 (ask 12 ∷ ask 12 ∷ ask 12 ∷ give 4 ∷ give 20 ∷ give 36 ∷ ask 20 ∷ []) 8 18
    -- each cached chunk is cold
    ∷ last 13 (ask 12 ∷ ask 12 ∷ give 4 ∷ give 20 ∷ give 4 ∷ []) 4 0 0 ∷ last 13 (ask 12 ∷ ask 12 ∷ give 4 ∷ give 20 ∷ give 20 ∷ []) 4 0 0
    ∷ []

-- THE ONE CLAIM: document 01's entries with one place and with four, and where the two differ
pub claim : (all one table ≡ true) × (all four table ≡ true) × (all one newest ≡ true) × (all four bursts ≡ true)
unfolding call hand_out take_back live choose listed make serve from_cache from_list from_merged empty_cache first_fit settled link unlink set_left clear_left
    mark_free mark_used one_chunk return_excess take_chunk cleared emptied left_free right_free merge merged release_chunk set_link_at class_of find in_turn
    used_at soundᵇ showsᵇ candidate legalᵇ calmᵇ tagsᵇ segᵇ belowᵇ everyᵇ slotᵇ exactᵇ distinctᵇ underᵇ cacheᵇ figuresᵇ tile walk frees
claim = (refl, refl, refl, refl)
