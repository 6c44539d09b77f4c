-- THE RULES WITHOUT MEMORY: the same calls on a model, with no words, no links, no tags. What a heap's answers are, whatever its memory holds.
use Rattle.std.specs.Prelude.{List, [], ◌∷◌, ◌++◌, ℕ, suc, ◌+◌, ◌-◌, ◌*◌, eqb, leb, ltb, length, take, drop}
use Rattle.words.specs.Choice.{pick}
use Rattle.rules.specs.Sound.Model.{Model}
use Rattle.rules.specs.Rules.Chunks.{Chunk, free, taken, release}
use Rattle.words.specs.Sizes.{class_of, rounded_of, start_of}
use Rattle.rules.specs.Rules.Search.{Found, at, nowhere, lost, find, in_turn}
use Rattle.rules.specs.Rules.Place.{len_at, index_at, used_at}
use Rattle.rules.specs.Machine.Orders.{taken_orders, merged_orders, free_last, free_head, push}
use Rattle.rules.specs.Rules.Calls.{Figures, Outcome, says, byte_of, name_of, Chosen, none, one, never, choose, listed, with_cached, counted, released}
use Rattle.rules.specs.Rules.Steps.{portion}
use Rattle.rules.specs.Rules.Making.{begun}

-- the length of the chunk that a link names
abbrev pub size_m : Model → ℕ → ℕ
size_m m x = len_at m.cs (byte_of x)

-- made in n words: one free chunk, listed
abbrev pub made_m : ℕ → Model
made_m n = record { cs = free (4 * (n - 1)) ∷ []; orders = push (λ k. []) (class_of (4 * (n - 1))) 6; figs = begun n }

-- HANDING OUT: the listed chunk x of n bytes taken for z
unfoldable pub took_m : Model → ℕ → ℕ → ℕ → Model
took_m m x n z =
    record {
      cs = taken m.cs (index_at m.cs (byte_of x)) z;
      orders = taken_orders class_of m.orders (byte_of x) n z;
      figs = counted m.figs (portion n z) (byte_of x + portion n z);
    }

-- the listed chunks in the order of a search for z bytes: the lists from the start class upwards
abbrev pub searched : Model → ℕ → List ℕ
searched m z = in_turn m.orders (6 - start_of z) (start_of z)

-- the first of them that has z bytes
abbrev pub search_m : Model → ℕ → Found
search_m m z = find (size_m m) z (searched m z) 0

-- the chunk of n bytes at byte b released, ks cached, tasks holding i bytes
unfoldable pub gave_m : Model → ℕ → List ℕ → ℕ → ℕ → Model
gave_m m i ks b n =
    let j = index_at m.cs b in
    let f = free_last 0 (take j m.cs) in
    record {
      cs = release m.cs j;
      orders = merged_orders class_of m.orders (b - f) f n (free_head (drop (suc j) m.cs));
      figs = released m.figs i ks n;
    }

-- EMPTYING THE CACHE: its chunks, oldest first, released one after the other; what tasks hold stays
unfoldable pub empty_cache_m : Model → List ℕ → Model
empty_cache_m m [] = m
empty_cache_m m (k ∷ ks) = empty_cache_m (gave_m m m.figs.in_use ks (byte_of k) (size_m m k)) ks

-- all of them
abbrev pub without_cache_m : Model → Model
without_cache_m m = empty_cache_m m m.figs.cached

-- nothing found, c compared: from a list once the cache is emptied; or no fit
abbrev pub from_merged_m : Model → ℕ → ℕ → Found → Outcome Model
from_merged_m m z c (at x d) = says 0 (byte_of x + 4) (c + d) (took_m (without_cache_m m) x (size_m (without_cache_m m) x) z)
from_merged_m m z c (nowhere d) = says 3 0 (c + d) m
from_merged_m m z c lost = says 5 0 0 m

-- from a list; else once more
abbrev pub from_list_m : Model → ℕ → Found → Outcome Model
from_list_m m z (at x c) = says 0 (byte_of x + 4) c (took_m m x (size_m m x) z)
from_list_m m z (nowhere c) = from_merged_m m z c (search_m (without_cache_m m) z)
from_list_m m z lost = says 5 0 0 m

-- from the cache; else from a list
abbrev pub from_cache_m : Model → ℕ → Chosen → Outcome Model
from_cache_m m z (one x ks) = says 0 (byte_of x + 4) 0 (record { cs = m.cs; orders = m.orders; figs = with_cached m.figs (m.figs.in_use + size_m m x) ks })
from_cache_m m z none = from_list_m m z (search_m m z)

-- size bytes asked
unfoldable pub hand_out_m : Model → ℕ → Outcome Model
hand_out_m m size =
    let serve = from_cache_m m (rounded_of size) (choose (size_m m) (rounded_of size) m.figs.cached) in
    let may = pick (never m.figs.words (rounded_of size)) (says 8 0 0 m) serve in
    pick (eqb size 0) (says 1 0 0 m) (pick (ltb 4294967284 size) (says 2 0 0 m) may)

-- TAKING BACK: the length of the live chunk whose payload begins at p, 0 where none does
unfoldable pub live_m : Model → ℕ → ℕ
live_m m p = pick (leb 4 p) (pick (listed (name_of (p - 4)) m.figs.cached) 0 (used_at m.cs (p - 4))) 0

-- the chunks ks cached and tasks holding i bytes; where the chunks are too many, the oldest is released
abbrev pub settled_m : ℕ → Model → ℕ → List ℕ → Model
settled_m places m i [] = m
settled_m places m i (k ∷ ks) =
    let more : Model = record { cs = m.cs; orders = m.orders; figs = with_cached m.figs i (k ∷ ks) } in
    pick (leb (length (k ∷ ks)) places) more (gave_m m i ks (byte_of k) (size_m m k))

-- payload offset p given back
unfoldable pub take_back_m : ℕ → Model → ℕ → Outcome Model
take_back_m places m p =
    let done = says 0 0 0 (settled_m places m (m.figs.in_use - live_m m p) (m.figs.cached ++ name_of (p - 4) ∷ [])) in
    pick (eqb (live_m m p) 0) (says 4 0 0 m) done

-- A REQUEST: to hand out a size, to take a payload offset back
pub data Request : Type 0 where
  ask : ℕ → Request
  give : ℕ → Request

-- what it is answered
pub record Answer : Type 0 where
  pub number : ℕ
  pub value : ℕ
  pub compared : ℕ

-- an outcome without its state
abbrev pub answer_of : {S : Type 0} → Outcome S → Answer
answer_of o = record { number = o.number; value = o.value; compared = o.compared }

-- a request to a model
unfoldable pub call_m : ℕ → Request → Model → Outcome Model
call_m places (ask n) m = hand_out_m m n
call_m places (give p) m = take_back_m places m p

-- requests one after the other: the model after them, and their answers
unfoldable pub steps_m : ℕ → List Request → Model → Model
steps_m places [] m = m
steps_m places (q ∷ qs) m = steps_m places qs (call_m places q m).after

unfoldable pub replies_m : ℕ → List Request → Model → List Answer
replies_m places [] m = []
replies_m places (q ∷ qs) m = answer_of (call_m places q m) ∷ replies_m places qs (call_m places q m).after
