-- DOCUMENT 01'S RULES: handing out and taking back, as functions that compute, whatever the link width (`op`) and the number of cache places. `sound` is the
-- test that answer 5 goes by. Each gives one outcome: answer number, value, compared count, and the state after it.
use Rattle.std.specs.Prelude.{Bool, true, false, List, [], ◌∷◌, ◌++◌, ℕ, ◌+◌, ◌-◌, ◌*◌, ◌/◌, max, eqb, leb, ltb, length}
use Rattle.words.specs.Choice.{pick}
use Rattle.words.specs.Sizes.{rounded_of, start_of, threshold_of}
use Rattle.rules.specs.Rules.Ops.{Ops}
use Rattle.rules.specs.Rules.Steps.{portion, length_at, take_chunk, emptied, release_chunk}
use Rattle.rules.specs.Rules.Search.{Found, at, nowhere, lost, find, in_turn}
use Rattle.rules.specs.Rules.Lists.{walk}
use Rattle.rules.specs.Rules.Place.{used_at, tile}

-- what the record holds besides its links; the cached chunks by their links, oldest first; in use as tasks hold it, and committed, which counts the cached
-- chunks too
pub record Figures : Type 0 where
  pub words : ℕ
  pub cached : List ℕ
  pub in_use : ℕ
  pub committed : ℕ
  pub peak : ℕ
  pub high : ℕ
  pub flag : ℕ

-- what a call gives
pub record Outcome (S : Type 0) : Type 0 where
  pub number : ℕ
  pub value : ℕ
  pub compared : ℕ
  pub after : S

-- one, written out
abbrev pub says : {S : Type 0} → ℕ → ℕ → ℕ → S → Outcome S
says n v c s = record { number = n; value = v; compared = c; after = s }

-- the byte of the chunk that a link names, and the link of the chunk at a byte
abbrev pub byte_of : ℕ → ℕ
byte_of x = (x - 6) * 4

abbrev pub name_of : ℕ → ℕ
name_of b = b / 4 + 6

-- THE CACHE: none of the cached chunks, or one and the others
pub data Chosen : Type 0 where
  none : Chosen
  one : ℕ → List ℕ → Chosen

-- x kept in front of the others
abbrev pub behind : ℕ → Chosen → Chosen
behind x none = none
behind x (one y ys) = one y (x ∷ ys)

-- n bytes serve a rounded size z: at least z and at most z + 512
abbrev pub serves : ℕ → ℕ → Bool
serves n z = pick (leb z n) (leb n (z + 512)) false

-- NEVER: the threshold of a rounded size z exceeds the bytes that n words have before the guard
abbrev pub never : ℕ → ℕ → Bool
never n z = ltb (4 * (n - 1)) (threshold_of z)

-- the oldest one that serves
unfoldable pub choose : (ℕ → ℕ) → ℕ → List ℕ → Chosen
choose size z [] = none
choose size z (x ∷ xs) = let r = behind x (choose size z xs) in pick (serves (size x) z) (one x xs) r

-- x is one of these
unfoldable pub listed : ℕ → List ℕ → Bool
listed x [] = false
listed x (y ∷ ys) = let r = listed x ys in pick (eqb x y) true r

-- THE FIGURES after only the cache changed and tasks hold i bytes: the other counters stay
abbrev pub with_cached : Figures → ℕ → List ℕ → Figures
with_cached r i ks = record { words = r.words; cached = ks; in_use = i; committed = r.committed; peak = r.peak; high = r.high; flag = r.flag }

-- after a chunk of m bytes that ends at byte e came from a list
abbrev pub counted : Figures → ℕ → ℕ → Figures
counted r m e =
    record {
      words = r.words;
      cached = r.cached;
      in_use = r.in_use + m;
      committed = r.committed + m;
      peak = max r.peak (r.committed + m);
      high = max r.high e;
      flag = pick (ltb r.high e) 1 r.flag;
    }

-- after a chunk of n bytes was released, ks staying cached and tasks holding i bytes
abbrev pub released : Figures → ℕ → List ℕ → ℕ → Figures
released r i ks n = record { words = r.words; cached = ks; in_use = i; committed = r.committed - n; peak = r.peak; high = r.high; flag = r.flag }

-- with the cache emptied: committed is what tasks hold; that, the marks and the flag stay
abbrev pub without_cache_f : Figures → Figures
without_cache_f r = record { words = r.words; cached = []; in_use = r.in_use; committed = r.in_use; peak = r.peak; high = r.high; flag = r.flag }

module _ {S : Type 0} (op : Ops S Figures) where
  -- the cached chunk k released, ks staying cached and tasks holding i bytes
  abbrev pub let_go : S → ℕ → ℕ → List ℕ → S
  let_go s i k ks = let n = length_at op s k in op.set_rest (release_chunk op s (k - 6) n) (released (op.rest s) i ks n)

  -- EMPTYING THE CACHE: its chunks, oldest first, released one after the other; what tasks hold stays
  unfoldable pub empty_cache : S → List ℕ → S
  empty_cache s [] = s
  empty_cache s (k ∷ ks) = empty_cache (let_go s (op.rest s).in_use k ks) ks

  -- all of them
  abbrev pub without_cache : S → S
  without_cache s = empty_cache s (op.rest s).cached

  -- HANDING OUT: 2. the lists from the start class upwards, each from its sentinel's next, and the first chunk in them that has z bytes
  unfoldable pub first_fit : S → ℕ → Found
  first_fit s z = find (length_at op s) z (in_turn (λ k. walk (op.next s) k (op.count s) (op.next s k)) (6 - start_of z) (start_of z)) 0

  -- 3 and 4. the chunk x, found with c compared, is unlinked, cut and marked used; the figures follow; its payload, as finally cut, is set to 0
  abbrev pub took : S → ℕ → ℕ → ℕ → Outcome S
  took s z x c =
      let n = length_at op s x in
      let out = op.set_rest (take_chunk op s (x - 6) n z) (counted (op.rest s) (portion n z) (byte_of x + portion n z)) in
      says 0 (byte_of x + 4) c (emptied op out (x - 6) (portion n z))

  -- nothing found, c compared: the lists of the state with its cache emptied are searched. Nothing again: no fit, and all is as it was
  unfoldable pub from_merged : S → ℕ → ℕ → Found → Outcome S
  from_merged s z c (at x d) = took (without_cache s) z x (c + d)
  from_merged s z c (nowhere d) = says 3 0 (c + d) s
  from_merged s z c lost = says 5 0 0 s

  -- from a list; else once more
  unfoldable pub from_list : S → ℕ → Found → Outcome S
  from_list s z (at x c) = took s z x c
  from_list s z (nowhere c) = from_merged s z c (first_fit (without_cache s) z)
  from_list s z lost = says 5 0 0 s

  -- 1. a cached chunk that serves is handed out whole, its payload set to 0; in use grows by its length, the other counters stay
  unfoldable pub from_cache : S → ℕ → Chosen → Outcome S
  from_cache s z (one x ks) =
      let n = length_at op s x in
      says 0 (byte_of x + 4) 0 (emptied op (op.set_rest s (with_cached (op.rest s) ((op.rest s).in_use + n) ks)) (x - 6) n)
  from_cache s z none = from_list s z (first_fit s z)

  -- a rounded size served, on a sound state
  unfoldable pub serve : S → ℕ → Outcome S
  serve s z = from_cache s z (choose (length_at op s) z (op.rest s).cached)

  -- size bytes asked: 1, 2, 5, 8 in that order, else served
  unfoldable pub hand_out : (S → Bool) → S → ℕ → Outcome S
  hand_out sound s size =
      let may = pick (never (op.count s) (rounded_of size)) (says 8 0 0 s) (serve s (rounded_of size)) in
      pick (eqb size 0) (says 1 0 0 s) (pick (ltb 4294967284 size) (says 2 0 0 s) (pick (sound s) may (says 5 0 0 s)))

  -- TAKING BACK: the length of the live chunk whose payload begins at p, 0 where none does
  unfoldable pub live : S → ℕ → ℕ
  live s p = pick (leb 4 p) (pick (listed (name_of (p - 4)) (op.rest s).cached) 0 (used_at (tile (op.word s) (op.count s) 0) (p - 4))) 0

  -- the chunks ks cached and tasks holding i bytes; where the chunks are too many, the oldest is released
  unfoldable pub settled : ℕ → S → ℕ → List ℕ → S
  settled places s i [] = s
  settled places s i (k ∷ ks) = pick (leb (length (k ∷ ks)) places) (op.set_rest s (with_cached (op.rest s) i (k ∷ ks))) (let_go s i k ks)

  -- payload offset p given back: 5, then 4, else the chunk is cached, and in use falls by its length
  unfoldable pub take_back : ℕ → (S → Bool) → S → ℕ → Outcome S
  take_back places sound s p =
      let done = says 0 0 0 (settled places s ((op.rest s).in_use - live s p) ((op.rest s).cached ++ name_of (p - 4) ∷ [])) in
      pick (sound s) (pick (eqb (live s p) 0) (says 4 0 0 s) done) (says 5 0 0 s)
