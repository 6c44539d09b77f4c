-- How the public calls join: of each way out of a call, that its callees' promises give the rules' outcome. Assumes nothing.
--     ours            narrow links, up to 65,529 words, any number of cache places: the editions that this heap is
--     sound_four      what is sound for a kind is sound with four places
--     make_..         making, refused and done;  one_chunk_by: its one free chunk
--     cache_packed    in a sound pair no unused place stands before a used one
--     served_..       a handout from the cache;  listed_..: from the lists;  found_taken: what a search found
--     oldest_..       the oldest cached chunk, let go
--     live_..         which offsets are live
--     settled_..      a chunk taken back
--     hand_.., back_..    the tests in their order
use mathlib.Core.Path.{◌≡◌, refl, sym, ap, ◌∙◌, subst}
use mathlib.Core.Bool.{Bool, true, false}
use mathlib.Core.List.Memᴰ
use mathlib.Core.List.{List, [], ◌∷◌, ◌++◌}
use Prim.Native.Nat.{ℕ, ◌+◌, ◌-◌, ◌*◌, ◌/◌, ◌%◌, ◌^◌, ◌≤◌, ◌<◌, min}
use native.Mathlib.Omega.{arith}
use borrow.Author.Tests.{lt-ltb, le-ltb, lt-leb, le-leb, leb-true, eq-eqb, ne_eqb}
use lib.Dec.{leb}
use lib.ListN.{length, get_or, set, drop, length-append}
use Rattle.std.specs.Prelude.{zero, suc, Option, Some, None, Result, Ok, Err, IsErrAnd}
use Rattle.std.specs.Option.{ok_or}
use Rattle.words.specs.declared.names.Link.{Link}
use Rattle.words.specs.Choice.{pick}
use Rattle.words.specs.Numbers.{numbers}
use Rattle.words.proofs.Laws.Numbers.{numbers_at, length_numbers}
use Rattle.words.specs.Names.{links, offsets, payloads, held_name}
use Rattle.words.specs.Sizes.{class_of, rounded_of}
use Rattle.words.specs.Tags.{at, length_of, right_of}
use Rattle.rules.specs.Rules.Lists.{Mem}
use Rattle.rules.specs.Rules.Steps.{portion, length_at, unlink, link, set_left, clear_left, mark_free, mark_used, one_chunk, return_excess, take_chunk, emptied, left_free, right_free, merge, merged, release_chunk}
use Rattle.rules.specs.Rules.Search.{Found, nowhere, lost}
use Rattle.rules.specs.Rules.Search as rule
use Rattle.rules.specs.Rules.Calls.{Figures, Outcome, says, byte_of, name_of, one, never, choose, listed, counted, released, let_go, without_cache, first_fit, took, from_merged, from_list, from_cache, serve, hand_out, live, settled, take_back}
use Rattle.rules.specs.Rules.Calls as rules
use Rattle.rules.specs.Rules.Making.{State, make, acceptedᵇ}
use Rattle.rules.specs.Demands.Meaning.{hand, back}
use Rattle.rules.specs.Rules.Place.{used_walk}
use Rattle.rules.proofs.Tiling.Place.{used_tile}
use Rattle.heap.specs.declared.record.Record.{Record}
use Rattle.heap.specs.declared.kind.Kind.{Kind}
use Rattle.heap.specs.declared.kind.Kind.TheVariants.{One, Four}
use Rattle.heap.specs.declared.answer.Done.{Done}
use Rattle.heap.specs.declared.answer.Refusal.{Refusal}
use Rattle.heap.specs.declared.answer.Refusal.TheVariants.{ZeroSize, TooLarge, NotLive, Damaged, BadLength, NeverFits}
use Rattle.heap.specs.Seen.{seen, base, figures_of, with_cached, counted_in, counted_out, empty_record, fresh_record, FourPlaces}
use Rattle.heap.specs.Kind.{places_of}
use Rattle.steps.specs.Chunk.{freed_in, freed, left_free_in, right_free_in, emptied_in, Releasable}
use Rattle.steps.specs.Found.{told_at}
use Rattle.steps.specs.Live.{if_used}
use Rattle.steps.proofs.Neighbours.{freed_plain}
use Rattle.heap.proofs.Joins.{emptied_seen}
use Rattle.heap.specs.Answer.{outcome, out_after, out_made, sound_at, Served, Fitting, Missed}
use Rattle.heap.specs.Promises.{Makes}
use Rattle.cache.specs.Places.{cached_of, used_places, left_out, oldest_of}
use Rattle.cache.proofs.Laws.{Packed, packed, length_cached, set_last, turned, oldest_cached, choose_hit, choose_miss, listed_cached, oldest_some, oldest_none}
use Rattle.std.specs.Prelude.{Some, None}
use Rattle.rules.proofs.Steps.Store.{Edition}
use Rattle.rules.proofs.Demands.Decide.{sound_more}
use Rattle.rules.proofs.Demands.Cache.{Picked, choose_picked}
use Rattle.rules.proofs.Demands.Shown.{walked_fit}
use Rattle.words.proofs.Laws.Links.{narrow_lawful}
use Rattle.rules.proofs.Demands.Editions.{edition, narrow_fits}
use Rattle.rules.proofs.Demands.Bounds.{FoundFits, walked_fitᵇ, found_fitsᵇ, never_lostᵇ, nowhere_shortᵇ, cached_fitsᵇ, cached_heldᵇ, release_fitsᵇ, live_fitsᵇ, FiguresFit, figures_fitᵇ}

-- ---- MAKING

pub one_chunk_by : (r q : Record) (ws ws1 ws2 ws3 : List ℕ) (n g b k : ℕ) → 1 ≤ n → n ≤ 65529 → g ≡ n - 1 → b ≡ 4 * g
    → ws1 ≡ freed_in ws 0 b → ws2 ≡ set ws1 g 2 → k ≡ class_of b → seen q ws3 ≡ link base (seen r ws2) k 6
    → seen q ws3 ≡ one_chunk base (seen r ws) (4 * (n - 1))
unfolding one_chunk mark_free freed
one_chunk_by r q ws ws1 ws2 ws3 n g b k h most eg eb e1 e2 ek eq =
    let tags : ws1 ≡ freed ws 0 b = e1 ∙ freed_plain ws 0 b (omega arith) (omega arith) in
    let p : 4 * (n - 1) / 4 ≡ n - 1 = omega arith in
    eq ∙ rw (e2, tags, ek, eb, eg) (rw p refl)

pub make_refused : (q : Record) (ws : List ℕ) (b : Bool) → b ≡ acceptedᵇ 65529 (length ws) → b ≡ false → q ≡ empty_record
    → Makes ws (out_made (Err (record { rec = q; refusal = BadLength }))) ws
unfolding make cached_of
make_refused q ws b e f eq = rw (sym e ∙ f, eq)

pub make_done : (r q : Record) (ws ws1 : List ℕ) (n : ℕ) (b : Bool) → b ≡ acceptedᵇ 65529 (length ws) → b ≡ true → n ≡ length ws → r ≡ fresh_record n
    → seen q ws1 ≡ one_chunk base (seen r ws) (4 * (length ws - 1)) → Makes ws (out_made (Ok q)) ws1
unfolding make cached_of
make_done r q ws ws1 n b e f en er eq = rw (sym e ∙ f) (ap (says 0 0 0) (eq ∙ rw (er, en) refl))

-- ---- THE EDITION, and what its soundness says of a record

pub ours : (places : ℕ) → Edition base 65529 places
ours places = edition narrow_lawful 65529 places narrow_fits

-- each kind has a place, and at most four
pub places_some : (k : Kind) → 0 < places_of k
places_some One = omega arith
places_some Four = omega arith

pub places_few : (k : Kind) → places_of k ≤ 4
places_few One = omega arith
places_few Four = omega arith

-- so what is sound for it is sound with four
pub sound_four : (k : Kind) (s : State) (b : Bool) → b ≡ sound_at (places_of k) s → b ≡ true → sound_at 4 s ≡ true
sound_four k s b e f = sound_more (ours (places_of k)) (ours 4) (places_few k) s (sym e ∙ f)

-- ---- PLACES

-- where a portion ends, and where its payload begins
end_place : (x i m j e : ℕ) → i ≡ x - 6 → i < 65536 → m < 2 ^ 20 → m % 8 ≡ 0 → j ≡ right_of i m % 2 ^ 64 → e ≡ held_name offsets j → e ≡ byte_of x + m
end_place x i m j e ei hi hm m8 ej ee =
    let k : j ≡ i + m / 4 = omega arith in
    let v : 4 * (m / 4) ≡ m = omega arith in
    omega arith

payload_place : (x i p : ℕ) → i ≡ x - 6 → i < 65536 → p ≡ held_name payloads i → p ≡ byte_of x + 4
payload_place x i p ei hi ep = omega arith

-- ---- THE CACHE

-- no unused place stands before a used one: a cached chunk's link is no 0
pub cache_packed : (r : Record) (ws : List ℕ) → sound_at 4 (seen r ws) ≡ true → Packed (numbers r.cached)
cache_packed r ws ok = packed (numbers r.cached) (λ m. let n = (cached_fitsᵇ (ours 4) (seen r ws) ok 0 m).named in omega arith)

-- the oldest cached chunk that serves z bytes stands in place k
module _ (r : Record) (ws : List ℕ) (z k : ℕ) (h : Served (seen r ws) z) (four : FourPlaces r)
    (told : Some k ≡ oldest_of (λ l. length_of (at ws (l - 6))) z (numbers r.cached)) where
  -- the lengths that the headers say, and the link in that place
  abbrev size : ℕ → ℕ
  size = length_at base (seen r ws)

  abbrev found : ℕ
  found = get_or (numbers r.cached) k 0

  -- a place of the four
  pub place : k < 4
  place = let o = oldest_some size z (numbers r.cached) k told in omega (arith, o.1, length_numbers r.cached, four)

  chosen : choose size z (cached_of (numbers r.cached)) ≡ one found (cached_of (left_out k (numbers r.cached)))
  chosen = let o = oldest_some size z (numbers r.cached) k told in choose_hit size z (numbers r.cached) k (cache_packed r ws h.sound) o.0 o.1

  -- it is a cached chunk's
  is_cached : Mem found (cached_of (numbers r.cached))
  is_cached =
      let ks = cached_of (numbers r.cached) in
      (subst (Picked size z (cached_of (numbers r.cached))) chosen (choose_picked size z ks)).1

  -- its header's word, as the code finds it
  word_of : (i : ℕ) → i ≡ (get_or r.cached k (record { 0 = 0 })).0 - 6 → i ≡ found - 6
  word_of i e = e ∙ ap (λ (x : ℕ). x - 6) (sym (numbers_at r.cached k))

  -- HANDED OUT FROM THE CACHE, whole, its payload emptied
  pub served_cached : (q : Record) (ws1 : List ℕ) (c : List Link) (i n u : ℕ) (d : Done) → i ≡ (get_or r.cached k (record { 0 = 0 })).0 - 6
      → n ≡ length_of (at ws i) → ws1 ≡ emptied_in ws i n → u ≡ r.in_use + n → d.payload.0 ≡ held_name payloads i → d.compared ≡ 0
      → numbers c ≡ left_out (min k 3) (numbers r.cached) → q ≡ with_cached r u c → outcome (Ok d) (seen q ws1) ≡ serve base (seen r ws) z
  unfolding serve from_cache
  served_cached q ws1 c i n u d ei en ec eu ep none eo eq =
      let w : i ≡ found - 6 = word_of i ei in
      let in_heap = (cached_fitsᵇ (ours 4) (seen r ws) h.sound found is_cached).inside in
      let words = (figures_fitᵇ (ours 4) (seen r ws) h.sound).accepted in
      let hi : i < 65536 = omega (arith, w, in_heap, words) in
      let v : d.payload.0 ≡ byte_of found + 4 = payload_place found i d.payload.0 w hi ep in
      let m : n ≡ size found = en ∙ ap (λ (j : ℕ). length_of (at ws j)) w in
      let least : min k 3 ≡ k = omega (arith, place) in
      let others : cached_of (numbers c) ≡ cached_of (left_out k (numbers r.cached)) =
      ap cached_of (eo ∙ ap (λ (j : ℕ). left_out j (numbers r.cached)) least) in
      let state : seen q ws1 ≡ emptied base (seen q ws) (found - 6) (size found) =
      ap (λ (vs : List ℕ). seen q vs) ec ∙ emptied_seen q ws i n ∙ ap (λ (j : ℕ). emptied base (seen q ws) i j) m
      ∙ ap (λ (j : ℕ). emptied base (seen q ws) j (size found)) w in
      rw (chosen, v, none, state, eq, eu, m, others) refl

  -- in use and its length are both committed: their sum stays in range
  pub served_safe : (i n : ℕ) → r.committed < 2 ^ 32 → i ≡ (get_or r.cached k (record { 0 = 0 })).0 - 6 → n ≡ length_of (at ws i)
      → r.in_use + n < 2 ^ 32
  served_safe i n hc ei en =
      let v : n ≡ size found = en ∙ ap (λ (j : ℕ). length_of (at ws j)) (word_of i ei) in
      let c = cached_heldᵇ (ours 4) (seen r ws) h.sound found is_cached in
      omega (arith, c, v, hc)

-- no cached chunk serves: the lists are searched
pub served_listed : (r : Record) (ws : List ℕ) (z : ℕ) → Served (seen r ws) z → None ≡ oldest_of (λ l. length_of (at ws (l - 6))) z (numbers r.cached)
    → (o : Outcome State) → o ≡ from_list base (seen r ws) z (first_fit base (seen r ws) z) → o ≡ serve base (seen r ws) z
unfolding serve from_cache
served_listed r ws z h told o eo =
    let size : ℕ → ℕ = length_at base (seen r ws) in
    rw (choose_miss size z (numbers r.cached) _ (cache_packed r ws h.sound) refl (oldest_none size z (numbers r.cached) told)) eo

-- ---- THE LISTS

-- links and tags are apart from the figures
merge_rest : (s : State) (l r : ℕ) (b d : Bool) → (merge base b d s l r).rest ≡ s.rest
unfolding merge unlink
merge_rest s l r false false = refl
merge_rest s l r true false = refl
merge_rest s l r false true = refl
merge_rest s l r true true = refl

pub take_rest : (s : State) (w n z : ℕ) → (take_chunk base s w n z).rest ≡ s.rest
unfolding take_chunk return_excess unlink link mark_free mark_used set_left
take_rest s w n z = go (leb (z + 12) n)
  where
    marked : State
    marked = mark_used base (unlink base s (w + 6)) w (portion n z)

    go : (t : Bool)
        → (pick t (link base (mark_free base marked (right_of w z) (n - z)) (class_of (n - z)) (right_of w z + 6)) (set_left base marked (right_of w n))).rest
        ≡ s.rest
    go true = refl
    go false = refl

pub release_rest : (s : State) (w n : ℕ) → (release_chunk base s w n).rest ≡ s.rest
unfolding release_chunk merged link clear_left mark_free
release_rest s w n = merge_rest s _ _ _ _

-- the figures are kept by taking, until it is counted
figures_kept : (r a : Record) (ws ws1 : List ℕ) (w n z : ℕ) → seen a ws1 ≡ take_chunk base (seen r ws) w n z → figures_of a ≡ figures_of r
figures_kept r a ws ws1 w n z e = ap (λ (s : State). s.rest) e ∙ take_rest (seen r ws) w n z

-- what the code's walk finds the rules' search finds
module _ (r : Record) (ws : List ℕ) (z : ℕ) (h : Served (seen r ws) z) where
  walks : (f : Found) → f ≡ walked_fit base (seen r ws) z → f ≡ first_fit base (seen r ws) z
  walks f e = e ∙ walked_fitᵇ (ours 4) (seen r ws) h.sound z

  -- it is never lost
  pub never_lost : lost ≡ walked_fit base (seen r ws) z → ⊥
  never_lost e = never_lostᵇ (ours 4) (seen r ws) h.sound z (sym (walks lost e))

  -- and it compares few
  pub met_few : (at : Option Link) (c : ℕ) → told_at at c ≡ walked_fit base (seen r ws) z → c < 65536
  met_few (Some l) c e =
      let q = (found_fitsᵇ (ours 4) (seen r ws) h.sound z l.0 c (sym (walks (rule.at l.0 c) e))).counted in
      let f = (figures_fitᵇ (ours 4) (seen r ws) h.sound).accepted in
      omega arith
  met_few None c e =
      let q = nowhere_shortᵇ (ours 4) (seen r ws) h.sound z c (sym (walks (nowhere c) e)) in
      let f = (figures_fitᵇ (ours 4) (seen r ws) h.sound).accepted in
      omega arith

  -- where it finds nothing, the rules go on with the cache emptied
  pub missed : (c : ℕ) → nowhere c ≡ walked_fit base (seen r ws) z → Missed (seen r ws) z c
  missed c e = record { served = h; none = sym (walks (nowhere c) e) }

  pub listed_nowhere : (o : Outcome State) (c : ℕ) → nowhere c ≡ walked_fit base (seen r ws) z
      → o ≡ from_merged base (seen r ws) z c (first_fit base (without_cache base (seen r ws)) z)
      → o ≡ from_list base (seen r ws) z (first_fit base (seen r ws) z)
  unfolding from_list
  listed_nowhere o c e eo = eo ∙ ap (from_list base (seen r ws) z) (walks (nowhere c) e)

  -- the chunk that it finds may be taken, and taking it is what the rules do
  pub fitting : (x c : ℕ) → rule.at x c ≡ walked_fit base (seen r ws) z → Fitting (seen r ws) z x
  fitting x c e = record { served = h; met = c; found = sym (walks (rule.at x c) e) }

  pub listed_found : (o : Outcome State) (x c : ℕ) → rule.at x c ≡ walked_fit base (seen r ws) z
      → o ≡ took base (seen r ws) z x c → o ≡ from_list base (seen r ws) z (first_fit base (seen r ws) z)
  unfolding from_list
  listed_found o x c e eo = eo ∙ ap (from_list base (seen r ws) z) (walks (rule.at x c) e)

-- TAKEN FROM A LIST: the chunk that link x names, for z bytes
module _ (r : Record) (ws : List ℕ) (z x : ℕ) (h : Fitting (seen r ws) z x) where
  found_safe : FoundFits base (seen r ws) z x h.met
  found_safe = found_fitsᵇ (ours 4) (seen r ws) h.served.sound z x h.met h.found

  figures_safe : FiguresFit base (seen r ws) 65529
  figures_safe = figures_fitᵇ (ours 4) (seen r ws) h.served.sound

  -- the bounds that the steps ask for
  pub take_safe : (i n : ℕ) → i ≡ x - 6 → n ≡ length_of (at ws i) → (6 ≤ x) × (x + n / 4 < 65536)
  take_safe i n ei en =
      let q = found_safe in
      let f = figures_safe.accepted in
      let v : n ≡ length_at base (seen r ws) x = en ∙ ap (λ (j : ℕ). length_of (at ws j)) ei in
      (q.named, omega arith)

  -- the portion is no more than the chunk, and where it ends
  portion_room : (n m : ℕ) → m ≡ portion n z → m ≤ n
  portion_room n m e = go (leb (z + 12) n) refl
    where
      go : (t : Bool) → leb (z + 12) n ≡ t → m ≤ n
      go true q = let k = leb-true (z + 12) n q in let v : m ≡ z = e ∙ ap (λ (t : Bool). pick t z n) q in omega arith
      go false q = let v : m ≡ n = e ∙ ap (λ (t : Bool). pick t z n) q in omega arith

  portion_8 : (n m : ℕ) → n % 8 ≡ 0 → m ≡ portion n z → m % 8 ≡ 0
  portion_8 n m n8 e = go (leb (z + 12) n) refl
    where
      go : (t : Bool) → leb (z + 12) n ≡ t → m % 8 ≡ 0
      go true q = ap (λ (v : ℕ). v % 8) (e ∙ ap (λ (t : Bool). pick t z n) q) ∙ h.served.eights
      go false q = ap (λ (v : ℕ). v % 8) (e ∙ ap (λ (t : Bool). pick t z n) q) ∙ n8

  -- both sums stay in range
  pub count_safe : (a : Record) (ws1 : List ℕ) (i n m : ℕ) → i ≡ x - 6 → n ≡ length_of (at ws i) → m ≡ portion n z
      → seen a ws1 ≡ take_chunk base (seen r ws) (x - 6) n z → (a.in_use + m < 2 ^ 32) × (a.committed + m < 2 ^ 32)
  count_safe a ws1 i n m ei en em ea =
      let q = found_safe.room in
      let f = figures_safe.accepted in
      let o = figures_safe.in_use in
      let v : n ≡ length_at base (seen r ws) x = en ∙ ap (λ (k : ℕ). length_of (at ws k)) ei in
      let p = portion_room n m em in
      let kept = figures_kept r a ws ws1 (x - 6) n z ea in
      let u : a.in_use ≡ r.in_use = ap (λ (g : Figures). g.in_use) kept in
      let w : a.committed ≡ r.committed = ap (λ (g : Figures). g.committed) kept in
      (omega arith, omega arith)

  pub found_taken : (a q : Record) (ws1 ws2 : List ℕ) (i n m j e c : ℕ) (d : Done)
      → i ≡ x - 6 → n ≡ length_of (at ws i) → m ≡ portion n z → seen a ws1 ≡ take_chunk base (seen r ws) (x - 6) n z → ws2 ≡ emptied_in ws1 i m
      → j ≡ right_of i m % 2 ^ 64 → e ≡ held_name offsets j → q ≡ counted_in a m e → d.payload.0 ≡ held_name payloads i → d.compared ≡ c
      → outcome (Ok d) (seen q ws2) ≡ took base (seen r ws) z x c
  found_taken a q ws1 ws2 i n m j e c d ei en em ea ec ej ee eq ep ed =
      let g = found_safe in
      let f = figures_safe.accepted in
      let v : n ≡ length_at base (seen r ws) x = en ∙ ap (λ (k : ℕ). length_of (at ws k)) ei in
      let n8 : n % 8 ≡ 0 = ap (λ (k : ℕ). k % 8) v ∙ g.eights in
      let m8 = portion_8 n m n8 em in
      let mn = portion_room n m em in
      let low : i < 65536 = let u = g.inside in omega arith in
      let short : m < 2 ^ 20 = let u = g.inside in omega arith in
      let end : e ≡ byte_of x + m = end_place x i m j e ei low short m8 ej ee in
      let pay : d.payload.0 ≡ byte_of x + 4 = payload_place x i d.payload.0 ei low ep in
      let kept = figures_kept r a ws ws1 (x - 6) n z ea in
      let state : seen q ws1 ≡ base.set_rest (take_chunk base (seen r ws) (x - 6) n z) (counted (figures_of r) m (byte_of x + m)) =
      rw (eq, end) (ap (λ (k : Figures). base.set_rest (seen a ws1) (counted k m (byte_of x + m))) kept
      ∙ ap (λ (s : State). base.set_rest s (counted (figures_of r) m (byte_of x + m))) ea) in
      let empty : seen q ws2 ≡ emptied base (base.set_rest (take_chunk base (seen r ws) (x - 6) n z) (counted (figures_of r) m (byte_of x + m))) (x - 6) m =
      ap (λ (vs : List ℕ). seen q vs) ec ∙ emptied_seen q ws1 i m ∙ ap (λ (s : State). emptied base s i m) state
      ∙ ap (λ (k : ℕ). emptied base (base.set_rest (take_chunk base (seen r ws) (x - 6) n z) (counted (figures_of r) m (byte_of x + m))) k m) ei in
      rw (empty, pay, ed, em, v) refl

-- ---- WHAT IS LIVE

module _ (r : Record) (ws : List ℕ) (p : ℕ) where
  pub live_low : p < 4 → None ≡ if_used (live base (seen r ws) p)
  unfolding live
  live_low h = rw (lt-leb _ _ h) refl

  module _ (b : ℕ) (h : 4 ≤ p) (eb : b ≡ p - 4) where
    -- its link is among the cached chunks' exactly where it stands in a place of the cache
    among : listed (b / 4 + 6) (cached_of (numbers r.cached)) ≡ listed (b / 4 + 6) (numbers r.cached)
    among = listed_cached (b / 4 + 6) (numbers r.cached) (λ q. omega arith)

    -- it does
    pub live_cached : (t : Bool) → t ≡ listed (b / 4 + 6) (numbers r.cached) → t ≡ true → None ≡ if_used (live base (seen r ws) p)
    unfolding live
    live_cached t e f =
        let c : listed ((p - 4) / 4 + 6) (cached_of (numbers r.cached)) ≡ true = rw eb at (among ∙ sym e ∙ f) in
        rw (le-leb _ _ h, c) refl

    -- or does not
    pub live_other : (t : Bool) (o : Option ℕ) → t ≡ listed (b / 4 + 6) (numbers r.cached) → t ≡ false → o ≡ if_used (used_walk (at ws) (length ws) 0 b)
        → o ≡ if_used (live base (seen r ws) p)
    unfolding live
    live_other t o e f eo =
        let c : listed ((p - 4) / 4 + 6) (cached_of (numbers r.cached)) ≡ false = rw eb at (among ∙ sym e ∙ f) in
        rw (le-leb _ _ h, c) (eo ∙ ap if_used (used_tile (at ws) (length ws) 0 b) ∙ rw eb refl)

-- what is said of a length: none of 0 bytes
pub used_none : (m : ℕ) → None ≡ if_used m → m ≡ 0
used_none zero e = refl
used_none (suc m) e = absurd (cc)

pub used_some : (m n : ℕ) → Some n ≡ if_used m → (n ≡ m) × (n ≡ 0 → ⊥)
used_some zero n e = absurd (cc)
used_some (suc m) n e = let q : n ≡ suc m = cc in (q, λ z. omega arith)

-- ---- THE OLDEST CACHED CHUNK, in the first place

abbrev pub oldest : Record → ℕ
oldest r = (get_or r.cached 0 (record { 0 = 0 })).0

-- a chunk stands there: it is cached before the others
module _ (r : Record) (ws : List ℕ) (used : 0 < used_places (numbers r.cached)) where
  abbrev newer : List ℕ
  newer = drop 1 (cached_of (numbers r.cached))

  pub oldest_first : cached_of (numbers r.cached) ≡ oldest r ∷ newer
  oldest_first = oldest_cached (numbers r.cached) used ∙ ap (λ (x : ℕ). x ∷ newer) (numbers_at r.cached 0)

  -- the bounds that releasing it asks for
  pub oldest_safe : sound_at 4 (seen r ws) ≡ true → (i n : ℕ) → i ≡ oldest r - 6 → n ≡ length_of (at ws i) → Releasable ws (oldest r) n
  unfolding left_free right_free left_free_in right_free_in
  oldest_safe ok i n ei en =
      let m : Mem (oldest r) (cached_of (numbers r.cached)) = subst (λ (ks : List ℕ). Mem (oldest r) ks) (sym oldest_first) (Memᴰ.head refl) in
      let v : n ≡ length_at base (seen r ws) (oldest r) = en ∙ ap (λ (j : ℕ). length_of (at ws j)) ei in
      let c = cached_fitsᵇ (ours 4) (seen r ws) ok (oldest r) m in
      let f = release_fitsᵇ (ours 4) (seen r ws) ok (oldest r) m in
      let a = (figures_fitᵇ (ours 4) (seen r ws) ok).accepted in
      rw v (record { chunk = c.named; left = f.left; right = let k = f.right in let g = c.named in omega arith })

  -- RELEASED, tasks holding u bytes and ks staying cached
  pub oldest_out : (a q : Record) (ws1 ks : List ℕ) (c : List Link) (i n u : ℕ) → i ≡ oldest r - 6 → n ≡ length_of (at ws i)
      → seen a ws1 ≡ release_chunk base (seen r ws) (oldest r - 6) n → cached_of (numbers c) ≡ ks → q ≡ counted_out a u n c
      → seen q ws1 ≡ let_go base (seen r ws) u (oldest r) ks
  oldest_out a q ws1 ks c i n u ei en ea ec eq =
      let v : n ≡ length_at base (seen r ws) (oldest r) = en ∙ ap (λ (m : ℕ). length_of (at ws m)) ei in
      let figures : figures_of a ≡ figures_of r = ap (λ (s : State). s.rest) ea ∙ release_rest (seen r ws) (oldest r - 6) n in
      rw (eq, ec) (ap (λ (f : Figures). base.set_rest (seen a ws1) (released f u ks n)) figures
      ∙ ap (λ (s : State). base.set_rest s (released (figures_of r) u ks n)) ea)
      ∙ ap (λ (m : ℕ). base.set_rest (release_chunk base (seen r ws) (oldest r - 6) m) (released (figures_of r) u ks m)) v

-- ---- TAKEN BACK

-- the newest stays with the others if there are places enough; else the oldest is released
module _ (places : ℕ) (s : State) (u : ℕ) where
  settled_keep : (ks : List ℕ) (l : ℕ) → length (ks ++ l ∷ []) ≤ places
      → settled base places s u (ks ++ l ∷ []) ≡ base.set_rest s (rules.with_cached s.rest u (ks ++ l ∷ []))
  unfolding settled
  settled_keep [] l h = rw (le-leb _ _ h)
  settled_keep (k ∷ ks) l h = rw (le-leb _ _ h)

  settled_let : (k : ℕ) (ks : List ℕ) → places < length (k ∷ ks)
      → settled base places s u (k ∷ ks) ≡ let_go base s u k ks
  unfolding settled
  settled_let k ks h = rw (lt-leb _ _ h)

-- k places are used
module _ (places : ℕ) (r : Record) (ws : List ℕ) (u : ℕ) (l : Link) (k : ℕ)
    (ok : sound_at 4 (seen r ws) ≡ true) (ek : k ≡ used_places (numbers r.cached)) where
  -- the cached chunks, and how many they are
  abbrev kept : List ℕ
  kept = cached_of (numbers r.cached)

  many : length kept ≡ k
  many = length_cached (numbers r.cached) (cache_packed r ws ok) ∙ sym ek

  -- A PLACE IS FREE
  pub settled_first : (q : Record) (c : List Link) → FourPlaces r → places ≤ 4 → k < places → 6 ≤ l.0 → numbers c ≡ set (numbers r.cached) k l.0
      → q ≡ with_cached r u c → seen q ws ≡ settled base places (seen r ws) u (kept ++ l.0 ∷ [])
  settled_first q c four few hk named ec eq =
      let more : length (kept ++ l.0 ∷ []) ≡ length kept + 1 = length-append kept (l.0 ∷ []) in
      let n = length_numbers r.cached in
      let room : used_places (numbers r.cached) < length (numbers r.cached) = omega (arith, n, four, few, hk, ek) in
      let new : cached_of (numbers c) ≡ kept ++ l.0 ∷ [] =
      ap cached_of (ec ∙ ap (λ (j : ℕ). set (numbers r.cached) j l.0) ek)
      ∙ set_last (numbers r.cached) l.0 (cache_packed r ws ok) (λ z. omega (arith, named, z)) room in
      ap (λ (t : Record). seen t ws) eq ∙ ap (λ (ks : List ℕ). base.set_rest (seen r ws) (rules.with_cached (figures_of r) u ks)) new
      ∙ sym (settled_keep places (seen r ws) u kept l.0 (omega (arith, more, many, hk)))

  -- ALL ARE USED: the oldest one is released
  module _ (full : places ≤ k) (some : 0 < places) where
    used : 0 < used_places (numbers r.cached)
    used = omega (arith, full, some, ek)

    pub settled_next : (a q : Record) (ws1 : List ℕ) (c d : List Link) (i n j : ℕ) → 6 ≤ l.0 → i ≡ oldest r - 6 → n ≡ length_of (at ws i)
        → seen a ws1 ≡ release_chunk base (seen r ws) (oldest r - 6) n → numbers d ≡ left_out 0 (numbers r.cached) → j ≡ k - 1
        → numbers c ≡ set (numbers d) j l.0 → q ≡ counted_out a u n c → seen q ws1 ≡ settled base places (seen r ws) u (kept ++ l.0 ∷ [])
    settled_next a q ws1 c d i n j named ei en ea ed ej ec eq =
        let ks = drop 1 kept ++ l.0 ∷ [] in
        let first = oldest_first r ws used in
        let last : j ≡ used_places (numbers r.cached) - 1 = omega (arith, ej, ek) in
        let new : cached_of (numbers c) ≡ drop 1 kept ++ l.0 ∷ [] =
        ap cached_of (ec ∙ ap (λ (ys : List ℕ). set ys j l.0) ed ∙ ap (λ (m : ℕ). set (left_out 0 (numbers r.cached)) m l.0) last)
        ∙ turned (numbers r.cached) l.0 (cache_packed r ws ok) (λ z. omega (arith, named, z)) used in
        let long = length-append (drop 1 kept) (l.0 ∷ []) in
        let count : length kept ≡ length (oldest r ∷ drop 1 kept) = ap length first in
        let over : places < length (oldest r ∷ (drop 1 kept ++ l.0 ∷ [])) = omega (arith, long, count, many, full) in
        oldest_out r ws used a q ws1 ks c i n u ei en ea new eq
        ∙ sym (settled_let places (seen r ws) u (oldest r) ks over) ∙ ap (λ (xs : List ℕ). settled base places (seen r ws) u (xs ++ l.0 ∷ [])) (sym first)

    -- the bounds that releasing it asks for
    pub settle_safe : (i n : ℕ) → i ≡ oldest r - 6 → n ≡ length_of (at ws i) → Releasable ws (oldest r) n
    settle_safe = oldest_safe r ws used ok

-- ---- A REFUSAL PASSED ON is that refusal: what was asked for is not there

pub passed_on : (r : Record) (a : Result Record Refusal) (o : Option ℕ) (f e : Refusal) → IsErrAnd a (λ x. x ≡ f)
    → ◌≡◌ {A = Result ℕ Refusal} (Err f) (ok_or o e) → o ≡ None → out_after r a ≡ record { answer = Err e; rec = r }
passed_on r (Ok q) o f e h v n = absurd h
passed_on r (Err x) o f e h v n =
    let q : ◌≡◌ {A = Result ℕ Refusal} (Err f) (Err e) = v ∙ ap (λ (w : Option ℕ). ok_or w e) n in
    let same : f ≡ e = cc in
    ap (λ (y : Refusal). out_after r (Err y)) (h ∙ same)

-- ---- THE TESTS, in their order

module _ (places : ℕ) (r : Record) (ws : List ℕ) where
  pub hand_zero : (size : ℕ) → size ≡ 0 → outcome (Err ZeroSize) (seen r ws) ≡ hand base 65529 places (seen r ws) size
  unfolding hand_out
  hand_zero size h = rw (eq-eqb _ _ h) refl

  pub hand_large : (size : ℕ) → (size ≡ 0 → ⊥) → 4294967284 < size → outcome (Err TooLarge) (seen r ws) ≡ hand base 65529 places (seen r ws) size
  unfolding hand_out
  hand_large size h k = rw (ne_eqb _ _ h, lt-ltb _ _ k) refl

  pub hand_damaged : (size : ℕ) (b : Bool) → (size ≡ 0 → ⊥) → size ≤ 4294967284 → b ≡ sound_at places (seen r ws) → b ≡ false
      → outcome (Err Damaged) (seen r ws) ≡ hand base 65529 places (seen r ws) size
  unfolding hand_out
  hand_damaged size b h k e f = rw (ne_eqb _ _ h, le-ltb _ _ k, sym e ∙ f) refl

  -- it can never fit, or it may
  pub hand_never : (size z v : ℕ) (b d : Bool) → (size ≡ 0 → ⊥) → size ≤ 4294967284 → b ≡ sound_at places (seen r ws) → b ≡ true → v ≡ rounded_of size → z ≡ v
      → d ≡ never (length ws) z → d ≡ true → outcome (Err NeverFits) (seen r ws) ≡ hand base 65529 places (seen r ws) size
  unfolding hand_out
  hand_never size z v b d h k e f ev ez ed fd =
      let n : never (length ws) (rounded_of size) ≡ true = ap (never (length ws)) (sym (ez ∙ ev)) ∙ sym ed ∙ fd in
      rw (ne_eqb _ _ h, le-ltb _ _ k, sym e ∙ f, n) refl

  pub hand_served : (size z v : ℕ) (b d : Bool) (o : Outcome State) → (size ≡ 0 → ⊥) → size ≤ 4294967284 → b ≡ sound_at places (seen r ws) → b ≡ true
      → v ≡ rounded_of size → z ≡ v → d ≡ never (length ws) z → d ≡ false → o ≡ serve base (seen r ws) z → o ≡ hand base 65529 places (seen r ws) size
  unfolding hand_out
  hand_served size z v b d o h k e f ev ez ed fd eo =
      let n : never (length ws) (rounded_of size) ≡ false = ap (never (length ws)) (sym (ez ∙ ev)) ∙ sym ed ∙ fd in
      rw (ne_eqb _ _ h, le-ltb _ _ k, sym e ∙ f, n, ← ev, ← ez) eo

  pub back_damaged : (p : ℕ) (b : Bool) → b ≡ sound_at places (seen r ws) → b ≡ false → outcome (Err Damaged) (seen r ws) ≡ back base 65529 places (seen r ws) p
  unfolding take_back
  back_damaged p b e f = rw (sym e ∙ f) refl

  pub back_dead : (p : ℕ) (b : Bool) → b ≡ sound_at places (seen r ws) → b ≡ true → None ≡ if_used (live base (seen r ws) p)
      → outcome (Err NotLive) (seen r ws) ≡ back base 65529 places (seen r ws) p
  unfolding take_back
  back_dead p b e f en = rw (sym e ∙ f, eq-eqb _ _ (used_none _ en)) refl

  pub live_name : (p n i l : ℕ) (b : Bool) → b ≡ sound_at places (seen r ws) → b ≡ true → Some n ≡ if_used (live base (seen r ws) p)
      → i ≡ payloads.word p → l ≡ held_name links i → l ≡ name_of (p - 4)
  live_name p n i l b e f en ei el =
      let some = used_some _ n en in
      let q = live_fitsᵇ (ours places) (seen r ws) (sym e ∙ f) p (λ k. some.1 (some.0 ∙ k)) in
      let a = (figures_fitᵇ (ours places) (seen r ws) (sym e ∙ f)).accepted in
      let u = q.inside in
      omega arith

  pub back_done : (q : Record) (ws1 : List ℕ) (p n u l m : ℕ) (b : Bool) → m ≡ places → b ≡ sound_at places (seen r ws) → b ≡ true
      → Some n ≡ if_used (live base (seen r ws) p) → u ≡ r.in_use - n → l ≡ name_of (p - 4)
      → seen q ws1 ≡ settled base m (seen r ws) u (cached_of (numbers r.cached) ++ l ∷ []) → says 0 0 0 (seen q ws1) ≡ back base 65529 places (seen r ws) p
  unfolding take_back
  back_done q ws1 p n u l m b em e f en eu el eq =
      let some = used_some _ n en in
      let d' : live base (seen r ws) p ≡ 0 → ⊥ = λ k. some.1 (some.0 ∙ k) in
      let h : u ≡ r.in_use - live base (seen r ws) p = eu ∙ ap (λ (k : ℕ). r.in_use - k) some.0 in
      rw (sym e ∙ f, ne_eqb _ _ d') (ap (says 0 0 0) (eq ∙ rw (em, el, h) refl))

-- what a kind's audit passed may be served
pub rounded_served : (k : Kind) (r : Record) (ws : List ℕ) (size v : ℕ) (b : Bool)
    → b ≡ sound_at (places_of k) (seen r ws) → b ≡ true → v ≡ rounded_of size → Served (seen r ws) v
rounded_served k r ws size v b e f ev = record { sound = sound_four k (seen r ws) b e f; least = omega arith; eights = ap (λ (k : ℕ). k % 8) ev ∙ eights_of }
  where
    eights_of : rounded_of size % 8 ≡ 0
    eights_of = omega arith
