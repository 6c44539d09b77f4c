-- EMPTYING THE CACHE, as the code goes about it: the oldest chunk let go, turn by turn, noted, so that all of it can be undone. Assumes nothing.
--     let_go_by           one chunk let go, by what its callees promise
--     Emptying            what holds after each turn of the loop;  emptying_none, _room, _used, _turn, _done: at its start, in it, at its end
use mathlib.Core.Path.{◌≡◌, refl, sym, ap, ◌∙◌, subst}
use mathlib.Core.Bool.{true}
use mathlib.Core.List.{List, [], ◌∷◌}
use Prim.Native.Nat.{ℕ, suc, ◌+◌, ◌-◌, ◌*◌, ◌≤◌, ◌<◌}
use native.Mathlib.Omega.{arith}
use lib.ListN.{length, drop}
use Rattle.words.specs.declared.names.Link.{Link}
use Rattle.words.specs.Numbers.{numbers}
use Rattle.words.proofs.Laws.Numbers.{length_numbers}
use Rattle.words.specs.Tags.{at, length_of}
use Rattle.cache.specs.Places.{cached_of, used_places, left_out}
use Rattle.cache.proofs.Laws.{length_cached, used_least, left_out_lem}
use Rattle.rules.specs.Rules.Calls.{Figures, let_go, without_cache}
use Rattle.rules.specs.Rules.Steps.{release_chunk}
use Rattle.rules.specs.Rules.Making.{State}
use Rattle.rules.proofs.Demands.Bounds.{figures_fitᵇ}
use Rattle.rules.proofs.Demands.LetGo.{let_go_soundᵇ, let_go_figuresᵇ, without_cache_stepᵇ, without_cache_done}
use Rattle.steps.specs.declared.undo.Log.{Log}
use Rattle.steps.specs.Undone.{Room, Undoes}
use Rattle.steps.proofs.Undone.{undo_none, undo_on, undo_within}
use Rattle.heap.specs.declared.record.Record.{Record}
use Rattle.heap.specs.Seen.{seen, base, cached_in, counted_out, FourPlaces}
use Rattle.heap.specs.Released.{oldest_of, oldest_gone}
use Rattle.heap.specs.Undoable.{Noted}
use Rattle.heap.specs.Answer.{sound_at}
use Rattle.heap.proofs.Answers.{ours, cache_packed, oldest, oldest_first, oldest_out}

-- the oldest of those that are cached let go
gone_is : (s : State) (k : ℕ) (ks : List ℕ) → s.rest.cached ≡ k ∷ ks → oldest_gone s ≡ let_go base s s.rest.in_use k ks
unfolding oldest_of
gone_is s k ks e = ap (oldest_of s) e

-- ONE CHUNK LET GO: what is noted of its release undoes it, since the words change no more
pub let_go_by : (r a q : Record) (ws us : List ℕ) (log after : Log) (d : List Link) (i n : ℕ)
    → sound_at 4 (seen r ws) ≡ true → 0 < used_places (numbers r.cached) → i ≡ oldest r - 6 → n ≡ length_of (at ws i)
    → Noted (release_chunk base (seen r ws) (oldest r - 6) n) 9 ws log a us after → numbers d ≡ left_out 0 (numbers r.cached)
    → q ≡ counted_out a r.in_use n d → Noted (oldest_gone (seen r ws)) 9 ws log q us after
let_go_by r a q ws us log after d i n ok used ei en u ed eq =
    let others : cached_of (numbers d) ≡ drop 1 (cached_in r) =
    ap cached_of ed ∙ left_out_lem (numbers r.cached) 0 (cache_packed r ws ok) used in
    let out = oldest_out r ws used a q us _ d i n r.in_use ei en u.step.does others eq in
    record {
      step = record { does = out ∙ sym (gone_is (seen r ws) _ _ (oldest_first r ws used)); undoes = u.step.undoes };
      same = u.same;
      long = u.long;
    }

-- AFTER i TURNS of n, from record r, words ws and no notes in the log to q, us and the notes in `after`
pub record Emptying (r : Record) (ws : List ℕ) (log : Log) (n : ℕ) (q : Record) (us : List ℕ) (after : Log) (i : ℕ) : Type 0 where
  pub few : n ≤ 4
  pub turns : i ≤ n
  pub left : length (cached_in q) ≡ n - i
  pub sound : sound_at 4 (seen q us) ≡ true
  pub same : without_cache base (seen r ws) ≡ without_cache base (seen q us)
  pub notes : Undoes (9 * i) ws log.notes.now 0 us after.notes.now after.len
  pub long : length us ≡ length ws
  pub lent : length after.notes.now ≡ length log.notes.now
  pub slice : after.notes.ghost_name ≡ log.notes.ghost_name
  pub room : 72 ≤ length log.notes.now
  pub none : log.len ≡ 0

-- at the start
pub emptying_none : (r : Record) (ws : List ℕ) (log : Log) (n : ℕ) → sound_at 4 (seen r ws) ≡ true → FourPlaces r → n ≡ used_places (numbers r.cached)
    → 72 ≤ length log.notes.now → log.len ≡ 0 → Emptying r ws log n r ws log 0
emptying_none r ws log n ok four e room none =
    let most = used_least (numbers r.cached) in
    let long = length_numbers r.cached in
    let held = length_cached (numbers r.cached) (cache_packed r ws ok) in
    record {
      few = omega (arith, most, long, four, e);
      turns = omega arith;
      left = omega (arith, held, e);
      sound = ok;
      same = refl;
      notes = rw none (undo_none 0 ws log.notes.now 0);
      long = refl;
      lent = refl;
      slice = refl;
      room = room;
      none = none;
    }

module _ (r q : Record) (ws us : List ℕ) (log after : Log) (n i : ℕ) (h : Emptying r ws log n q us after i) where
  -- a turn is left: a chunk is cached, and there is room for its notes
  pub emptying_used : i < n → 0 < used_places (numbers q.cached)
  emptying_used t = let held = length_cached (numbers q.cached) (cache_packed q us h.sound) in let l = h.left in omega arith

  pub emptying_room : i < n → Room us after.notes.now after.len 9
  emptying_room t =
      let words = (figures_fitᵇ (ours 4) (seen q us) h.sound).accepted in
      let most = h.notes.most in
      let few = h.few in
      let lent = h.lent in
      let room = h.room in
      record { named = omega arith; fits = omega arith }

  -- A TURN
  pub emptying_turn : (o : Record) (vs : List ℕ) (later : Log) → i < n → Noted (oldest_gone (seen q us)) 9 us after o vs later
      → length vs ≡ length us → Emptying r ws log n o vs later (i + 1)
  emptying_turn o vs later t u ev =
      let ks = drop 1 (cached_in q) in
      let first = oldest_first q us (emptying_used t) in
      let s = seen q us in
      let is : seen o vs ≡ let_go base s q.in_use (oldest q) ks = u.step.does ∙ gone_is s (oldest q) ks first in
      let figures = let_go_figuresᵇ (ours 4) s h.sound (oldest q) ks first in
      let cached : cached_in o ≡ ks = ap (λ (v : State). v.rest.cached) is ∙ ap (λ (f : Figures). f.cached) figures in
      let more : length (cached_in q) ≡ suc (length ks) = ap length first in
      let fewer : length (cached_in o) ≡ length ks = ap length cached in
      let l = h.left in
      let nine : 9 * i + 9 ≡ 9 * (i + 1) = omega arith in
      let notes = undo_on (9 * i) 9 ws us vs log.notes.now after.notes.now later.notes.now 0 after.len later.len h.notes u.step.undoes in
      record {
        few = h.few;
        turns = omega arith;
        left = omega (arith, more, fewer, l);
        sound = ap (sound_at 4) is ∙ let_go_soundᵇ (ours 4) s h.sound (oldest q) ks first;
        same = h.same ∙ without_cache_stepᵇ (ours 4) s h.sound (oldest q) ks first ∙ ap (without_cache base) (sym is);
        notes = subst (λ (m : ℕ). Undoes m ws log.notes.now 0 vs later.notes.now later.len) nine notes;
        long = ev ∙ h.long;
        lent = u.long ∙ h.lent;
        slice = u.same ∙ h.slice;
        room = h.room;
        none = h.none;
      }

  -- AT THE END nothing is cached
  pub emptying_done : n ≤ i → Noted (without_cache base (seen r ws)) 36 ws log q us after
  emptying_done t =
      let l = h.left in
      let few = h.few in
      let turns = h.turns in
      let none = nothing (cached_in q) (omega arith) in
      record {
        step = record {
          does = sym (h.same ∙ without_cache_done base (seen q us) none);
          undoes = rw h.none (undo_within (9 * i) 36 ws us log.notes.now after.notes.now 0 after.len (omega arith) h.notes);
        };
        same = h.slice;
        long = h.lent;
      }
    where
      nothing : (xs : List ℕ) → length xs ≡ 0 → xs ≡ []
      nothing [] e = refl
      nothing (x ∷ xs) e = absurd (omega arith)
