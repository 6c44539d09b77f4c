-- SERVED WITH THE CACHE EMPTIED, after a search that found nothing: each way out of that call gives the rules' outcome. Assumes nothing.
--     missed_few          the first search compared few;  merged_none: nothing is cached, so that a second search would be the first
--     emptied_served      the emptied heap may be searched
--     again_found, again_few, again_fitting     a search of it
--     merged_found, merged_nowhere     what it says; where it finds nothing, the notes give the words at entry
use mathlib.Core.Path.{◌≡◌, sym, ap, ◌∙◌}
use mathlib.Core.List.{List, []}
use Prim.Native.Nat.{ℕ, ◌+◌, ◌<◌}
use native.Mathlib.Omega.{arith}
use lib.ListN.{length}
use Rattle.std.specs.Prelude.{Option, Err}
use Rattle.words.specs.declared.names.Link.{Link}
use Rattle.words.specs.Numbers.{numbers}
use Rattle.words.proofs.Laws.Numbers.{numbers_at}
use Rattle.cache.proofs.Laws.{none_cached_lem}
use Rattle.rules.specs.Rules.Search.{Found, nowhere, lost}
use Rattle.rules.specs.Rules.Search as rule
use Rattle.rules.specs.Rules.Calls.{Outcome, says, without_cache, first_fit, took, from_merged}
use Rattle.rules.specs.Rules.Making.{State}
use Rattle.rules.proofs.Demands.Shown.{walked_fit}
use Rattle.rules.proofs.Demands.Bounds.{walked_fitᵇ, nowhere_shortᵇ, figures_fitᵇ}
use Rattle.rules.proofs.Demands.LetGo.{without_cache_soundᵇ, without_cache_done}
use Rattle.steps.specs.declared.undo.Log.{Log}
use Rattle.steps.specs.Found.{told_at}
use Rattle.steps.specs.Undone.{Undoes, put_back}
use Rattle.steps.proofs.Undone.{put_back_all, undo_whole}
use Rattle.heap.specs.declared.record.Record.{Record}
use Rattle.heap.specs.declared.answer.Refusal.TheVariants.{NoFit}
use Rattle.heap.specs.Seen.{seen, base, cached_in}
use Rattle.heap.specs.Undoable.{Noted}
use Rattle.heap.specs.Answer.{outcome, sound_at, Served, Fitting, Missed}
use Rattle.heap.proofs.Answers.{ours, cache_packed, oldest, never_lost, met_few, fitting}

module _ (r : Record) (ws : List ℕ) (z c : ℕ) (h : Missed (seen r ws) z c) where
  -- the rules' outcome by what the second search says
  abbrev again : Found → Outcome State
  again f = from_merged base (seen r ws) z c f

  pub missed_few : c < 65536
  missed_few =
      let q = nowhere_shortᵇ (ours 4) (seen r ws) h.served.sound z c h.none in
      let f = (figures_fitᵇ (ours 4) (seen r ws) h.served.sound).accepted in
      omega arith

  -- NOTHING IS CACHED: the first place is unused
  pub merged_none : oldest r ≡ 0 → outcome (Err (NoFit (c + c))) (seen r ws) ≡ again (first_fit base (without_cache base (seen r ws)) z)
  unfolding from_merged
  merged_none e =
      let none : cached_in r ≡ [] = none_cached_lem (numbers r.cached) (cache_packed r ws h.served.sound) (numbers_at r.cached 0 ∙ e) in
      let same : first_fit base (without_cache base (seen r ws)) z ≡ nowhere c =
      ap (λ (s : State). first_fit base s z) (without_cache_done base (seen r ws) none) ∙ h.none in
      ap again (sym same)

  -- EMPTIED, with notes
  module _ (e : Record) (us : List ℕ) (log after : Log) (u : Noted (without_cache base (seen r ws)) 36 ws log e us after) where
    pub emptied_served : Served (seen e us) z
    emptied_served = record {
      sound = ap (sound_at 4) u.step.does ∙ without_cache_soundᵇ (ours 4) (seen r ws) h.served.sound;
      least = h.served.least;
      eights = h.served.eights;
    }

    -- the second search is not lost, and both have compared few
    pub again_found : lost ≡ walked_fit base (seen e us) z → ⊥
    again_found = never_lost e us z emptied_served

    pub again_few : (at : Option Link) (d : ℕ) → told_at at d ≡ walked_fit base (seen e us) z → (d < 65536) × (c + d < 131072)
    again_few at d q = let few = met_few e us z emptied_served at d q in let first = missed_few in (few, omega arith)

    pub again_fitting : (x d : ℕ) → rule.at x d ≡ walked_fit base (seen e us) z → Fitting (seen e us) z x
    again_fitting = fitting e us z emptied_served

    -- what the code's second search finds the rules' second search finds
    walks_again : (f : Found) → f ≡ walked_fit base (seen e us) z → f ≡ first_fit base (without_cache base (seen r ws)) z
    walks_again f q = q ∙ walked_fitᵇ (ours 4) (seen e us) emptied_served.sound z ∙ ap (λ (s : State). first_fit base s z) u.step.does

    pub merged_found : (o : Outcome State) (x d : ℕ) → rule.at x d ≡ walked_fit base (seen e us) z
        → o ≡ took base (seen e us) z x (c + d) → o ≡ again (first_fit base (without_cache base (seen r ws)) z)
    unfolding from_merged
    merged_found o x d q eo = eo ∙ ap (λ (s : State). took base s z x (c + d)) u.step.does ∙ ap again (walks_again (rule.at x d) q)

    -- the words put back are those at entry, if the log was empty and is as long as it is
    back_again : (vs : List ℕ) → log.len ≡ 0 → length log.notes.now ≡ 72 → vs ≡ put_back after.notes.now after.len us → vs ≡ ws
    back_again vs none long q =
        let notes : Undoes 36 ws log.notes.now 0 us after.notes.now after.len = rw none at u.step.undoes in
        let most = notes.most in
        let same = u.long in
        q ∙ put_back_all after.notes.now us after.len (omega arith) ∙ undo_whole 36 ws us log.notes.now after.notes.now after.len notes

    pub merged_nowhere : (vs : List ℕ) (d : ℕ) → log.len ≡ 0 → length log.notes.now ≡ 72 → vs ≡ put_back after.notes.now after.len us
        → nowhere d ≡ walked_fit base (seen e us) z → outcome (Err (NoFit (c + d))) (seen r vs) ≡ again (first_fit base (without_cache base (seen r ws)) z)
    unfolding from_merged
    merged_nowhere vs d none long b q =
        ap (λ (ts : List ℕ). says 3 0 (c + d) (seen r ts)) (back_again vs none long b) ∙ ap again (walks_again (nowhere d) q)
