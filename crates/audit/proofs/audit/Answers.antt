-- `audit::audit` meets its contract: each test that fails shuts soundness out, and where all hold the pair is sound, by words and counts and so by
-- the rules.
use Rattle.std.proofs.Common.{◌≡◌, ℕ, Bool, true, ◌↔◌, List, length, sym, ◌∙◌, ⊎_elim, arith}
use mathlib.Core.Bool.{false≢true}
use Rattle.words.specs.declared.names.Link.{Link}
use Rattle.words.specs.Links.{narrow}
use Rattle.rules.specs.Sound.Test.{soundᵇ}
use Rattle.rules.specs.Rules.State.{ops}
use Rattle.audit.specs.declared.Figures.{Figures}
use Rattle.audit.specs.Shown.{shown}
use Rattle.audit.proofs.Sound.{SoundPair}
use Rattle.audit.proofs.Whole.{found_of, held_of_lem, not_broken, links_of, cache_of, figures_of_lem, rings_of, ringed_of, listed_of, sound_of}
use Rattle.audit.proofs.Agree.{tells}
use Rattle.audit.proofs.Cached.{held_fit}
use Rattle.audit.proofs.tiling.Tallies.{tally_broken}
use Rattle.audit.proofs.Counting.{refused, passed_on}
use Rattle.audit.proofs.audit.Goals as goal
use Rattle.audit.proofs.audit.Goals.{then-t-n-via-then-t-n, then-t-n-via-else-t-n+then-not-figures_right}

-- an answer that is true exactly where the pair is sound is the rules' test of what was given
told : {places : ℕ} (prev next : List Link) (f : Figures) (ws : List ℕ) → length prev ≡ 6 → length next ≡ 6 → {b : Bool}
    → (b ≡ true) ↔ SoundPair places prev next f ws → b ≡ soundᵇ (ops narrow) 65529 places (shown prev next f ws)
told {places = places} prev next f ws p n {b = b} e = tells places prev next f ws p n b e

pub returns-then-not-links_right : goal.returns-then-not-links_right
returns-then-not-links_right c =
    told _ _ c.args.figures _ (omega (arith, c.well_formed)) (omega (arith, c.well_formed))
    (refused (λ s.
    ⊎_elim
    (λ l. false≢true (sym l ∙ c.links_right.ensures ∙ links_of _ _ _ _ _ s))
    (λ l. omega (arith, l.1, s.figures.most))
    c.then-not-links_right.either))

pub returns-then-figures-heap : goal.returns-then-figures-heap
returns-then-figures-heap c =
    told _ _ c.args.figures _ (omega (arith, c.well_formed)) (omega (arith, c.well_formed)) (refused (λ s. c.if-figures-heap.true (sym s.figures.words)))

pub returns-in_default : goal.returns-in_default
returns-in_default c =
    let broken = tally_broken _ c.in_default.ensures.0 in
    told _ _ c.args.figures _ (omega (arith, c.well_formed)) (omega (arith, c.well_formed)) (refused (not_broken _ _ _ _ _ broken))

pub returns-then-t-n : goal.returns-then-t-n
returns-then-t-n c =
    let walk = c.in-Some.ensures in
    let words = rw c.len-n.ensures.is at c.cached_words-ws.ensures in
    let found = found_of _ _ _ _ words walk.1 in
    told _ _ c.args.figures _ (omega (arith, c.well_formed)) (omega (arith, c.well_formed))
    (refused (λ s.
    elim c.then-t-n.branch [
      | then-t-n-via-then-t-n w ↦ omega (arith, w.if-t-n.true, c.len-n.ensures.is, found.end (cache_of _ _ _ _ _ s))
      | then-t-n-via-else-t-n+then-not-figures_right w ↦
          let held = held_of_lem _ _ _ words w.lengths_at.ensures (found.all (omega (arith, w.if-t-n.false, c.len-n.ensures.is))) in
          let fit = held_fit _ _ _ _ _ _ (sym held) (figures_of_lem _ _ _ _ _ _ walk.0 found.first s) in
          false≢true (sym w.if-not-figures_right.true ∙ w.figures_right.ensures.1 (rw c.len-n.ensures.is fit))
    ]))

pub returns-else-rings_right : goal.returns-else-rings_right
returns-else-rings_right c =
    let walk = c.in-Some.ensures in
    let words = rw c.len-n.ensures.is at c.cached_words-ws.ensures in
    let found = found_of _ _ _ _ words walk.1 in
    rw c.if-rings_right.false
    (told _ _ c.args.figures _ (omega (arith, c.well_formed)) (omega (arith, c.well_formed))
    (refused (λ s.
    let rings = rings_of _ _ _ _ _ _ walk.0 found.first s in
    false≢true (sym c.if-rings_right.false ∙ c.rings_right.ensures.1 rings))))

pub lists_right-requires : goal.lists_right-requires
lists_right-requires c =
    let walk = c.in-Some.ensures in
    let words = rw c.len-n.ensures.is at c.cached_words-ws.ensures in
    let found = found_of _ _ _ _ words walk.1 in
    let rings = c.rings_right.ensures.0 c.if-rings_right.true in
    ringed_of c.args.places c.args.prev _ c.args.figures _ _ walk.0 found.first rings

pub returns-then-rings_right : goal.returns-then-rings_right
returns-then-rings_right c =
    let walk = c.in-Some.ensures in
    let words = rw c.len-n.ensures.is at c.cached_words-ws.ensures in
    let found = found_of _ _ _ _ words walk.1 in
    let links = sym c.links_right.ensures ∙ c.if-not-links_right.false in
    let cache = found.all (omega (arith, c.if-t-n.false, c.len-n.ensures.is)) in
    let held = held_of_lem _ _ _ words c.lengths_at.ensures cache in
    let right = rw c.len-n.ensures.is at (c.figures_right.ensures.0 c.if-not-figures_right.false) in
    let figures = held_fit _ _ _ _ _ _ held right in
    let rings = c.rings_right.ensures.0 c.if-rings_right.true in
    told _ _ c.args.figures _ (omega (arith, c.well_formed)) (omega (arith, c.well_formed))
    (passed_on _ c.lists_right.ensures (sound_of _ _ _ _ _ _ walk.0 found.first rings figures links cache)
    (listed_of _ _ _ _ _ _ walk.0 found.first))
