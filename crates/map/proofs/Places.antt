-- WHICH ROWS FOLLOW ONE ANOTHER: the reader's step-by-step test against legality, which is said of all rows at once. Assumes nothing.
--     Goes, past_all              each row follows at its place; the place after rows
--     goes_on_lem, goes_parts        rows after rows
--     goes_map, map_goes         rows follow from the start exactly if they are a legal map
--     goes_begun, begun_goes     or none
--     map_first                  the first rows of a legal map
use mathlib.Core.Path.{◌≡◌, refl, sym, subst, ◌∙◌}
use mathlib.Core.Logic.{◌⊎◌, inl, inr}
use mathlib.Core.Bool.{Bool, true, false, not}
use mathlib.Core.List.{List, [], ◌∷◌, ◌++◌}
use Prim.Native.Nat.{ℕ, ◌+◌, ◌-◌, ◌*◌, ◌/◌, ◌%◌, ◌≤◌, ◌<◌}
use native.Mathlib.Omega.{arith}
use lib.ListN.{length}
use Rattle.rules.specs.Rules.Chunks.{total, Legal, Calm, used_head}
use Rattle.rules.specs.Sound.Test.{either}
use Rattle.rules.specs.Sound.Test.{both}
use Rattle.rules.proofs.Steps.Calls.{total_8}
use Rattle.map.specs.declared.rows.Row.{Row}
use Rattle.map.specs.declared.rows.Place.{Place}
use Rattle.map.specs.Rows.{is_free}
use Rattle.map.specs.Layout.{chunks_of, cached_in, InLine, LegalMap}
use Rattle.map.specs.Reading.{start, followsᵇ, past}
use Rattle.map.proofs.RowTests.{fits_true, true_fits}

-- no free chunk after a free one, said in the two ways
apart_first : (f g : Bool) → not (both f g) ≡ either (not f) (not g)
apart_first true g = refl
apart_first false g = refl

first_none : (f : Bool) → either f true ≡ true
first_none true = refl
first_none false = refl

-- some rows have 16 bytes at least
total_some : (rs : List Row) → 0 < length rs → Legal (chunks_of rs) → 16 ≤ total (chunks_of rs)
unfolding chunks_of
total_some [] some l = absurd (omega arith)
total_some (r ∷ rs) some l = omega (arith, l.0)

-- the place after rows
abbrev pub past_all : Place → List Row → Place
past_all p [] = p
past_all p (r ∷ rs) = past_all (past p r) rs

module _ (most places : ℕ) where
  -- each row follows at its place
  abbrev pub Goes : Place → List Row → Type 0
  Goes p [] = Unit {0}
  Goes p (r ∷ rs) = (followsᵇ most places p r ≡ true) × Goes (past p r) rs

  -- rows after rows
  pub goes_on_lem : (p : Place) (rs ts : List Row) → Goes p rs → Goes (past_all p rs) ts → Goes p (rs ++ ts)
  goes_on_lem p [] ts g h = h
  goes_on_lem p (r ∷ rs) ts g h = (g.0, goes_on_lem (past p r) rs ts g.1 h)

  pub goes_parts : (p : Place) (rs ts : List Row) → Goes p (rs ++ ts) → Goes p rs × Goes (past_all p rs) ts
  goes_parts p [] ts g = (tt, g)
  goes_parts p (r ∷ rs) ts g = let h = goes_parts (past p r) rs ts g.1 in ((g.0, h.0), h.1)

  -- ALL ROWS AT ONCE, from a place on
  record From (p : Place) (rs : List Row) : Type 0 where
    within : p.at + total (chunks_of rs) ≤ 4 * (most - 1)
    in_line : InLine p.at rs
    legal : Legal (chunks_of rs)
    first : either (not p.free) (used_head (chunks_of rs)) ≡ true
    calm : Calm (chunks_of rs)
    cached : p.held + cached_in rs ≤ places

  goes_from : (p : Place) (rs : List Row) → p.at ≤ 4 * (most - 1) → p.held ≤ places → Goes p rs → From p rs
  unfolding chunks_of cached_in
  goes_from p [] h k g = record { within = omega arith; in_line = tt; legal = tt; first = first_none (not p.free); calm = tt; cached = omega arith }
  goes_from p (r ∷ rs) h k g =
      let f = fits_true most places p r g.0 in
      let s = f.stands in
      let q = goes_from (past p r) rs s.within f.room g.1 in
      record {
        within = omega (arith, q.within);
        in_line = (s.here, q.in_line);
        legal = (s.least, s.eights, q.legal);
        first = sym (apart_first p.free (is_free r.kind)) ∙ f.apart;
        calm = (q.first, q.calm);
        cached = omega (arith, q.cached);
      }

  from_goes : (p : Place) (rs : List Row) → From p rs → Goes p rs
  unfolding chunks_of cached_in
  from_goes p [] f = tt
  from_goes p (r ∷ rs) f = (
    true_fits most places p r (record {
      stands = record {
        here = f.in_line.0;
        least = f.legal.0;
        eights = f.legal.1;
        within = omega (arith, f.within);
      };
      apart = apart_first p.free (is_free r.kind) ∙ f.first;
      room = omega (arith, f.cached);
    }),
    from_goes (past p r) rs (record {
      within = omega (arith, f.within);
      in_line = f.in_line.1;
      legal = f.legal.2;
      first = f.calm.0;
      calm = f.calm.1;
      cached = omega (arith, f.cached);
    }),
  )

  -- some rows follow from the start exactly if they are a legal map
  pub goes_map : (rs : List Row) → 0 < length rs → Goes start rs → LegalMap most places rs
  goes_map rs some g =
      let f = goes_from start rs (omega arith) (omega arith) g in
      let t : ℕ = total (chunks_of rs) in
      let e : t % 8 ≡ 0 = total_8 (chunks_of rs) f.legal in
      let l : 16 ≤ t = total_some rs some f.legal in
      let w : 0 + t ≤ 4 * (most - 1) = f.within in
      record {
        words = t / 4 + 1;
        accepted = (omega arith, omega arith, omega arith);
        fills = omega arith;
        in_line = f.in_line;
        legal = f.legal;
        calm = f.calm;
        cached = omega (arith, f.cached);
      }

  pub map_goes : (rs : List Row) → LegalMap most places rs → Goes start rs
  map_goes rs m =
      from_goes start rs (record {
        within = (let a = m.accepted in let f = m.fills in omega arith);
        in_line = m.in_line;
        legal = m.legal;
        first = refl;
        calm = m.calm;
        cached = omega (arith, m.cached);
      })

  -- a legal map has a row
  pub map_some : LegalMap most places [] → ⊥
  unfolding chunks_of
  map_some m = let a = m.accepted in let f : 0 ≡ 4 * (m.words - 1) = m.fills in omega arith

  -- so rows follow from the start exactly if they are none, or a legal map
  pub goes_begun : (rs : List Row) → Goes start rs → (rs ≡ []) ⊎ LegalMap most places rs
  goes_begun [] g = inl refl
  goes_begun (r ∷ rs) g = inr (goes_map (r ∷ rs) (omega arith) g)

  pub begun_goes : (rs : List Row) → (rs ≡ []) ⊎ LegalMap most places rs → Goes start rs
  begun_goes rs (inl e) = subst (Goes start) (sym e) tt
  begun_goes rs (inr m) = map_goes rs m

  -- the first rows of a legal map, if any, are one
  pub map_first : (rs ts : List Row) → LegalMap most places (rs ++ ts) → (rs ≡ []) ⊎ LegalMap most places rs
  map_first rs ts m = goes_begun rs (goes_parts start rs ts (map_goes (rs ++ ts) m)).0
