-- THE TESTS OF A ROW: `standsᵇ` and `followsᵇ` (`specs/Reading.antt`) hold exactly if `Stands` and `Fits` do. Assumes nothing.
--     both_true, both_false     two tests in one
--     stands_true, stands_yes     the first tests of a row, clause by clause
--     fits_true, true_fits     all of them
--     row_fits     a row that follows has numbers that fit their digits
use mathlib.Core.Path.{◌≡◌, refl}
use mathlib.Core.Bool.{Bool, true, false, not}
use Prim.Native.Nat.{ℕ, ◌+◌, ◌-◌, ◌*◌, ◌%◌, ◌^◌, ◌≤◌, ◌<◌}
use native.Mathlib.Omega.{arith}
use borrow.Author.Tests.{eq-eqb, le-leb, eqb-true, leb-true}
use Rattle.words.specs.Choice.{bit}
use Rattle.rules.specs.Sound.Test.{both}
use Rattle.map.specs.declared.rows.Row.{Row}
use Rattle.map.specs.declared.rows.Place.{Place}
use Rattle.map.specs.Rows.{is_free, is_cached}
use Rattle.map.specs.Reading.{standsᵇ, followsᵇ}

-- ---- two tests in one

-- both hold where the test of both does
pub both_true : (s t : Bool) → both s t ≡ true → (s ≡ true) × (t ≡ true)
both_true true t e = (refl, e)
both_true false t e = let z : ◌≡◌ {A = ℕ} 0 1 = cc in absurd (omega arith)

-- where the second fails, so does the test of both
pub both_false : (s : Bool) → both s false ≡ false
both_false true = refl
both_false false = refl

-- ---- a row that stands

module _ (most b : ℕ) (r : Row) where
  -- what its tests say
  pub record Stands : Type 0 where
    pub here : r.at ≡ b
    pub least : 16 ≤ r.len
    pub eights : r.len % 8 ≡ 0
    pub within : b + r.len ≤ 4 * (most - 1)

  pub stands_true : standsᵇ most b r ≡ true → Stands
  unfolding standsᵇ
  stands_true e =
      let here = both_true _ _ e in
      let least = both_true _ _ here.1 in
      let eights = both_true _ _ least.1 in
      record {
        here = eqb-true _ _ here.0;
        least = leb-true _ _ least.0;
        eights = eqb-true _ _ eights.0;
        within = leb-true _ _ eights.1;
      }

  pub stands_yes : Stands → true ≡ standsᵇ most b r
  unfolding standsᵇ
  stands_yes s =
      rw (
        eq-eqb r.at b s.here,
        le-leb 16 r.len s.least,
        eq-eqb (r.len % 8) 0 s.eights,
        le-leb (b + r.len) (4 * (most - 1)) s.within,
      )

-- ---- a row that follows

module _ (most places : ℕ) (p : Place) (r : Row) where
  -- what all tests say
  pub record Fits : Type 0 where
    pub stands : Stands most p.at r
    pub apart : not (both p.free (is_free r.kind)) ≡ true
    pub room : p.held + bit (is_cached r.kind) ≤ places

  pub fits_true : followsᵇ most places p r ≡ true → Fits
  unfolding followsᵇ
  fits_true e =
      let s = both_true _ _ e in
      let a = both_true _ _ s.1 in
      record { stands = stands_true most p.at r s.0; apart = a.0; room = leb-true _ _ a.1 }

  pub true_fits : Fits → followsᵇ most places p r ≡ true
  unfolding followsᵇ
  true_fits f = rw (← (stands_yes most p.at r f.stands), f.apart) (le-leb (p.held + bit (is_cached r.kind)) places f.room)

  -- its numbers fit their digits
  pub row_fits : 4 * most ≤ 2 ^ 32 → followsᵇ most places p r ≡ true → (r.at < 2 ^ 32) × (r.len < 2 ^ 32)
  row_fits h e = let s = (fits_true e).stands in (omega (arith, s.here, s.within, s.least), omega (arith, s.within, s.least))
