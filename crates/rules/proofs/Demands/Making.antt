-- MAKING: 6 exactly for lengths that are not accepted, nothing is live after it, and it writes no other word than the first header, the links after it, the
-- footer and the guard. Assumes nothing.
use mathlib.Core.Path.{◌≡◌, refl, sym, ap, ◌∙◌}
use mathlib.Core.Logic.{◌≢◌}
use mathlib.Core.Bool.{Bool, true, false}
use mathlib.Core.List.{List, [], ◌∷◌}
use Prim.Native.Nat.{ℕ, ◌+◌, ◌-◌, ◌*◌, ◌/◌, ◌≤◌, ◌<◌}
use native.Mathlib.Omega.{arith}
use lib.Dec.{eqb, leb}
use lib.ListN.{length, get_or, set, length-set}
use lib.Seq.{get_or-set_other}
use borrow.Author.Tests.{lt-ltb}
use Rattle.words.specs.Choice.{pick}
use Rattle.words.specs.Links.{Width, Side, narrow, wide, prev, next, set_link_at, set_chunk_link}
use Rattle.words.specs.Tags.{header_of}
use Rattle.words.specs.Sizes.{class_of}
use Rattle.words.proofs.Laws.Sizes.{class_below}
use Rattle.words.proofs.Laws.Links.{Lawful, narrow_lawful, wide_lawful}
use Rattle.rules.specs.Rules.Steps.{link, mark_free, one_chunk}
use Rattle.rules.specs.Rules.State.{ops}
use Rattle.rules.specs.Rules.Chunks.{free}
use Rattle.rules.specs.Rules.Place.{used_at}
use Rattle.rules.specs.Rules.Calls.{Figures, Outcome, says}
use Rattle.rules.specs.Demands.Kind.{one}
use Rattle.rules.specs.Rules.Making.{State, acceptedᵇ, make, empty, fresh}
use Rattle.rules.specs.Machine.Machine.{made_m}
use Rattle.rules.specs.Demands.Lives.{NoneLive}
use Rattle.rules.specs.Demands.Promises.{SixExactly, MakingWrites}
use Rattle.rules.proofs.Demands.Editions.{edition, narrow_fits, wide_fits, selves_at, accepted_true}
use Rattle.rules.proofs.Demands.Proved.{making}
use Rattle.rules.proofs.Demands.Lives.{live_shown, live_unused}

-- one free chunk: no byte begins a used one
none_used : (n b : ℕ) → used_at (free n ∷ []) b ≡ 0
unfolding used_at
none_used n b = go (eqb b 0) (leb n b)
  where
    go : (t u : Bool) → ◌≡◌ {A = ℕ} (pick t 0 (pick u 0 0)) 0
    go true u = refl
    go false true = refl
    go false false = refl

-- a link stored: the words stay as long, and only the word that holds it may change; none where the node is a sentinel
link_off : (W : Width) (a : Side) (ws : List ℕ) (w v i : ℕ) → i ≢ w + W.place a → get_or (set_link_at W a ws w v) i 0 ≡ get_or ws i 0
unfolding set_link_at
link_off W a ws w v i d = get_or-set_other ws (w + W.place a) i _ 0 d

-- storing a link keeps the number of words
link_long : (W : Width) (a : Side) (ws : List ℕ) (w v : ℕ) → length (set_link_at W a ws w v) ≡ length ws
unfolding set_link_at
link_long W a ws w v = length-set ws (w + W.place a) _

-- a sentinel's link is in no word
sentinel_off : (W : Width) (a : Side) (ws : List ℕ) (k v : ℕ) → k < 6 → set_chunk_link W a ws k v ≡ ws
sentinel_off W a ws k v h = rw (lt-ltb k 6 h) refl

-- n words have 4 n bytes
quarter : (n : ℕ) → 4 * n / 4 ≡ n
quarter n = omega arith

-- a sum from 0
zero_plus : (n : ℕ) → 0 + n ≡ n
zero_plus n = omega arith

-- the footer's word is the last but one
less : (n : ℕ) → 0 + (n - 1) - 1 ≡ n - 2
less n = omega arith

module _ (W : Width) where
  -- the words after making: header, footer, guard, then the links of the chunk
  tagged : List ℕ → List ℕ
  tagged ws = let b = 4 * (length ws - 1) in set (set (set ws 0 (header_of b false true)) (0 + b / 4 - 1) b) (b / 4) 2

  -- the words of a made heap, link words last
  written : List ℕ → ℕ → ℕ → List ℕ
  written ws n k = set_link_at W prev (set_link_at W next (tagged ws) 0 n) 0 k

  -- making writes exactly these
  made_words : (ws : List ℕ) → (one_chunk (ops {R = Figures} W) (fresh ws) (4 * (length ws - 1))).words ≡ written ws (class_of (4 * (length ws - 1)))
      (class_of (4 * (length ws - 1)))
  unfolding one_chunk link mark_free tagged written
  made_words ws =
      let k = class_of (4 * (length ws - 1)) in
      let h : k < 6 = class_below (4 * (length ws - 1)) in
      rw (lt-ltb k 6 h, selves_at k h, lt-ltb k 6 h) refl

  -- any other word stays
  made_off : (ws : List ℕ) (n k i : ℕ) → 5 ≤ length ws → i ≢ 0 → i ≢ W.place prev → i ≢ W.place next → i ≢ length ws - 2 → i ≢ length ws - 1
      → get_or (written ws n k) i 0 ≡ get_or ws i 0
  unfolding tagged written
  made_off ws n k i h a b c d e =
      let w = tagged ws in
      link_off W prev (set_link_at W next w 0 n) 0 k i (λ y. b (y ∙ zero_plus (W.place prev))) ∙ link_off W next w 0 n i (λ y. c (y ∙ zero_plus (W.place next)))
      ∙ get_or-set_other (set (set ws 0 _) (0 + 4 * (length ws - 1) / 4 - 1) _) (4 * (length ws - 1) / 4) i 2 0 (λ y. e (y ∙ quarter (length ws - 1)))
      ∙ get_or-set_other (set ws 0 _) (0 + 4 * (length ws - 1) / 4 - 1) i _ 0
      (λ y. d (y ∙ ap (λ (t : ℕ). 0 + t - 1) (quarter (length ws - 1)) ∙ less (length ws))) ∙ get_or-set_other ws 0 i _ 0 a

  -- and so does the number of words
  made_long : (ws : List ℕ) (n k : ℕ) → length (written ws n k) ≡ length ws
  unfolding tagged written
  made_long ws n k =
      link_long W prev (set_link_at W next (tagged ws) 0 n) 0 k ∙ link_long W next (tagged ws) 0 n
      ∙ length-set (set (set ws 0 _) (0 + 4 * (length ws - 1) / 4 - 1) _) (4 * (length ws - 1) / 4) 2
      ∙ length-set (set ws 0 _) (0 + 4 * (length ws - 1) / 4 - 1) _ ∙ length-set ws 0 _

  -- making writes no other words
  pub making_writes : (most : ℕ) → MakingWrites W most
  unfolding make
  making_writes most ws = go (acceptedᵇ most (length ws)) refl
    where
      Wrote : Outcome State → Type 0
      Wrote o =
          (length o.after.words ≡ length ws)
          × ((i : ℕ) → i ≢ 0 → i ≢ W.place prev → i ≢ W.place next → i ≢ length ws - 2 → i ≢ length ws - 1 → get_or o.after.words i 0 ≡ get_or ws i 0)

      go : (t : Bool) → acceptedᵇ most (length ws) ≡ t
          → Wrote (pick t (says 0 0 0 (one_chunk (ops W) (fresh ws) (4 * (length ws - 1)))) (says 6 0 0 (empty ws)))
      go true e =
          let k = class_of (4 * (length ws - 1)) in
          let a = (accepted_true most (length ws) e).0 in
          let m = made_words ws in
          (ap length m ∙ made_long ws k k, λ i p q r x y. ap (λ (us : List ℕ). get_or us i 0) m ∙ made_off ws k k i a p q r x y)
      go false e = (refl, λ i p q r x y. refl)

module _ {W : Width} (E : Lawful W) (most places : ℕ) (f : most + 6 ≤ W.limit) where
  -- after making nothing is live
  pub none_live : NoneLive W most places
  none_live ws n p =
      live_shown (edition E most places f) (make W most ws).after (made_m (length ws)) ((making E most places f ws).1 n) p
      ∙ live_unused (made_m (length ws)) p (none_used (4 * (length ws - 1)) (p - 4))

  -- 6 exactly for other lengths
  pub six_exactly : SixExactly W most
  unfolding make
  six_exactly ws = (
    λ e a. (let u : ◌≡◌ {A = ℕ} 6 0 = sym e ∙ (making E most places f ws).0.1 a in omega arith),
    λ h. ((making E most places f ws).2 (λ z. h ((making E most places f ws).0.0 z))).0,
  )

-- BOTH WIDTHS
pub narrow_none_live : (places : ℕ) → NoneLive narrow 65529 places
narrow_none_live places = none_live narrow_lawful 65529 places narrow_fits

-- with wide links
pub wide_none_live : (places : ℕ) → NoneLive wide 4194303 places
wide_none_live places = none_live wide_lawful 4194303 places wide_fits

-- 6, with narrow links
pub narrow_six : SixExactly narrow 65529
narrow_six = six_exactly narrow_lawful 65529 one.places narrow_fits

-- 6, with wide links
pub wide_six : SixExactly wide 4194303
wide_six = six_exactly wide_lawful 4194303 one.places wide_fits
