-- Taking a free chunk of the layout for z bytes, as the rules do it, is taking on the layout. Assumes nothing.
use mathlib.Core.Path.{◌≡◌, refl, ap}
use mathlib.Core.Bool.{Bool, true, false}
use mathlib.Core.List.{List, [], ◌∷◌, ◌++◌}
use Prim.Native.Nat.{ℕ, ◌+◌, ◌%◌, ◌≤◌, ◌<◌}
use native.Mathlib.Omega.{arith}
use lib.Dec.{leb}
use lib.ListN.{length}
use borrow.Author.Tests.{leb-true}
use Rattle.rules.specs.Rules.Ops.{Ops}
use Rattle.rules.proofs.Tiling.Bytes.{take_step}
use Rattle.rules.proofs.Steps.Store.{LinkStore}
use Rattle.rules.specs.Rules.Chunks.{Chunk, free, total, Calm, taken, cut}
use Rattle.rules.proofs.Tiling.Tags.{calm_left}
use Rattle.rules.proofs.Steps.Part.{legal_back}
use Rattle.rules.proofs.Steps.Calls.{Whole, take_whole, take_cut}
use Rattle.rules.specs.Machine.Orders.{taken_orders}

taken_at : (pre : List Chunk) (n z : ℕ) (post : List Chunk) → taken (pre ++ free n ∷ post) (length pre) z ≡ pre ++ cut n z post
unfolding taken
taken_at [] n z post = refl
taken_at (c ∷ pre) n z post = ap (λ (t : List Chunk). c ∷ t) (taken_at pre n z post)

module _ {S R : Type 0} {op : Ops S R} (L : LinkStore op) (cls : ℕ → ℕ) (cls6 : (n : ℕ) → cls n < 6) (s : S) (O : ℕ → List ℕ) where
  pub take_refines : (pre : List Chunk) (n : ℕ) (post : List Chunk) (z : ℕ) → 16 ≤ z → z % 8 ≡ 0 → Calm (pre ++ free n ∷ post)
      → Whole L cls cls6 s O (pre ++ free n ∷ post)
      → Whole L cls cls6 (take_step op cls s (0 + total pre) n z) (taken_orders cls O (0 + total pre) n z) (taken (pre ++ free n ∷ post) (length pre) z)
  unfolding take_step taken_orders cut
  take_refines pre n post z z16 z8 k w = go (leb (z + 12) n) refl
    where
      go : (t : Bool) → leb (z + 12) n ≡ t
          → Whole L cls cls6 (take_step op cls s (0 + total pre) n z) (taken_orders cls O (0 + total pre) n z) (taken (pre ++ free n ∷ post) (length pre) z)
      go true e =
          rw (taken_at pre n z post, e) (take_cut L cls cls6 pre post s O n w (calm_left pre n post k) z z16 z8
          (let q = leb-true (z + 12) n e in let n8 = (legal_back pre (free n ∷ post) w.legal).1 in omega arith))
      go false e = rw (taken_at pre n z post, e) (take_whole L cls cls6 pre post s O n w (calm_left pre n post k))
