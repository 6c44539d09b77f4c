-- MAKING: one free chunk over whatever the words held is a whole heap. Assumes nothing.
use mathlib.Core.Path.{◌≡◌, refl, ap, ◌∙◌}
use mathlib.Core.Bool.{true, false}
use mathlib.Core.List.Memᴰ
use mathlib.Core.List.{[], ◌∷◌}
use Prim.Native.Nat.{ℕ, ◌+◌, ◌-◌, ◌/◌, ◌%◌, ◌≤◌, ◌<◌}
use native.Mathlib.Omega.{arith}
use Rattle.words.specs.Tags.{header_of}
use Rattle.words.specs.Sizes.{class_of}
use Rattle.rules.specs.Rules.Lists.{Mem}
use Rattle.rules.specs.Rules.Ops.{Ops}
use Rattle.rules.specs.Rules.Steps.{mark_free, one_chunk}
use Rattle.rules.proofs.Steps.Store.{LinkStore}
use Rattle.rules.proofs.Lists.Rings.{Rings, rings_write}
use Rattle.rules.specs.Rules.Chunks.{free}
use Rattle.rules.specs.Sound.Exact.{frees, Exact}
use Rattle.words.proofs.Laws.Sizes.{class_below}
use Rattle.rules.proofs.Steps.Part.{Part, part_link}
use Rattle.rules.proofs.Steps.Calls.{Whole}
use Rattle.rules.specs.Machine.Orders.{push}

none : Exact class_of (λ k. []) []
none = record { listed = λ x n m. absurd (Memᴰ.not-nil m); only = λ k x h m. absurd (Memᴰ.not-nil m) }

module _ {S R : Type 0} {op : Ops S R} (L : LinkStore op) (b16 : 16 ≤ L.bytes) (b8 : L.bytes % 8 ≡ 0) (s : S) (r : Rings L s (λ k. [])) where
  off : (i k x : ℕ) → k < 6 → Mem x (k ∷ []) → L.Owns x i → ⊥
  off i k x h (Memᴰ.head e) o = let b = L.owns x i o in omega arith
  off i k x h (Memᴰ.tail m) o = Memᴰ.not-nil m

  tagged : Part L class_of (op.set_word (mark_free op s 0 L.bytes) (L.bytes / 4) 2) (λ k. []) (free L.bytes ∷ []) []
  unfolding mark_free
  tagged = record {
    rings = rings_write L s2 (λ k. []) (L.bytes / 4) 2 (off (L.bytes / 4))
        (rings_write L s1 (λ k. []) (0 + L.bytes / 4 - 1) L.bytes (off (0 + L.bytes / 4 - 1))
        (rings_write L s (λ k. []) 0 (header_of L.bytes false true) (off 0) r));
    exact = none;
    sub = λ t m. absurd (Memᴰ.not-nil m);
    legal = (b16, b8, tt);
    size = omega arith;
    tags = (
      L.word-set_word' s2 _ _ 0 (omega arith) ∙ L.word-set_word' s1 _ _ 0 (omega arith)
          ∙ L.word-set_word s 0 _ r.good (L.inw 0 (omega arith)) ∙ omega arith,
      λ e. ap (λ (i : ℕ). op.word s3 i) (let q : (0 + L.bytes) / 4 - 1 ≡ 0 + L.bytes / 4 - 1 = omega arith in q)
          ∙ L.word-set_word' s2 _ _ (0 + L.bytes / 4 - 1) (omega arith) ∙ L.word-set_word s1 _ _ g1 (L.inw (0 + L.bytes / 4 - 1) (omega arith)),
      ap (λ (i : ℕ). op.word s3 (i / 4)) (omega arith) ∙ L.word-set_word s2 _ _ g2 (L.inw (L.bytes / 4) (omega arith)),
    );
  }
    where
      s1 : S
      s1 = op.set_word s 0 (header_of L.bytes false true)

      s2 : S
      s2 = op.set_word s1 (0 + L.bytes / 4 - 1) L.bytes

      s3 : S
      s3 = op.set_word s2 (L.bytes / 4) 2

      g1 : L.Good s1
      g1 = L.good-set_word s _ _ r.good

      g2 : L.Good s2
      g2 = L.good-set_word s1 _ _ g1

  pub made_whole : Whole L class_of class_below (one_chunk op s L.bytes) (push (λ k. []) (class_of L.bytes) 6) (free L.bytes ∷ [])
  unfolding one_chunk push frees
  made_whole =
      part_link L class_of class_below (op.set_word (mark_free op s 0 L.bytes) (L.bytes / 4) 2) (λ k. []) (free L.bytes ∷ []) [] [] 6 L.bytes
      (λ t m e. Memᴰ.not-nil m)
      (Memᴰ.head refl) (L.fit 0 refl b16) (omega arith) tagged
