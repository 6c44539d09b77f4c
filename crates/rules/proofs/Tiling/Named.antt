-- CHUNKS BY NAME: the length that a header gives is the layout's, and a heap has few chunks: one for 16 bytes at most, and no more listed. Assumes nothing.
use mathlib.Core.Path.{◌≡◌, sym, ap, ◌∙◌, subst}
use mathlib.Core.Bool.{Bool, true, false}
use mathlib.Core.List.Memᴰ
use mathlib.Core.List.{List, [], ◌∷◌, ◌++◌}
use Prim.Native.Nat.{ℕ, suc, ◌+◌, ◌-◌, ◌*◌, ◌/◌, ◌≤◌, ◌<◌}
use native.Mathlib.Omega.{arith}
use native.Mathlib.Nat.{zero-add}
use lib.ListN.{length}
use Rattle.words.proofs.Laws.Choice.{bit_small}
use Rattle.words.specs.Choice.{pick, bit}
use Rattle.rules.specs.Rules.Lists.{Mem}
use Rattle.rules.specs.Rules.Ops.{Ops}
use Rattle.rules.specs.Rules.Steps.{length_at}
use Rattle.rules.proofs.Steps.Store.{LinkStore}
use Rattle.rules.specs.Rules.Chunks.{Chunk, free, total, Legal}
use Rattle.rules.specs.Sound.Exact.{Slot, slot, frees}
use Rattle.rules.proofs.Tiling.Tags.{last_used, tags_back}
use Rattle.rules.proofs.Steps.Part.{legal_front, legal_back}
use Rattle.rules.proofs.Steps.Calls.{Whole, total_8}
use Rattle.rules.specs.Rules.Search.{in_turn}
use Rattle.rules.proofs.Lists.Search.{in_turn_lem, turn_distinct, no_more}
use Rattle.rules.specs.Rules.Calls.{byte_of}
use Rattle.rules.specs.Rules.Place.{len_at}
use Rattle.rules.proofs.Tiling.Place.{free_at, len_at_lem, header_len}

pub chunks_few : (cs : List Chunk) → Legal cs → 16 * length cs ≤ total cs
chunks_few [] l = omega arith
chunks_few (c ∷ cs) l = let a = l.0 in let r = chunks_few cs l.2 in omega arith

names : List Slot → List ℕ
names [] = []
names (t ∷ F) = t.name ∷ names F

in_names : (t : Slot) (F : List Slot) → Mem t F → Mem t.name (names F)
unfolding names
in_names t [] m = absurd (Memᴰ.not-nil m)
in_names t (u ∷ F) (Memᴰ.head e) = Memᴰ.head (ap (λ (s : Slot). s.name) e)
in_names t (u ∷ F) (Memᴰ.tail m) = Memᴰ.tail (in_names t F m)

names_few : (b : ℕ) (cs : List Chunk) → length (names (frees b cs)) ≤ length cs
unfolding names frees
names_few b [] = omega arith
names_few b (c ∷ cs) = go c.used (names_few (b + c.len) cs)
  where
    go : (u : Bool) → length (names (frees (b + c.len) cs)) ≤ length cs
        → length (names (pick u (frees (b + c.len) cs) (slot (b / 4 + 6) c.len ∷ frees (b + c.len) cs))) ≤ suc (length cs)
    go true r = omega arith
    go false r = omega arith

pub byte_at : (pre : List Chunk) (x : ℕ) → Legal pre → x ≡ (0 + total pre) / 4 + 6 → byte_of x ≡ 0 + total pre
byte_at pre x l e = let h = total_8 pre l in let k : total pre / 4 ≡ 2 * (total pre / 8) = omega arith in omega arith

module _ {S R : Type 0} {op : Ops S R} (L : LinkStore op) (cls : ℕ → ℕ) (cls6 : (n : ℕ) → cls n < 6) (s : S) (O : ℕ → List ℕ) where
  -- a free chunk's length, read from its header
  pub size_at : (pre : List Chunk) (n : ℕ) (post : List Chunk) (x : ℕ) → x ≡ (0 + total pre) / 4 + 6
      → Whole L cls cls6 s O (pre ++ free n ∷ post) → length_at op s x ≡ n
  size_at pre n post x e w =
      let l = legal_back pre (free n ∷ post) w.legal in
      let t = tags_back (op.word s) 0 true pre (free n ∷ post) w.tags in
      let q : x - 6 ≡ (0 + total pre) / 4 = omega arith in
      ap (λ (i : ℕ). op.word s i / 4 * 4) q ∙ header_len (op.word s ((0 + total pre) / 4)) n 0 (bit (last_used true pre)) l.1 (omega arith)
      (bit_small (last_used true pre)) t.0

  module _ (cs : List Chunk) (w : Whole L cls cls6 s O cs) where
    pub size_same : (j : ℕ) → j < 6 → (x : ℕ) → Mem x (O j) → length_at op s x ≡ len_at cs (byte_of x)
    size_same j hj x i =
        let r = w.exact.only j x hj i in
        let f = free_at 0 cs (slot x r.0) r.1 in
        let w' = subst (λ ds. Whole L cls cls6 s O ds) f.is w in
        let lp = legal_front f.pre (free r.0 ∷ f.post) w'.legal in
        size_at f.pre r.0 f.post x f.named w'
        ∙ sym (ap (λ ds. len_at ds (byte_of x)) f.is ∙ len_at_lem f.pre (free r.0) f.post (byte_of x) lp
        (byte_at f.pre x lp f.named ∙ zero-add (total f.pre)))

    -- what a list names is free
    listed_free : (j x : ℕ) → j < 6 → Mem x (O j) → Mem x (names (frees 0 cs))
    listed_free j x hj i = let r = w.exact.only j x hj i in in_names (slot x r.0) (frees 0 cs) r.1

    -- how many chunks a list can hold, and all lists together
    pub order_few : (j : ℕ) → j < 6 → length (O j) ≤ length cs
    order_few j hj =
        let a = no_more (O j) (names (frees 0 cs)) (w.rings.once j hj) (λ x i. listed_free j x hj i) in
        let b = names_few 0 cs in
        omega arith

    pub listed_few : (n k : ℕ) → k + n ≤ 6 → length (in_turn O n k) ≤ length cs
    listed_few n k h =
        let a = no_more (in_turn O n k) (names (frees 0 cs))
        (turn_distinct O n k (λ j q. w.rings.once j (omega arith)) (λ i j x p q. w.rings.apart i j x (omega arith) (omega arith)))
        (λ x i. let t = in_turn_lem O n k x i in let hi = t.2 in listed_free t.0 x (omega arith) t.3) in
        let b = names_few 0 cs in
        omega arith
