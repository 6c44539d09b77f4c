-- THE RECORD'S SENTINELS BESIDE THE HEAP'S WORDS are a link store, for every link width that is lawful (crate `words`, proofs/Laws/Links.antt).
-- Assumes nothing.
use mathlib.Core.Path.{◌≡◌, refl, sym, ap, ◌∙◌}
use mathlib.Core.Logic.{◌⊎◌, inl, inr}
use mathlib.Core.Bool.{Bool, true, false}
use Prim.Native.Nat.{ℕ, ◌+◌, ◌-◌, ◌*◌, ◌/◌, ◌%◌, ◌≤◌, ◌<◌}
use native.Mathlib.Omega.{arith}
use lib.Dec.{eqb}
use lib.ListN.{length, length-set}
use lib.Seq.{get_or-set_same, get_or-set_other}
use borrow.Author.Tests.{eq-eqb, eqb-true}
use Rattle.words.specs.Choice.{pick}
use Rattle.words.specs.Links.{Side, prev, next, Width}
use Rattle.words.proofs.Laws.Links.{Lawful, length-set_sentinel, length-set_chunk, at-set_chunk, node_store_same, node_store_other, node_store_side, node-set}
use Rattle.rules.specs.Rules.State.{Heap, ops}
use Rattle.rules.proofs.Steps.Store.{LinkStore}

-- a chunk's name, in a heap of N words
abbrev pub Chunk : ℕ → ℕ → Type 0
Chunk N n = (6 ≤ n) × ((n - 6) % 2 ≡ 0) × (n - 6 + 3 < N)

abbrev pub Node : ℕ → ℕ → Type 0
Node N n = (n < 6) ⊎ Chunk N n

abbrev pub Good : {R : Type 0} → ℕ → Heap R → Type 0
Good N s = (length s.prevs ≡ 6) × (length s.nexts ≡ 6) × (length s.words ≡ N)

-- the words that a node keeps links in: at most the two after a chunk's header
abbrev pub Owns : ℕ → ℕ → Type 0
Owns n i = (6 ≤ n) × (n < i + 6) × (i + 4 ≤ n)

pub name : (W : Width) (N : ℕ) → N + 6 ≤ W.limit → (n : ℕ) → Node N n → n < W.limit
name W N fits n (inl h) = omega arith
name W N fits n (inr h) = omega arith

pub fit : (N b : ℕ) → b % 8 ≡ 0 → b + 16 ≤ 4 * (N - 1) → Node N (b / 4 + 6)
fit N b e h = inr (omega arith)

module _ {W : Width} (E : Lawful W) (N : ℕ) (a : Side) (n : ℕ) where
  -- a chunk's link is a word of the heap; it is one that the node owns; and chunks stand at even words
  pub inside : Node N n → 6 ≤ n → n - 6 + W.place a < N
  inside (inl h) six = absurd (omega arith)
  inside (inr h) six = let q = E.near a in omega arith

  pub owned : (i : ℕ) → 6 ≤ n → i ≡ n - 6 + W.place a → Owns n i
  owned i six e = let q = E.near a in omega arith

pub even : (N n : ℕ) → Node N n → 6 ≤ n → n % 2 ≡ 0
even N n (inl h) six = absurd (omega arith)
even N n (inr h) six = let q = h.1 in omega arith

pub six_true : {R : Type 0} (s : Heap R) → length s.prevs ≡ 6 → length s.nexts ≡ 6
    → pick (eqb (length s.prevs) 6) (eqb (length s.nexts) 6) false ≡ true
six_true s p n = rw (eq-eqb (length s.prevs) 6 p) (eq-eqb (length s.nexts) 6 n)

pub six_is : {R : Type 0} (s : Heap R) → pick (eqb (length s.prevs) 6) (eqb (length s.nexts) 6) false ≡ true
    → (length s.prevs ≡ 6) × (length s.nexts ≡ 6)
six_is s h = go (eqb (length s.prevs) 6) refl (eqb (length s.nexts) 6) refl h
  where
    go : (a : Bool) → eqb (length s.prevs) 6 ≡ a → (b : Bool) → eqb (length s.nexts) 6 ≡ b → pick a b false ≡ true
        → (length s.prevs ≡ 6) × (length s.nexts ≡ 6)
    go true p true q e = (eqb-true (length s.prevs) 6 p, eqb-true (length s.nexts) 6 q)
    go true p false q e = absurd (let z : ◌≡◌ {A = ℕ} 0 1 = cc in omega arith)
    go false p b q e = absurd (let z : ◌≡◌ {A = ℕ} 0 1 = cc in omega arith)

module _ {R : Type 0} {W : Width} (E : Lawful W) (N : ℕ) (pos : 0 < N) (fits : N + 6 ≤ W.limit) where
  abbrev pub store : LinkStore (ops {R = R} W)
  store = record {
    Good = Good N;
    Node = Node N;
    Name = λ v. v < W.limit;
    Owns = Owns;
    Word = λ i. i < N;
    sentinel = λ k h. inl h;
    bytes = 4 * (N - 1);
    fit = fit N;
    inw = λ i h. omega arith;
    owns = λ n i o. o;
    name = name W N fits;
    good-set_next = λ s n v g. (g.0, length-set_sentinel s.nexts n v ∙ g.1, length-set_chunk W next s.words n v ∙ g.2);
    good-set_prev = λ s n v g. (length-set_sentinel s.prevs n v ∙ g.0, g.1, length-set_chunk W prev s.words n v ∙ g.2);
    next-set_next = λ s n v g k lv. node_store_same E next s.words n v lv s.nexts (λ h. omega arith) (λ h. let q = inside E N next n k h in omega arith);
    next-set_next' = λ s n v m g k lv j q. node_store_other W next s.words n v s.nexts m q;
    next-set_prev = λ s n v m g k lv j. node_store_side E prev s.words n v lv s.nexts m (even N n k) (even N m j);
    prev-set_prev = λ s n v g k lv. node_store_same E prev s.words n v lv s.prevs (λ h. omega arith) (λ h. let q = inside E N prev n k h in omega arith);
    prev-set_prev' = λ s n v m g k lv j q. node_store_other W prev s.words n v s.prevs m q;
    prev-set_next = λ s n v m g k lv j. node_store_side E next s.words n v lv s.prevs m (even N n k) (even N m j);
    word-set_next = λ s n v i off. at-set_chunk W next s.words n v i (λ h e. off (owned E N next n i h e));
    word-set_prev = λ s n v i off. at-set_chunk W prev s.words n v i (λ h e. off (owned E N prev n i h e));
    rest-set_next = λ s n v. refl;
    rest-set_prev = λ s n v. refl;
    good-set_word = λ s i v g. (g.0, g.1, length-set s.words i v ∙ g.2);
    word-set_word = λ s i v g h. get_or-set_same s.words i v 0 (omega arith);
    word-set_word' = λ s i v j h. get_or-set_other s.words i j v 0 h;
    next-set_word = λ s i v n g k off. node-set W next s.nexts s.words n i v (λ h e. off (owned E N next n i h (sym e)));
    prev-set_word = λ s i v n g k off. node-set W prev s.prevs s.words n i v (λ h e. off (owned E N prev n i h (sym e)));
    rest-set_word = λ s i v. refl;
    Fit = λ r. Unit {0};
    rest-set_rest = λ s r f. refl;
    next-set_rest = λ s r n. refl;
    prev-set_rest = λ s r n. refl;
    word-set_rest = λ s r i. refl;
    good-set_rest = λ s r g. g;
    good_count = λ s g. ap (λ (n : ℕ). 4 * (n - 1)) (sym g.2);
    good_six = λ s g. six_true s g.0 g.1;
    good_is = λ s e c h. let q = six_is s h in (q.0, q.1, omega arith);
  }
