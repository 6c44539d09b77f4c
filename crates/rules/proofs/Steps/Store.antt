-- What a place that holds links must offer, said once for every link width. A node is named by its link number: 0 to 5 a sentinel, w + 6 the chunk
-- whose header is word w. `Good` speaks of the store's lengths, `Node` of the names in use, `Name` of the numbers that a link can hold.
-- Assumes nothing.
use mathlib.Core.Path.{◌≡◌}
use mathlib.Core.Logic.{◌≢◌}
use Prim.Native.Nat.{ℕ, ◌+◌, ◌-◌, ◌*◌, ◌/◌, ◌%◌, ◌≤◌, ◌<◌}
use mathlib.Core.Bool.{true}
use lib.ListN.{length}
use Rattle.rules.specs.Rules.Lists.{Mem}
use Rattle.rules.specs.Rules.Ops.{Ops}
use Rattle.rules.specs.Rules.Calls.{Figures}
use Rattle.rules.specs.Sound.Sound.{Accepted}

pub record LinkStore {S R : Type 0} (op : Ops S R) : Type 1 where
  pub Good : S → Type 0
  pub Node : ℕ → Type 0
  pub Name : ℕ → Type 0
  -- word i is one that node n keeps links in
  pub Owns : ℕ → ℕ → Type 0
  -- there is a word i
  pub Word : ℕ → Type 0
  pub sentinel : (k : ℕ) → k < 6 → Node k
  -- the bytes before the guard; where a chunk may begin there is a node, whose links stand in the two words after its header
  pub bytes : ℕ
  pub fit : (b : ℕ) → b % 8 ≡ 0 → b + 16 ≤ bytes → Node (b / 4 + 6)
  pub inw : (i : ℕ) → i ≤ bytes / 4 → Word i
  pub owns : (n i : ℕ) → Owns n i → (6 ≤ n) × (n < i + 6) × (i + 4 ≤ n)
  pub name : (n : ℕ) → Node n → Name n
  pub good-set_next : (s : S) (n v : ℕ) → Good s → Good (op.set_next s n v)
  pub good-set_prev : (s : S) (n v : ℕ) → Good s → Good (op.set_prev s n v)
  pub next-set_next : (s : S) (n v : ℕ) → Good s → Node n → Name v → op.next (op.set_next s n v) n ≡ v
  pub next-set_next' : (s : S) (n v m : ℕ) → Good s → Node n → Name v → Node m → m ≢ n → op.next (op.set_next s n v) m ≡ op.next s m
  pub next-set_prev : (s : S) (n v m : ℕ) → Good s → Node n → Name v → Node m → op.next (op.set_prev s n v) m ≡ op.next s m
  pub prev-set_prev : (s : S) (n v : ℕ) → Good s → Node n → Name v → op.prev (op.set_prev s n v) n ≡ v
  pub prev-set_prev' : (s : S) (n v m : ℕ) → Good s → Node n → Name v → Node m → m ≢ n → op.prev (op.set_prev s n v) m ≡ op.prev s m
  pub prev-set_next : (s : S) (n v m : ℕ) → Good s → Node n → Name v → Node m → op.prev (op.set_next s n v) m ≡ op.prev s m
  pub word-set_next : (s : S) (n v i : ℕ) → (Owns n i → ⊥) → op.word (op.set_next s n v) i ≡ op.word s i
  pub word-set_prev : (s : S) (n v i : ℕ) → (Owns n i → ⊥) → op.word (op.set_prev s n v) i ≡ op.word s i
  pub rest-set_next : (s : S) (n v : ℕ) → op.rest (op.set_next s n v) ≡ op.rest s
  pub rest-set_prev : (s : S) (n v : ℕ) → op.rest (op.set_prev s n v) ≡ op.rest s
  pub good-set_word : (s : S) (i v : ℕ) → Good s → Good (op.set_word s i v)
  pub word-set_word : (s : S) (i v : ℕ) → Good s → Word i → op.word (op.set_word s i v) i ≡ v
  pub word-set_word' : (s : S) (i v j : ℕ) → j ≢ i → op.word (op.set_word s i v) j ≡ op.word s j
  pub next-set_word : (s : S) (i v n : ℕ) → Good s → Node n → (Owns n i → ⊥) → op.next (op.set_word s i v) n ≡ op.next s n
  pub prev-set_word : (s : S) (i v n : ℕ) → Good s → Node n → (Owns n i → ⊥) → op.prev (op.set_word s i v) n ≡ op.prev s n
  pub rest-set_word : (s : S) (i v : ℕ) → op.rest (op.set_word s i v) ≡ op.rest s
  -- the rest of the record: what it can hold, and that it is apart from links and words
  pub Fit : R → Type 0
  pub rest-set_rest : (s : S) (r : R) → Fit r → op.rest (op.set_rest s r) ≡ r
  pub next-set_rest : (s : S) (r : R) (n : ℕ) → op.next (op.set_rest s r) n ≡ op.next s n
  pub prev-set_rest : (s : S) (r : R) (n : ℕ) → op.prev (op.set_rest s r) n ≡ op.prev s n
  pub word-set_rest : (s : S) (r : R) (i : ℕ) → op.word (op.set_rest s r) i ≡ op.word s i
  pub good-set_rest : (s : S) (r : R) → Good s → Good (op.set_rest s r)
  -- the state is as long as this store says, and its record has six links each way
  pub good_count : (s : S) → Good s → bytes ≡ 4 * (op.count s - 1)
  pub good_six : (s : S) → Good s → op.six s ≡ true
  pub good_is : (s : S) → bytes ≡ 4 * (op.count s - 1) → 5 ≤ op.count s → op.six s ≡ true → Good s

-- AN EDITION: for each accepted length a link store over the same operations
pub record Edition {S : Type 0} (op : Ops S Figures) (most places : ℕ) : Type 1 where
  pub store : (n : ℕ) → Accepted most n → LinkStore op
  pub bytes : (n : ℕ) (a : Accepted most n) → (store n a).bytes ≡ 4 * (n - 1)
  pub fit : (n : ℕ) (a : Accepted most n) (r : Figures) → length r.cached ≤ places → ((x : ℕ) → Mem x r.cached → 6 ≤ x) → (store n a).Fit r
