-- THE SIX ORDERS, without memory: a link leaves a list or comes to its head; what taking and releasing do to them, by bytes.
use Rattle.std.specs.Prelude.{List, ◌∷◌, [], ℕ, ◌-◌, ◌+◌, ◌/◌, leb, eqb}
use Rattle.words.specs.Choice.{pick}
use Rattle.rules.specs.Rules.Lists.{put, remove}
use Rattle.rules.specs.Rules.Chunks.{Chunk}

-- the orders with x taken out of list k, and with x at its head
unfoldable pub drop : (ℕ → List ℕ) → ℕ → ℕ → ℕ → List ℕ
drop O k x = put O k (remove x (O k))

unfoldable pub push : (ℕ → List ℕ) → ℕ → ℕ → ℕ → List ℕ
push O k x = put O k (x ∷ O k)

-- after the chunk of n bytes at byte b was taken for z
unfoldable pub taken_orders : (ℕ → ℕ) → (ℕ → List ℕ) → ℕ → ℕ → ℕ → ℕ → List ℕ
taken_orders cls O b n z =
    let O1 = drop O (cls n) (b / 4 + 6) in
    pick (leb (z + 12) n) (push O1 (cls (n - z)) ((b + z) / 4 + 6)) O1

-- after n bytes were released, with f free bytes before them from byte a on, and g after them
unfoldable pub merged_orders : (ℕ → ℕ) → (ℕ → List ℕ) → ℕ → ℕ → ℕ → ℕ → ℕ → List ℕ
merged_orders cls O a f n g =
    let O1 = pick (eqb f 0) O (drop O (cls f) (a / 4 + 6)) in
    let O2 = pick (eqb g 0) O1 (drop O1 (cls g) ((a + f + n) / 4 + 6)) in
    push O2 (cls (f + (n + g))) (a / 4 + 6)

-- the free bytes that chunks begin with, and that they end in (f, if there are none)
abbrev pub free_head : List Chunk → ℕ
free_head [] = 0
free_head (c ∷ cs) = pick c.used 0 c.len

abbrev pub free_last : ℕ → List Chunk → ℕ
free_last f [] = f
free_last f (c ∷ cs) = free_last (pick c.used 0 c.len) cs
