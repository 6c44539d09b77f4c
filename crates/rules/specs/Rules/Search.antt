-- FIRST FIT with its compared count: along a list, and along the links from list to list.
use Rattle.std.specs.Prelude.{List, [], ◌∷◌, ◌++◌, ℕ, zero, suc, eqb, leb}
use Rattle.words.specs.Choice.{pick}

-- a chunk, by its link, and how many were compared with it; or none, and how many were compared; or more than a heap of this length can list
pub data Found : Type 0 where
  at : ℕ → ℕ → Found
  nowhere : ℕ → Found
  lost : Found

-- go on where nothing was found
abbrev pub or_else : Found → (ℕ → Found) → Found
or_else (at x d) f = at x d
or_else (nowhere d) f = f d
or_else lost f = lost

-- the first of xs that has z bytes; c were compared before
unfoldable pub find : (ℕ → ℕ) → ℕ → List ℕ → ℕ → Found
find size z [] c = nowhere c
find size z (x ∷ xs) c = let r = find size z xs (suc c) in pick (leb z (size x)) (at x (suc c)) r

-- n lists of a family, from list k on, one after the other
unfoldable pub in_turn : (ℕ → List ℕ) → ℕ → ℕ → List ℕ
in_turn O zero k = []
in_turn O (suc n) k = O k ++ in_turn O n (suc k)

-- THE SAME AS THE CODE WALKS, in proofs/Lists/Search.antt shown to be it: the first that has z bytes along the links from x on, until sentinel k comes; at most
-- `fuel` are compared
unfoldable pub find_walk : (ℕ → ℕ) → (ℕ → ℕ) → ℕ → ℕ → ℕ → ℕ → ℕ → Found
find_walk nx size z k zero x c = pick (eqb x k) (nowhere c) lost
find_walk nx size z k (suc fuel) x c =
    let r = find_walk nx size z k fuel (nx x) (suc c) in
    let q = pick (leb z (size x)) (at x (suc c)) r in
    pick (eqb x k) (nowhere c) q

-- f in n lists, from list k on
unfoldable pub search_all : (ℕ → ℕ → Found) → ℕ → ℕ → ℕ → Found
search_all f zero k c = nowhere c
search_all f (suc n) k c = or_else (f k c) (λ d. search_all f n (suc k) d)
