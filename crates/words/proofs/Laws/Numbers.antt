-- Laws of `specs/Numbers.antt`: reads and stores of an array of links are those of the list of its numbers. Assumes nothing.
use Rattle.std.proofs.Common.{◌≡◌, ℕ, zero, suc, List, [], ◌∷◌, length, get_or, set, refl, ap}
use lib.ListN.{get_or-map, length-map}
use Rattle.words.specs.declared.names.Link.{Link}
use Rattle.words.specs.Numbers.{numbers}

-- the number at a place is the number of the link there
pub numbers_at : (ls : List Link) (k : ℕ) → get_or (numbers ls) k 0 ≡ (get_or ls k (record { 0 = 0 })).0
numbers_at ls k = get_or-map (λ (l : Link). l.0) ls k (record { 0 = 0 })

-- the numbers after a link is stored are the numbers with its number stored
pub numbers_set : (ls : List Link) (k v : ℕ) → numbers (set ls k (record { 0 = v })) ≡ set (numbers ls) k v
numbers_set [] k v = refl
numbers_set (l ∷ ls) zero v = refl
numbers_set (l ∷ ls) (suc k) v = ap (λ (ns : List ℕ). l.0 ∷ ns) (numbers_set ls k v)

-- there are as many numbers as links
pub length_numbers : (ls : List Link) → length (numbers ls) ≡ length ls
length_numbers ls = length-map ls (λ (l : Link). l.0)
