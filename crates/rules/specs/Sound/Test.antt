-- SOUND AS A TEST: what answer 5 goes by. It reads the chunks from the headers and the orders from the links, and tests each clause of Sound on them.
-- Nobody need believe it: `SoundTested` (specs/Demands/Demands.antt) says that it agrees with Sound. Each test has the name of its clause, with ᵇ.
use Rattle.std.specs.Prelude.{true, false, Bool, not, List, [], ◌∷◌, ℕ, zero, suc, ◌+◌, ◌-◌, ◌*◌, ◌/◌, ◌%◌, eqb, leb, length}
use Rattle.words.specs.Choice.{pick, bit}
use Rattle.rules.specs.Rules.Chunks.{Chunk, total, used_head, used_sum}
use Rattle.rules.specs.Rules.Lists.{walk}
use Rattle.rules.specs.Sound.Exact.{Slot, frees}
use Rattle.rules.specs.Sound.Tags.{head_tag}
use Rattle.rules.specs.Rules.Place.{used_at, tile}
use Rattle.words.specs.Sizes.{class_of}
use Rattle.rules.specs.Rules.Ops.{Ops}
use Rattle.rules.specs.Rules.Calls.{Figures, byte_of, listed}
use Rattle.rules.specs.Sound.Model.{Model}
use Rattle.rules.specs.Sound.Sound.{live_sum}

-- one or the other
abbrev pub either : Bool → Bool → Bool
either a b = pick a true b

-- one and the other
abbrev pub both : Bool → Bool → Bool
both true b = b
both false b = false

-- THE CHUNKS: legal lengths, no two free ones touching, tags
unfoldable pub legalᵇ : List Chunk → Bool
legalᵇ [] = true
legalᵇ (c ∷ cs) = both (leb 16 c.len) (both (eqb (c.len % 8) 0) (legalᵇ cs))

unfoldable pub calmᵇ : List Chunk → Bool
calmᵇ [] = true
calmᵇ (c ∷ cs) = both (either c.used (used_head cs)) (calmᵇ cs)

unfoldable pub tagsᵇ : (ℕ → ℕ) → ℕ → Bool → List Chunk → Bool
tagsᵇ f b l [] = eqb (f (b / 4)) (2 + bit l)
tagsᵇ f b l (c ∷ cs) =
    both (eqb (f (b / 4)) (head_tag (c ∷ cs) + bit l)) (both (either c.used (eqb (f ((b + c.len) / 4 - 1)) c.len)) (tagsᵇ f (b + c.len) c.used cs))

-- THE LISTS: mirrored links
unfoldable pub segᵇ : (ℕ → ℕ) → (ℕ → ℕ) → ℕ → List ℕ → ℕ → Bool
segᵇ nx pv a [] b = both (eqb (nx a) b) (eqb (pv b) a)
segᵇ nx pv a (x ∷ xs) b = both (eqb (nx a) x) (both (eqb (pv x) a) (segᵇ nx pv x xs b))

-- f holds of every number below n, and of every member
unfoldable pub belowᵇ : (ℕ → Bool) → ℕ → Bool
belowᵇ f zero = true
belowᵇ f (suc n) = both (f n) (belowᵇ f n)

unfoldable pub everyᵇ : {A : Type 0} → (A → Bool) → List A → Bool
everyᵇ f [] = true
everyᵇ f (x ∷ xs) = both (f x) (everyᵇ f xs)

-- link x names a free chunk of class k; the orders hold exactly the free chunks
unfoldable pub slotᵇ : ℕ → ℕ → List Slot → Bool
slotᵇ x k [] = false
slotᵇ x k (t ∷ F) = either (both (eqb x t.name) (eqb (class_of t.len) k)) (slotᵇ x k F)

unfoldable pub exactᵇ : (ℕ → List ℕ) → List Slot → Bool
exactᵇ O F = both (everyᵇ (λ t. listed t.name (O (class_of t.len))) F) (belowᵇ (λ k. everyᵇ (λ x. slotᵇ x k F) (O k)) 6)

-- THE FIGURES: each once; no used chunk ends beyond h; the cache; the sums
unfoldable pub distinctᵇ : List ℕ → Bool
distinctᵇ [] = true
distinctᵇ (x ∷ xs) = both (not (listed x xs)) (distinctᵇ xs)

unfoldable pub underᵇ : ℕ → ℕ → List Chunk → Bool
underᵇ h b [] = true
underᵇ h b (c ∷ cs) = both (leb (pick c.used (b + c.len) 0) h) (underᵇ h (b + c.len) cs)

unfoldable pub cacheᵇ : ℕ → List ℕ → List Chunk → Bool
cacheᵇ places ks cs = both (everyᵇ (λ x. both (leb 6 x) (leb 1 (used_at cs (byte_of x)))) ks) (both (distinctᵇ ks) (leb (length ks) places))

unfoldable pub figuresᵇ : Figures → ℕ → List Chunk → Bool
figuresᵇ f b cs =
    both (eqb f.in_use (live_sum f.cached 0 cs)) (both (eqb f.committed (used_sum cs)) (both (leb f.committed f.peak)
    (both (leb f.peak f.high) (both (leb f.high b) (both (eqb (f.high % 8) 0) (both (underᵇ f.high 0 cs) (leb f.flag 1)))))))

module _ {S : Type 0} (op : Ops S Figures) (most places : ℕ) where
  -- the one candidate: the headers' chunks, the links' orders, the record's figures
  unfoldable pub candidate : S → Model
  candidate s =
      record {
        cs = tile (op.word s) (op.count s) 0;
        orders = λ k. walk (op.next s) k (op.count s) (op.next s k);
        figs = op.rest s;
      }

  -- s shows m
  unfoldable pub showsᵇ : S → Model → Bool
  showsᵇ s m =
      both (op.six s) (both (eqb m.figs.words (op.count s))
      (both (leb 5 (op.count s)) (both (leb (op.count s) most) (both (eqb (op.count s % 2) 1)
      (both (legalᵇ m.cs) (both (eqb (total m.cs) (4 * (op.count s - 1))) (both (tagsᵇ (op.word s) 0 true m.cs) (both (calmᵇ m.cs)
      (both (belowᵇ (λ k. segᵇ (op.next s) (op.prev s) k (m.orders k) k) 6) (both (exactᵇ m.orders (frees 0 m.cs))
      (both (cacheᵇ places m.figs.cached m.cs) (figuresᵇ m.figs (4 * (op.count s - 1)) m.cs))))))))))))

  -- s is sound
  unfoldable pub soundᵇ : S → Bool
  soundᵇ s = showsᵇ s (candidate s)
