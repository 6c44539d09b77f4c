-- THE RECORD AND ITS WORDS AS A STATE of the rules: what the code's contracts say is said of `seen`.
use Rattle.std.specs.Prelude.{◌≡◌, List, [], ◌∷◌, ℕ, ◌+◌, ◌-◌, max, ltb, length, replicate, set}
use Rattle.words.specs.declared.names.Link.{Link}
use Rattle.words.specs.Choice.{pick}
use Rattle.words.specs.Links.{narrow}
use Rattle.words.specs.Numbers.{numbers}
use Rattle.cache.specs.Places.{cached_of}
use Rattle.rules.specs.Rules.Ops.{Ops}
use Rattle.rules.specs.Rules.State.{ops}
use Rattle.rules.specs.Rules.Calls.{Figures}
use Rattle.rules.specs.Rules.Making.{State}
use Rattle.heap.specs.declared.record.Record.{Record}

-- the operations of narrow links, which this heap is the edition of
abbrev pub base : Ops State Figures
base = ops narrow

-- the cached chunks, oldest first, by their links
abbrev pub cached_in : Record → List ℕ
cached_in r = cached_of (numbers r.cached)

-- what the record holds besides its links
abbrev pub figures_of : Record → Figures
figures_of r =
    record { words = r.words; cached = cached_in r; in_use = r.in_use; committed = r.committed; peak = r.peak; high = r.high; flag = r.fresh }

-- record and words
abbrev pub seen : Record → List ℕ → State
seen r ws = record { prevs = numbers r.prev; nexts = numbers r.next; words = ws; rest = figures_of r }

-- the cache has four places: what the type of `Record.cached` says, and a list by itself does not
abbrev pub FourPlaces : Record → Type 0
FourPlaces r = length r.cached ≡ 4

-- the record with a part changed
abbrev pub with_prevs : Record → List Link → Record
with_prevs r ls =
    record {
      prev = ls;
      next = r.next;
      cached = r.cached;
      words = r.words;
      in_use = r.in_use;
      committed = r.committed;
      peak = r.peak;
      high = r.high;
      fresh = r.fresh;
    }

abbrev pub with_nexts : Record → List Link → Record
with_nexts r ls =
    record {
      prev = r.prev;
      next = ls;
      cached = r.cached;
      words = r.words;
      in_use = r.in_use;
      committed = r.committed;
      peak = r.peak;
      high = r.high;
      fresh = r.fresh;
    }

-- i bytes in use, and the cache's places c
abbrev pub with_cached : Record → ℕ → List Link → Record
with_cached r i c =
    record {
      prev = r.prev;
      next = r.next;
      cached = c;
      words = r.words;
      in_use = i;
      committed = r.committed;
      peak = r.peak;
      high = r.high;
      fresh = r.fresh;
    }

-- a link stored at a sentinel's place; nothing where l is a chunk's link
unfoldable pub stored : List Link → ℕ → Link → List Link
stored ls l v = pick (ltb l 6) (set ls l v) ls

-- a link by its number
abbrev pub link : ℕ → Link
link n = record { 0 = n }

-- four unused places
abbrev pub none_cached : List Link
none_cached = replicate 4 (link 0)

-- the empty record, and the record of a heap of n words whose lists are empty
abbrev pub empty_record : Record
empty_record =
    let nil : Link = record { 0 = 0 } in
    record { prev = replicate 6 nil; next = replicate 6 nil; cached = replicate 4 nil; words = 0; in_use = 0; committed = 0; peak = 0; high = 0; fresh = 0 }

abbrev pub fresh_record : ℕ → Record
fresh_record n =
    let selves = link 0 ∷ link 1 ∷ link 2 ∷ link 3 ∷ link 4 ∷ link 5 ∷ [] in
    record { prev = selves; next = selves; cached = none_cached; words = n; in_use = 0; committed = 0; peak = 0; high = 0; fresh = 0 }

-- the counters after a chunk of m bytes that ends at byte e came from a list
abbrev pub counted_in : Record → ℕ → ℕ → Record
counted_in r m e =
    record {
      prev = r.prev;
      next = r.next;
      cached = r.cached;
      words = r.words;
      in_use = r.in_use + m;
      committed = r.committed + m;
      peak = max r.peak (r.committed + m);
      high = max r.high e;
      fresh = pick (ltb r.high e) 1 r.fresh;
    }

-- after n bytes were released, with i bytes in use and the cache's places c
abbrev pub counted_out : Record → ℕ → ℕ → List Link → Record
counted_out r i n c =
    record {
      prev = r.prev;
      next = r.next;
      cached = c;
      words = r.words;
      in_use = i;
      committed = r.committed - n;
      peak = r.peak;
      high = r.high;
      fresh = r.fresh;
    }
