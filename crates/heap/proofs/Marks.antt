-- Laws of `specs/Mark.antt`, and document 01's four examples of the mark.
--     examples             80 and 0 give 80, 108 and 1 give 0, 80 and 1 give −28, 0 and 4,294,967,295 give −463,856,467,860
use mathlib.Core.Path.{◌≡◌, refl}
use mathlib.Core.List.{List, [], ◌∷◌, map}
use Prim.Native.Nat.{ℕ}
use lib.IntN.{ℤ, pos, neg_ℤ}
use Rattle.std.specs.Prelude.{Some}
use Rattle.heap.specs.declared.record.Record.{Record}
use Rattle.heap.specs.Seen.{empty_record}
use Rattle.heap.specs.declared.record.Marked.{Marked}
use Rattle.heap.specs.Mark.{calm, mark_of}

-- a record whose high water has risen
abbrev pub raised : ℕ → Record
raised h =
    let r = empty_record in
    record { prev = r.prev; next = r.next; words = 0; in_use = 0; committed = 0; peak = 0; high = h; cached = r.cached; fresh = 1 }

-- document 01, "The mark"
pub record Example : Type 0 where
  pub high : ℕ
  pub stacklets : ℕ
  pub value : ℤ

pub table : List Example
table =
    record { high = 80; stacklets = 0; value = pos 80 }
    ∷ record { high = 108; stacklets = 1; value = pos 0 }
    ∷ record { high = 80; stacklets = 1; value = neg_ℤ (pos 28) }
    ∷ record { high = 0; stacklets = 4294967295; value = neg_ℤ (pos 463856467860) }
    ∷ []

-- what the mark is to be: the value, and the record with its flag off
abbrev pub expected : Example → Marked
expected x = record { mark = Some x.value; rec = calm (raised x.high) }

pub examples : map (λ (x : Example). mark_of (raised x.high) x.stacklets) table ≡ map expected table
unfolding table
examples = refl
