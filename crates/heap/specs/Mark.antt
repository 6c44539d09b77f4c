-- THE MARK (document 01): with the flag off, "unchanged"; with it on, high water − 108 × stacklets as a signed number, and the flag clears.
use Rattle.std.specs.Prelude.{ℕ, zero, suc, ◌*◌, pos, ◌-ℤ◌, Some, None}
use Rattle.heap.specs.declared.record.Record.{Record}
use Rattle.heap.specs.declared.record.Marked.{Marked}

-- the record with its flag off
abbrev pub calm : Record → Record
calm r =
    record {
      prev = r.prev;
      next = r.next;
      cached = r.cached;
      words = r.words;
      in_use = r.in_use;
      committed = r.committed;
      peak = r.peak;
      high = r.high;
      fresh = 0;
    }

-- by the flag: 0 is off, any other value on
abbrev pub marked : ℕ → Record → ℕ → Marked
marked zero r stacklets = record { mark = None; rec = r }
marked (suc k) r stacklets = record { mark = Some (pos r.high -ℤ pos (108 * stacklets)); rec = calm r }

abbrev pub mark_of : Record → ℕ → Marked
mark_of r stacklets = marked r.fresh r stacklets
