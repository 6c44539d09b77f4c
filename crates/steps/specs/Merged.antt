-- A CHUNK MERGED WITH ITS FREE NEIGHBOURS, by what the tags say: what the code reads off any words.
use Rattle.std.specs.Prelude.{ℕ, zero, suc, ◌+◌, ◌-◌, ◌/◌, ◌%◌, ◌^◌, List, Option, Some, None}
use Rattle.words.specs.Names.{links, held_name}
use Rattle.words.specs.declared.names.Link.{Link}
use Rattle.words.specs.Tags.{right_of}
use Rattle.steps.specs.Chunk.{left_free_in, right_free_in}
use Rattle.steps.specs.declared.merge.Merged.{Merged}

-- the link l of a neighbour of n free bytes, none where there are none
abbrev pub link_if_free : ℕ → ℕ → Option Link
link_if_free zero l = None
link_if_free (suc n) l = Some (record { 0 = l })

-- header, length and link of the merged chunk, its right neighbour's link, and the free bytes before and after
abbrev pub merged_with : ℕ → ℕ → ℕ → ℕ → ℕ → ℕ → Merged
merged_with w n l r f g = record { hdr = record { 0 = w }; size = n; left = link_if_free f l; right = link_if_free g r }

-- n bytes at word w with f free bytes before them and g after: as machine words keep the sums, and with plain sums
abbrev pub merged_by : ℕ → ℕ → ℕ → ℕ → Merged
merged_by w f n g = merged_with (w - f / 4) ((f + (n + g)) % 2 ^ 32) (held_name links (w - f / 4)) (held_name links (right_of w n)) f g

abbrev pub plain_by : ℕ → ℕ → ℕ → ℕ → Merged
plain_by w f n g = merged_with (w - f / 4) (f + (n + g)) (w - f / 4 + 6) (right_of w n + 6) f g

-- the chunk of n bytes that l names
unfoldable pub merged_in : List ℕ → ℕ → ℕ → Merged
merged_in ws l n = merged_by (l - 6) (left_free_in ws (l - 6)) n (right_free_in ws (right_of (l - 6) n))
