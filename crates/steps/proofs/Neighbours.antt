-- Free neighbours and the tags of a free chunk: how the words' promises join. Assumes nothing.
use Rattle.std.proofs.Common.{◌≡◌, ℕ, ◌+◌, ◌-◌, ◌/◌, ◌%◌, ◌^◌, ◌<◌, Bool, true, false, List, Option, set, sym, refl, ap, ◌∙◌, arith}
use Rattle.words.specs.Names.{links, held_name}
use Rattle.words.specs.Tags.{at, header_of, length_of, freeᵇ, left_freeᵇ, right_of, footer_of}
use Rattle.steps.specs.Chunk.{freed_in, freed, left_free_in, right_free_in, Releasable}
use Rattle.words.specs.declared.names.Link.{Link}
use Rattle.steps.specs.Merged.{link_if_free, merged_in, plain_by}

-- FREE NEIGHBOURS: the flag says whether there is one
pub left_none : (ws : List ℕ) (w : ℕ) (b : Bool) → b ≡ left_freeᵇ (at ws w) → b ≡ false → 0 ≡ left_free_in ws w
unfolding left_free_in
left_none ws w b e h = rw (sym e ∙ h)

pub left_some : (ws : List ℕ) (w f v : ℕ) (b : Bool) → b ≡ left_freeᵇ (at ws w) → b ≡ true → f ≡ w - 1 → v ≡ at ws f → v ≡ left_free_in ws w
unfolding left_free_in
left_some ws w f v b e h ef ev = rw (sym e ∙ h) (ev ∙ ap (at ws) ef)

pub right_none : (ws : List ℕ) (w : ℕ) (b : Bool) → b ≡ freeᵇ (at ws w) → b ≡ false → 0 ≡ right_free_in ws w
unfolding right_free_in
right_none ws w b e h = rw (sym e ∙ h)

pub right_some : (ws : List ℕ) (w v : ℕ) (b : Bool) → b ≡ freeᵇ (at ws w) → b ≡ true → v ≡ length_of (at ws w) → v ≡ right_free_in ws w
unfolding right_free_in
right_some ws w v b e h ev = rw (sym e ∙ h) ev

-- TAGS of a free chunk
pub footer_place : (w n f : ℕ) → w < 2 ^ 32 → n < 2 ^ 32 → f ≡ right_of w n % 2 ^ 64 - 1 → f ≡ footer_of w n
footer_place w n f hw hn e = omega arith

pub freed_by : (ws ws1 ws2 : List ℕ) (w n f : ℕ) → ws1 ≡ set ws w (header_of n false true) → f ≡ right_of w n % 2 ^ 64 - 1 → ws2 ≡ set ws1 f n
    → ws2 ≡ freed_in ws w n
unfolding freed_in
freed_by ws ws1 ws2 w n f e1 ef e2 = rw (e2, ef, e1)

pub freed_plain : (ws : List ℕ) (w n : ℕ) → w < 2 ^ 32 → n < 2 ^ 32 → freed_in ws w n ≡ freed ws w n
unfolding freed_in freed
freed_plain ws w n hw hn = rw (footer_place w n _ hw hn refl)

-- A CHUNK MERGED with its free neighbours: what the code reads; and plain sums where they are in range
pub merging_by : (ws : List ℕ) (x n w e f g i t z : ℕ) (l y : Option Link) → x < 65536 → n < 2 ^ 32
    → w ≡ x - 6 → e ≡ right_of w n % 2 ^ 64 → f ≡ left_free_in ws w → g ≡ right_free_in ws e → i ≡ w - f / 4
    → t ≡ (n + g) % 2 ^ 32 → z ≡ (f + t) % 2 ^ 32 → l ≡ link_if_free f (held_name links i) → y ≡ link_if_free g (held_name links e)
    → record { hdr = record { 0 = i }; size = z; left = l; right = y } ≡ merged_in ws x n
unfolding merged_in
merging_by ws x n w e f g i t z l y hx hn ew ee ef eg ei et ez el ey =
    let pe : e ≡ right_of w n = omega arith in
    let pz : z ≡ (f + (n + g)) % 2 ^ 32 = omega arith in
    rw (el, ey, pz, ei, ef, eg, pe, ew)

pub merged_plain : (ws : List ℕ) (x n : ℕ) → Releasable ws x n
    → merged_in ws x n ≡ plain_by (x - 6) (left_free_in ws (x - 6)) n (right_free_in ws (right_of (x - 6) n))
unfolding merged_in
merged_plain ws x n h =
    let w = x - 6 in
    let f = left_free_in ws w in
    let g = right_free_in ws (right_of w n) in
    let size : (f + (n + g)) % 2 ^ 32 ≡ f + (n + g) = omega arith in
    let name : held_name links (w - f / 4) ≡ w - f / 4 + 6 = omega arith in
    let right : held_name links (right_of w n) ≡ right_of w n + 6 = omega arith in
    rw (size, name, right)
