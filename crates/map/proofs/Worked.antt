-- WORKED MAPS: a heap of 33 words with chunks of each kind, written and read, and lines that are refused. Each table is one claim, which computes.
use mathlib.Core.Path.{◌≡◌, refl}
use mathlib.Core.List.{List, [], ◌∷◌, ◌++◌, map}
use Prim.Native.Nat.{ℕ}
use Prim.Native.Char.{code}
use Prim.Native.String.{String}
use lib.ListN.{replicate}
use Rattle.words.specs.Sizes.{class_of}
use Rattle.words.specs.Links.{set_link_at}
use Rattle.frame.specs.Hex.{digit_of, byte_of, digits_of}
use Rattle.frame.specs.Answer.{answer_bytes}
use Rattle.rules.specs.Rules.Steps.{unlink, link, set_left, clear_left, mark_free, mark_used, one_chunk, return_excess, take_chunk, left_free, right_free}
use Rattle.rules.specs.Rules.Steps.{merge, merged, release_chunk, emptied, cleared}
use Rattle.rules.specs.Rules.Search.{find, in_turn}
use Rattle.rules.specs.Rules.Place.{used_at, tile}
use Rattle.rules.specs.Rules.Lists.{walk}
use Rattle.rules.specs.Sound.Exact.{frees}
use Rattle.rules.specs.Rules.Calls.{says, choose, listed, empty_cache, first_fit, from_merged, from_list, from_cache, serve, hand_out, live, settled, take_back}
use Rattle.rules.specs.Rules.Making.{State, make}
use Rattle.rules.specs.Machine.Machine.{ask, give}
use Rattle.rules.specs.Sound.Test.{legalᵇ, calmᵇ, tagsᵇ, segᵇ, belowᵇ, everyᵇ, slotᵇ, exactᵇ, distinctᵇ, underᵇ, cacheᵇ, figuresᵇ, showsᵇ, candidate, soundᵇ}
use Rattle.rules.specs.Demands.TwoHeaps.{call}
use Rattle.rules.specs.Demands.Kind.{one}
use Rattle.rules.specs.Demands.Table.{made, after}
use Rattle.map.specs.declared.kind.ChunkKind.TheVariants.{Free, Live}
use Rattle.map.specs.Rows.{row, lines_of, words_of}
use Rattle.map.specs.Layout.{map_of}
use Rattle.map.specs.Reading.{row_in, standsᵇ, followsᵇ, Read, rows, bad, line_read, read_from, read_all}
use Rattle.map.specs.Calls.{over, laid, rows_of, written, read_into}

-- the bytes of a text
abbrev bytes : String → List ℕ
bytes String.[] = []
bytes (String.◌∷◌ c s) = code c ∷ bytes s

-- a text, read
abbrev read : String → Read
read t = read_all 65529 one.places (bytes t)

-- 33 words made; 20, 12 and 52 bytes asked for; the second and the third taken back
abbrev worn : State
worn = (after one (made one 33) (ask 20 ∷ ask 12 ∷ ask 52 ∷ give 28 ∷ give 44 ∷ [])).after

-- its map: 24 bytes live, 16 free, 56 cached, 32 free
abbrev worn_map : String
worn_map = "110000000000000018\n100000001800000010\n120000002800000038\n100000006000000020\n"

-- it is written, with what is past it in the room left as it was, and not into room that is a byte short
pub worn_written :
    written one.places worn (replicate 80 255) ∷ written one.places worn (replicate 75 255) ∷ []
    ≡ says 0 4 0 (bytes worn_map ++ replicate 4 255) ∷ says 6 0 0 (replicate 75 255) ∷ []
unfolding written laid over rows_of map_of lines_of answer_bytes digits_of byte_of call hand_out take_back live choose listed make serve from_cache from_list
    from_merged empty_cache first_fit settled link unlink set_left clear_left mark_free mark_used one_chunk return_excess take_chunk emptied cleared left_free
    right_free merge merged release_chunk set_link_at class_of find in_turn used_at soundᵇ showsᵇ candidate legalᵇ calmᵇ tagsᵇ segᵇ belowᵇ everyᵇ slotᵇ exactᵇ
    distinctᵇ underᵇ cacheᵇ figuresᵇ tile walk frees
worn_written = refl

-- it is read, into words
pub worn_read : read_into (read worn_map) (replicate 13 7) ≡ says 0 4 0 (17 ∷ 0 ∷ 24 ∷ 16 ∷ 24 ∷ 16 ∷ 18 ∷ 40 ∷ 56 ∷ 16 ∷ 96 ∷ 32 ∷ 7 ∷ [])
unfolding read_all read_from line_read row_in standsᵇ followsᵇ digit_of laid over words_of
worn_read = refl

-- the longest heap and the shortest are read
pub longest_shortest : map read ("10000000000003FFE0\n" ∷ "110000000000000010\n" ∷ []) ≡ rows (row Free 0 262112 ∷ []) ∷ rows (row Live 0 16 ∷ []) ∷ []
unfolding read_all read_from line_read row_in standsᵇ followsᵇ digit_of
longest_shortest = refl

-- refused in line 1: nothing, an empty line, no line feed, a carriage return, lower case, kinds 0F and 13, an offset, lengths 8, 20 and one too long
pub bad_first :
    map read
    ("" ∷ "\n" ∷ "110000000000000018" ∷ "110000000000000018\r\n" ∷ "10000000000003ffe0\n" ∷ "0F0000000000000018\n" ∷ "130000000000000018\n"
    ∷ "110000000800000018\n" ∷ "110000000000000008\n" ∷ "110000000000000014\n" ∷ "10000000000003FFE8\n" ∷ [])
    ≡ replicate 11 (bad 1)
unfolding read_all read_from line_read row_in standsᵇ followsᵇ digit_of
bad_first = refl

-- refused in a later line: a gap, an overlap, a free chunk after a free one, a second cached one, a chunk that ends too far, a line feed too many
pub bad_later :
    map read
    ("110000000000000018\n100000002000000010\n" ∷ "110000000000000018\n100000001000000010\n" ∷ "100000000000000018\n100000001800000010\n"
    ∷ "120000000000000018\n100000001800000010\n120000002800000058\n" ∷ "11000000000003FFE0\n110003FFE000000010\n" ∷ "110000000000000018\n\n" ∷ [])
    ≡ bad 2 ∷ bad 2 ∷ bad 2 ∷ bad 3 ∷ bad 2 ∷ bad 2 ∷ []
unfolding read_all read_from line_read row_in standsᵇ followsᵇ digit_of
bad_later = refl
