-- WORKED LINES: document 01's trace, line by line, and lines that are no frames. Each table is one claim, which computes.
use mathlib.Core.Path.{◌≡◌, refl}
use mathlib.Core.List.{List, [], ◌∷◌, map}
use Prim.Native.Nat.{ℕ}
use lib.ListN.{replicate}
use Prim.Native.Char.{code}
use Prim.Native.String.{String}
use Rattle.std.specs.Prelude.{Option, Some, None}
use Rattle.frame.specs.declared.line.Request.{Request}
use Rattle.frame.specs.declared.line.Request.TheVariants.{Make, HandOut, TakeBack}
use Rattle.frame.specs.Hex.{digit_of, byte_of, digits_of}
use Rattle.frame.specs.Line.{line_of}
use Rattle.frame.specs.Answer.{answer_bytes}

-- the bytes of a text
abbrev bytes : String → List ℕ
bytes String.[] = []
bytes (String.◌∷◌ c s) = code c ∷ bytes s

-- a line of text, read
abbrev line : String → Option Request
line t = line_of (bytes t)

-- the trace's input, each of its lines once
pub trace_read :
    map line
    ("0000000021" ∷ "010000000D" ∷ "010000000C" ∷ "0200000004" ∷ "0100000014" ∷ "020000001C" ∷ "01FFFFFFFF" ∷ "0100000000" ∷ "0100000058" ∷ [])
    ≡ Some (Make 33) ∷ Some (HandOut 13) ∷ Some (HandOut 12) ∷ Some (TakeBack 4) ∷ Some (HandOut 20) ∷ Some (TakeBack 28) ∷ Some (HandOut 4294967295)
    ∷ Some (HandOut 0) ∷ Some (HandOut 88) ∷ []
unfolding line_of digit_of
trace_read = refl

-- no frames: nothing, a digit less, a digit more, lower case, kind 03, a carriage return, a space, no digit before 0, after 9, before A, after F
pub no_frames :
    map line
    ("" ∷ "000000021" ∷ "00000000021" ∷ "010000000d" ∷ "0300000004" ∷ "0000000021\r" ∷ "00 0000021" ∷ "000000002/" ∷ "000000002:" ∷ "000000002@"
    ∷ "000000002G" ∷ [])
    ≡ replicate 11 None
unfolding line_of digit_of
no_frames = refl

-- the trace's output, each of its lines once
pub trace_written :
    answer_bytes 0 0 0 ∷ answer_bytes 0 4 1 ∷ answer_bytes 0 28 1 ∷ answer_bytes 0 4 0 ∷ answer_bytes 4 0 0 ∷ answer_bytes 2 0 0 ∷ answer_bytes 1 0 0
    ∷ answer_bytes 3 0 0 ∷ []
    ≡ map bytes
    ("000000000000000000\n" ∷ "000000000400000001\n" ∷ "000000001C00000001\n" ∷ "000000000400000000\n" ∷ "040000000000000000\n"
    ∷ "020000000000000000\n" ∷ "010000000000000000\n" ∷ "030000000000000000\n" ∷ [])
unfolding answer_bytes digits_of byte_of
trace_written = refl
