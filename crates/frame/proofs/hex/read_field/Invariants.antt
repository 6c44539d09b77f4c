-- `frame::hex::read_field` meets its contract. Invariant: the field is what the bytes that are left say after the number read so far, which fits 32 bits.
-- A digit keeps it; a byte that is none, and a number with no room for the digit, refuse the field.
use mathlib.Core.Path.{◌≡◌}
use Prim.Native.Nat.{◌^◌, ◌<◌}
use lib.ListN.{drop}
use Rattle.frame.specs.Field.{field_of}
use Rattle.frame.proofs.Laws.Field.{field_from}
use Rattle.frame.proofs.hex.read_field.Given as goal

abbrev pub invariant-loop-byte : goal.invariant-loop-byte
invariant-loop-byte l = record { says : field_of l.digits ≡ field_from l.number (drop l.byte-index l.digits); fits : l.number < 2 ^ 32 }
