-- `frame::hex::write_field` meets its contract. Invariant: the digits of what is left of the number, before the bytes written from k on, are the digits
-- of the number.
use mathlib.Core.Path.{◌≡◌}
use mathlib.Core.List.{◌++◌}
use lib.ListN.{length, drop}
use Rattle.frame.specs.Hex.{digits_of}
use Rattle.frame.proofs.hex.write_field.Given as goal

abbrev pub invariant-loop-k : goal.invariant-loop-k
invariant-loop-k l = digits_of (length l.initial.out) l.number ≡ digits_of l.k l.rest ++ drop l.k l.out
