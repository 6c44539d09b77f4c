-- `map::read::read_map` meets its contract: no line, a bad line, too short a room, and all rows laid.
use mathlib.Core.Path.{◌≡◌, sym, ◌∙◌}
use mathlib.Core.Bool.{Bool, false}
use lib.Dec.{eqb}
use borrow.Author.Tests.{eqb-true}
use Rattle.std.proofs.lemmas.Bool.{eqb-false}
use mathlib.Core.List.{List}
use Prim.Native.Nat.{ℕ}
use native.Mathlib.Omega.{arith}
use lib.ListN.{length}
use Rattle.std.specs.Prelude.{Ok}
use Rattle.std.proofs.lemmas.Result.{err_from_is_err_and}
use Rattle.map.specs.Reading.{start, read_from}
use Rattle.map.specs.Steps.{counted}
use Rattle.map.proofs.Reader.Laid.{ReadAs, told_rows, into_none, into_refused, into_short, into_bytes, into_done}
use Rattle.map.proofs.read.read_map.Goals as goal

-- there is a line
some : (bs : List ℕ) {b : Bool} → b ≡ eqb (length bs) 0 → b ≡ false → length bs ≡ 0 → ⊥
some bs e f = eqb-false (length bs) 0 (sym e ∙ f)

-- all lines are good, and how many they are
all : (places : ℕ) (bs : List ℕ) (n : ℕ) {b : Bool} → b ≡ eqb (length bs) 0 → b ≡ false
    → Ok n ≡ counted 0 (read_from 65529 places (length bs) start 1 bs) → ReadAs places bs n
all places bs n e f h = told_rows places bs (some bs e f) n h

pub returns-then-is_empty : goal.returns-then-is_empty
returns-then-is_empty c = into_none _ c.args.lines.now _ (eqb-true _ 0 (sym c.is_empty.ensures ∙ c.if-is_empty.true))

pub returns-in_err-n : goal.returns-in_err-n
returns-in_err-n c =
    let refused = err_from_is_err_and c.from_residual.result c.from_residual.ensures.1 in
    rw (refused.1, refused.2) (into_refused _ c.args.lines.now _ (some c.args.lines.now c.is_empty.ensures c.if-is_empty.false) _ c.in_err-n.ensures)

pub returns-then-room-n : goal.returns-then-room-n
returns-then-room-n c =
    into_short _ _ _ _ (all _ c.args.lines.now _ c.is_empty.ensures c.if-is_empty.false c.in_ok-n.ensures) (omega (arith, c.if-room-n.true))

pub lay_rows-requires : goal.lay_rows-requires
lay_rows-requires c =
    omega (arith, into_bytes _ c.args.lines.now c.args.room.now _ (all _ c.args.lines.now _ c.is_empty.ensures c.if-is_empty.false c.in_ok-n.ensures))

pub returns : goal.returns
returns c =
    into_done _ _ _ _ (all _ c.args.lines.now _ c.is_empty.ensures c.if-is_empty.false c.in_ok-n.ensures) _
    (omega (arith, c.if-room-n.false)) c.lay_rows.ensures
