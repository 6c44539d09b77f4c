-- `map::rows::read_row` meets its contract: of nineteen bytes that a line feed ends, two are read as the kind, eight as the offset, eight as the length.
use mathlib.Core.Path.{◌∙◌}
use native.Mathlib.Omega.{arith}
use Rattle.map.proofs.RowLaws.{row_length, row_end, row_none, row_unknown, row_is}
use Rattle.map.proofs.rows.read_row.Goals.{then-line-ne19-via-then-line-ne19, then-line-ne19-via-else-line-ne19+then-line-ne10}
use Rattle.map.proofs.rows.read_row.Goals as goal

pub returns-then-line-ne19 : goal.returns-then-line-ne19
returns-then-line-ne19 c =
    elim c.then-line-ne19.branch [
      | then-line-ne19-via-then-line-ne19 w ↦ row_length _ w.if-line-ne19.true
      | then-line-ne19-via-else-line-ne19+then-line-ne10 w ↦ row_end _ w.if-line-ne19.false w.if-line-ne10.true
    ]

pub returns-in_err-number : goal.returns-in_err-number
returns-in_err-number c =
    rw c.from_residual.ensures
    (row_none _ c.if-line-ne19.false 0 2 (omega arith) (omega arith) c.in_err-number.ensures)

pub returns-in_err-kind : goal.returns-in_err-kind
returns-in_err-kind c =
    rw c.from_residual-in_err-kind.ensures
    (row_unknown _ c.if-line-ne19.false _ c.in_ok-number.ensures (c.in_err-kind.ensures.value ∙ c.try_from.ensures.0))

pub returns-in_err-at : goal.returns-in_err-at
returns-in_err-at c =
    rw c.from_residual-in_err-at.ensures
    (row_none _ c.if-line-ne19.false 2 8 (omega arith) (omega arith) c.in_err-at.ensures)

pub returns-in_err-len : goal.returns-in_err-len
returns-in_err-len c =
    rw c.from_residual-in_err-len.ensures
    (row_none _ c.if-line-ne19.false 10 8 (omega arith) (omega arith) c.in_err-len.ensures)

pub returns : goal.returns
returns c =
    row_is _ c.if-line-ne19.false _ _ _ _ c.if-line-ne10.false
    c.in_ok-number.ensures
    (c.in_ok-kind.ensures.value ∙ c.try_from.ensures.0)
    c.in_ok-at.ensures
    c.in_ok-len.ensures
