-- `audit::windows::marked` meets its contract: past the marks nothing is marked, and each half of a byte is read for its eight words.
use Rattle.std.proofs.Common.{arith}
use Rattle.std.proofs.lemmas.Grind.{common_steps}
use Rattle.audit.specs.Layout.{pick}
use Rattle.audit.specs.Window.{markedᵇ, nibble}
use Rattle.audit.proofs.windows.Marks.{past_unmarked}
use Rattle.audit.proofs.windows.marked.Goals as goal

pub returns-then-marks-i : goal.returns-then-marks-i
returns-then-marks-i c = grind (arith, common_steps, past_unmarked)

pub returns : goal.returns
unfolding markedᵇ nibble pick
returns c = grind (arith, common_steps)
