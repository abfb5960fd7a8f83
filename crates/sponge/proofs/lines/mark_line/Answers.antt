-- `mark_line` meets its contract: the rows are the lines in checking order.
use Rattle.refusals.specs.Lines.{first_line, rows, number}
use Rattle.refusals.proofs.Rows.{first_number}
use Rattle.permutation.specs.Lines.{line1}
use Rattle.sponge.specs.Outcomes.{mark_number, line2, line19}
use Rattle.sponge.proofs.lines.mark_line.Goals as goal

pub returns : goal.returns
unfolding mark_number line2 line19 first_line rows number line1
returns c = cc (first_number _ _ c.first.ensures)
