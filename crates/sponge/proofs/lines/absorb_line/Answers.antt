-- `absorb_line` meets its contract: the rows are the lines in checking order.
use Rattle.refusals.specs.Lines.{first_line, rows, number}
use Rattle.refusals.proofs.Rows.{first_number}
use Rattle.permutation.specs.Lines.{line1, line4}
use Rattle.sponge.specs.Outcomes.{absorb_number, line2, line3, line7}
use Rattle.sponge.proofs.lines.absorb_line.Goals as goal

pub returns : goal.returns
unfolding absorb_number line2 line3 line7 first_line rows number line1 line4
returns c = cc (first_number _ _ c.first.ensures)
