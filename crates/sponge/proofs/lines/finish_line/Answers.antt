-- `finish_line` meets its contract: the rows are the lines in checking order.
use Rattle.refusals.specs.Lines.{first_line, rows, number, line5}
use Rattle.refusals.proofs.Rows.{first_number}
use Rattle.permutation.specs.Lines.{line1, line4}
use Rattle.sponge.specs.Outcomes.{finish_number, line2, line3}
use Rattle.sponge.proofs.lines.finish_line.Goals as goal

pub returns : goal.returns
unfolding finish_number line2 line3 first_line rows number line1 line4 line5
returns c = cc (first_number _ _ c.first.ensures)
