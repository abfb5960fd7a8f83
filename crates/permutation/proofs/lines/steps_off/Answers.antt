-- `steps_off` meets its contract: only 0 is a multiple of 0.
use Rattle.std.proofs.Common.{rules}
use Rattle.permutation.specs.Lines.{most_steps, line20}
use Rattle.permutation.proofs.lines.steps_off.Goals as goal

pub returns-then-count-rounds : goal.returns-then-count-rounds
unfolding line20 most_steps
returns-then-count-rounds c = search rules

pub returns-else-count-rounds : goal.returns-else-count-rounds
unfolding line20 most_steps
returns-else-count-rounds c = search rules
