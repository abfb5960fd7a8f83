-- `out_of_range` meets its contract: its tests are the definition's.
use mathlib.Core.Path.{refl}
use Rattle.sponge.specs.Outcomes.{line14}
use Rattle.sponge.proofs.lines.out_of_range.Goals as goal

pub returns : goal.returns
unfolding line14
returns c = refl
