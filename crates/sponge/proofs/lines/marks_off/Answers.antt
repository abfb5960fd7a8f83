-- `marks_off` meets its contract: its tests are the definition's.
use mathlib.Core.Path.{refl}
use Rattle.sponge.specs.Outcomes.{line17}
use Rattle.sponge.proofs.lines.marks_off.Goals as goal

pub returns : goal.returns
unfolding line17
returns c = refl
