-- `is_named` meets its contract. The loop's invariant: the bytes of both names from the offset on decide.
use mathlib.Core.Path.{◌≡◌}
use lib.ListN.{drop}
use Rattle.sponge.specs.Bytes.{same}
use Rattle.sponge.specs.Marks.{name_in}
use Rattle.sponge.proofs.marks.is_named.Given as goal

abbrev pub invariant-loop-j : goal.invariant-loop-j
invariant-loop-j l = same (name_in l.mark) l.name ≡ same (drop l.j (name_in l.mark)) (drop l.j l.name)
