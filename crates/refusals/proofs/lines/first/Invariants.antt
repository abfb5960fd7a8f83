-- The first line that holds is among those that are left.
use Rattle.std.specs.Prelude.{◌≡◌, drop}
use Rattle.refusals.specs.Lines.{first_holding}
use Rattle.refusals.proofs.lines.first.Given as goal

abbrev pub invariant-loop-holds : goal.invariant-loop-holds
invariant-loop-holds g l = first_holding l.lines ≡ first_holding (drop l.holds-index l.lines)
