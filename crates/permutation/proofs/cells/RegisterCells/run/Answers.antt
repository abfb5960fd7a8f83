-- `RegisterCells::run` meets its contract: after t passes the cells hold the registers after t steps.
use Rattle.std.specs.Prelude.{◌≡◌}
use mathlib.Core.Path.{refl, ap, ◌∙◌}
use native.Mathlib.Numerals.{add-one}
use native.Mathlib.Omega.{arith}
use Rattle.quark.specs.Step.{step, steps}
use Rattle.words.specs.Instances.{named}
use Rattle.permutation.specs.leaf.Core.{registers_reached, registers}
use Rattle.permutation.proofs.cells.RegisterCells.run.Goals as goal

pub loop-init : goal.loop-init
unfolding steps
loop-init c = record { holds = refl; rest = refl; full = omega arith }

pub loop-preserved : goal.loop-preserved
unfolding steps
loop-preserved c =
    let l = c.loop in
    let next = c.step.ensures in
    let T = (named c.args.instance).taps in
    rw (add-one l.counter) record { holds = next.holds ∙ ap (step T) l.invariant.holds; rest = next.rest ∙ l.invariant.rest; full = next.full }

pub returns : goal.returns
unfolding registers_reached registers
returns c =
    let l = c.loop in
    let e : l.counter ≡ c.args.count = omega arith in
    rw (← e) l.invariant
