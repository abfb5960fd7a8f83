-- `RegisterCells::run` meets its contract: after t passes the cells hold the registers after t steps.
use Rattle.quark.specs.Step.{steps}
use Rattle.words.specs.Instances.{named}
use Rattle.permutation.specs.leaf.Core.{held, CellsHold}
use Rattle.permutation.proofs.cells.RegisterCells.run.Given as goal

abbrev pub invariant-loop : goal.invariant-loop
invariant-loop l = CellsHold (named l.instance) (steps (named l.instance).taps l.counter (held (named l.instance) l.initial.self)) l.initial.self l.self
