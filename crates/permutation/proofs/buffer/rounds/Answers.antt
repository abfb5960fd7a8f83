-- `rounds` meets its contract: 4b of each instance.
use Rattle.quark.specs.Step.{rounds}
use Rattle.quark.specs.Instance.{U, D, S}
use Rattle.words.specs.Instances.{named}
use Rattle.permutation.proofs.buffer.rounds.Goals as goal

pub returns-in-U : goal.returns-in-U
unfolding rounds named U
returns-in-U c = rw c.in-U.is

pub returns-in-D : goal.returns-in-D
unfolding rounds named D
returns-in-D c = rw c.in-D.is

pub returns-in-S : goal.returns-in-S
unfolding rounds named S
returns-in-S c = rw c.in-S.is
