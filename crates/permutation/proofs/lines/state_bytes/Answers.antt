-- `state_bytes` meets its contract: b/8 of the instance.
use Rattle.std.proofs.Common.{rules}
use Rattle.quark.specs.Instance.{U, D, S, state_bytes}
use Rattle.words.specs.Instances.{named}
use Rattle.permutation.proofs.lines.state_bytes.Goals as goal

pub returns-in-U : goal.returns-in-U
unfolding state_bytes named U
returns-in-U c = search rules

pub returns-in-D : goal.returns-in-D
unfolding state_bytes named D
returns-in-D c = search rules

pub returns-in-S : goal.returns-in-S
unfolding state_bytes named S
returns-in-S c = search rules
