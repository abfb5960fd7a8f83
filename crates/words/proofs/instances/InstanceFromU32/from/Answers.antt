-- `Instance::from` meets its contract: each arm gives the instance that the definition has for its number.
use Rattle.std.proofs.Common.{rules}
use Rattle.quark.specs.Instance.{instance_of}
use Rattle.words.specs.Instances.{named}
use Rattle.words.proofs.instances.InstanceFromU32.from.Goals as goal

pub returns-in-1 : goal.returns-in-1
unfolding named instance_of
returns-in-1 c = search rules

pub returns-in-2 : goal.returns-in-2
unfolding named instance_of
returns-in-2 c = search rules

pub returns-in_default : goal.returns-in_default
unfolding named instance_of
returns-in_default c = search rules
