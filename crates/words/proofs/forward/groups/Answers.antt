-- `words::forward::groups` meets its contract. The invariant: as many groups as were counted have been taken.
use Rattle.words.proofs.Groups.{forward_composes, no_groups, one_group_more}
use Rattle.words.proofs.forward.groups.Goals as goal

pub loop-init : goal.loop-init
loop-init g c = no_groups (forward_composes _) _ _ c.requires.1

pub loop-preserved : goal.loop-preserved
loop-preserved g c = one_group_more (forward_composes _) _ _ _ _ _ c.loop.invariant c.group-s.ensures
