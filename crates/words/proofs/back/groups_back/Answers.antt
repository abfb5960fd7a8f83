-- `words::back::groups_back` meets its contract. The invariant: as many groups as were counted have been undone.
use Rattle.words.proofs.Groups.{back-composes, no_groups, one_group_more}
use Rattle.words.proofs.back.groups_back.Goals as goal

pub loop-init : goal.loop-init
loop-init g c = no_groups (back-composes _) _ _ c.requires.1

pub loop-preserved : goal.loop-preserved
loop-preserved g c = one_group_more (back-composes _) _ _ _ _ _ c.loop.invariant c.group_back-s.ensures
