-- `words::strides::steps_of_l_by_8` meets its contract. The invariant: as many times eight steps as were counted have been taken.
use Rattle.words.proofs.Groups.{L-composes, no_groups, one_group_more}
use Rattle.words.proofs.strides.steps_of_l_by_8.Goals as goal

pub loop-init : goal.loop-init
loop-init c = no_groups L-composes 8 c.args.l c.requires

pub loop-preserved : goal.loop-preserved
loop-preserved c =
    one_group_more L-composes 8 c.args.l c.loop.counter c.loop.now c.eight_steps_of_l-now.result c.loop.invariant c.eight_steps_of_l-now.ensures
