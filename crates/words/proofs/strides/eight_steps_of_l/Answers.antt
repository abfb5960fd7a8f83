-- `words::strides::eight_steps_of_l` meets its contract.
use Rattle.words.proofs.Groups.{L-composes}
use Rattle.words.proofs.strides.eight_steps_of_l.Goals as goal

pub returns : goal.returns
returns c =
    L-composes.join 4 4 c.args.l c.four_steps_of_l.result c.four_steps_of_l-2.result c.four_steps_of_l.ensures
    c.four_steps_of_l-2.ensures
