-- `words::strides::forty_bits_of_l` meets its contract.
use Rattle.words.proofs.LStrides.{forty_bits}
use Rattle.words.proofs.strides.forty_bits_of_l.Goals as goal

pub returns : goal.returns
returns c =
    forty_bits c.args.l c.eight_steps_of_l-l8.result c.eight_steps_of_l-l16.result c.eight_steps_of_l-l24.result c.eight_steps_of_l-l32.result c.eight_steps_of_l-l8.ensures
    c.eight_steps_of_l-l16.ensures c.eight_steps_of_l-l24.ensures c.eight_steps_of_l-l32.ensures
