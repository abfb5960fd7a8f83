-- `words::strides::eight_steps_of_l_back` meets its contract.
use native.Mathlib.Omega.{arith}
use Rattle.words.proofs.LBack.{before-lt, eight_back_steps}
use Rattle.words.proofs.strides.eight_steps_of_l_back.Goals as goal

pub returns : goal.returns
returns c = record { fits = omega (arith, before-lt c.args.l); redone = eight_back_steps c.args.l }
