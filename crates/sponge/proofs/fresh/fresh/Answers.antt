-- `fresh` meets its contract: all is zero but the instance and the initial bits.
use Rattle.sponge.specs.Soundness.{fresh, state_with}
use Rattle.sponge.proofs.fresh.fresh.Goals as goal

pub returns : goal.returns
unfolding fresh state_with
returns c = rw (c.zeros.ensures, c.initial.ensures) cc
