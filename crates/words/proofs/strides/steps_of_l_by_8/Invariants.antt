-- `words::strides::steps_of_l_by_8` meets its contract. The invariant: as many times eight steps as were counted have been taken.
use Prim.Native.Nat.{◌*◌}
use Rattle.words.specs.leaf.Groups.{SteppedL}
use Rattle.words.proofs.strides.steps_of_l_by_8.Given as goal

abbrev pub invariant-loop : goal.invariant-loop
invariant-loop l = SteppedL (l.counter * 8) l.l l.now
