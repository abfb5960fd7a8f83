-- `words::strides::steps_of_l_by_24` meets its contract. The invariant: the forty bits are those after as many times 24 steps as were
-- counted.
use Prim.Native.Nat.{◌*◌}
use Rattle.quark.specs.Step.{steps_L}
use Rattle.quark.specs.Word.{word_bits}
use Rattle.words.proofs.LStrides.{Begins}
use Rattle.words.proofs.strides.steps_of_l_by_24.Given as goal

abbrev pub invariant-loop : goal.invariant-loop
invariant-loop l = Begins 40 (steps_L (l.counter * 24) (word_bits 10 l.fn.l)) l.bits
