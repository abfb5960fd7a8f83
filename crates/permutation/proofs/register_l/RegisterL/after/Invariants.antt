-- `RegisterL::after` meets its contract: after t passes L has taken t steps.
use Rattle.std.specs.Prelude.{◌≡◌}
use Rattle.quark.specs.Step.{steps_L}
use Rattle.quark.specs.Word.{word_bits}
use Rattle.permutation.proofs.register_l.RegisterL.after.Given as goal

abbrev pub invariant-loop : goal.invariant-loop
invariant-loop l = word_bits 10 l.now.value ≡ steps_L l.counter (word_bits 10 l.fn.self.value)
