-- `RegisterL::next` meets its contract.
use Rattle.permutation.proofs.RegisterL.{step-word_bits}
use Rattle.permutation.proofs.register_l.RegisterL.next.Goals as goal

pub returns : goal.returns
returns c = step-word_bits c.args.self.value c.args.self.small
