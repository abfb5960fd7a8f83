-- `RegisterL::previous` meets its contract.
use Rattle.permutation.proofs.RegisterL.{undo_word_bits}
use Rattle.permutation.proofs.register_l.RegisterL.previous.Goals as goal

pub returns : goal.returns
returns c = undo_word_bits c.args.self.value c.args.self.small
