-- `words::strides::four_steps_of_l` meets its contract.
use borrow.Author.Rules.{rules}
use Rattle.words.proofs.LStrides.{four_steps}
use Rattle.words.proofs.strides.four_steps_of_l.Goals as goal

pub returns : goal.returns
returns c = record { fits = search rules; stepped = four_steps c.args.l c.requires }
