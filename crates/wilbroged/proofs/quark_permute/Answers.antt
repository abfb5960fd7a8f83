-- `quark_permute` meets its contract: the number that `number_of` gives for the answer of `permute` is its outcome's.
use Rattle.std.proofs.Common.{rules}
use Rattle.refusals.proofs.Outcome.{number_of_answer}
use Rattle.wilbroged.proofs.quark_permute.Goals as goal

pub returns-clause-number : goal.returns-clause-number
returns-clause-number c = search (rules, number_of_answer _ _ c.number_of.ensures)
