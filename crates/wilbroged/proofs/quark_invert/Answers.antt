-- `quark_invert` meets its contract: the number that `number_of` gives for the answer of `invert` is its outcome's.
use Rattle.std.proofs.Common.{rules}
use Rattle.refusals.proofs.Outcome.{number_of_answer}
use Rattle.wilbroged.proofs.quark_invert.Goals as goal

pub returns-clause-number : goal.returns-clause-number
returns-clause-number c = search (rules, number_of_answer _ _ c.number_of.ensures)
