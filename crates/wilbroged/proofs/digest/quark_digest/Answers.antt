-- `quark_digest` meets its contract: the number that `number_of` gives for the answer of `digest` is its outcome's.
use Rattle.std.proofs.Common.{rules}
use Rattle.refusals.proofs.Outcome.{number_of_answer}
use Rattle.wilbroged.proofs.digest.quark_digest.Goals as goal

pub returns-clause-number : goal.returns-clause-number
returns-clause-number c = search (rules, number_of_answer _ _ c.number_of.ensures)
