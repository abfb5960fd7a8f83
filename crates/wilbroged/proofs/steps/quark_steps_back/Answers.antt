-- `quark_steps_back` meets its contract: the number that `number_of` gives for the answer of `steps_back` is its outcome's.
use Rattle.std.proofs.Common.{rules}
use Rattle.refusals.proofs.Outcome.{number_of_answer}
use Rattle.wilbroged.proofs.steps.quark_steps_back.Goals as goal

pub returns-clause-number : goal.returns-clause-number
returns-clause-number c = search (rules, number_of_answer _ _ c.number_of.ensures)
