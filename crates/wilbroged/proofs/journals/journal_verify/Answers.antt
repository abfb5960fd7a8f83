-- `journal_verify` meets its contract: the number that `number_of` gives for the answer of `verify` is its outcome's.
use Rattle.std.proofs.Common.{rules}
use Rattle.refusals.proofs.Outcome.{number_of_answer}
use Rattle.wilbroged.proofs.journals.journal_verify.Goals as goal

pub returns : goal.returns
returns c = search (rules, number_of_answer _ _ c.number_of.ensures)
