-- `journal_refused_at` meets its contract: each arm is the place of the answer that it takes.
use mathlib.Core.Path.{ap}
use Rattle.refusals.specs.Outcome.{outcome_of, place_of}
use Rattle.wilbroged.proofs.journals.journal_refused_at.Goals as goal

pub returns-in-Ok : goal.returns-in-Ok
unfolding place_of outcome_of
returns-in-Ok c = ap place_of c.in-Ok.ensures

pub returns-in-Err : goal.returns-in-Err
unfolding place_of outcome_of
returns-in-Err c = ap place_of c.in-Err.ensures
