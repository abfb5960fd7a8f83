-- `Reply::accepted` meets its contract.
use mathlib.Core.Path.{refl}
use Rattle.refusals.specs.Outcome.{outcome_of}
use Rattle.sponge.specs.Outcomes.{result_of}
use Rattle.sponge.proofs.Reply.accepted.Goals as goal

pub returns : goal.returns
unfolding result_of outcome_of
returns c = refl
