-- `Reply::refused` meets its contract.
use Rattle.std.proofs.Common.{rules}
use Rattle.refusals.specs.Outcome.{outcome_of}
use Rattle.sponge.specs.Outcomes.{result_of}
use Rattle.sponge.proofs.Reply.refused.Goals as goal

pub returns : goal.returns
unfolding result_of outcome_of
returns c = search rules
