-- `recall` meets its contract: the reply by the lines.
use mathlib.Core.Path.{sym, ◌∙◌}
use Rattle.refusals.specs.Lines.{refused_by}
use Rattle.sponge.specs.Outcomes.{recall_result}
use Rattle.sponge.proofs.Passed.{refused-result, accepted-result}
use Rattle.sponge.proofs.recall.Goals as goal

pub returns-in-Ok : goal.returns-in-Ok
unfolding refused_by recall_result
returns-in-Ok c = c.accepted.ensures ∙ accepted-result _ _ _ _ (sym c.in-Ok.ensures.line) c.in-Ok.ensures.found

pub returns-in-Err : goal.returns-in-Err
unfolding refused_by recall_result
returns-in-Err c = c.refused.ensures ∙ refused-result _ _ _ _ c.in-Err.ensures.line
