-- `steps` meets its contract: where no line holds the steps are taken from the mirrored start value, and L after them is mirrored back.
use Rattle.std.specs.Prelude.{false}
use mathlib.Core.Path.{sym, ap, ◌∙◌}
use Rattle.refusals.specs.Lines.{refused_by}
use Rattle.refusals.specs.Outcome.{accepted, outcome_of}
use Rattle.refusals.proofs.Outcome.{handed_on, some_line, accepted-outcome, refused-left, accepted-left}
use Rattle.permutation.specs.Steps.{steps_outcome, steps_bytes}
use Rattle.permutation.proofs.Accepted.{accepted-range, accepted-steps, accepted-state}
use Rattle.permutation.proofs.Overwriting.{stepped-bytes, stepped-L}
use Rattle.permutation.proofs.steps.Goals as goal

pub returns-in_err-steps_line : goal.returns-in_err-steps_line
unfolding steps_outcome steps_bytes
returns-in_err-steps_line c = record {
  answer = handed_on _ _ c.in_err-steps_line.ensures _ _ c.from_residual.ensures.1;
  bytes = refused-left _ _ _ (some_line _ _ c.in_err-steps_line.ensures);
}

pub mirrored-start-requires : goal.mirrored-start-requires
unfolding refused_by
mirrored-start-requires c = (accepted-range _ _ _ _ _ (sym c.in_ok-steps_line.ensures)).start

pub invariant_of-steps : goal.invariant_of-steps
unfolding refused_by
invariant_of-steps c = record { allowed = accepted-steps _ _ _ _ _ (sym c.in_ok-steps_line.ensures) _ c.mirrored-start.ensures }

pub overwrite-after-requires : goal.overwrite-after-requires
unfolding refused_by
overwrite-after-requires c = accepted-state _ _ _ _ _ (sym c.in_ok-steps_line.ensures)

pub returns : goal.returns
unfolding refused_by outcome_of steps_outcome steps_bytes
returns c =
    let none = sym c.in_ok-steps_line.ensures in
    let reached = c.overwrite-after.ensures in record {
      answer = ap accepted (c.mirrored.ensures ∙ stepped-L _ _ _ false _ _ _ _ c.mirrored-start.ensures reached) ∙ accepted-outcome _ _ (sym none);
      bytes = stepped-bytes _ _ _ false _ _ _ _ c.mirrored-start.ensures reached ∙ accepted-left _ _ _ none;
    }
