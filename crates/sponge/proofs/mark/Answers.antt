-- `mark` meets its contract: where no line holds, the instance and the phase are bytes and there is room for the mark, which is written.
use mathlib.Core.Path.{sym, ◌∙◌}
use native.Mathlib.Omega.{arith}
use Rattle.refusals.specs.Lines.{refused_by}
use Rattle.refusals.specs.Outcome.{outcome_of}
use Rattle.refusals.proofs.Outcome.{handed_on, some_line, accepted-outcome, refused-left, accepted-left}
use Rattle.sponge.specs.Outcomes.{mark_outcome, mark_bytes}
use Rattle.sponge.proofs.Passed.{mark-passed}
use Rattle.sponge.proofs.mark.Goals as goal

pub returns-in_err-mark_line : goal.returns-in_err-mark_line
unfolding mark_outcome mark_bytes
returns-in_err-mark_line c = record {
  answer = handed_on _ _ c.in_err-mark_line.ensures _ _ c.from_residual.ensures.1;
  bytes = refused-left _ _ _ (some_line _ _ c.in_err-mark_line.ensures);
}

pub write-requires : goal.write-requires
unfolding refused_by
write-requires c = let p = mark-passed _ _ _ (sym c.in_ok-mark_line.ensures) in (p.instance-small, p.phase_small, p.room)

pub overflow_add-result : goal.overflow_add-result
unfolding refused_by
overflow_add-result c = omega (arith, (mark-passed _ _ _ (sym c.in_ok-mark_line.ensures)).room)

pub returns : goal.returns
unfolding refused_by outcome_of mark_outcome mark_bytes
returns c =
    let none = sym c.in_ok-mark_line.ensures in record {
      answer = accepted-outcome _ _ (sym none);
      bytes = c.write.ensures ∙ accepted-left _ _ _ none;
    }
