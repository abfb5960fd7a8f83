-- `buffer::permute` meets its contract: where no line holds the buffer has a state's length, P's steps are whole groups, and from all
-- ones they are P, or undone its inverse.
use Rattle.std.specs.Prelude.{ℕ, ◌%◌}
use mathlib.Core.Path.{sym, ap, ◌∙◌}
use native.Mathlib.Omega.{arith}
use Rattle.refusals.specs.Lines.{refused_by}
use Rattle.quark.specs.Step.{rounds}
use Rattle.quark.specs.Instance.{Instance}
use Rattle.refusals.specs.Outcome.{outcome_of}
use Rattle.refusals.proofs.Outcome.{handed_on, some_line, accepted-outcome, refused-left, accepted-left}
use Rattle.permutation.specs.Permute.{permute_outcome, overwritten}
use Rattle.permutation.proofs.Accepted.{accepted-instance, accepted-width, accepted-length}
use Rattle.permutation.proofs.Overwriting.{permuted-bytes}
use Rattle.permutation.proofs.Widths.{rounds-whole}
use Rattle.permutation.proofs.buffer.permute.Goals as goal

pub returns-in_err-buffer_line : goal.returns-in_err-buffer_line
unfolding permute_outcome overwritten
returns-in_err-buffer_line g c = record {
  answer = handed_on _ _ c.in_err-buffer_line.ensures _ _ c.from_residual.ensures.1;
  bytes = refused-left _ _ _ (some_line _ _ c.in_err-buffer_line.ensures);
}

pub invariant_of-steps : goal.invariant_of-steps
unfolding refused_by
invariant_of-steps g c =
    let a = c.args in
    let none = sym c.in_ok-buffer_line.ensures in
    let width = accepted-width _ _ _ none in record {
      allowed = record {
        has_instance = accepted-instance _ _ _ none;
        has_width = width;
        whole = ap (λ (n : ℕ). n % a.width) (c.rounds-count.ensures ∙ ap (λ (I : Instance). rounds I.taps) c.from.ensures) ∙ rounds-whole a.instance a.width width;
        small = omega arith;
      };
    }

pub overwrite-requires : goal.overwrite-requires
unfolding refused_by
overwrite-requires g c = accepted-length _ _ _ (sym c.in_ok-buffer_line.ensures)

pub returns : goal.returns
unfolding refused_by outcome_of permute_outcome overwritten
returns g c =
    let none = sym c.in_ok-buffer_line.ensures in record {
      answer = accepted-outcome tt _ (sym none);
      bytes = permuted-bytes _ _ _ g.D.Direction.inverse _ _ (c.rounds-count.ensures ∙ ap (λ (I : Instance). rounds I.taps) c.from.ensures) c.overwrite.ensures ∙ accepted-left _ _ _ none;
    }
