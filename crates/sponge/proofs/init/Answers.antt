-- `init` meets its contract.
use mathlib.Core.Bool.{true, false}
use mathlib.Core.Path.{◌≡◌, sym, ap, ◌∙◌}
use Rattle.refusals.specs.Lines.{first_line, number}
use Rattle.refusals.specs.Outcome.{accepted, refused, outcome}
use Rattle.quark.specs.Instance.{is_instance}
use Rattle.permutation.specs.Lines.{line1}
use Rattle.sponge.specs.declared.State.{State}
use Rattle.sponge.specs.Outcomes.{init_result, init_number, result_by}
use Rattle.sponge.proofs.init.Goals as goal

pub returns-then-is_instance : goal.returns-then-is_instance
unfolding init_result init_number first_line line1 result_by outcome
returns-then-is_instance c =
    let has_instance : is_instance c.args.instance ≡ true =
    sym c.is_instance.ensures ∙ c.if-is_instance.true in
    c.accepted.ensures ∙ rw has_instance (ap (λ (s : State). record { outcome = accepted tt; state = s }) c.fresh.ensures)

pub returns-else-is_instance : goal.returns-else-is_instance
unfolding init_result init_number first_line number line1 result_by outcome
returns-else-is_instance c =
    let unknown : is_instance c.args.instance ≡ false =
    sym c.is_instance.ensures ∙ c.if-is_instance.false in
    c.refused.ensures ∙ rw unknown (ap (λ (s : State). record { outcome = refused 1 0; state = s }) c.zeros.ensures)
