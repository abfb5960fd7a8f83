-- `quark_steps` meets its contract: each arm is the case of `steps`'s answer that it takes.
use mathlib.Core.Path.{ap, ◌∙◌}
use Prim.Native.Nat.{ℕ}
use Rattle.refusals.specs.Outcome.{Outcome, outcome_of, number_of, value_or}
use Rattle.wilbroged.proofs.steps.quark_steps.Goals as goal

pub returns-in-Ok : goal.returns-in-Ok
unfolding number_of value_or outcome_of
returns-in-Ok c =
    let e = c.in-Ok.ensures.answer in record {
      number = ap number_of e;
      bytes = c.steps.ensures.bytes;
      after = ap (λ (o : Outcome ℕ). value_or o c.args.l_after.now) e;
    }

pub returns-in-Err : goal.returns-in-Err
unfolding number_of value_or outcome_of
returns-in-Err c =
    let e = c.in-Err.ensures.answer in record {
      number = c.number.ensures ∙ ap number_of e;
      bytes = c.steps.ensures.bytes;
      after = ap (λ (o : Outcome ℕ). value_or o c.args.l_after.now) e;
    }
