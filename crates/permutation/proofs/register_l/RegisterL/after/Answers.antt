-- `RegisterL::after` meets its contract: after t passes L has taken t steps.
use Rattle.std.specs.Prelude.{ℕ}
use mathlib.Core.Path.{refl, sym, ap, ◌∙◌}
use native.Mathlib.Numerals.{add-one}
use Rattle.quark.specs.Step.{step_L, steps_L}
use Rattle.quark.specs.Word.{word_bits}
use Rattle.permutation.proofs.register_l.RegisterL.after.Goals as goal

pub loop-init : goal.loop-init
unfolding steps_L
loop-init c = refl

pub loop-preserved : goal.loop-preserved
unfolding steps_L
loop-preserved c =
    let l = c.loop in
    let w = word_bits 10 c.args.self.value in
    c.next-now.ensures ∙ ap step_L l.invariant ∙ ap (λ (t : ℕ). steps_L t w) (sym (add-one l.counter))
