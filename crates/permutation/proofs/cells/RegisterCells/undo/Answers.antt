-- `RegisterCells::undo` meets its contract: what is left to undo leads from the cells to the same end.
use Rattle.std.specs.Prelude.{◌≡◌, ℕ, suc, ◌+◌, ◌-◌, List, take}
use mathlib.Core.Path.{refl, sym, ap, ◌∙◌}
use native.Mathlib.Nat.{sub-zero}
use native.Mathlib.Omega.{arith}
use Rattle.quark.specs.Step.{loaded}
use Rattle.quark.specs.Inverse.{undo_steps}
use Rattle.words.specs.Instances.{named}
use Rattle.permutation.specs.leaf.Core.{registers_reached, registers, held}
use Rattle.permutation.proofs.cells.RegisterCells.undo.Goals as goal

pub loop-init : goal.loop-init
unfolding registers
loop-init c =
    let a = c.args in
    let I = named a.instance in (
      omega arith,
      refl,
      ap (λ (n : ℕ). undo_steps I.taps n (registers I a.self.now.bits c.after-self.result.value)) (sub-zero a.count)
          ∙ ap (λ (w : List ℕ). undo_steps I.taps a.count (loaded I.taps (take I.b a.self.now.bits) w)) c.after-self.ensures,
    )

pub loop-preserved : goal.loop-preserved
unfolding undo_steps
loop-preserved c =
    let l = c.loop in
    let I = named c.args.instance in
    let next = c.undo_step.ensures in
    let e : c.args.count - l.counter ≡ suc (c.args.count - (l.counter + 1)) = omega arith in (
      next.full,
      next.rest ∙ l.invariant.1,
      ap (undo_steps I.taps (c.args.count - (l.counter + 1))) next.holds
          ∙ ap (λ (n : ℕ). undo_steps I.taps n (held I l.self)) (sym e)
          ∙ l.invariant.2,
    )

pub returns : goal.returns
unfolding registers_reached undo_steps
returns c =
    let l = c.loop in
    let I = named c.args.instance in
    let e : c.args.count - l.counter ≡ 0 = omega arith in
    record { holds = ap (λ (n : ℕ). undo_steps I.taps n (held I l.self)) (sym e) ∙ l.invariant.2; rest = l.invariant.1; full = l.invariant.0 }
