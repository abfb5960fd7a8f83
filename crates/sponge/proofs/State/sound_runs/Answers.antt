-- `sound_runs` meets its contract: the quotient is at most the total, so the sums do not wrap.
use mathlib.Core.Path.{ap₂}
use Prim.Native.Nat.{ℕ, ◌+◌, ◌/◌}
use native.Mathlib.Nat.{div-le_self}
use native.Mathlib.Omega.{arith}
use borrow.Author.Rules.{rules}
use borrow.Author.Tests.{eq-eqb, ne_eqb}
use Rattle.quark.proofs.Instance.{regular}
use Rattle.sponge.specs.Soundness.{sound_runs}
use Rattle.sponge.proofs.StateBytes.{outputs_small}
use Rattle.sponge.proofs.State.sound_runs.Goals as goal

pub nonzero_div-blocks : goal.nonzero_div-blocks
nonzero_div-blocks c = omega (arith, c.rate.ensures, (regular c.args.self.now.instance).some_rate)

pub overflow_add-result : goal.overflow_add-result
overflow_add-result c =
    let s = c.args.self.now in
    omega (arith, c.outputs.ensures, outputs_small s.instance, div-le_self s.total c.rate.result)

pub overflow_add-result-in_default : goal.overflow_add-result-in_default
overflow_add-result-in_default c =
    let s = c.args.self.now in
    omega (arith, c.outputs.ensures, outputs_small s.instance, div-le_self s.total c.rate.result)

pub returns-in-0 : goal.returns-in-0
unfolding sound_runs
returns-in-0 c = simp (eq-eqb _ _ c.in-0.is, ← c.rate.ensures)

pub returns-in_default : goal.returns-in_default
unfolding sound_runs
returns-in_default c =
    let s = c.args.self.now in
    rw (ne_eqb s.phase 0 (search rules))
    (ap₂ (λ (r n : ℕ). s.total / r + n + s.extra) c.rate.ensures c.outputs.ensures)
