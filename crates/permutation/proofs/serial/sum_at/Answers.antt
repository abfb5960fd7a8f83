-- `serial::sum_at` meets its contract: after k passes the sum is that at the first k taps.
use Rattle.std.specs.Prelude.{get_or}
use mathlib.Core.Path.{refl}
use native.Mathlib.Omega.{arith}
use Rattle.quark.specs.Bytes.{bit}
use Rattle.quark.specs.Feedback.{sum_at}
use Rattle.permutation.proofs.SingleBits.{single, ◌⊕◌}
use Rattle.permutation.proofs.Tabulate.{sum_at_next}
use Rattle.permutation.proofs.serial.sum_at.Goals as goal

pub loop-tap-init : goal.loop-tap-init
unfolding sum_at
loop-tap-init c = record { small = omega arith; same = refl }

pub loop-tap-preserved : goal.loop-tap-preserved
loop-tap-preserved c =
    let l = c.loop-tap in
    let register = c.args.register.now in
    let taps = c.args.taps.now in
    rw (sum_at_next (bit register) taps l.tap-index (omega arith)) (l.invariant ⊕ single (c.requires.cells (get_or taps l.tap-index 0)))
