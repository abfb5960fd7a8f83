-- `serial::sum_at` meets its contract: after k passes the sum is that at the first k taps.
use Rattle.std.specs.Prelude.{take}
use Rattle.quark.specs.Bytes.{bit}
use Rattle.quark.specs.Feedback.{sum_at}
use Rattle.permutation.proofs.SingleBits.{Sum}
use Rattle.permutation.proofs.serial.sum_at.Given as goal

abbrev pub invariant-loop-tap : goal.invariant-loop-tap
invariant-loop-tap l = Sum l.sum (sum_at (bit l.register) (take l.tap-index l.taps))
