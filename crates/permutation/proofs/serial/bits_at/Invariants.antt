-- `serial::bits_at` meets its contract: after k passes the bits at the first k taps are stored.
use Rattle.std.specs.Prelude.{◌≡◌, ◌++◌, get_or, drop, replicate}
use Rattle.quark.specs.Bytes.{tabulate, bit}
use Rattle.permutation.proofs.serial.bits_at.Given as goal

abbrev pub invariant-loop-k : goal.invariant-loop-k
invariant-loop-k l = l.bits ≡ tabulate l.k (λ j. bit l.register (get_or l.taps j 0)) ++ drop l.k (replicate 13 0)
