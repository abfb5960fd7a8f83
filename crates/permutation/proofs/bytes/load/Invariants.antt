-- `bytes::load` meets its contract: after i passes the first i bits are stored.
use Rattle.std.specs.Prelude.{◌≡◌, ◌++◌, drop}
use Rattle.quark.specs.Bytes.{tabulate, bit_at}
use Rattle.permutation.proofs.bytes.load.Given as goal

abbrev pub invariant-loop-i : goal.invariant-loop-i
invariant-loop-i l = l.bit-items ≡ tabulate l.i (bit_at l.buffer) ++ drop l.i l.initial.bit-items
