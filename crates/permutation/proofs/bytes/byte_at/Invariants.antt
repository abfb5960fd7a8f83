-- `bytes::byte_at` meets its contract: after k passes the byte is the number of the first k bits.
use Rattle.std.specs.Prelude.{◌≡◌, ◌+◌, ◌*◌}
use Rattle.quark.specs.Bytes.{bit}
use Rattle.quark.proofs.Weights.{weighed}
use Rattle.permutation.proofs.bytes.byte_at.Given as goal

abbrev pub invariant-loop-bit : goal.invariant-loop-bit
invariant-loop-bit l = l.byte ≡ weighed (λ i. bit l.bits (8 * l.j + i)) l.bit-index
