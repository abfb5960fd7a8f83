-- `bytes::store` meets its contract: after j passes the first j bytes are stored.
use Rattle.std.specs.Prelude.{◌≡◌, ◌++◌, drop}
use Rattle.quark.specs.Bytes.{tabulate, byte_at}
use Rattle.permutation.proofs.bytes.store.Given as goal

abbrev pub invariant-loop-j : goal.invariant-loop-j
invariant-loop-j l = l.buffer ≡ tabulate l.j (byte_at l.bits) ++ drop l.j l.initial.buffer
