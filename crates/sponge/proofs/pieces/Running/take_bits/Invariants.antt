-- `take_bits` meets its contract: after i passes the first i bits are taken.
use mathlib.Core.Path.{◌≡◌}
use Rattle.sponge.specs.Soundness.{state_with}
use Rattle.sponge.proofs.Contents.{after_bits}
use Rattle.sponge.proofs.pieces.Running.take_bits.Given as goal

abbrev pub invariant-loop-i : goal.invariant-loop-i
invariant-loop-i l =
    let s = l.initial.self.state in
    l.self.state ≡ state_with s.instance s.phase (after_bits s l.bytes l.i)
