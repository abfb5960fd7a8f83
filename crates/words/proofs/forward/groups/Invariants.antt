-- `words::forward::groups` meets its contract. The invariant: as many groups as were counted have been taken.
use Prim.Native.Nat.{◌*◌}
use Rattle.words.specs.leaf.Groups.{Stepped}
use Rattle.words.proofs.forward.groups.Given as goal

abbrev pub invariant-loop : goal.invariant-loop
invariant-loop g l = Stepped g.T.Quark.taps (l.counter * g.row.WIDTH) l.fn.state l.s
