-- `words::back::groups_back` meets its contract. The invariant: as many groups as were counted have been undone.
use Prim.Native.Nat.{◌*◌}
use Rattle.words.specs.leaf.Groups.{Preceding}
use Rattle.words.proofs.back.groups_back.Given as goal

abbrev pub invariant-loop : goal.invariant-loop
invariant-loop g l = Preceding g.T.Quark.taps (l.counter * g.row.WIDTH) l.fn.state l.s
