-- `latest` meets its contract. The loop's invariant: the marks that are not tried yet decide.
use mathlib.Core.Path.{◌≡◌}
use Prim.Native.Nat.{◌≤◌}
use Rattle.sponge.specs.Marks.{up_to_latest}
use Rattle.sponge.proofs.marks.latest.Given as goal

abbrev pub invariant-loop-j : goal.invariant-loop-j
invariant-loop-j l = (l.j ≤ l.count) × (up_to_latest l.name l.buffer l.count ≡ up_to_latest l.name l.buffer l.j)
