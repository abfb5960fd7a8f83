-- `words::strides::ahead` meets its contract.
use mathlib.Core.Path.{◌≡◌}
use Prim.Native.Nat.{◌+◌, ◌*◌, ◌/◌, ◌%◌}
use native.Mathlib.Omega.{arith}
use Rattle.words.proofs.Groups.{L-composes}
use Rattle.words.proofs.strides.ahead.Goals as goal

pub returns : goal.returns
returns c =
    let a = c.args in
    let n = a.count in
    let e : n / 3 * 24 + n % 3 * 8 ≡ n * 8 = omega arith in
    rw e at (L-composes.join (n / 3 * 24) (n % 3 * 8) a.l c.steps_of_l_by_24.result c.steps_of_l_by_8.result c.steps_of_l_by_24.ensures c.steps_of_l_by_8.ensures)
