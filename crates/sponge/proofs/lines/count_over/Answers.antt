-- `count_over` meets its contract: where an eighth of the count is below the bytes, the product is not worked out.
use Rattle.std.proofs.Common.{rules, ◌*◌, ◌/◌}
use native.Mathlib.Omega.{arith}
use borrow.Author.Tests.{lt-leb, le-ltb}
use Rattle.sponge.specs.Outcomes.{line6}
use Rattle.sponge.proofs.lines.count_over.Goals as goal

pub returns-then-count-bytes : goal.returns-then-count-bytes
unfolding line6
returns-then-count-bytes c = search rules

pub returns-else-count-bytes : goal.returns-else-count-bytes
unfolding line6
returns-else-count-bytes c =
    let a = c.args in
    rw (lt-leb a.bytes (a.count / 8) (omega arith), le-ltb (8 * a.bytes) a.count (omega arith))
