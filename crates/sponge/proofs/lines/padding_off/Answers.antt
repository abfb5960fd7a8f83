-- `padding_off` meets its contract: the padded length and the sum from the total's remainder leave the same remainder.
use mathlib.Core.Path.{ap, ◌∙◌}
use mathlib.Core.Bool.{not}
use Prim.Native.Nat.{ℕ, ◌+◌, ◌-◌, ◌%◌, ◌<◌, ◌≤◌}
use native.Mathlib.Nat.{mod-lt}
use native.Mathlib.Omega.{arith}
use lib.Dec.{eqb}
use Rattle.quark.proofs.Instance.{in_bytes, regular}
use Rattle.sponge.specs.Outcomes.{line8}
use Rattle.sponge.proofs.StateBytes.{padded_remainder}
use Rattle.sponge.proofs.lines.padding_off.Goals as goal

-- the rate is from 1 to 256, and the remainder is below it
small : (c : goal.After-rate-r) → (c.args.total % c.rate-r.result < c.rate-r.result) × (c.rate-r.result ≤ 256)
small c =
    let i = c.args.instance in
    let R = regular i in
    let some : 0 < c.rate-r.result = omega (arith, R.some_rate) in
    (mod-lt c.args.total some, omega (arith, R.rate_fits, (in_bytes i).at-most_256))

pub nonzero_rem-begun : goal.nonzero_rem-begun
nonzero_rem-begun c = omega (arith, small c)

pub overflow_add-result : goal.overflow_add-result
overflow_add-result c = omega (arith, small c)

pub overflow_sub-result : goal.overflow_sub-result
overflow_sub-result c = omega (arith, small c)

pub overflow_sub-result-2 : goal.overflow_sub-result-2
overflow_sub-result-2 c = omega (arith, small c)

pub overflow_add-result-2 : goal.overflow_add-result-2
overflow_add-result-2 c = omega (arith, small c)

pub nonzero_rem-result : goal.nonzero_rem-result
nonzero_rem-result c = omega (arith, small c)

pub returns : goal.returns
unfolding line8
returns c =
    let t = c.args.total in
    let r = c.rate-r.result in
    ap (λ (n : ℕ). not (eqb n 0)) (padded_remainder t r (r - 1 - t % r))
    ∙ ap (λ (k : ℕ). not (eqb ((t + 1 + (k - 1 - t % k)) % k) 0)) c.rate-r.ensures
