-- `blocks_off` meets its contract: a length is k parts exactly when it divides into k and leaves nothing.
use mathlib.Core.Bool.{not}
use mathlib.Core.Path.{ap, ◌∙◌}
use Prim.Native.Nat.{ℕ, ◌*◌, ◌<◌}
use native.Mathlib.Omega.{arith}
use lib.Dec.{eqb}
use Rattle.refusals.specs.Lines.{line5}
use Rattle.sponge.specs.Outcomes.{blocks_bytes}
use Rattle.sponge.proofs.StateBytes.{some_block_bytes, whole_parts}
use Rattle.sponge.proofs.lines.blocks_off.Goals as goal

-- a block has a byte
some : (c : goal.After-block_bytes-size) → 0 < c.block_bytes-size.result
some c = omega (arith, c.block_bytes-size.ensures, some_block_bytes c.args.instance)

pub returns : goal.returns
unfolding line5 blocks_bytes
returns c =
    let a = c.args in
    whole_parts c.block_bytes-size.result a.buffer a.k (some c) ∙ ap (λ (q : ℕ). not (eqb a.buffer (a.k * q))) c.block_bytes-size.ensures

pub nonzero_rem-result : goal.nonzero_rem-result
nonzero_rem-result c = omega (arith, some c)

pub nonzero_div-result : goal.nonzero_div-result
nonzero_div-result c = omega (arith, some c)
