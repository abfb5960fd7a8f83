-- `bit_index` meets its contract: the total under the mask r - 1 is its remainder by r. Under a mask a number does not grow, so nothing wraps.
use mathlib.Core.Path.{◌≡◌, ap, ◌∙◌}
use Prim.Native.Nat.{ℕ, ◌-◌, ◌%◌}
use native.Mathlib.Nat.{lt_of_le_of_lt, add-le-add}
use native.Mathlib.Omega.{arith}
use mir.Val.{Fits}
use mir.Syntax.{w32}
use borrow.Author.Rules.{rules}
use lib.Bits.{bit_and, and_le_l}
use Rattle.quark.specs.Instance.{instance_of}
use Rattle.quark.proofs.Instance.{in_bytes, regular}
use Rattle.sponge.specs.Taking.{bit_index}
use Rattle.sponge.proofs.StateBytes.{mask_remainder, whole-front}
use Rattle.sponge.proofs.rate.bit_index.Goals as goal

-- the total under the mask, as the code finds it
remainder : (c : goal.After-rate) → let a = c.args in
    bit_and a.total (c.rate.result - 1) ≡ a.total % (instance_of a.instance).r
remainder c =
    let a = c.args in
    ap (λ (r : ℕ). bit_and a.total (r - 1)) c.rate.ensures ∙ mask_remainder a.instance a.total

pub overflow_mul-result : goal.overflow_mul-result
overflow_mul-result c = omega (arith, c.last_block.ensures, (in_bytes c.args.instance).at-most_256)

pub overflow_sub-result : goal.overflow_sub-result
overflow_sub-result c = omega (arith, c.rate.ensures, (regular c.args.instance).some_rate)

pub overflow_add-result : goal.overflow_add-result
overflow_add-result c =
    let a = c.args in
    let total : Fits w32 a.total = search rules in
    record {
      fits =
          lt_of_le_of_lt
          (add-le-add {b = 256} (omega (arith, c.last_block.ensures, (in_bytes a.instance).at-most_256)) (and_le_l a.total _))
          (omega (arith, total.fits));
    }

pub returns : goal.returns
unfolding bit_index
returns c = omega (arith, whole-front c.args.instance, c.last_block.ensures, remainder c)
