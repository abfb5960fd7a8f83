-- `give_extra` meets its contract: the blocks are those of `give_blocks`, and the sum of extra blocks is within the limit.
use mathlib.Core.Path.{ap}
use Prim.Native.Nat.{◌+◌}
use native.Mathlib.Omega.{arith}
use Rattle.sponge.specs.declared.State.{State}
use Rattle.sponge.specs.Taking.{squeeze_output, extra_squeezed}
use Rattle.sponge.specs.Soundness.{content_of, state_with}
use Rattle.sponge.specs.leaf.Steps.{with_sponge}
use Rattle.sponge.proofs.Contents.{with_changed}
use Rattle.sponge.proofs.pieces.Running.give_extra.Goals as goal

pub overflow_add-last : goal.overflow_add-last
unfolding with_sponge state_with content_of
overflow_add-last c = omega (arith, ap (λ (t : State). t.extra) c.give_blocks.ensures.left, c.requires.2)

pub returns : goal.returns
unfolding squeeze_output extra_squeezed with_sponge state_with content_of
returns c =
    let blocks = c.give_blocks in record {
      left = with_changed (λ t. t.phase) (λ t. t.total) (λ t. t.extra + c.args.k) c.args.self.state blocks.result.state _ blocks.ensures.left;
      bytes = blocks.ensures.bytes;
    }
