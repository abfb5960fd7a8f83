-- `take_bit` meets its contract: what `add_bit`, the new total and `run_p` make of the state is the definition's next state.
use mathlib.Core.Path.{ap, ◌∙◌}
use native.Mathlib.Omega.{arith}
use Rattle.sponge.specs.declared.State.{State}
use Rattle.sponge.specs.Taking.{add_bit}
use Rattle.sponge.specs.Soundness.{content_of, state_with}
use Rattle.sponge.specs.leaf.Steps.{with_sponge}
use Rattle.sponge.proofs.Contents.{counted_state, block_ends, take-bit_runs, take-bit_waits}
use Rattle.sponge.proofs.pieces.Running.take_bit.Goals as goal

pub overflow_add-self : goal.overflow_add-self
unfolding with_sponge state_with content_of
overflow_add-self c = omega (arith, ap (λ (t : State). t.total) c.add_bit.ensures, c.requires.1)

pub run_p-requires : goal.run_p-requires
unfolding with_sponge state_with content_of add_bit
run_p-requires c = omega (arith, ap (λ (t : State). t.runs) c.add_bit.ensures, c.requires.2)

pub returns-then-next-bit_index : goal.returns-then-next-bit_index
returns-then-next-bit_index c =
    let s = c.args.self.now.state in
    let x = c.args.bit in
    let e = c.add_bit.ensures in
    c.run_p.ensures
    ∙ take-bit_runs s x _ (counted_state s x _ e) ((block_ends s x _ e c.bit_index-next.ensures c.bit_index.ensures).0 c.if-next-bit_index.true)

pub returns-else-next-bit_index : goal.returns-else-next-bit_index
returns-else-next-bit_index c =
    let s = c.args.self.now.state in
    let x = c.args.bit in
    let e = c.add_bit.ensures in
    counted_state s x _ e
    ∙ take-bit_waits s x (λ z. c.if-next-bit_index.false ((block_ends s x _ e c.bit_index-next.ensures c.bit_index.ensures).1 z))
