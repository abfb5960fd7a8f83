-- `words::strides::steps_of_l_by_24` meets its contract. The invariant: the forty bits are those after as many times 24 steps as were
-- counted.
use mathlib.Core.Path.{◌≡◌, ap, ◌∙◌}
use Prim.Native.Nat.{ℕ, ◌+◌, ◌*◌}
use native.Mathlib.Omega.{arith}
use borrow.Author.Rules.{rules}
use Rattle.quark.specs.Step.{steps_L}
use Rattle.quark.specs.Word.{word_bits}
use Rattle.words.proofs.LStrides.{forty_further, ten_of_forty}
use Rattle.words.proofs.strides.steps_of_l_by_24.Goals as goal

pub loop-init : goal.loop-init
unfolding steps_L
loop-init c = c.forty_bits_of_l-bits.ensures

pub loop-preserved : goal.loop-preserved
loop-preserved c =
    let i = c.loop.counter in
    let e : i * 24 + 24 ≡ (i + 1) * 24 = omega arith in
    rw e at (forty_further c.args.l (i * 24) c.loop.bits c.loop.invariant)

pub returns : goal.returns
returns c =
    let a = c.args in
    let i = c.loop.counter in
    let e : i ≡ a.count = omega arith in
    record {
      fits = search rules;
      stepped = ten_of_forty a.l (i * 24) c.loop.bits c.loop.invariant.1 ∙ ap (λ (n : ℕ). steps_L (n * 24) (word_bits 10 a.l)) e;
    }
