-- `words::back::solve_word` meets its contract. The invariant: as many of the last bits as were counted are right.
use native.Mathlib.Omega.{arith}
use Rattle.words.proofs.Solving.{sum_from, pass_bit, pass_lt, first-right, more_right}
use Rattle.words.proofs.back.solve_word.Goals as goal

pub loop-init : goal.loop-init
loop-init c =
    let a = c.args in
    (c.requires.0, first-right a.known a.factor a.low a.high a.width c.requires.0 c.requires.2)

pub loop-preserved : goal.loop-preserved
loop-preserved c =
    let a = c.args in
    let word = c.loop.word in (
      pass_lt a.width a.known a.factor a.low a.high word c.requires.0 c.loop.invariant.0,
      more_right a.known a.factor a.low a.high a.width c.loop.counter word _ c.requires.2
          (pass_bit a.known a.factor a.low a.high word) c.loop.invariant.1,
    )

pub returns : goal.returns
unfolding sum_from
returns c = (c.loop.invariant.0, λ k. c.loop.invariant.1 k (omega arith))

-- after the last pass
pub returns-2 : goal.returns-2
unfolding sum_from
returns-2 c =
    let a = c.args in
    let word = c.loop.word in (
      pass_lt a.width a.known a.factor a.low a.high word c.requires.0 c.loop.invariant.0,
      λ k. more_right a.known a.factor a.low a.high a.width c.loop.counter word _ c.requires.2
          (pass_bit a.known a.factor a.low a.high word) c.loop.invariant.1 k (omega arith),
    )
