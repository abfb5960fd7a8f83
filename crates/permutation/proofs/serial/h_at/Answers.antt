-- `serial::h_at` meets its contract: the polynomial again, in sums and products of bits.
use mathlib.Core.Path.{ap, ◌∙◌}
use Rattle.std.specs.Prelude.{ℕ, ◌%◌, ◌<◌, List}
use native.Mathlib.Omega.{arith}
use Rattle.quark.specs.Bytes.{bit}
use Rattle.quark.specs.Feedback.{sum_at, h}
use Rattle.quark.specs.Word.{word_bits}
use Rattle.words.specs.Instances.{named}
use Rattle.permutation.proofs.Instances.{below}
use Rattle.permutation.proofs.SingleBits.{single, exact, sum, parity, plus, ◌⊕◌, ◌⊗◌}
use Rattle.permutation.proofs.serial.h_at.Goals as goal

pub sum_at-requires-clause-by_index : goal.sum_at-requires-clause-by_index
sum_at-requires-clause-by_index c = rw (c.of-taps.ensures.taps.h_X, c.requires.x_len.0) (below c.args.instance).h-x

pub sum_at-requires-2-clause-by_index : goal.sum_at-requires-2-clause-by_index
sum_at-requires-2-clause-by_index c = rw (c.of-taps.ensures.taps.h_Y, c.requires.x_len.1) (below c.args.instance).h-y

pub bounds-y-taps : goal.bounds-y-taps
bounds-y-taps c = rw (c.of-taps.ensures.taps.y_low, c.requires.x_len.1) (below c.args.instance).low_y

pub bounds-x-taps : goal.bounds-x-taps
bounds-x-taps c = rw (c.of-taps.ensures.taps.x_low, c.requires.x_len.0) (below c.args.instance).low_x

pub bounds-x-taps-2 : goal.bounds-x-taps-2
bounds-x-taps-2 c = rw (c.of-taps.ensures.taps.x_mid, c.requires.x_len.0) (below c.args.instance).mid_x

pub bounds-x-taps-3 : goal.bounds-x-taps-3
bounds-x-taps-3 c = rw (c.of-taps.ensures.taps.x_high, c.requires.x_len.0) (below c.args.instance).high_x

pub bounds-y-taps-2 : goal.bounds-y-taps-2
bounds-y-taps-2 c = rw (c.of-taps.ensures.taps.y_high, c.requires.x_len.1) (below c.args.instance).high_y

pub returns : goal.returns
unfolding h word_bits
returns c =
    let x = c.args.x.now in
    let y = c.args.y.now in
    let T = (named c.args.instance).taps in
    let taps = c.of-taps.ensures.taps in
    let small : c.args.l.value % 2 < 2 = omega arith in
    let l0 = single small in
    let x-sum = c.sum_at.ensures ∙ ap (λ (ts : List ℕ). sum_at (bit x) ts % 2) taps.h_X in
    let y-sum = c.sum_at-2.ensures ∙ ap (λ (ts : List ℕ). sum_at (bit y) ts % 2) taps.h_Y in
    let y3 = exact (ap (bit y) taps.y_low) (c.requires.cells_2 T.y_low) in
    let x25 = exact (ap (bit x) taps.x_low) (c.requires.cells T.x_low) in
    let x46 = exact (ap (bit x) taps.x_mid) (c.requires.cells T.x_mid) in
    let x55 = exact (ap (bit x) taps.x_high) (c.requires.cells T.x_high) in
    let y59 = exact (ap (bit y) taps.y_high) (c.requires.cells_2 T.y_high) in
    (plus (plus (sum l0) (parity x-sum)) (parity y-sum)
    ⊕ y3 ⊗ x55 ⊕ x46 ⊗ x55 ⊕ x55 ⊗ y59 ⊕ y3 ⊗ x25 ⊗ x46 ⊕ y3 ⊗ x46 ⊗ x55 ⊕ y3 ⊗ x46 ⊗ y59 ⊕ l0 ⊗ x25 ⊗ x46 ⊗ y59 ⊕ l0 ⊗ x25).same
