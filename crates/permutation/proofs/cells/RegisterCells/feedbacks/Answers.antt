-- `RegisterCells::feedbacks` meets its contract: the parts that it lends are X and Y.
use Rattle.std.specs.Prelude.{◌≡◌, ℕ, List, length}
use mathlib.Core.Path.{ap₂, ◌∙◌}
use native.Mathlib.Omega.{arith}
use Rattle.quark.specs.Bytes.{bit}
use Rattle.quark.specs.Feedback.{feedback, f, g, h}
use Rattle.quark.specs.Step.{loaded}
use Rattle.quark.specs.Word.{word_bits}
use Rattle.quark.proofs.Bits.{bits_at}
use Rattle.words.specs.Instances.{named}
use Rattle.permutation.specs.leaf.Core.{registers}
use Rattle.permutation.proofs.Instances.{below}
use Rattle.permutation.proofs.SerialSteps.{serial_cells, sized, x_part, y_part}
use Rattle.permutation.proofs.cells.RegisterCells.feedbacks.Goals as goal

pub feedback_at-requires : goal.feedback_at-requires
feedback_at-requires c =
    let full : length c.args.self.now.bits ≡ 256 = omega arith in
    let R = serial_cells c.args.instance c.args.self.now c.of-taps.result.now c.of-taps.ensures.taps full in
    let w = (sized R).wide_X in record {
      by_index = (λ k q. rw (c.of-taps.ensures.taps.f, c.split_at.ensures.front, x_part R, w.0) ((below c.args.instance).f-taps k q));
      cells = (λ k. rw (c.split_at.ensures.front, x_part R) (bits_at w.1 k));
    }

pub feedback_at-requires-2 : goal.feedback_at-requires-2
feedback_at-requires-2 c =
    let full : length c.args.self.now.bits ≡ 256 = omega arith in
    let R = serial_cells c.args.instance c.args.self.now c.of-taps.result.now c.of-taps.ensures.taps full in
    let w = (sized R).wide_Y in record {
      by_index = (λ k q. rw (c.of-taps.ensures.taps.g, c.split_at.ensures.back, y_part R, w.0) ((below c.args.instance).g-taps k q));
      cells = (λ k. rw (c.split_at.ensures.back, y_part R) (bits_at w.1 k));
    }

pub returns : goal.returns
unfolding f g registers loaded
returns c =
    let full : length c.args.self.now.bits ≡ 256 = omega arith in
    let R = serial_cells c.args.instance c.args.self.now c.of-taps.result.now c.of-taps.ensures.taps full in
    let T = (named c.args.instance).taps in
    let at : List ℕ → List ℕ → ℕ = λ ts r. feedback ts (bit r) in
    let x = c.split_at.ensures.front ∙ x_part R in
    let y = c.split_at.ensures.back ∙ y_part R in
    record {
      is_F = c.feedback_at.ensures ∙ ap₂ at c.of-taps.ensures.taps.f x;
      is_G = c.feedback_at-2.ensures ∙ ap₂ at c.of-taps.ensures.taps.g y;
      is_H = c.h_at-h.ensures ∙ ap₂ (λ (x y : List ℕ). h T (bit x) (bit y) (bit (word_bits 10 c.args.self.now.l.value))) x y;
    }
