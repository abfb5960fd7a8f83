-- `serial::feedback_at` meets its contract.
use mathlib.Core.Path.{ap, ◌∙◌}
use Rattle.std.specs.Prelude.{ℕ, List, get_or}
use Rattle.quark.specs.Bytes.{bit}
use Rattle.quark.specs.Feedback.{feedback}
use Rattle.quark.proofs.Bits.{bits_at, bits-tabulate}
use Rattle.permutation.specs.leaf.Serial.{indices}
use Rattle.permutation.proofs.Tabulate.{feedback-bits_at}
use Rattle.permutation.proofs.serial.feedback_at.Goals as goal

pub feedback_sum-requires : goal.feedback_sum-requires
feedback_sum-requires c =
    let p = c.requires.cells in
    rw c.bits_at.ensures (bits_at (bits-tabulate 13 (λ k. bit c.args.register.now (get_or c.args.taps.now k 0)) (λ k. p _)))

pub returns : goal.returns
returns c = c.feedback_sum.ensures ∙ ap (λ (l : List ℕ). feedback indices (bit l)) c.bits_at.ensures ∙ feedback-bits_at _ _
