-- `serial::feedback_sum` meets its contract: the code is a sum of eleven bits and of eleven products. Which bits these are is read off the
-- code, and the sum of them all is the definition's, in any order.
use mathlib.Core.Path.{◌∙◌}
use Rattle.std.specs.Prelude.{ℕ}
use native.Mathlib.Omega.{arith}
use Rattle.quark.specs.Bytes.{bit}
use Rattle.quark.specs.Feedback.{feedback}
use Rattle.permutation.specs.leaf.Serial.{indices}
use Rattle.permutation.proofs.SingleBits.{Product, single, sum, ◌⊕◌, ◌⊗◌}
use Rattle.permutation.proofs.serial.feedback_sum.Goals as goal

pub returns : goal.returns
unfolding feedback indices
returns c =
    let v = c.args.a in
    let b : (k : ℕ) → Product (bit v k) (bit v k) = λ k. single (c.requires k) in
    (sum (b _) ⊕ b _ ⊕ b _ ⊕ b _ ⊕ b _ ⊕ b _ ⊕ b _ ⊕ b _ ⊕ b _ ⊕ b _ ⊕ b _
    ⊕ b _ ⊗ b _ ⊕ b _ ⊗ b _ ⊕ b _ ⊗ b _
    ⊕ b _ ⊗ b _ ⊗ b _ ⊕ b _ ⊗ b _ ⊗ b _
    ⊕ b _ ⊗ b _ ⊗ b _ ⊗ b _ ⊕ b _ ⊗ b _ ⊗ b _ ⊗ b _ ⊕ b _ ⊗ b _ ⊗ b _ ⊗ b _
    ⊕ b _ ⊗ b _ ⊗ b _ ⊗ b _ ⊗ b _ ⊕ b _ ⊗ b _ ⊗ b _ ⊗ b _ ⊗ b _
    ⊕ b _ ⊗ b _ ⊗ b _ ⊗ b _ ⊗ b _ ⊗ b _).same ∙ omega arith
