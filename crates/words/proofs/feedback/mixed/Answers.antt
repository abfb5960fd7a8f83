-- `words::feedback::mixed` meets its contract.
use mathlib.Core.Path.{ap, ◌≡◌, ◌∙◌}
use Prim.Native.Nat.{ℕ, ◌%◌}
use native.Mathlib.Nat.{mod-add-mod}
use native.Mathlib.Omega.{arith}
use Rattle.quark.specs.Word.{word_bit}
use Rattle.words.specs.Words.{value}
use Rattle.words.specs.leaf.FeedbackWords.{in_step, mixes}
use Rattle.words.proofs.Sums.{◌&◌, ◌⊕◌, bit-&, bit-⊕, window_bit}
use Rattle.words.proofs.feedback.mixed.Goals as goal

law : (l y3 x25 x46 x55 y59 k : ℕ)
    → word_bit (l ⊕ y3 & x55 ⊕ x46 & x55 ⊕ x55 & y59 ⊕ y3 & x25 & x46 ⊕ y3 & x46 & x55 ⊕ y3 & x46 & y59 ⊕ l & x25 & x46 & y59 ⊕ l & x25) k
    ≡ mixes (word_bit l k) (word_bit y3 k) (word_bit x25 k) (word_bit x46 k) (word_bit x55 k) (word_bit y59 k) % 2
unfolding mixes
law l y3 x25 x46 x55 y59 k = simp (bit-⊕, bit-&, mod-add-mod)

pub returns : goal.returns
unfolding ◌&◌ ◌⊕◌
returns c k h =
    let a = c.args in
    let t = a.taps in
    let y3 = window_bit (value a.y) t.y_low k h c.window-y3.ensures in
    let x25 = window_bit (value a.x) t.x_low k h c.window-x25.ensures in
    let x46 : word_bit c.window-x46.result k ≡ in_step k a.x t.x_mid = window_bit (value a.x) _ k h c.window-x46.ensures ∙ ap (in_step k a.x) (omega arith) in
    let x55 = window_bit (value a.x) t.x_high k h c.window-x55.ensures in
    let y59 = window_bit (value a.y) t.y_high k h c.window-y59.ensures in
    law a.l _ _ _ _ _ k ∙ (λ i. mixes (word_bit a.l k) (y3 i) (x25 i) (x46 i) (x55 i) (y59 i) % 2)
