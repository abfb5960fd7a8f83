-- `words::back::mixed_derivative` meets its contract.
use mathlib.Core.Path.{◌≡◌, ◌∙◌}
use Prim.Native.Nat.{ℕ, ◌%◌}
use native.Mathlib.Nat.{mod-add-mod}
use Rattle.quark.specs.Word.{word_bit}
use Rattle.words.specs.Words.{value}
use Rattle.words.specs.leaf.Solving.{mixes_derivative}
use Rattle.words.proofs.Sums.{◌&◌, ◌⊕◌, bit-&, bit-⊕, window_bit}
use Rattle.words.proofs.back.mixed_derivative.Goals as goal

law : (low mid high y k : ℕ)
    → word_bit (high ⊕ low & mid ⊕ mid & high ⊕ mid & y) k ≡ mixes_derivative (word_bit low k) (word_bit mid k) (word_bit high k) (word_bit y k) % 2
unfolding mixes_derivative
law low mid high y k = simp (bit-⊕, bit-&, mod-add-mod)

pub returns : goal.returns
unfolding ◌&◌ ◌⊕◌
returns c k h =
    let a = c.args in
    let x : ℕ = value a.x in
    let e1 = window_bit x a.taps.x_low k h c.window.ensures in
    let e2 = window_bit x a.taps.x_mid k h c.window-mid.ensures in
    let e3 = window_bit x a.taps.x_high k h c.window-high.ensures in
    let e4 = window_bit (value a.y) a.taps.y_high k h c.window-2.ensures in
    law c.window.result c.window-mid.result c.window-high.result c.window-2.result k ∙ (λ i. mixes_derivative (e1 i) (e2 i) (e3 i) (e4 i) % 2)
