-- `words::back::products_derivative` meets its contract.
use mathlib.Core.Path.{ap, ◌≡◌, ◌∙◌}
use Prim.Native.Nat.{ℕ, ◌%◌}
use native.Mathlib.Nat.{mod-add-mod}
use native.Mathlib.Omega.{arith}
use lib.ListN.{get_or}
use Rattle.quark.specs.Word.{word_bit}
use Rattle.words.specs.Words.{value}
use Rattle.words.specs.leaf.FeedbackWords.{in_step}
use Rattle.words.specs.leaf.Solving.{products_derivative, products_derivative_at}
use Rattle.words.proofs.Sums.{◌&◌, ◌⊕◌, bit-&, bit-⊕, window_bit}
use Rattle.words.proofs.back.products_derivative.Goals as goal

law : (a3 a4 a5 a6 a8 a12 k : ℕ)
    → word_bit (a3 ⊕ a5 & a8 & a12 ⊕ a3 & a4 & a5 & a6) k ≡ products_derivative (word_bit a3 k) (word_bit a4 k) (word_bit a5 k) (word_bit a6 k) (word_bit a8 k) (word_bit a12 k) % 2
unfolding products_derivative
law a3 a4 a5 a6 a8 a12 k = simp (bit-⊕, bit-&, mod-add-mod)

pub returns : goal.returns
unfolding ◌&◌ ◌⊕◌ products_derivative_at
returns c k h =
    let n = value c.args.r in
    let a : ℕ → ℕ = λ i. get_or c.args.a.now i 0 in
    let e3 : word_bit c.window-a3.result k ≡ in_step k c.args.r (a 3) = window_bit n _ k h c.window-a3.ensures ∙ ap (in_step k c.args.r) (omega arith) in
    let e5 = window_bit n (a 5) k h c.window-a5.ensures in
    let e8 = window_bit n (a 8) k h c.window.ensures in
    let e12 = window_bit n (a 12) k h c.window-2.ensures in
    let e4 = window_bit n (a 4) k h c.window-3.ensures in
    let e6 = window_bit n (a 6) k h c.window-4.ensures in
    law c.window-a3.result c.window-3.result c.window-a5.result c.window-4.result c.window.result c.window-2.result k
    ∙ (λ i. products_derivative (e3 i) (e4 i) (e5 i) (e6 i) (e8 i) (e12 i) % 2)
