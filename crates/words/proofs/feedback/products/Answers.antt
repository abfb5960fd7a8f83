-- `words::feedback::products` meets its contract.
use mathlib.Core.Path.{ap, ◌≡◌, ◌∙◌}
use Prim.Native.Nat.{ℕ, ◌%◌}
use native.Mathlib.Nat.{mod-add-mod}
use native.Mathlib.Omega.{arith}
use lib.ListN.{get_or}
use Rattle.quark.specs.Word.{word_bit}
use Rattle.words.specs.Words.{value}
use Rattle.words.specs.leaf.FeedbackWords.{in_step, products, products_at}
use Rattle.words.proofs.Sums.{◌&◌, ◌⊕◌, bit-&, bit-⊕, window_bit}
use Rattle.words.proofs.feedback.products.Goals as goal

law : (a1 a3 a4 a5 a6 a7 a8 a10 a11 a12 k : ℕ)
    → word_bit
    (a11 & a12 ⊕ a6 & a7 ⊕ a1 & a3 ⊕ a8 & a10 & a11 ⊕ a4 & a5 & a6 ⊕ a1 & a5 & a8 & a12 ⊕ a6 & a7 & a10 & a11 ⊕ a3 & a4 & a11 & a12
    ⊕ a7 & a8 & a10 & a11 & a12 ⊕ a1 & a3 & a4 & a5 & a6 ⊕ a4 & a5 & a6 & a7 & a8 & a10)
    k
    ≡ products (word_bit a1 k) (word_bit a3 k) (word_bit a4 k) (word_bit a5 k) (word_bit a6 k) (word_bit a7 k) (word_bit a8 k) (word_bit a10 k) (word_bit a11 k) (word_bit a12 k) % 2
unfolding products
law a1 a3 a4 a5 a6 a7 a8 a10 a11 a12 k = simp (bit-⊕, bit-&, mod-add-mod)

pub returns : goal.returns
unfolding ◌&◌ ◌⊕◌ products_at
returns c k h =
    let n = value c.args.r in
    let a : ℕ → ℕ = λ i. get_or c.args.a.now i 0 in
    let e1 = window_bit n (a 1) k h c.window-a1.ensures in
    let e3 : word_bit c.window-a3.result k ≡ in_step k c.args.r (a 3) = window_bit n _ k h c.window-a3.ensures ∙ ap (in_step k c.args.r) (omega arith) in
    let e4 = window_bit n (a 4) k h c.window-a4.ensures in
    let e5 = window_bit n (a 5) k h c.window-a5.ensures in
    let e6 = window_bit n (a 6) k h c.window-a6.ensures in
    let e7 = window_bit n (a 7) k h c.window-a7.ensures in
    let e8 = window_bit n (a 8) k h c.window-a8.ensures in
    let e10 = window_bit n (a 10) k h c.window-a10.ensures in
    let e11 = window_bit n (a 11) k h c.window-a11.ensures in
    let e12 = window_bit n (a 12) k h c.window-a12.ensures in
    law _ _ _ _ _ _ _ _ _ _ k ∙ (λ i. products (e1 i) (e3 i) (e4 i) (e5 i) (e6 i) (e7 i) (e8 i) (e10 i) (e11 i) (e12 i) % 2)
