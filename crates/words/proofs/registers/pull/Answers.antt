-- `words::registers::pull` meets its contract.
use mathlib.Core.Path.{◌≡◌, ap, ◌∙◌}
use Prim.Native.Nat.{ℕ, ◌+◌, ◌-◌, ◌*◌, ◌/◌, ◌%◌, ◌^◌, ◌<◌}
use native.Mathlib.Omega.{arith}
use borrow.Author.Rules.{rules}
use lib.Bits.{bit_or}
use Rattle.words.proofs.TwoWords.{pull_words}
use Rattle.words.proofs.registers.pull.Goals as goal

pub returns : goal.returns
returns c =
    let a = c.args in
    let whole = a.by.whole in
    let low : a.r.lo < 2 ^ 64 = search rules in
    let e : ℕ = 128 - a.by.width - a.by.kept in
    let er : 64 - a.by.width + a.by.width ≡ 64 = omega arith in
    let ee : 64 - e + e ≡ 64 = omega arith in
    let ep : 64 - e + (64 - a.by.width) ≡ a.by.kept = omega arith in
    ap (λ (x : ℕ). x * 2 ^ e % 2 ^ 64 / 2 ^ e * 2 ^ 64 + bit_or a.new (a.r.lo * 2 ^ a.by.width % 2 ^ 64)) c.window.ensures
    ∙ pull_words 64 (64 - e) (64 - a.by.width) a.by.width e a.by.kept a.r.hi a.r.lo a.new er ee ep low c.requires
