-- `words::registers::push` meets its contract.
use mathlib.Core.Path.{ap, ◌∙◌}
use Prim.Native.Nat.{ℕ, ◌+◌, ◌-◌, ◌*◌, ◌/◌, ◌%◌, ◌^◌, ◌<◌}
use borrow.Author.Rules.{rules}
use lib.Bits.{bit_or}
use Rattle.words.proofs.TwoWords.{push_low, push_high}
use Rattle.words.proofs.registers.push.Goals as goal

pub returns-then-by-lt64 : goal.returns-then-by-lt64
returns-then-by-lt64 c =
    let a = c.args in
    let whole = a.by.whole in
    let n : ℕ = a.r.hi * 2 ^ 64 + a.r.lo in
    ap (λ (x : ℕ). a.new / 2 ^ (64 - a.by.kept) * 2 ^ 64 + bit_or x (a.new * 2 ^ a.by.kept % 2 ^ 64)) c.window-lo.ensures
    ∙ push_low 64 n a.by.width a.by.kept a.new (search rules) (search rules)

pub returns-else-by-lt64 : goal.returns-else-by-lt64
returns-else-by-lt64 c =
    let a = c.args in
    let whole = a.by.whole in
    let low : a.r.lo < 2 ^ 64 = search rules in
    ap (λ (x : ℕ). bit_or (a.r.hi / 2 ^ a.by.width) (a.new * 2 ^ (a.by.kept - 64) % 2 ^ 64) * 2 ^ 64 + x) c.window-lo.ensures
    ∙ push_high 64 a.r.hi a.r.lo a.by.width a.by.kept a.new (search rules) (search rules) low (search rules) (search rules)
