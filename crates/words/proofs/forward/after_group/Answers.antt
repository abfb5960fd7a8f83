-- `words::forward::after_group` meets its contract.
use mathlib.Core.Path.{refl}
use Prim.Native.Nat.{◌^◌, ◌<◌}
use native.Mathlib.Omega.{arith}
use borrow.Author.Rules.{rules}
use Rattle.words.proofs.Sums.{same_bit, itself, ◌⊞◌, low_lt, low_sum, low_word_bit}
use Rattle.words.proofs.forward.after_group.Goals as goal

pub returns : goal.returns
returns c =
    let a = c.args in
    let y = a.s.y in
    let whole = a.by.whole in
    let low : y.lo < 2 ^ 64 = search rules in (
      record {
        new = record { x = c.low_bits-x.result; y = c.low_bits-y.result };
        few_X = low_lt _ a.by.width c.low_bits-x.ensures;
        few_Y = low_lt _ a.by.width c.low_bits-y.ensures;
        moved_X = c.push.ensures;
        moved_Y = c.push-2.ensures;
        bit_X = λ k less.
            low_sum a.by.width c.low_bits-x.ensures less
            (same_bit _ _ (low_word_bit y.hi y.lo k low (omega arith)) ⊞ itself a.words.f k ⊞ itself a.words.h k);
        bit_Y = λ k less. low_sum a.by.width c.low_bits-y.ensures less (itself a.words.g k ⊞ itself a.words.h k);
      },
      refl,
    )
