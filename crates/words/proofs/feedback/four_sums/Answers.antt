-- `words::feedback::four_sums` meets its contract. The invariant: the bits are the later ones and those of the steps from j on.
use Prim.Native.Nat.{◌-◌}
use native.Mathlib.Omega.{arith}
use borrow.Author.Rules.{rules}
use Rattle.words.proofs.OneWord.{sums_from_none, sums_from_more, sums_from_lt, one_word}
use Rattle.words.proofs.feedback.four_sums.Goals as goal

pub loop-j-init : goal.loop-j-init
loop-j-init c = sums_from_none c.args.later c.args.word c.args.mask

-- nothing drops out of the bits
pub overflow_mul-bits : goal.overflow_mul-bits
overflow_mul-bits c =
    let b = sums_from_lt c.args.later c.args.word c.args.mask c.loop-j.j c.loop-j.bits c.requires c.loop-j.invariant in
    search rules

pub overflow_add-bits : goal.overflow_add-bits
overflow_add-bits c =
    let b = sums_from_lt c.args.later c.args.word c.args.mask c.loop-j.j c.loop-j.bits c.requires c.loop-j.invariant in
    search rules

pub loop-j-preserved : goal.loop-j-preserved
loop-j-preserved c =
    let a = c.args in
    let l = c.loop-j in
    sums_from_more a.later a.word a.mask l.j l.bits c.parity.result (omega arith) (omega arith) l.invariant
    (one_word a.later a.word a.mask (l.j - 1) c.parity.result c.parity.ensures)
