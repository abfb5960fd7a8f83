-- `words::feedback::sums` meets its contract. The invariant: the mask is moved up for the step that comes next, and the bits are
-- those of the steps done.
use Prim.Native.Nat.{◌-◌}
use native.Mathlib.Omega.{arith}
use borrow.Author.Rules.{rules}
use Rattle.words.specs.Words.{value}
use Rattle.words.proofs.Sums.{mask_fits, summed_none, summed_more, summed_lt}
use Rattle.words.proofs.feedback.sums.Goals as goal

pub up-m-requires : goal.up-m-requires
up-m-requires c = (search rules, mask_fits (value c.args.mask) (c.args.width - 1) c.requires.2 (omega arith))

pub loop-init : goal.loop-init
loop-init c = summed_none (value c.args.r) (value c.args.mask) c.args.width c.requires.2 c.requires.1 _ c.up-m.ensures

-- nothing drops out of the bits
pub overflow_mul-bits : goal.overflow_mul-bits
overflow_mul-bits c =
    let l = c.loop in
    let b = summed_lt (value c.args.r) (value c.args.mask) c.args.width c.requires.2 c.requires.1 l.counter (value l.m) l.bits l.invariant in
    search rules

pub overflow_add-bits : goal.overflow_add-bits
overflow_add-bits c =
    let l = c.loop in
    let b = summed_lt (value c.args.r) (value c.args.mask) c.args.width c.requires.2 c.requires.1 l.counter (value l.m) l.bits l.invariant in
    search rules

pub loop-preserved : goal.loop-preserved
loop-preserved c =
    let l = c.loop in
    summed_more (value c.args.r) (value c.args.mask) c.args.width c.requires.2 c.requires.1 l.counter (value l.m) l.bits c.parity.result _
    (omega arith) l.invariant c.parity.ensures c.down-m.ensures
