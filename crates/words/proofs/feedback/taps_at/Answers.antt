-- `words::feedback::taps_at` meets its contract. The invariant: the bits at the taps so far are added.
use native.Mathlib.Omega.{arith}
use Rattle.words.specs.Words.{value}
use Rattle.words.proofs.FeedbackWords.{none_yet, one_more}
use Rattle.words.proofs.Sums.{window_bit}
use Rattle.words.specs.leaf.FeedbackWords.{in_step}
use Rattle.words.proofs.feedback.taps_at.Goals as goal

pub loop-t-init : goal.loop-t-init
loop-t-init c k less = none_yet (in_step k c.args.r) c.args.taps.now k

pub loop-t-preserved : goal.loop-t-preserved
loop-t-preserved c k less =
    let i = c.loop-t.t-index in
    one_more (in_step k c.args.r) c.args.taps.now i k c.loop-t.sum _ (omega arith) (c.loop-t.invariant k less) (window_bit (value c.args.r) _ k less c.window-sum.ensures)
