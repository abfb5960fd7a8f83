-- `words::feedback::taps_at` meets its contract. The invariant: the bits at the taps so far are added.
use Prim.Native.Nat.{ℕ, ◌%◌, ◌<◌}
use mathlib.Core.Path.{◌≡◌}
use lib.ListN.{take}
use Rattle.quark.specs.Feedback.{sum_at}
use Rattle.quark.specs.Word.{word_bit}
use Rattle.words.specs.leaf.FeedbackWords.{in_step}
use Rattle.words.proofs.feedback.taps_at.Given as goal

abbrev pub invariant-loop-t : goal.invariant-loop-t
invariant-loop-t l = (k : ℕ) → k < 64 → word_bit l.sum k ≡ sum_at (in_step k l.r) (take l.t-index l.taps) % 2
