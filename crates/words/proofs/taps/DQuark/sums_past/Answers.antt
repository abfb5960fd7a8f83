-- `words::taps::DQuark::sums_past` meets its contract: the width is 8, and four steps read all taps but the tap 0 in one word, by computation.
use mathlib.Core.Path.{sym, subst}
use Prim.Native.Nat.{ℕ}
use Rattle.words.specs.leaf.FeedbackWords.{MaskSums}
use Rattle.words.specs.leaf.TapsOf.{masks_D, eight_D}
use Rattle.words.proofs.taps.DQuark.sums_past.Goals as goal

pub returns : goal.returns
returns c = subst (λ (w : ℕ). MaskSums c.args.x c.args.y masks_D w c.linear_past.result) (sym (eight_D c.args.width c.requires.0)) c.linear_past.ensures
