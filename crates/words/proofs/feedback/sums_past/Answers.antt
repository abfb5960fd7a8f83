-- `words::feedback::sums_past` meets its contract.
use Rattle.words.specs.Words.{value}
use Rattle.words.proofs.OneWord.{eight_sums, four_lt}
use Rattle.words.proofs.feedback.sums_past.Goals as goal

pub four_sums-requires : goal.four_sums-requires
four_sums-requires c =
    four_lt c.window.result c.window-taps.result _ c.four_sums-later.ensures

pub returns : goal.returns
returns c =
    eight_sums (value c.args.r) (value c.args.mask) c.args.first c.requires.1 c.requires.0 c.window-2.result c.window.result c.window-taps.result
    c.four_sums-later.result c.four_sums.result c.window-2.ensures c.window.ensures c.window-taps.ensures c.four_sums-later.ensures c.four_sums.ensures
