-- `words::feedback::four_sums` meets its contract. The invariant: the bits are the later ones and those of the steps from j on.
use Rattle.words.proofs.OneWord.{SumsFrom}
use Rattle.words.proofs.feedback.four_sums.Given as goal

abbrev pub invariant-loop-j : goal.invariant-loop-j
invariant-loop-j l = SumsFrom l.later l.word l.mask l.j l.bits
