-- `words::feedback::sums` meets its contract. The invariant: the mask is moved up for the step that comes next, and the bits are
-- those of the steps done.
use Rattle.words.specs.Words.{value}
use Rattle.words.proofs.Sums.{Summed}
use Rattle.words.proofs.feedback.sums.Given as goal

abbrev pub invariant-loop : goal.invariant-loop
invariant-loop l = Summed (value l.r) (value l.fn.mask) l.width l.counter (value l.m) l.bits
