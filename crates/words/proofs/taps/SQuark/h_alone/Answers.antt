-- `words::taps::SQuark::h_alone` meets its contract.
use Rattle.quark.specs.Instance.{S}
use Rattle.words.proofs.FeedbackWords.{two_sums}
use Rattle.words.proofs.taps.SQuark.h_alone.Goals as goal

pub returns : goal.returns
unfolding S
returns c k b = two_sums k _ _ _ _ (c.taps_at.ensures k b) (c.taps_at-2.ensures k b)
