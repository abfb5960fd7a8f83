-- `words::taps::DQuark::h_alone` meets its contract.
use Rattle.quark.specs.Instance.{D}
use Rattle.words.proofs.FeedbackWords.{two_sums}
use Rattle.words.proofs.taps.DQuark.h_alone.Goals as goal

pub returns : goal.returns
unfolding D
returns c k b = two_sums k _ _ _ _ (c.taps_at.ensures k b) (c.taps_at-2.ensures k b)
