-- `Taps::of` meets its contract: for each of the three instances by computation.
use mathlib.Core.Path.{refl}
use Rattle.quark.specs.Feedback.{exchange}
use Rattle.quark.specs.Instance.{U, D, S}
use Rattle.words.specs.Instances.{named}
use Rattle.permutation.proofs.taps.Taps.of.Goals as goal

pub returns-in-U-clause-taps : goal.returns-in-U-clause-taps
unfolding named U exchange
returns-in-U-clause-taps c =
    rw c.in-U.is
    record { half = refl; f = refl; g = refl; h_X = refl; h_Y = refl; y_low = refl; x_low = refl; x_mid = refl; x_high = refl; y_high = refl }

pub returns-in-D-clause-taps : goal.returns-in-D-clause-taps
unfolding named D exchange
returns-in-D-clause-taps c =
    rw c.in-D.is
    record { half = refl; f = refl; g = refl; h_X = refl; h_Y = refl; y_low = refl; x_low = refl; x_mid = refl; x_high = refl; y_high = refl }

pub returns-in-S-clause-taps : goal.returns-in-S-clause-taps
unfolding named S exchange
returns-in-S-clause-taps c =
    rw c.in-S.is
    record { half = refl; f = refl; g = refl; h_X = refl; h_Y = refl; y_low = refl; x_low = refl; x_mid = refl; x_high = refl; y_high = refl }
