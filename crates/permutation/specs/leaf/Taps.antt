-- The taps as the code keeps them. Only the contracts of private functions cite this form.
use Rattle.std.specs.Prelude.{◌≡◌}
use Rattle.quark.specs.Feedback as quark
use Rattle.permutation.specs.declared.taps.Taps.{Taps}

-- they are those of the definition
pub record AreTaps (T : quark.Taps) (t : Taps) : Type 0 where
  pub half : t.half ≡ T.half
  pub f : t.f ≡ T.f_taps
  pub g : t.g ≡ quark.exchange T.g_taps
  pub h_X : t.h_x.now ≡ T.h_X
  pub h_Y : t.h_y.now ≡ T.h_Y
  pub y_low : t.y_low ≡ T.y_low
  pub x_low : t.x_low ≡ T.x_low
  pub x_mid : t.x_mid ≡ T.x_mid
  pub x_high : t.x_high ≡ T.x_high
  pub y_high : t.y_high ≡ T.y_high
