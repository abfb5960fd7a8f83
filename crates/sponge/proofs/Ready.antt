-- What P needs of a state, as `Running` of src/pieces.rt keeps it.
use mathlib.Core.Bool.{true}
use mathlib.Core.Path.{◌≡◌}
use Prim.Native.Nat.{ℕ}
use Rattle.quark.specs.Instance.{is_instance, is_width}
use Rattle.sponge.specs.declared.State.{State}
use Rattle.sponge.specs.Soundness.{rest_zero}

-- nothing but zeros after the first b/8 bytes
abbrev pub ZeroPast : State → Type 0
ZeroPast s = rest_zero s ≡ true

-- it is of an instance, the step width is that instance's, and its unused bytes are zero
pub record Ready (s : State) (w : ℕ) : Type 0 where
  pub has_instance : is_instance s.instance ≡ true
  pub has_width : is_width s.instance w ≡ true
  pub zero_past : ZeroPast s
