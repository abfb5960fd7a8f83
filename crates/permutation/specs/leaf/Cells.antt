-- What the stepping cores are given. Only private types and the contracts of private functions cite these forms.
use Rattle.std.specs.Prelude.{◌≡◌, ℕ, ◌%◌, ◌<◌, true, List, slice_index}
use Rattle.quark.specs.Instance.{is_instance, is_width}

-- every cell is a bit
abbrev pub Cells : List ℕ → Type 0
Cells cells = (i : ℕ) → slice_index cells i < 2

-- `count` steps are whole groups of a step width of the instance's, and L has ten bits
pub record Allowed (instance width l count : ℕ) : Type 0 where
  pub has_instance : is_instance instance ≡ true
  pub has_width : is_width instance width ≡ true
  pub whole : count % width ≡ 0
  pub small : l < 1024
