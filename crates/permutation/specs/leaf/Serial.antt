-- The bits of f, g and h, as the functions of the serial form give them. Only the contracts of private functions cite these
-- forms.
use Rattle.std.specs.Prelude.{◌≡◌, ℕ, List, [], ◌∷◌}
use Rattle.quark.specs.Bytes.{bit}
use Rattle.quark.specs.Feedback.{Taps, f, g, h}
use Rattle.quark.specs.Step.{Registers}

-- the taps of f's sum over thirteen bits in a row
unfoldable pub indices : List ℕ
indices = 0 ∷ 1 ∷ 2 ∷ 3 ∷ 4 ∷ 5 ∷ 6 ∷ 7 ∷ 8 ∷ 9 ∷ 10 ∷ 11 ∷ 12 ∷ []

-- the bits of f, g and h on registers
pub record Fed (T : Taps) (s : Registers) (f-bit g-bit h-bit : ℕ) : Type 0 where
  pub is_F : f-bit ≡ f T (bit s.X)
  pub is_G : g-bit ≡ g T (bit s.Y)
  pub is_H : h-bit ≡ h T (bit s.X) (bit s.Y) (bit s.L)
