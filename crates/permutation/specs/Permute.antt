-- The permutation and its inverse on a lent buffer (document 01, "Steps, permutation and inverse"): lines 1, 4, 5 in this order; accepted,
-- the buffer is overwritten by P, or P's inverse, of its bits; refused, it is untouched.
use Rattle.std.specs.Prelude.{ℕ, cond, List, [], ◌∷◌, length, ◌==◌}
use Rattle.refusals.specs.Lines.{first_line, line5}
use Rattle.refusals.specs.Outcome.{Outcome, outcome}
use Rattle.quark.specs.Bytes.{bits_of, bytes_of}
use Rattle.quark.specs.Feedback.{Taps}
use Rattle.quark.specs.Instance.{instance_of, state_bytes}
use Rattle.permutation.specs.Lines.{line1, line4}

unfoldable pub permute_number : (i w length : ℕ) → ℕ
permute_number i w length = first_line ((line1 i, 1) ∷ (line4 i w, 4) ∷ (line5 length (state_bytes i), 5) ∷ [])

unfoldable pub permute_outcome : (i w : ℕ) → List ℕ → Outcome (Unit {0})
permute_outcome i w bytes = outcome (permute_number i w (length bytes)) tt

-- a function of an instance's b bits, on the byte form
unfoldable pub on_bytes : (Taps → List ℕ → List ℕ) → ℕ → List ℕ → List ℕ
on_bytes F i bytes = bytes_of (state_bytes i) (F (instance_of i).taps (bits_of (instance_of i).b bytes))

-- the buffer after a call that overwrites it by a function of its bits: document 01's permutation where the function is P, and its inverse
-- where it is undo_P
unfoldable pub overwritten : (Taps → List ℕ → List ℕ) → (i w : ℕ) → List ℕ → List ℕ
overwritten F i w bytes = cond (permute_number i w (length bytes) == 0) (on_bytes F i bytes) bytes
