-- Several steps together (document 02, 2.6): X and Y move down by w, and their w new bits come from the registers at the start, the bit of
-- step j from the taps moved up by j. L is stepped w times by itself. Groups of w such steps follow one another.
use Rattle.std.specs.Prelude.{◌++◌, ℕ, zero, suc, ◌+◌, ◌%◌, drop}
use Rattle.quark.specs.Bytes.{bit, tabulate}
use Rattle.quark.specs.Feedback.{Taps, f, g, h}
use Rattle.quark.specs.Step.{Registers, steps_L}

-- the bits of a register from place j on
abbrev pub from : ℕ → (ℕ → ℕ) → ℕ → ℕ
from j X i = X (j + i)

-- what X gains in a step, and what Y gains
unfoldable pub gain_X : Taps → (X Y L : ℕ → ℕ) → ℕ
gain_X T X Y L = (Y 0 + f T X + h T X Y L) % 2

unfoldable pub gain_Y : Taps → (X Y L : ℕ → ℕ) → ℕ
gain_Y T X Y L = (g T Y + h T X Y L) % 2

-- what a register gains in step j, of the old X and Y and of L after j steps
unfoldable pub gains : (Taps → (X Y L : ℕ → ℕ) → ℕ) → Taps → Registers → ℕ → ℕ
gains gain T s j = gain T (from j (bit s.X)) (from j (bit s.Y)) (bit (steps_L j s.L))

-- the registers after w steps together
unfoldable pub moved : Taps → ℕ → Registers → Registers
moved T w s = record {
  X = drop w s.X ++ tabulate w (gains gain_X T s);
  Y = drop w s.Y ++ tabulate w (gains gain_Y T s);
  L = steps_L w s.L;
}

-- the registers after k groups of w steps, each group from the registers at its own start
unfoldable pub groups : Taps → (w k : ℕ) → Registers → Registers
groups T w zero s = s
groups T w (suc k) s = moved T w (groups T w k s)
