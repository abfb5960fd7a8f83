-- What document 01 stars under "Sample values": one theorem about the definition, by computation.
use mathlib.Core.List.{[], ◌∷◌}
use mathlib.Core.Path.{◌≡◌, refl}
use Prim.Native.Nat.{ℕ}
use lib.ListN.{replicate, set}
use Rattle.quark.specs.Bytes.{bit}
use Rattle.quark.specs.Feedback.{f, g, h, p, feedback, exchange, sum_at}
use Rattle.quark.specs.Step.{Registers, shift, step_L, step, steps_L, all_ones}
use Rattle.quark.specs.Inverse.{unshift, gained, undo_step_L, undo_step}
use Rattle.quark.specs.Instance.{Instance, U, D, S}
use Rattle.quark.specs.Sponge.{pad, block_count}

-- the bits of an instance's register whose bits are all 1
abbrev ones : Instance → ℕ → ℕ
ones I = bit (replicate I.taps.half 1)

-- only bit k is 1
abbrev pub only : Instance → ℕ → ℕ → ℕ
only I k = bit (set (replicate I.taps.half 0) k 1)

-- only bits j and k are 1
abbrev pub only_two : Instance → ℕ → ℕ → ℕ → ℕ
only_two I j k = bit (set (set (replicate I.taps.half 0) j 1) k 1)

-- the ten bits of an L with L0 = v; its other bits are 1
abbrev with_L0 : ℕ → ℕ → ℕ
with_L0 v = bit (v ∷ replicate 9 1)

-- U's registers: all zero, with L all ones
abbrev pub zeros : Registers
zeros = record { X = replicate 68 0; Y = replicate 68 0; L = replicate 10 1 }

abbrev blocks : Instance → ℕ → ℕ
blocks I bits = block_count I (replicate bits 0)

pub starred :
    -- f and g are 0 where every bit is 1
    (f U.taps (ones U) ≡ 0) × (g U.taps (ones U) ≡ 0)
    × (f D.taps (ones D) ≡ 0) × (g D.taps (ones D) ≡ 0)
    × (f S.taps (ones S) ≡ 0) × (g S.taps (ones S) ≡ 0)
    -- f of U: X15 (a3) alone adds nothing, X14 (a2) does, and with X9 (a1) and X15 the bit a1 and the product a1 a3 cancel
    × (f U.taps (only U 15) ≡ 0) × (f U.taps (only U 14) ≡ 1) × (f U.taps (only_two U 9 15) ≡ 0)
    -- h where every bit of X and Y is 1, by L0
    × (h U.taps (ones U) (ones U) (with_L0 1) ≡ 0) × (h U.taps (ones U) (ones U) (with_L0 0) ≡ 1)
    × (h D.taps (ones D) (ones D) (with_L0 1) ≡ 1) × (h D.taps (ones D) (ones D) (with_L0 0) ≡ 0)
    × (h S.taps (ones S) (ones S) (with_L0 1) ≡ 0) × (h S.taps (ones S) (ones S) (with_L0 0) ≡ 1)
    -- one step of U from zeros, with an L of ones, sets the last bits of X and Y and clears that of L; undone, it leads back
    × (step U.taps zeros ≡ record {
      X = set (replicate 68 0) 67 1;
      Y = set (replicate 68 0) 67 1;
      L = 1 ∷ 1 ∷ 1 ∷ 1 ∷ 1 ∷ 1 ∷ 1 ∷ 1 ∷ 1 ∷ 0 ∷ [];
    })
    × (undo_step U.taps (step U.taps zeros) ≡ zeros)
    -- ten steps of L from ones
    × (steps_L 10 all_ones ≡ 0 ∷ 0 ∷ 0 ∷ 0 ∷ 0 ∷ 0 ∷ 0 ∷ 1 ∷ 1 ∷ 1 ∷ [])
    -- the blocks of a message that is empty, a bit short of a block, or a full block
    × (blocks U 0 ≡ 1) × (blocks U 7 ≡ 1) × (blocks U 8 ≡ 2)
    × (blocks D 15 ≡ 1) × (blocks D 16 ≡ 2)
    × (blocks S 31 ≡ 1) × (blocks S 32 ≡ 2)
unfolding f g h p feedback exchange sum_at shift step_L step steps_L all_ones unshift gained undo_step_L undo_step U D S pad block_count
starred = (
  refl,
  refl,
  refl,
  refl,
  refl,
  refl,
  refl,
  refl,
  refl,
  refl,
  refl,
  refl,
  refl,
  refl,
  refl,
  refl,
  refl,
  refl,
  refl,
  refl,
  refl,
  refl,
  refl,
  refl,
  refl,
)
