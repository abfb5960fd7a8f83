-- Groups of steps taken together (document 02, 2.6): for any lawful taps, any width w with every tap and w more within the half, and any
-- number k of groups, k groups of w steps are k * w steps. So two such widths agree where they stop at one count, and stepping back undoes
-- either.
use mathlib.Core.Path.{◌≡◌, refl, sym, ap, ◌∙◌}
use Prim.Native.Nat.{ℕ, zero, suc, ◌*◌}
use native.Mathlib.Nat.{zero-mul, suc-mul}
use native.Mathlib.Omega.{arith}
use Rattle.quark.specs.Bytes.{bit, tabulate}
use Rattle.quark.specs.Feedback.{Taps, f, g, h, p, feedback, exchange, sum_at}
use Rattle.quark.specs.Step.{Registers, shift, step_L, step, steps, steps_L}
use Rattle.quark.specs.Inverse.{undo_steps}
use Rattle.quark.specs.Instance.{U}
use Rattle.quark.specs.Together.{gain_X, gain_Y, gains, moved, groups}
use Rattle.quark.proofs.Samples.{zeros}
use Rattle.quark.proofs.Taps.{Lawful, Reach, reach_less, lawful_U}
use Rattle.quark.proofs.Together.{steps-add, steps-together}
use Rattle.quark.proofs.Inverse.{Sized, sized_steps, sized_undo_steps, undo_steps_lem, redo_steps}

module _ (T : Taps) (lawful : Lawful T) where
  pub groups-steps : (w : ℕ) → Reach T w → (k : ℕ) (s : Registers) → Sized T s → groups T w k s ≡ steps T (k * w) s
  unfolding groups steps
  groups-steps w reach zero s sized = ap (λ (n : ℕ). steps T n s) (sym (zero-mul w))
  groups-steps w reach (suc k) s sized =
      let start = steps T (k * w) s in
      let z = sized_steps T lawful (k * w) s sized in
      ap (moved T w) (groups-steps w reach k s sized)
      ∙ sym (steps-together T lawful w reach start z.wide_X.0 z.wide_Y.0)
      ∙ sym (steps-add T (k * w) w s)
      ∙ ap (λ (n : ℕ). steps T n s) (sym (suc-mul k w))

  -- two widths, at a count that is a multiple of both
  pub widths_agree : (v w : ℕ) → Reach T v → Reach T w → (j k : ℕ) → j * v ≡ k * w → (s : Registers) → Sized T s → groups T v j s ≡ groups T w k s
  widths_agree v w reach-v reach-w j k same s sized =
      groups-steps v reach-v j s sized ∙ ap (λ (n : ℕ). steps T n s) same ∙ sym (groups-steps w reach-w k s sized)

  module _ (w : ℕ) (reach : Reach T w) (k : ℕ) (s : Registers) (sized : Sized T s) where
    pub undo_groups : undo_steps T (k * w) (groups T w k s) ≡ s
    undo_groups = ap (undo_steps T (k * w)) (groups-steps w reach k s sized) ∙ undo_steps_lem T lawful (k * w) s sized

    pub redo_groups : groups T w k (undo_steps T (k * w) s) ≡ s
    redo_groups =
        groups-steps w reach k (undo_steps T (k * w) s) (sized_undo_steps T lawful (k * w) s sized) ∙ redo_steps T lawful (k * w) s sized

-- at widths that no code has: seven groups of 5 steps of U, and five groups of 7, are 35 steps, and stepping back undoes either
module _ (s : Registers) (sized : Sized U.taps s) where
  reach_5 : Reach U.taps 5
  reach_5 = reach_less U.taps 5 8 (omega arith) lawful_U.1

  reach_7 : Reach U.taps 7
  reach_7 = reach_less U.taps 7 8 (omega arith) lawful_U.1

  pub U-by_5_and_7 :
      (groups U.taps 5 7 s ≡ groups U.taps 7 5 s)
      × (groups U.taps 5 7 s ≡ steps U.taps 35 s)
      × (undo_steps U.taps 35 (groups U.taps 5 7 s) ≡ s)
      × (undo_steps U.taps 35 (groups U.taps 7 5 s) ≡ s)
  U-by_5_and_7 = (
    widths_agree U.taps lawful_U.0 5 7 reach_5 reach_7 7 5 refl s sized,
    groups-steps U.taps lawful_U.0 5 reach_5 7 s sized,
    undo_groups U.taps lawful_U.0 5 reach_5 7 s sized,
    undo_groups U.taps lawful_U.0 7 reach_7 5 s sized,
  )

-- past the greatest width: ten steps of U together, from zeros with an L of ones, are not ten steps
pub U-by_10 : (bit (groups U.taps 10 1 zeros).X 67 ≡ 1) × (bit (steps U.taps 10 zeros).X 67 ≡ 0)
unfolding groups moved gains gain_X gain_Y tabulate f g h p feedback exchange sum_at shift step_L step steps steps_L U
U-by_10 = (refl, refl)
