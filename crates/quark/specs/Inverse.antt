-- The inverse of a step, of n steps and of P (document 01, "Steps, permutation and inverse"): the last step is undone first, and each with
-- the bits that L had in it.
use Rattle.std.specs.Prelude.{List, ◌∷◌, ℕ, zero, suc, ◌+◌, ◌-◌, ◌%◌, length, take}
use Rattle.quark.specs.Bytes.{bit}
use Rattle.quark.specs.Feedback.{Taps, f, g, h}
use Rattle.quark.specs.Step.{Registers, steps_L, all_ones, loaded, stored, rounds}

-- a register before its last step, where that step dropped the bit `dropped`
unfoldable pub unshift : ℕ → List ℕ → List ℕ
unshift dropped register = dropped ∷ take (length register - 1) register

-- the bit that a register gained last
unfoldable pub gained : List ℕ → ℕ
gained register = bit register (length register - 1)

-- L gained L0 + L3, and L3 has moved down to place 2
unfoldable pub undo_step_L : List ℕ → List ℕ
undo_step_L l = unshift ((gained l + bit l 2) % 2) l

-- X gained Y0 + f + h and Y gained g + h. Of the taps only f's and g's a0 are at 0, so with 0 for the dropped bits f and g give their
-- sums without X0 and Y0, and h is what it was: Y0 follows from what Y gained, and then X0 from what X gained.
unfoldable pub undo_step : Taps → Registers → Registers
undo_step T s =
    let l = undo_step_L s.L in
    let X = bit (unshift 0 s.X) in
    let Y = bit (unshift 0 s.Y) in
    let y0 = (gained s.Y + g T Y + h T X Y (bit l)) % 2 in
    let x0 = (gained s.X + y0 + f T X + h T X Y (bit l)) % 2 in
    record { X = unshift x0 s.X; Y = unshift y0 s.Y; L = l }

unfoldable pub undo_steps : Taps → ℕ → Registers → Registers
undo_steps T zero s = s
undo_steps T (suc n) s = undo_steps T n (undo_step T s)

unfoldable pub undo_P : Taps → List ℕ → List ℕ
undo_P T s = stored (undo_steps T (rounds T) (loaded T s (steps_L (rounds T) all_ones)))
