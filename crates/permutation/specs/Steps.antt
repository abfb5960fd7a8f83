-- Steps of P up to a named clock, and back, on a lent buffer (document 02, 2.6): lines 1, 4, 20, 5 in this order; accepted, the buffer holds X
-- and then Y, after the steps or from before them; refused, it is untouched.
use Rattle.std.specs.Prelude.{ℕ, ◌+◌, ◌-◌, ◌*◌, ◌/◌, ◌%◌, ◌^◌, cond, List, [], ◌∷◌, length, ◌==◌}
use Rattle.refusals.specs.Lines.{first_line, line5}
use Rattle.refusals.specs.Outcome.{Outcome, outcome}
use Rattle.quark.specs.Bytes.{bit, tabulate, bits_of}
use Rattle.quark.specs.Feedback.{Taps}
use Rattle.quark.specs.Step.{Registers, steps, steps_L, loaded, stored}
use Rattle.quark.specs.Inverse.{undo_steps}
use Rattle.quark.specs.Instance.{instance_of, state_bytes}
use Rattle.permutation.specs.Lines.{line1, line4, line20}
use Rattle.permutation.specs.Permute.{on_bytes}

-- ---- L as a number: bit 0 has weight 512, and bit 9 weight 1

-- the ten bits of a value
unfoldable pub bits_of_L : ℕ → List ℕ
bits_of_L value = tabulate 10 (λ i. value / 2 ^ (9 - i) % 2)

-- the value of ten bits
unfoldable pub value_of_L : List ℕ → ℕ
value_of_L l =
    bit l 0 * 512 + bit l 1 * 256 + bit l 2 * 128 + bit l 3 * 64 + bit l 4 * 32 + bit l 5 * 16 + bit l 6 * 8 + bit l 7 * 4 + bit l 8 * 2 + bit l 9

-- ---- where the steps lead

-- the registers after `count` steps from the state s, where L begins at the value l
unfoldable pub registers_after : (l count : ℕ) → Taps → List ℕ → Registers
registers_after l count T s = steps T count (loaded T s (bits_of_L l))

-- the registers from before `count` steps that lead to the state s, where L began at the value l
unfoldable pub registers_before : (l count : ℕ) → Taps → List ℕ → Registers
registers_before l count T s = undo_steps T count (loaded T s (steps_L count (bits_of_L l)))

-- ---- the calls

-- the number of the first of lines 1, 4, 20 and 5 that holds, of both calls
unfoldable pub steps_number : (i w l count length : ℕ) → ℕ
steps_number i w l count length =
    first_line ((line1 i, 1) ∷ (line4 i w, 4) ∷ (line20 i w l count, 20) ∷ (line5 length (state_bytes i), 5) ∷ [])

-- accepted, `steps` answers L after the steps
unfoldable pub steps_outcome : (i w l count : ℕ) → List ℕ → Outcome ℕ
steps_outcome i w l count bytes =
    outcome (steps_number i w l count (length bytes)) (value_of_L (registers_after l count (instance_of i).taps (bits_of (instance_of i).b bytes)).L)

-- `steps_back` answers no L
unfoldable pub steps_back_outcome : (i w l count : ℕ) → List ℕ → Outcome (Unit {0})
steps_back_outcome i w l count bytes = outcome (steps_number i w l count (length bytes)) tt

-- the buffer after a call: X and then Y, of the registers to which it leads, those after the steps or those from before them
unfoldable pub steps_bytes : (registers : (l count : ℕ) → Taps → List ℕ → Registers) → (i w l count : ℕ) → List ℕ → List ℕ
steps_bytes registers i w l count bytes =
    cond (steps_number i w l count (length bytes) == 0) (on_bytes (λ T s. stored (registers l count T s)) i bytes) bytes
