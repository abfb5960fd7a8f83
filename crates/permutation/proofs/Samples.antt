-- The order of the lines of a call on a buffer, their edges, single steps, and stops, by computation. Where several lines hold, the number
-- is the first's.
use Rattle.std.specs.Prelude.{◌≡◌, ℕ, zero, suc, List, [], ◌∷◌, set, replicate, Ok, Err}
use mathlib.Core.Path.{refl}
use native.Mathlib.Omega.{arith}
use Rattle.refusals.specs.declared.lines.Line.TheVariants.{StepsOutOfRange}
use Rattle.refusals.specs.Lines.{first_line, line5, number}
use Rattle.refusals.specs.Outcome.{accepted, refused, outcome, outcome_of, value_or}
use Rattle.quark.specs.Bytes.{tabulate, bit_at, bits_of, byte_at, bytes_of}
use Rattle.quark.specs.Feedback.{f, g, h, p, feedback, exchange, sum_at}
use Rattle.quark.specs.Step.{shift, step_L, step, steps, steps_L, loaded, stored, rounds}
use Rattle.quark.specs.Inverse.{unshift, gained, undo_step_L, undo_step, undo_steps}
use Rattle.quark.specs.Instance.{U, D, S, instance_of, is_instance, is_width, state_bytes}
use Rattle.permutation.specs.Lines.{line1, line4, most_steps, line20}
use Rattle.permutation.specs.Permute.{permute_number, on_bytes}
use Rattle.permutation.specs.Steps.{bits_of_L, value_of_L, registers_after, registers_before, steps_number, steps_outcome, steps_back_outcome, steps_bytes}
use Rattle.permutation.specs.NamedClocks.{AreBytes, Stop}

pub order :
    -- all of lines 1, 4 and 5 hold; lines 1 and 4; lines 1 and 5
    (permute_number 4 2 0 ≡ 1) × (permute_number 4 2 32 ≡ 1) × (permute_number 0 8 17 ≡ 1)
    -- lines 4 and 5; line 4 alone, at width 16 for U
    × (permute_number 2 2 17 ≡ 4) × (permute_number 1 16 22 ≡ 4) × (permute_number 1 16 17 ≡ 4)
    -- line 5 alone: U's bytes for D, and D's for S
    × (permute_number 2 8 17 ≡ 5) × (permute_number 3 16 22 ≡ 5)
    -- no line: each instance at each of its widths
    × (permute_number 1 1 17 ≡ 0) × (permute_number 1 8 17 ≡ 0)
    × (permute_number 2 1 22 ≡ 0) × (permute_number 2 8 22 ≡ 0)
    × (permute_number 3 1 32 ≡ 0) × (permute_number 3 8 32 ≡ 0) × (permute_number 3 16 32 ≡ 0)
unfolding permute_number first_line line1 line4 line5 is_instance is_width state_bytes instance_of U D S
order = (refl, refl, refl, refl, refl, refl, refl, refl, refl, refl, refl, refl, refl, refl, refl)

-- ---- steps from a start value of L

pub steps-order :
    -- all of lines 1, 4, 20 and 5 hold; lines 1, 20 and 5
    (steps_number 4 0 1024 3 0 ≡ 1) × (steps_number 0 8 1024 3 0 ≡ 1)
    -- lines 4, 20 and 5, at width 16 for U and at width 0; lines 4 and 5, at width 0; line 4 alone
    × (steps_number 1 16 1024 545 16 ≡ 4) × (steps_number 2 0 1023 8 21 ≡ 4) × (steps_number 2 0 1023 0 21 ≡ 4) × (steps_number 1 16 1023 16 17 ≡ 4)
    -- lines 20 and 5: for the start value, for too many steps, for steps that are not whole groups
    × (steps_number 1 8 1024 8 16 ≡ 20) × (steps_number 2 1 1023 705 21 ≡ 20) × (steps_number 3 16 1023 8 31 ≡ 20)
    -- line 5 alone
    × (steps_number 1 8 1023 8 16 ≡ 5) × (steps_number 3 16 0 1024 22 ≡ 5)
unfolding steps_number first_line line1 line4 most_steps line20 line5 is_instance is_width state_bytes instance_of rounds U D S
steps-order = (refl, refl, refl, refl, refl, refl, refl, refl, refl, refl, refl)

pub steps-edges :
    -- start values 0 and 1,023, and one more
    (steps_number 1 8 0 8 17 ≡ 0) × (steps_number 1 8 1023 8 17 ≡ 0) × (steps_number 1 8 1024 8 17 ≡ 20)
    -- no steps, 4b of them, and one more, or a group more
    × (steps_number 1 1 0 0 17 ≡ 0) × (steps_number 1 1 0 544 17 ≡ 0) × (steps_number 1 1 0 545 17 ≡ 20) × (steps_number 1 8 0 552 17 ≡ 20)
    × (steps_number 2 8 0 0 22 ≡ 0) × (steps_number 2 8 0 704 22 ≡ 0) × (steps_number 2 8 0 712 22 ≡ 20)
    × (steps_number 3 16 0 0 32 ≡ 0) × (steps_number 3 16 0 1024 32 ≡ 0) × (steps_number 3 16 0 1040 32 ≡ 20)
    × (steps_number 3 1 0 1025 32 ≡ 20) × (steps_number 3 8 0 1032 32 ≡ 20)
    -- whole groups, and others
    × (steps_number 3 1 0 1023 32 ≡ 0) × (steps_number 3 8 0 24 32 ≡ 0) × (steps_number 3 16 0 24 32 ≡ 20) × (steps_number 3 8 0 20 32 ≡ 20)
    × (steps_number 1 8 0 12 17 ≡ 20) × (steps_number 2 8 0 12 22 ≡ 20)
unfolding steps_number first_line line1 line4 most_steps line20 line5 is_instance is_width state_bytes instance_of rounds U D S
steps-edges = (refl, refl, refl, refl, refl, refl, refl, refl, refl, refl, refl, refl, refl, refl, refl, refl, refl, refl, refl, refl, refl)

-- bit 0 has weight 512, and bit 9 weight 1
pub values_of_L :
    (bits_of_L 512 ≡ 1 ∷ replicate 9 0) × (bits_of_L 1 ≡ set (replicate 10 0) 9 1) × (bits_of_L 833 ≡ 1 ∷ 1 ∷ 0 ∷ 1 ∷ 0 ∷ 0 ∷ 0 ∷ 0 ∷ 0 ∷ 1 ∷ [])
    × (value_of_L (1 ∷ replicate 9 0) ≡ 512) × (value_of_L (set (replicate 10 0) 9 1) ≡ 1) × (value_of_L (1 ∷ 1 ∷ 0 ∷ 1 ∷ 0 ∷ 0 ∷ 0 ∷ 0 ∷ 0 ∷ 1 ∷ []) ≡ 833)
unfolding bits_of_L value_of_L tabulate
values_of_L = (refl, refl, refl, refl, refl, refl)

abbrev zeros : List ℕ
zeros = replicate 17 0

-- X67 is in byte 8 with weight 16, and Y67, the state's last bit, in byte 16 with weight 1
abbrev both_67 : List ℕ
both_67 = set (set zeros 8 16) 16 1

-- the all-zero state of U: h is L0, so X67 and Y67 are what L0 was, and L gains L0 + L3
pub first-steps :
    -- one step from all ones, as document 01 has it; L is 1111111110
    (steps_outcome 1 1 1023 1 zeros ≡ accepted 1022) × (steps_bytes registers_after 1 1 1023 1 zeros ≡ both_67)
    × (steps_bytes registers_before 1 1 1023 1 both_67 ≡ zeros)
    -- from L0 alone, from L3 alone, from L9 alone, and from zeros, where h reads X1
    × (steps_outcome 1 1 512 1 zeros ≡ accepted 1) × (steps_bytes registers_after 1 1 512 1 zeros ≡ both_67)
    × (steps_outcome 1 1 64 1 zeros ≡ accepted 129) × (steps_bytes registers_after 1 1 64 1 zeros ≡ zeros)
    × (steps_outcome 1 1 1 1 zeros ≡ accepted 2) × (steps_bytes registers_after 1 1 1 1 zeros ≡ zeros)
    × (steps_outcome 1 1 0 1 (set zeros 0 64) ≡ accepted 0) × (steps_bytes registers_after 1 1 0 1 (set zeros 0 64) ≡ set both_67 0 128)
    -- two steps from L1 alone: the second finds it in L0
    × (steps_outcome 1 1 256 2 zeros ≡ accepted 1) × (steps_bytes registers_after 1 1 256 2 zeros ≡ both_67)
    × (steps_bytes registers_before 1 1 256 2 both_67 ≡ zeros)
unfolding steps_outcome steps_bytes outcome steps_number first_line line1 line4 most_steps line20 line5 on_bytes registers_after registers_before bits_of_L value_of_L tabulate bit_at bits_of byte_at bytes_of is_instance is_width state_bytes instance_of rounds U f g h p feedback exchange sum_at shift step_L step steps steps_L loaded stored unshift gained undo_step_L undo_step undo_steps
first-steps = (refl, refl, refl, refl, refl, refl, refl, refl, refl, refl, refl, refl, refl, refl)

-- a buffer whose bytes are no zeros
abbrev full : List ℕ
full = replicate 17 165

pub steps-answers :
    -- refused by 20, number and place, and the buffer as it was: for the start value, and for steps that are not whole groups
    (steps_outcome 1 8 1024 8 full ≡ refused 20 0) × (steps_bytes registers_after 1 8 1024 8 full ≡ full)
    × (steps_back_outcome 1 8 1023 12 full ≡ refused 20 0) × (steps_bytes registers_before 1 8 1023 12 full ≡ full)
    × (steps_back_outcome 1 1 1023 1 full ≡ accepted tt)
    -- what an answer stands for
    × (outcome_of {A = ℕ} (Ok 1029) ≡ accepted 1029) × (outcome_of {A = ℕ} (Err (record { line = StepsOutOfRange; place = 3 })) ≡ refused 20 3)
    -- what a lent number holds after a call
    × (◌≡◌ {A = ℕ} (value_or (accepted 5) 7) 5) × (◌≡◌ {A = ℕ} (value_or (refused 20 0) 7) 7)
unfolding steps_outcome steps_back_outcome outcome_of number value_or steps_bytes outcome steps_number first_line line1 line4 most_steps line20 line5 is_instance is_width state_bytes instance_of rounds U
steps-answers = (refl, refl, refl, refl, refl, refl, refl, refl, refl)

-- ---- what the statements of `NamedClocks` ask for can be met

-- the greatest bytes
pub greatest_bytes : (n : ℕ) → AreBytes (replicate n 255)
greatest_bytes zero j = omega arith
greatest_bytes (suc n) zero = omega arith
greatest_bytes (suc n) (suc j) = greatest_bytes n j

-- a stop: one step of U at width 1 from L0 alone, seven more, and eight at once at width 8
pub stop : Stop 1 1 1 8 512 1 7 1 zeros
unfolding steps_number first_line line1 line4 most_steps line20 line5 is_instance is_width state_bytes instance_of rounds U
stop = record { stops = first-steps.3; width = refl; whole = refl; through = refl }

-- at three widths: eight steps of S at 8 from all ones, sixteen more at 16, and twenty-four at once at 1
pub stop_at_three : Stop 3 8 16 1 1023 8 16 769 (replicate 32 0)
unfolding steps_outcome outcome registers_after bits_of_L value_of_L tabulate bits_of loaded shift step_L step steps p steps_number first_line line1 line4 most_steps line20 line5 is_instance is_width state_bytes instance_of rounds S
stop_at_three = record { stops = refl; width = refl; whole = refl; through = refl }
