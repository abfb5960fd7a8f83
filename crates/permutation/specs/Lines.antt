-- The lines that read an instance's number, a step width, a start value of L and a step count (docs/RULES.md). Each is defined for every
-- number: line 4 refuses a width of 0, and in line 20 only 0 counts as its multiple.
use Rattle.std.specs.Prelude.{ℕ, ◌%◌, Bool, not, ◌||◌, ◌==◌, nat_lt}
use Rattle.quark.specs.Step.{rounds}
use Rattle.quark.specs.Instance.{instance_of, is_instance, is_width}

-- 1. No instance has this number.
unfoldable pub line1 : ℕ → Bool
line1 i = not (is_instance i)

-- 4. The instance has no such step width.
unfoldable pub line4 : (i w : ℕ) → Bool
line4 i w = not (is_width i w)

-- the most steps that a call takes: P's, 4b
unfoldable pub most_steps : ℕ → ℕ
most_steps i = rounds (instance_of i).taps

-- 20. L's start value is over 1,023, or the steps are more than P's or not whole groups of the step width.
unfoldable pub line20 : (i w l count : ℕ) → Bool
line20 i w l count = nat_lt 1023 l || nat_lt (most_steps i) count || not (count % w == 0)
