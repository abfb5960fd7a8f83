-- What follows where no line refuses a call on a buffer, and the buffer by the number that the lines give.
use Rattle.std.specs.Prelude.{◌≡◌, ℕ, ◌%◌, ◌<◌, ◌≤◌, true, false, not, ◌||◌, eqb, ltb, List, length}
use mathlib.Core.Path.{refl, sym, ◌∙◌}
use native.Mathlib.Omega.{arith}
use borrow.Author.Tests.{not-false, eqb-true, ltb-false}
use Rattle.refusals.specs.Lines.{first_line, line5}
use Rattle.refusals.proofs.FirstLine.{none_holds, neither, right_length}
use Rattle.refusals.proofs.Outcome.{accepted-left}
use Rattle.quark.specs.Feedback.{Taps}
use Rattle.quark.specs.Instance.{is_instance, is_width, state_bytes}
use Rattle.quark.specs.Word.{word_bits}
use Rattle.quark.proofs.Word.{wide_word_bits}
use Rattle.permutation.specs.Lines.{line1, line4, most_steps, line20}
use Rattle.permutation.specs.Permute.{permute_number, on_bytes, overwritten}
use Rattle.permutation.specs.Steps.{value_of_L, steps_number}
use Rattle.permutation.specs.leaf.Cells.{Allowed}
use Rattle.permutation.proofs.RegisterL.{value-small}

module _ (i w size : ℕ) (none : permute_number i w size ≡ 0) where
  pub accepted-instance : is_instance i ≡ true
  unfolding permute_number line1
  accepted-instance = let lines = none_holds _ refl none in not-false (is_instance i) (search lines)

  pub accepted-width : is_width i w ≡ true
  unfolding permute_number line4
  accepted-width = let lines = none_holds _ refl none in not-false (is_width i w) (search lines)

  pub accepted-length : size ≡ state_bytes i
  unfolding permute_number
  accepted-length = let lines = none_holds _ refl none in right_length size (state_bytes i) (search lines)

-- ---- steps from a start value of L

-- line 20, where it does not hold
pub record InRange (i w l count : ℕ) : Type 0 where
  pub start : l < 1024
  pub few : count ≤ most_steps i
  pub whole : count % w ≡ 0

pub in_range : (i w l count : ℕ) → line20 i w l count ≡ false → InRange i w l count
unfolding line20
in_range i w l count e =
    let front = ltb 1023 l || ltb (most_steps i) count in
    let parts = neither front (not (eqb (count % w) 0)) e in
    let first = neither (ltb 1023 l) (ltb (most_steps i) count) parts.0 in
    record {
      start = omega (arith, ltb-false 1023 l first.0);
      few = ltb-false (most_steps i) count first.1;
      whole = eqb-true (count % w) 0 (not-false (eqb (count % w) 0) parts.1);
    }

module _ (i w l count size : ℕ) (none : steps_number i w l count size ≡ 0) where
  pub accepted-range : InRange i w l count
  unfolding steps_number
  accepted-range = let lines = none_holds _ refl none in in_range i w l count (search lines)

  -- no line of P's holds there
  others : (line1 i ≡ false) × (line4 i w ≡ false) × (line5 size (state_bytes i) ≡ false)
  unfolding steps_number
  others = let lines = none_holds _ refl none in (search lines, search lines, search lines)

  pub accepted-P : permute_number i w size ≡ 0
  unfolding permute_number first_line
  accepted-P = simp (others.0, others.1, others.2)

  pub accepted-state : size ≡ state_bytes i
  accepted-state = accepted-length i w size accepted-P

  -- the cores take such steps from the start value, mirrored
  pub accepted-steps : (start : ℕ) → start ≡ value_of_L (word_bits 10 l) → Allowed i w start count
  accepted-steps start e = record {
    has_instance = accepted-instance i w size accepted-P;
    has_width = accepted-width i w size accepted-P;
    whole = accepted-range.whole;
    small = rw e (value-small (word_bits 10 l) (wide_word_bits 10 l));
  }

-- ---- the buffer by the number

module _ (F : Taps → List ℕ → List ℕ) (i w number : ℕ) (bytes : List ℕ) (e : number ≡ permute_number i w (length bytes)) where
  pub accepted-bytes : number ≡ 0 → on_bytes F i bytes ≡ overwritten F i w bytes
  unfolding overwritten
  accepted-bytes none = accepted-left (permute_number i w (length bytes)) bytes (on_bytes F i bytes) (sym e ∙ none)
