-- The first line that holds, where some lines have been passed; by the lines' numbers; and of two lines.
use Rattle.std.specs.Prelude.{◌≡◌, refl, ℕ, zero, suc, ◌+◌, ◌<◌, ◌≤◌, Bool, true, false, cond, List, [], ◌∷◌, length, drop, slice_index_or, Result, Ok, Err}
use mathlib.Core.Path.{ap, ◌∙◌}
use native.Mathlib.Numerals.{unary_clauses}
use native.Mathlib.Omega.{arith}
use Rattle.refusals.specs.declared.lines.Line.{Line}
use Rattle.refusals.specs.Lines.{number, refused_by, first_holding, first_line, rows}

module _ {L : Type 0} where
  -- the first of the lines from place i on is the one there, or among those after it
  module _ (lines : List (Bool × L)) (i : ℕ) (line : Bool × L) (h : i < length lines) (is : line ≡ slice_index_or lines i line) where
    from_place : first_holding (drop i lines) ≡ cond line.0 (Err line.1) (first_holding (drop (i + 1) lines))
    unfolding first_holding
    from_place = simp unary_clauses (from lines i h is)
      where
        from : (lines : List (Bool × L)) (i : ℕ) → i < length lines → line ≡ slice_index_or lines i line
            → first_holding (drop i lines) ≡ cond line.0 (Err line.1) (first_holding (drop (suc i) lines))
        from [] i h is = absurd (omega arith)
        from (other ∷ lines) zero h is = rw is
        from (other ∷ lines) (suc i) h is = from lines i (omega arith) is

    pub decided : line.0 ≡ true → first_holding (drop i lines) ≡ Err line.1
    decided holds = from_place ∙ rw holds

    pub passed : line.0 ≡ false → first_holding (drop i lines) ≡ first_holding (drop (i + 1) lines)
    passed holds = from_place ∙ rw holds

  -- no line is left
  pub none_left : (lines : List (Bool × L)) (i : ℕ) → length lines ≤ i → first_holding (drop i lines) ≡ Ok tt
  unfolding first_holding
  none_left [] zero h = refl
  none_left [] (suc i) h = refl
  none_left (line ∷ lines) zero h = absurd (omega arith)
  none_left (line ∷ lines) (suc i) h = none_left lines i (omega arith)

-- lines by name: the number of the line by which they refuse
pub first_number : (lines : List (Bool × Line)) (answer : Result (Unit {0}) Line) → answer ≡ first_holding lines
    → refused_by answer ≡ first_line (rows lines)
unfolding refused_by first_holding first_line rows
first_number lines answer e = ap refused_by e ∙ by_name lines
  where
    by_name : (lines : List (Bool × Line)) → refused_by (first_holding lines) ≡ first_line (rows lines)
    by_name [] = refl
    by_name ((true, line) ∷ lines) = refl
    by_name ((false, line) ∷ lines) = by_name lines

-- lines that are numbers: the first where it holds, else the second, which holds
pub number_or_rest : (holds : Bool) (number rest : ℕ) → first_holding ((holds, number) ∷ (true, rest) ∷ []) ≡ Err (cond holds number rest)
unfolding first_holding
number_or_rest true number rest = refl
number_or_rest false number rest = refl
