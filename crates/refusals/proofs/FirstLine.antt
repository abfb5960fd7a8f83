-- Lines in checking order: what follows where none of them holds, and lines after other lines.
use mathlib.Core.Bool.{Bool, true, false, cond, ◌||◌, true≢false, false≢true, and-eq-true_iff}
use mathlib.Core.List.{List, [], ◌∷◌, ◌++◌, append_assoc}
use mathlib.Core.Path.{◌≡◌, refl, sym, ap, ◌∙◌}
use Prim.Native.Nat.{ℕ, zero, suc, ◌<◌}
use native.Mathlib.Nat.{suc-ne-zero}
use native.Mathlib.Omega.{arith}
use borrow.Author.Tests.{ltb-true, eqb-true, not-false, eq-eqb}
use lib.Dec.{ltb, eqb}
use Rattle.refusals.specs.Lines.{line5, first_line, numbered}

-- ---- none of some lines holds; all of them at once, so that a law which uses some does not repeat their order

abbrev pub NoneHolds : List (Bool × ℕ) → Type 0
NoneHolds [] = Unit {0}
NoneHolds (line ∷ lines) = (line.0 ≡ false) × NoneHolds lines

pub none_holds : (lines : List (Bool × ℕ)) → numbered lines ≡ true → first_line lines ≡ 0 → NoneHolds lines
unfolding first_line
none_holds [] n e = tt
none_holds (line ∷ lines) n e =
    let both = (and-eq-true_iff (ltb 0 line.1) (numbered lines)).0 n in
    let first = not_first line.0 line.1 (first_line lines) (ltb-true 0 line.1 both.0) e in
    (first.0, none_holds lines both.1 first.1)
  where
    not_first : (holds : Bool) (number others : ℕ) → 0 < number → cond holds number others ≡ 0 → (holds ≡ false) × (others ≡ 0)
    not_first true number others h e = absurd (omega arith)
    not_first false number others h e = (refl, e)

-- ---- lines after other lines: the first that holds is among those in front, or none of these holds and it is among those after them

pub holds-in_front : (lines more : List (Bool × ℕ)) → (first_line lines ≡ 0 → ⊥) → first_line (lines ++ more) ≡ first_line lines
unfolding first_line
holds-in_front [] more some = absurd (some refl)
holds-in_front ((true, n) ∷ lines) more some = refl
holds-in_front ((false, n) ∷ lines) more some = holds-in_front lines more some

pub none_in_front : (lines more : List (Bool × ℕ)) → numbered lines ≡ true → first_line lines ≡ 0 → first_line (lines ++ more) ≡ first_line more
unfolding first_line
none_in_front [] more each none = refl
none_in_front ((true, zero) ∷ lines) more each none = absurd (false≢true each)
none_in_front ((true, suc n) ∷ lines) more each none = absurd (suc-ne-zero n none)
none_in_front ((false, n) ∷ lines) more each none = none_in_front lines more ((and-eq-true_iff (ltb 0 n) (numbered lines)).0 each).1 none

pub none_of_both : (lines more : List (Bool × ℕ)) → first_line lines ≡ 0 → first_line more ≡ 0 → first_line (lines ++ more) ≡ 0
unfolding first_line
none_of_both [] more none after = after
none_of_both ((true, n) ∷ lines) more none after = none
none_of_both ((false, n) ∷ lines) more none after = none_of_both lines more none after

-- and where none of both holds
pub both_none : (lines more : List (Bool × ℕ)) → numbered lines ≡ true → first_line (lines ++ more) ≡ 0 → (first_line lines ≡ 0) × (first_line more ≡ 0)
unfolding first_line
both_none [] more each none = (refl, none)
both_none ((true, zero) ∷ lines) more each none = absurd (false≢true each)
both_none ((true, suc n) ∷ lines) more each none = absurd (suc-ne-zero n none)
both_none ((false, n) ∷ lines) more each none = both_none lines more ((and-eq-true_iff (ltb 0 n) (numbered lines)).0 each).1 none

-- ---- lines between others: where those in front and these give a number above 0, the lines after are not read

module _ (front lines more : List (Bool × ℕ)) (number : ℕ) (e : number ≡ first_line (front ++ lines)) where
  pub decided_before : (number ≡ 0 → ⊥) → number ≡ first_line (front ++ (lines ++ more))
  decided_before some = e ∙ sym (holds-in_front (front ++ lines) more (λ z. some (e ∙ z))) ∙ ap first_line (append_assoc front lines more)

-- ---- tests of a line

pub neither : (a b : Bool) → (a || b) ≡ false → (a ≡ false) × (b ≡ false)
neither true b e = absurd (true≢false e)
neither false b e = (refl, e)

-- line 5, where it does not hold
pub right_length : (length right : ℕ) → line5 length right ≡ false → length ≡ right
unfolding line5
right_length n m e = eqb-true n m (not-false (eqb n m) e)

pub length-right : (length right : ℕ) → length ≡ right → line5 length right ≡ false
unfolding line5
length-right n m e = rw (eq-eqb n m e)
