-- Laws of `tabulate`, for loops that store one value in each pass.
use Rattle.std.specs.Prelude.{◌≡◌, ℕ, suc, ◌+◌, ◌<◌, ◌≤◌, List, [], ◌∷◌, ◌++◌, length, get_or, take, drop, set}
use mathlib.Core.Path.{refl, sym, ap, ◌∙◌}
use mathlib.Core.List.{append_assoc, append-nil}
use native.Mathlib.Numerals.{add-one}
use native.Mathlib.Omega.{arith}
use lib.ListN.{drop_of_length-le}
use lib.Seq.{set_at, take-suc, drop-cons}
use Rattle.quark.specs.Bytes.{tabulate, bit}
use Rattle.quark.specs.Feedback.{feedback, sum_at}
use Rattle.quark.proofs.Bytes.{length-tabulate}
use Rattle.permutation.specs.leaf.Serial.{indices}

-- a loop that stores F 0, F 1, .. into a list from the front, one store in each pass
pub tabulate-store : (F : ℕ → ℕ) (l : List ℕ) (k : ℕ) → k < length l
    → set (tabulate k F ++ drop k l) k (F k) ≡ tabulate (k + 1) F ++ drop (k + 1) l
unfolding tabulate
tabulate-store F l k p =
    ap (λ (t : List ℕ). set (tabulate k F ++ t) k (F k)) (drop-cons l k 0 p)
    ∙ set_at (tabulate k F) (get_or l k 0) (drop (suc k) l) (F k) k (length-tabulate k F)
    ∙ sym (append_assoc (tabulate k F) (F k ∷ []) (drop (suc k) l))
    ∙ ap (λ (n : ℕ). tabulate n F ++ drop n l) (sym (add-one k))

-- and its end
pub tabulate-full : (F : ℕ → ℕ) (l : List ℕ) (k n : ℕ) → k ≡ n → length l ≡ n → tabulate k F ++ drop k l ≡ tabulate n F
tabulate-full F l k n p q =
    let w : length l ≤ k = omega arith in
    ap (λ (t : List ℕ). tabulate k F ++ t) (drop_of_length-le l w) ∙ append-nil (tabulate k F) ∙ ap (λ (m : ℕ). tabulate m F) p

-- f's sum over the bits at the taps is f's sum over the taps
pub feedback-bits_at : (taps : List ℕ) (X : ℕ → ℕ) → feedback indices (bit (tabulate 13 (λ k. X (get_or taps k 0)))) ≡ feedback taps X
unfolding feedback indices tabulate
feedback-bits_at taps X = refl

-- ---- the sum at some taps, one more in each pass

sum_at_snoc : (X : ℕ → ℕ) (s : List ℕ) (i : ℕ) → sum_at X (s ++ (i ∷ [])) ≡ sum_at X s + X i
unfolding sum_at
sum_at_snoc X [] i = omega arith
sum_at_snoc X (t ∷ s) i = omega (arith, sum_at_snoc X s i)

pub sum_at_next : (X : ℕ → ℕ) (taps : List ℕ) (k : ℕ) → k < length taps → sum_at X (take (k + 1) taps) ≡ sum_at X (take k taps) + X (get_or taps k 0)
sum_at_next X taps k p =
    ap (λ (n : ℕ). sum_at X (take n taps)) (add-one k) ∙ ap (sum_at X) (take-suc taps k 0 p) ∙ sum_at_snoc X (take k taps) (get_or taps k 0)
