-- Bytes that are all zero: read one by one from an offset on, and as a list.
use mathlib.Core.Bool.{Bool, true, false, ◌&&◌, and-eq-true_iff}
use mathlib.Core.List.{List, [], ◌∷◌}
use mathlib.Core.Path.{◌≡◌, refl, ap, ap₂}
use Prim.Native.Nat.{ℕ, suc, ◌+◌, ◌<◌, ◌≤◌}
use native.Mathlib.Numerals.{add-one}
use borrow.Author.Tests.{eqb-true, eq-eqb, ne_eqb}
use lib.Dec.{eqb}
use lib.ListN.{length, get_or, drop, replicate, drop_of_length-le}
use lib.Seq.{drop-cons}
use Rattle.std.specs.List.{list_all}
use Rattle.sponge.specs.Soundness.{all_zero}

-- ---- the bytes from an offset on, by the byte there

module _ (l : List ℕ) (i : ℕ) where
  pub zero_at : i < length l → get_or l i 0 ≡ 0 → all_zero (drop i l) ≡ all_zero (drop (i + 1) l)
  unfolding all_zero
  zero_at within e = rw (drop-cons l i 0 within, add-one) (rw e)

  pub not_zero_at : i < length l → (get_or l i 0 ≡ 0 → ⊥) → all_zero (drop i l) ≡ false
  unfolding all_zero
  not_zero_at within e = rw (drop-cons l i 0 within) (rw (ne_eqb _ _ e))

  pub zero_past_end : length l ≤ i → all_zero (drop i l) ≡ true
  unfolding all_zero
  zero_past_end past = rw (drop_of_length-le l {i = i} past)

-- ---- as a list

-- the library's test of each byte
pub each_zero : (l : List ℕ) → list_all (λ b. eqb b 0) l ≡ all_zero l
unfolding all_zero
each_zero [] = refl
each_zero (x ∷ l) = ap (λ (t : Bool). eqb x 0 && t) (each_zero l)

pub zeros_of : (l : List ℕ) → all_zero l ≡ true → l ≡ replicate (length l) 0
unfolding all_zero
zeros_of [] e = refl
zeros_of (x ∷ l) e =
    let both = (and-eq-true_iff (eqb x 0) (all_zero l)).0 e in
    ap₂ (λ (a : ℕ) (m : List ℕ). a ∷ m) (eqb-true x 0 both.0) (zeros_of l both.1)

pub all_zero_lem : (l : List ℕ) → ((j : ℕ) → get_or l j 0 ≡ 0) → all_zero l ≡ true
unfolding all_zero
all_zero_lem [] h = refl
all_zero_lem (x ∷ l) h = rw (eq-eqb x 0 (h 0)) (all_zero_lem l (λ j. h (suc j)))
