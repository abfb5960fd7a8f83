-- The number that some bits make, the first with the highest weight: its bits are those bits, and every number is made by its own.
use mathlib.Core.Path.{◌≡◌, refl, sym, ap, ap₂, ◌∙◌}
use Prim.Native.Nat.{ℕ, zero, suc, ◌+◌, ◌*◌, ◌-◌, ◌/◌, ◌%◌, ◌^◌, ◌<◌, ◌≤◌}
use native.Mathlib.Nat.{add-zero, add-suc, le_refl, le_trans, sub-zero, sub_self, div-add-mod', div-div-eq-div-mul, div-one, div-eq_of_lt, pow-suc}
use native.Mathlib.Numerals.{add-one}
use native.Mathlib.Omega.{arith}
use lib.Arith.{digits_div, digits_mod}
use lib.Pow.{pow_mono}
use Rattle.quark.specs.Word.{word_bit}
use Rattle.quark.proofs.Word.{word_bit-zero, word_bit-suc}

-- the number of the bits a 0, a 1, .. a (k - 1)
unfoldable pub weighed : (ℕ → ℕ) → ℕ → ℕ
weighed a zero = 0
weighed a (suc k) = weighed a k * 2 + a k

pub weighed_next : (a : ℕ → ℕ) (k : ℕ) → weighed a (k + 1) ≡ weighed a k * 2 + a k
unfolding weighed
weighed_next a k = rw add-one

pub weighed_cong : (n : ℕ) (a b : ℕ → ℕ) → ((k : ℕ) → k < n → a k ≡ b k) → weighed a n ≡ weighed b n
unfolding weighed
weighed_cong zero a b e = refl
weighed_cong (suc n) a b e = ap₂ (λ (x y : ℕ). x * 2 + y) (weighed_cong n a b (λ k h. e k (omega arith))) (e n (omega arith))

weighed_lt : (a : ℕ → ℕ) → ((k : ℕ) → a k < 2) → (n : ℕ) → weighed a n < 2 ^ n
unfolding weighed
weighed_lt a b zero = omega arith
weighed_lt a b (suc n) = omega (arith, weighed_lt a b n, b n, pow-suc 2 n)

pub weighed_fits : (a : ℕ → ℕ) → ((k : ℕ) → a k < 2) → (k n : ℕ) → k ≤ n → weighed a k < 2 ^ n
weighed_fits a b k n h = le_trans (weighed_lt a b k) (pow_mono h)

-- the bit with d more after it
pub weighed_bit : (a : ℕ → ℕ) → ((k : ℕ) → a k < 2) → (k d : ℕ) → word_bit (weighed a (suc k + d)) d ≡ a k
unfolding weighed
weighed_bit a b k zero =
    ap (λ (n : ℕ). word_bit (weighed a n) 0) (add-zero (suc k)) ∙ word_bit-zero (weighed a (suc k)) ∙ digits_mod (weighed a k) (b k)
weighed_bit a b k (suc d) =
    ap (λ (n : ℕ). word_bit (weighed a n) (suc d)) (add-suc (suc k) d)
    ∙ word_bit-suc (weighed a (suc (suc k + d))) d
    ∙ ap (λ (x : ℕ). word_bit x d) (digits_div (weighed a (suc k + d)) (b (suc k + d)))
    ∙ weighed_bit a b k d

-- a digit more: x, from its digits above 2 ^ k
digit : (x k : ℕ) → x / 2 ^ k ≡ x / 2 ^ suc k * 2 + word_bit x k
unfolding word_bit
digit x k = sym (div-add-mod' (x / 2 ^ k) 2) ∙ ap (λ (y : ℕ). y * 2 + x / 2 ^ k % 2) (div-div-eq-div-mul x (2 ^ k) 2 ∙ ap (λ (y : ℕ). x / y) (sym (pow-suc 2 k)))

weighed_upto : (x n : ℕ) → x < 2 ^ n → (j : ℕ) → j ≤ n → weighed (λ k. word_bit x (n - 1 - k)) j ≡ x / 2 ^ (n - j)
unfolding weighed
weighed_upto x n h zero g = rw sub-zero (sym (div-eq_of_lt h))
weighed_upto x n h (suc j) g =
    let top : n - j ≡ suc (n - 1 - j) = omega arith in
    let low : n - 1 - j ≡ n - suc j = omega arith in
    ap (λ (y : ℕ). y * 2 + word_bit x (n - 1 - j)) (weighed_upto x n h j (omega arith) ∙ ap (λ (k : ℕ). x / 2 ^ k) top)
    ∙ sym (digit x (n - 1 - j))
    ∙ ap (λ (k : ℕ). x / 2 ^ k) low

-- a number of n digits, from its bits
pub weighed_bits : (x n : ℕ) → x < 2 ^ n → weighed (λ k. word_bit x (n - 1 - k)) n ≡ x
weighed_bits x n h = weighed_upto x n h n (le_refl n) ∙ ap (λ (k : ℕ). x / 2 ^ k) (sub_self n) ∙ div-one x
