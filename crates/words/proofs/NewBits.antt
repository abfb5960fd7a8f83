-- f, g and h of registers that are moved up by w, with w new bits below: what they read of the new bits. Of f's taps only a0 reads them, of
-- g's a0 and its low tap, of h's its low taps, two in X and two in Y.
use mathlib.Core.List.{List}
use mathlib.Core.Logic.{⊎_elim}
use mathlib.Core.Path.{◌≡◌, sym, ap, ap₂, ◌∙◌, subst}
use Prim.Native.Nat.{ℕ, ◌+◌, ◌*◌, ◌/◌, ◌%◌, ◌^◌, ◌<◌, ◌≤◌}
use native.Mathlib.Nat.{add-mul, add-zero, zero-add, mod-add-mod}
use native.Mathlib.Omega.{arith}
use lib.Dec.{lit<}
use lib.ListN.{length, get_or, drop, length-drop}
use lib.Pow.{pow_pos}
use lib.Seq.{get_or-drop}
use Rattle.quark.specs.Feedback.{Taps, feedback, exchange, f, g, sum_at, h}
use Rattle.quark.specs.Word.{word_bit}
use Rattle.quark.proofs.Feedback.{feedback-first, sum_at_cong, first-at_zero}
use Rattle.quark.proofs.Taps.{All, all_at, all_map, Lawful}
use Rattle.quark.proofs.Word.{word_bit-shr}
use Rattle.words.specs.declared.back.LowTaps.{LowTaps}
use Rattle.words.specs.leaf.FeedbackWords.{products, products_at, linear_taps, mixes, mixed_taps}
use Rattle.words.specs.leaf.Solving.{products_derivative, products_derivative_at, mixes_derivative}
use Rattle.words.proofs.FeedbackWords.{feedback-split, h-split}
use Rattle.words.specs.leaf.TapsOf.{LowTapsOf}
use Rattle.words.proofs.MovedUp.{below, past_end, low_bit, same_above}

-- ---- the bits that are read

-- with 0 for the new bits, a tap that reads a new bit reads 0
no_new : (n w k t : ℕ) → k + t < w → word_bit ((n * 2 ^ w + 0) / 2 ^ k) t ≡ 0
no_new n w k t less = word_bit-shr (n * 2 ^ w + 0) k t ∙ low_bit n w 0 (k + t) (pow_pos w) less ∙ past_end 0 0 (k + t) (lit< tt) (omega arith)

-- the bit that a tap reads in step k: that of the register with 0 for the new bits, and the new bit
read_new : (n w a k t : ℕ) → a < 2 ^ w → word_bit ((n * 2 ^ w + a) / 2 ^ k) t ≡ word_bit ((n * 2 ^ w + 0) / 2 ^ k) t + word_bit a (k + t)
read_new n w a k t small = ⊎_elim under over (below (k + t) w)
  where
    under : k + t < w → word_bit ((n * 2 ^ w + a) / 2 ^ k) t ≡ word_bit ((n * 2 ^ w + 0) / 2 ^ k) t + word_bit a (k + t)
    under less =
        let new = word_bit-shr (n * 2 ^ w + a) k t ∙ low_bit n w a (k + t) small less in
        omega (arith, new, no_new n w k t less)

    over : w ≤ k + t → word_bit ((n * 2 ^ w + a) / 2 ^ k) t ≡ word_bit ((n * 2 ^ w + 0) / 2 ^ k) t + word_bit a (k + t)
    over more =
        let same = word_bit-shr (n * 2 ^ w + a) k t ∙ same_above n w a 0 (k + t) small (pow_pos w) more ∙ sym (word_bit-shr (n * 2 ^ w + 0) k t) in
        omega (arith, same, past_end a w (k + t) small more)

read_other : (n w a k t : ℕ) → a < 2 ^ w → w ≤ t → word_bit ((n * 2 ^ w + a) / 2 ^ k) t ≡ word_bit ((n * 2 ^ w + 0) / 2 ^ k) t
read_other n w a k t small more =
    let none = past_end a w (k + t) small (omega arith) in
    omega (arith, read_new n w a k t small, none)

pub read_first : (n w a k : ℕ) → a < 2 ^ w → k < w → word_bit ((n * 2 ^ w + a) / 2 ^ k) 0 ≡ word_bit a k
read_first n w a k small less = word_bit-shr (n * 2 ^ w + a) k 0 ∙ ap (word_bit (n * 2 ^ w + a)) (add-zero k) ∙ low_bit n w a k small less

-- ---- sums with new bits

products-more : (c a1 a3 a4 a5 a6 a7 a8 a10 a11 a12 : ℕ)
    → products (a1 + c) a3 a4 a5 a6 a7 a8 a10 a11 a12 ≡ products a1 a3 a4 a5 a6 a7 a8 a10 a11 a12 + c * products_derivative a3 a4 a5 a6 a8 a12
unfolding products products_derivative
products-more c a1 a3 a4 a5 a6 a7 a8 a10 a11 a12 =
    let two : (a1 + c) * a3 ≡ a1 * a3 + c * a3 = add-mul a1 c a3 in
    let four : (a1 + c) * a5 * a8 * a12 ≡ a1 * a5 * a8 * a12 + c * a5 * a8 * a12 = omega arith in
    let five : (a1 + c) * a3 * a4 * a5 * a6 ≡ a1 * a3 * a4 * a5 * a6 + c * a3 * a4 * a5 * a6 = omega arith in
    let derivative : c * (a3 + a5 * a8 * a12 + a3 * a4 * a5 * a6) ≡ c * a3 + c * a5 * a8 * a12 + c * a3 * a4 * a5 * a6 = omega arith in
    omega (arith, two, four, five, derivative)

mixes-more : (c l y3 x25 x46 x55 y59 : ℕ) → mixes l (y3 + c) x25 x46 x55 y59 ≡ mixes l y3 x25 x46 x55 y59 + c * mixes_derivative x25 x46 x55 y59
unfolding mixes mixes_derivative
mixes-more c l y3 x25 x46 x55 y59 = omega arith

-- a sum that is q more, modulo 2
more : (n n' q : ℕ) {s s' : ℕ} → s ≡ n % 2 → s' ≡ n' % 2 → n ≡ n' + q → s ≡ (s' + q) % 2
more n n' q es es' e =
    es ∙ ap (λ (m : ℕ). m % 2) e ∙ sym (mod-add-mod n' 2 q) ∙ ap (λ (m : ℕ). (m + q) % 2) (sym es')

sum-f : (l l' m m' b c derivative : ℕ) {s s' : ℕ} → s ≡ (l + m) % 2 → s' ≡ (l' + m') % 2 → l ≡ l' + b + c → m ≡ m' + c * derivative
    → s ≡ (s' + b + c * (1 + derivative)) % 2
sum-f l l' m m' b c derivative {s} {s'} es es' el em =
    let q : ℕ = b + c * (1 + derivative) in
    let r : c * (1 + derivative) ≡ c + c * derivative = omega arith in
    let e : l + m ≡ l' + m' + q = omega arith in
    let a : s' + q ≡ s' + b + c * (1 + derivative) = omega arith in
    more (l + m) (l' + m') q es es' e ∙ ap (λ (n : ℕ). n % 2) a

sum-h : (m m' x x' y y' b c d e : ℕ) {s s' : ℕ} → s ≡ (m + x + y) % 2 → s' ≡ (m' + x' + y') % 2 → m ≡ m' + e → x ≡ x' + b + c → y ≡ y' + d
    → s ≡ (s' + b + c + d + e) % 2
sum-h m m' x x' y y' b c d e {s} {s'} es es' em ex ey =
    let q : ℕ = b + c + d + e in
    let p : m + x + y ≡ m' + x' + y' + q = omega arith in
    let a : s' + q ≡ s' + b + c + d + e = omega arith in
    more (m + x + y) (m' + x' + y') q es es' p ∙ ap (λ (n : ℕ). n % 2) a

-- the taps but the first two
later : (F : ℕ → Type 0) (ts : List ℕ) → All F (drop 2 ts) → (k : ℕ) → 2 + k < length ts → F (get_or ts (2 + k) 0)
later F ts a k q =
    let inside : k < length (drop 2 ts) = simp length-drop (omega arith) in
    subst F (get_or-drop 2 ts k 0) (all_at F (drop 2 ts) a k inside)

-- f's sum, where the bits at a0 and a1 are b and c more
feedback-more : (ts : List ℕ) → length ts ≡ 13 → (Y Y' : ℕ → ℕ) (b c : ℕ) → Y (get_or ts 0 0) ≡ Y' (get_or ts 0 0) + b → Y (get_or ts 1 0) ≡ Y' (get_or ts 1 0) + c
    → All (λ t. Y t ≡ Y' t) (drop 2 ts) → feedback ts Y ≡ (feedback ts Y' + b + c * (1 + products_derivative_at ts Y')) % 2
unfolding sum_at linear_taps products_at products_derivative_at
feedback-more ts n Y Y' b c e0 e1 others =
    let at : (k : ℕ) → k < 11 → Y (get_or ts (2 + k) 0) ≡ Y' (get_or ts (2 + k) 0) = λ k less. later (λ t. Y t ≡ Y' t) ts others k (omega arith) in
    let a : ℕ → ℕ = λ k. Y' (get_or ts k 0) in
    let e3 = at 1 (lit< tt) in
    let e4 = at 2 (lit< tt) in
    let e5 = at 3 (lit< tt) in
    let e6 = at 4 (lit< tt) in
    let e7 = at 5 (lit< tt) in
    let e8 = at 6 (lit< tt) in
    let e10 = at 8 (lit< tt) in
    let e11 = at 9 (lit< tt) in
    let e12 = at 10 (lit< tt) in
    let many : products_at ts Y ≡ products_at ts Y' + c * products_derivative_at ts Y' =
    (λ i. products (e1 i) (e3 i) (e4 i) (e5 i) (e6 i) (e7 i) (e8 i) (e10 i) (e11 i) (e12 i))
    ∙ products-more c (a 1) (a 3) (a 4) (a 5) (a 6) (a 7) (a 8) (a 10) (a 11) (a 12) in
    let lone : sum_at Y (linear_taps ts) ≡ sum_at Y' (linear_taps ts) + b + c = omega (arith, e0, e1, at 0 (lit< tt), e4, e5, e6, e7, e8, at 7 (lit< tt), e10, e11) in
    sum-f (sum_at Y (linear_taps ts)) (sum_at Y' (linear_taps ts)) (products_at ts Y) (products_at ts Y') b c (products_derivative_at ts Y') (feedback-split ts Y) (feedback-split ts Y') lone
    many

-- h, where the bits at its two low taps in X are b and c more, and at those in Y d and e
h-more : (T : Taps) (low : LowTaps) (w : ℕ) → LowTapsOf T low w → (X X' Y Y' L : ℕ → ℕ) (b c d e : ℕ)
    → ((t : ℕ) → w ≤ t → X t ≡ X' t) → ((t : ℕ) → w ≤ t → Y t ≡ Y' t)
    → X 1 ≡ X' 1 + b → X low.x ≡ X' low.x + c → Y low.y ≡ Y' low.y + d → Y low.h ≡ Y' low.h + e
    → h T X Y L ≡ (h T X' Y' L + b + c + d + e * mixes_derivative (X' T.x_low) (X' T.x_mid) (X' T.x_high) (Y' T.y_high)) % 2
unfolding sum_at mixes mixes_derivative mixed_taps
h-more T low w n X X' Y Y' L b c d e otherX otherY e1 ex ey eh =
    let yl : Y T.y_low ≡ Y' T.y_low + e = subst (λ t. Y t ≡ Y' t + e) (sym n.y_low) eh in
    let xl = otherX T.x_low n.x_low in
    let xm = otherX T.x_mid n.x_mid in
    let xh = otherX T.x_high n.x_high in
    let yh = otherY T.y_high n.y_high in
    let mixed : mixes (L 0) (Y T.y_low) (X T.x_low) (X T.x_mid) (X T.x_high) (Y T.y_high)
    ≡ mixes (L 0) (Y' T.y_low) (X' T.x_low) (X' T.x_mid) (X' T.x_high) (Y' T.y_high) + e * mixes_derivative (X' T.x_low) (X' T.x_mid) (X' T.x_high) (Y' T.y_high) =
    (λ i. mixes (L 0) (yl i) (xl i) (xm i) (xh i) (yh i))
    ∙ mixes-more e (L 0) (Y' T.y_low) (X' T.x_low) (X' T.x_mid) (X' T.x_high) (Y' T.y_high) in
    let sx : sum_at X T.h_X ≡ sum_at X' T.h_X + b + c =
    (let rest = sum_at_cong X X' (drop 2 T.h_X) (all_map (λ t. w ≤ t) (λ t. X t ≡ X' t) otherX (drop 2 T.h_X) n.h_X_others) in
    omega (arith, ap (sum_at X) n.h_X, ap (sum_at X') n.h_X, e1, ex, rest)) in
    let sy : sum_at Y T.h_Y ≡ sum_at Y' T.h_Y + d =
    (let rest = sum_at_cong Y Y' (drop 1 T.h_Y) (all_map (λ t. w ≤ t) (λ t. Y t ≡ Y' t) otherY (drop 1 T.h_Y) n.h_Y_others) in
    omega (arith, ap (sum_at Y) n.h_Y, ap (sum_at Y') n.h_Y, ey, rest)) in
    sum-h _ _ (sum_at X T.h_X) (sum_at X' T.h_X) (sum_at Y T.h_Y) (sum_at Y' T.h_Y) b c d _ (h-split T X Y L) (h-split T X' Y' L) mixed sx sy

-- ---- f, g and h of registers moved up

module _ (T : Taps) (lawful : Lawful T) (low : LowTaps) (w : ℕ) (lows : LowTapsOf T low w) where
  pub f-moved : (n a k : ℕ) → a < 2 ^ w → k < w → f T (word_bit ((n * 2 ^ w + a) / 2 ^ k)) ≡ (f T (word_bit ((n * 2 ^ w + 0) / 2 ^ k)) + word_bit a k) % 2
  unfolding f
  f-moved n a k small less =
      let X = word_bit ((n * 2 ^ w + a) / 2 ^ k) in
      let X' = word_bit ((n * 2 ^ w + 0) / 2 ^ k) in
      let ts = T.f_taps in
      let others : (t : ℕ) → w ≤ t → X t ≡ X' t = λ t more. read_other n w a k t small more in
      let none : X' (get_or ts 0 0) ≡ 0 = ap X' lawful.f.first ∙ no_new n w k 0 (omega arith) in
      let new : X (get_or ts 0 0) ≡ word_bit a k =
      read_new n w a k (get_or ts 0 0) small ∙ ap₂ (λ (m t : ℕ). m + word_bit a (k + t)) none lawful.f.first ∙ zero-add (word_bit a (k + 0)) ∙ ap (word_bit a) (add-zero k) in
      let sum = feedback-first ts lawful.f.count X X' none (all_map (λ t. w ≤ t) (λ t. X t ≡ X' t) others (drop 1 ts) lows.f_others) in
      omega (arith, sum, new)

  pub g-moved : (n b k : ℕ) → b < 2 ^ w
      → g T (word_bit ((n * 2 ^ w + b) / 2 ^ k)) ≡ (g T (word_bit ((n * 2 ^ w + 0) / 2 ^ k)) + word_bit b k + word_bit b (k + low.g) * (1 + products_derivative_at (exchange T.g_taps) (word_bit ((n * 2 ^ w + 0) / 2 ^ k)))) % 2
  unfolding g
  g-moved n b k small =
      let Y = word_bit ((n * 2 ^ w + b) / 2 ^ k) in
      let Y' = word_bit ((n * 2 ^ w + 0) / 2 ^ k) in
      let ts = exchange T.g_taps in
      let others : (t : ℕ) → w ≤ t → Y t ≡ Y' t = λ t more. read_other n w b k t small more in
      let first : get_or ts 0 0 ≡ 0 = (first-at_zero T.g_taps lawful.g).first in
      let e0 : Y (get_or ts 0 0) ≡ Y' (get_or ts 0 0) + word_bit b k =
      read_new n w b k (get_or ts 0 0) small ∙ ap (λ (i : ℕ). Y' (get_or ts 0 0) + word_bit b i) (ap (λ (t : ℕ). k + t) first ∙ add-zero k) in
      let e1 : Y (get_or ts 1 0) ≡ Y' (get_or ts 1 0) + word_bit b (k + low.g) =
      read_new n w b k (get_or ts 1 0) small ∙ ap (λ (t : ℕ). Y' (get_or ts 1 0) + word_bit b (k + t)) lows.g_low in
      feedback-more ts (first-at_zero T.g_taps lawful.g).count Y Y' (word_bit b k) (word_bit b (k + low.g)) e0 e1
      (all_map (λ t. w ≤ t) (λ t. Y t ≡ Y' t) others (drop 2 ts) lows.g_others)

  pub h-moved : (m n a b k : ℕ) (L : ℕ → ℕ) → a < 2 ^ w → b < 2 ^ w
      → h T (word_bit ((m * 2 ^ w + a) / 2 ^ k)) (word_bit ((n * 2 ^ w + b) / 2 ^ k)) L
      ≡ (h T (word_bit ((m * 2 ^ w + 0) / 2 ^ k)) (word_bit ((n * 2 ^ w + 0) / 2 ^ k)) L + word_bit a (k + 1) + word_bit a (k + low.x) + word_bit b (k + low.y)
      + word_bit b (k + low.h) * mixes_derivative (word_bit ((m * 2 ^ w + 0) / 2 ^ k) T.x_low) (word_bit ((m * 2 ^ w + 0) / 2 ^ k) T.x_mid) (word_bit ((m * 2 ^ w + 0) / 2 ^ k) T.x_high) (word_bit ((n * 2 ^ w + 0) / 2 ^ k) T.y_high)) % 2
  h-moved m n a b k L smallA smallB =
      h-more T low w lows (word_bit ((m * 2 ^ w + a) / 2 ^ k)) (word_bit ((m * 2 ^ w + 0) / 2 ^ k)) (word_bit ((n * 2 ^ w + b) / 2 ^ k)) (word_bit ((n * 2 ^ w + 0) / 2 ^ k)) L
      (word_bit a (k + 1)) (word_bit a (k + low.x)) (word_bit b (k + low.y)) (word_bit b (k + low.h)) (λ t more. read_other m w a k t smallA more)
      (λ t more. read_other n w b k t smallB more) (read_new m w a k 1 smallA) (read_new m w a k low.x smallA) (read_new n w b k low.y smallB)
      (read_new n w b k low.h smallB)
