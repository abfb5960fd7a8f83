-- A group of w steps undone: the registers that were found lead, in w steps, to where it began.
use mathlib.Core.Path.{◌≡◌, sym, ap, ap₂, ◌∙◌, subst}
use Prim.Native.Nat.{ℕ, zero, suc, ◌+◌, ◌*◌, ◌/◌, ◌%◌, ◌^◌, ◌<◌}
use native.Mathlib.Nat.{add-mod-mod, zero-mul, one-mul}
use native.Mathlib.Omega.{arith}
use Rattle.quark.specs.Feedback.{Taps, exchange, f, g, h}
use Rattle.quark.specs.Step.{Registers, steps}
use Rattle.quark.specs.Word.{word_bit, word_bits}
use Rattle.quark.specs.Together.{gain_X, gain_Y, gains, moved}
use Rattle.quark.proofs.Together.{registers-path, steps-together}
use Rattle.quark.proofs.Word.{word_bit-lt, length-word_bits}
use Rattle.words.specs.declared.Register.{Register}
use Rattle.words.specs.declared.RegisterWords.{RegisterWords}
use Rattle.words.specs.declared.back.Derivatives.{Derivatives}
use Rattle.words.specs.declared.back.LowTaps.{LowTaps}
use Rattle.words.specs.declared.feedback.Feedback.{Feedback}
use Rattle.words.specs.Words.{value, word_registers, registers_of}
use Rattle.words.specs.leaf.FeedbackWords.{in_step, mixed_taps, FeedbackBits}
use Rattle.words.specs.leaf.Groups.{Firsts, PrecedingL, Preceding}
use Rattle.words.specs.leaf.Solving.{products_derivative_at, mixes_derivative, mixes_derivative_at, DerivativeBits, known_X, known_Y, read_by_G, read_by_H}
use Rattle.words.proofs.Solving.{BeforeGroup}
use Rattle.words.proofs.Gained.{gained-x, gained-y}
use Rattle.words.specs.leaf.TapsOf.{Grouping}
use Rattle.words.specs.leaf.TapsOf.{LowTapsOf}
use Rattle.words.proofs.MovedUp.{up_lt, up_moved}
use Rattle.words.proofs.NewBits.{read_first, f-moved, g-moved, h-moved}

-- a number moved up by w, with w new digits below the p digits that are kept
abbrev pub raised : (w n p new : ℕ) → ℕ
raised w n p new = n % 2 ^ p * 2 ^ w + new

-- ---- sums of bits

-- a bit times a number goes by the number's parity
times : (c m n : ℕ) → c < 2 → m % 2 ≡ n % 2 → c * m % 2 ≡ c * n % 2
times zero m n less e = ap (λ (k : ℕ). k % 2) (zero-mul m ∙ sym (zero-mul n))
times (suc zero) m n less e = ap (λ (k : ℕ). k % 2) (one-mul m) ∙ e ∙ ap (λ (k : ℕ). k % 2) (sym (one-mul n))
times (suc (suc c)) m n less e = absurd (omega arith)

-- a bit that a number is, as the parity of itself
even : (n k : ℕ) {m : ℕ} → word_bit n k ≡ m → m ≡ word_bit n k % 2
even n k e = let b = word_bit-lt n k in omega arith

-- sums whose parts have the same parity
same-f : (a b : ℕ) {s r : ℕ} → s ≡ (r + b) % 2 → r ≡ a % 2 → s ≡ (a + b) % 2
same-f a b es er = omega arith

same-g : (a b c d : ℕ) {s r : ℕ} → s ≡ (r + b + c) % 2 → r ≡ a % 2 → c % 2 ≡ d % 2 → s ≡ (a + b + d) % 2
same-g a b c d es er e = omega arith

same-h : (p q r c d : ℕ) {s n a : ℕ} → s ≡ (n + p + q + r + c) % 2 → a ≡ n → c % 2 ≡ d % 2 → s ≡ (a + (p + q + r + d)) % 2
same-h p q r c d es en e = omega arith

sum_both : (gx fs t u : ℕ) {a b ff : ℕ} → gx < 2 → a ≡ (gx + fs + t) % 2 → b ≡ (t + u) % 2 → ff ≡ (fs + a) % 2 → (b + ff + u) % 2 ≡ gx
sum_both gx fs t u bound ea eb ef = omega arith

-- X gained the sum of Y0, f and h, where a is X0 and b is Y0
sum-x : (gx gy fs gs q hs r : ℕ) {a b ff hh : ℕ} → gx < 2 → a ≡ (gx + fs + (gy + gs) + q) % 2 → b ≡ (gy + gs + hs + q + r) % 2 → ff ≡ (fs + a) % 2
    → hh ≡ (hs + r) % 2 → (b + ff + hh) % 2 ≡ gx
sum-x gx gy fs gs q hs r {a} {b} {ff} bound ea eb ef eh =
    let k : gx + fs + (gy + gs) + q ≡ gx + fs + (gy + gs + q) = omega arith in
    let m : gy + gs + hs + q + r ≡ gy + gs + q + (hs + r) = omega arith in
    ap (λ (n : ℕ). (b + ff + n) % 2) eh
    ∙ add-mod-mod (b + ff) (hs + r) 2
    ∙ sum_both gx fs (gy + gs + q) (hs + r) bound (ea ∙ ap (λ (n : ℕ). n % 2) k) (eb ∙ ap (λ (n : ℕ). n % 2) m) ef

-- Y gained the sum of g and h
sum-y : (gy gs q hs r : ℕ) {b gg hh : ℕ} → gy < 2 → b ≡ (gy + gs + hs + q + r) % 2 → gg ≡ (gs + b + q) % 2 → hh ≡ (hs + r) % 2 → (gg + hh) % 2 ≡ gy
sum-y gy gs q hs r bound eb eg eh = omega arith

-- ---- the group

-- x0 and y0 are the registers moved up with 0 for the new bits; f, g, h and the derivatives are theirs
module _ {T : Taps} {w kept : ℕ} (G : Grouping T w kept) {taps : LowTaps} (lows : LowTapsOf T taps w) {s : RegisterWords} (before word : ℕ)
    (firsts : Firsts w (word_bits 10 before) word) {x0 y0 : Register} (ex0 : value x0 ≡ raised w (value s.x) kept 0) (ey0 : value y0 ≡ raised w (value s.y) kept 0)
    {words : Feedback} (bits : FeedbackBits T w x0 y0 word words) {d : Derivatives}
    (derivatives : (k : ℕ) → k < 64 → DerivativeBits T x0 y0 d k) {t : RegisterWords} (found : BeforeGroup s words d taps kept w t) where
  -- the words of X and Y that were found
  x1 : ℕ
  x1 = raised w (value s.x) kept found.new.x

  y1 : ℕ
  y1 = raised w (value s.y) kept found.new.y

  module _ (k : ℕ) (less : k < w) where
    within : k < 64
    within = omega (arith, G.few)

    -- f, g and h of the registers that were found
    f-found : f T (word_bit (x1 / 2 ^ k)) ≡ (word_bit words.f k + word_bit found.new.x k) % 2
    unfolding x1
    f-found =
        same-f (word_bit words.f k) (word_bit found.new.x k)
        (f-moved T G.lawful taps w lows (value s.x % 2 ^ kept) found.new.x k found.few_X less
        ∙ ap (λ (n : ℕ). (f T (word_bit (n / 2 ^ k)) + word_bit found.new.x k) % 2) (sym ex0))
        (even words.f k (bits.of_F k less))

    g-found : g T (word_bit (y1 / 2 ^ k)) ≡ (word_bit words.g k + word_bit found.new.y k + read_by_G taps d found.new k) % 2
    unfolding y1 read_by_G
    g-found =
        let new = found.new.y in
        let derivative : (1 + products_derivative_at (exchange T.g_taps) (in_step k y0)) % 2 ≡ (1 + word_bit d.g k) % 2 =
        omega (arith, (derivatives k within).of_G) in
        same-g (word_bit words.g k) (word_bit new k) _ _
        (g-moved T G.lawful taps w lows (value s.y % 2 ^ kept) new k found.few_Y
        ∙ ap (λ (n : ℕ). (g T (word_bit (n / 2 ^ k)) + word_bit new k + word_bit new (k + taps.g) * (1 + products_derivative_at (exchange T.g_taps) (word_bit (n / 2 ^ k)))) % 2) (sym ey0))
        (even words.g k (bits.of_G k less))
        (times (word_bit new (k + taps.g)) _ _ (word_bit-lt new (k + taps.g)) derivative)

    h-found : h T (word_bit (x1 / 2 ^ k)) (word_bit (y1 / 2 ^ k)) (λ i. word_bit word k) ≡ (word_bit words.h k + read_by_H taps d found.new k) % 2
    unfolding x1 y1 read_by_H mixes_derivative mixed_taps
    h-found =
        let a = found.new.x in
        let b = found.new.y in
        let atZeros : (m n : ℕ) → ℕ = λ m n.
        h T (word_bit (m / 2 ^ k)) (word_bit (n / 2 ^ k)) (λ i. word_bit word k) + word_bit a (k + 1) + word_bit a (k + taps.x) + word_bit b (k + taps.y)
        + word_bit b (k + taps.h) * mixes_derivative (word_bit (m / 2 ^ k) T.x_low) (word_bit (m / 2 ^ k) T.x_mid) (word_bit (m / 2 ^ k) T.x_high) (word_bit (n / 2 ^ k) T.y_high) in
        let derivative : mixes_derivative_at (mixed_taps T) (in_step k x0) (in_step k y0) % 2 ≡ word_bit d.h k % 2 =
        omega (arith, (derivatives k within).of_H) in
        same-h (word_bit a (k + 1)) (word_bit a (k + taps.x)) (word_bit b (k + taps.y)) _ _
        (h-moved T G.lawful taps w lows (value s.x % 2 ^ kept) (value s.y % 2 ^ kept) a b k (λ i. word_bit word k) found.few_X found.few_Y
        ∙ ap₂ (λ (m n : ℕ). atZeros m n % 2) (sym ex0) (sym ey0))
        (bits.of_H k less)
        (times (word_bit b (k + taps.h)) _ _ (word_bit-lt b (k + taps.h)) derivative)

    y_first : word_bit (y1 / 2 ^ k) 0 ≡ word_bit found.new.y k
    unfolding y1
    y_first = read_first (value s.y % 2 ^ kept) w found.new.y k found.few_Y less

    -- so they gain what x and y gained
    gains-x : gains gain_X T (word_registers T x1 y1 before) k ≡ word_bit (value s.x) (kept + k)
    unfolding gain_X known_X known_Y
    gains-x =
        gained-x G x1 y1 before word firsts k less
        ∙ sum-x (word_bit (value s.x) (kept + k)) (word_bit (value s.y) (kept + k)) (word_bit words.f k)
        (word_bit words.g k) (read_by_G taps d found.new k) (word_bit words.h k) (read_by_H taps d found.new k)
        (word_bit-lt (value s.x) (kept + k)) (found.bit_X k less) (y_first ∙ found.bit_Y k less) f-found h-found

    gains-y : gains gain_Y T (word_registers T x1 y1 before) k ≡ word_bit (value s.y) (kept + k)
    unfolding gain_Y known_Y
    gains-y =
        gained-y G x1 y1 before word firsts k less
        ∙ sum-y (word_bit (value s.y) (kept + k)) (word_bit words.g k) (read_by_G taps d found.new k) (word_bit words.h k)
        (read_by_H taps d found.new k) (word_bit-lt (value s.y) (kept + k)) (found.bit_Y k less) g-found h-found

  back-steps : PrecedingL w s.l before → steps T w (word_registers T x1 y1 before) ≡ registers_of T s
  unfolding word_registers moved x1 y1
  back-steps el =
      let start : Registers = word_registers T x1 y1 before in
      let half = T.half in
      steps-together T G.lawful w G.reach start (length-word_bits half x1) (length-word_bits half y1)
      ∙ registers-path (up_moved half (value s.x) kept w found.new.x (gains gain_X T start) G.whole found.few_X gains-x)
      (up_moved half (value s.y) kept w found.new.y (gains gain_Y T start) G.whole found.few_Y gains-y) el.redone

  fits : (n new : ℕ) {m : ℕ} → new < 2 ^ w → m ≡ raised w n kept new → m < 2 ^ T.half
  fits n new {m} few e = subst (λ (k : ℕ). m < 2 ^ k) G.whole (subst (λ (k : ℕ). k < 2 ^ (w + kept)) (sym e) (up_lt n kept w new few))

  pub group_back_steps : t.l ≡ before → PrecedingL w s.l before → Preceding T w s t
  unfolding x1 y1
  group_back_steps e el = record {
    fitting = record {
      fits_X = fits (value s.x) found.new.x found.few_X found.moved_X;
      fits_Y = fits (value s.y) found.new.y found.few_Y found.moved_Y;
      fits_L = subst (λ (n : ℕ). n < 1024) (sym e) el.fits;
    };
    redone = (λ i. steps T w (word_registers T (found.moved_X i) (found.moved_Y i) (e i))) ∙ back-steps el;
  }
