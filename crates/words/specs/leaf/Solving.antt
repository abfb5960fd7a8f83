-- The bits that a group has to find when it is undone, and the equations that they solve. A bit is the sum of terms that are known and of
-- what g and h read of the bits that are to be found. Only the contracts of private functions cite these forms.
use Rattle.std.specs.Prelude.{List, ◌≡◌, ℕ, ◌+◌, ◌*◌, ◌%◌, ◌^◌, ◌<◌, ◌≤◌, get_or}
use Rattle.quark.specs.Feedback.{Taps, exchange}
use Rattle.quark.specs.Word.{word_bit}
use Rattle.words.specs.declared.Register.{Register}
use Rattle.words.specs.declared.RegisterWords.{RegisterWords}
use Rattle.words.specs.declared.back.Derivatives.{Derivatives}
use Rattle.words.specs.declared.back.LowTaps.{LowTaps}
use Rattle.words.specs.declared.feedback.Feedback.{Feedback}
use Rattle.words.specs.declared.feedback.StepBits.{StepBits}
use Rattle.words.specs.declared.taps.MixedTaps.{MixedTaps}
use Rattle.words.specs.Words.{value}
use Rattle.words.specs.leaf.FeedbackWords.{in_step, mixed_taps}

-- ---- derivatives

-- by how much the products of f's sum change with the bit at a1
unfoldable pub products_derivative : (a3 a4 a5 a6 a8 a12 : ℕ) → ℕ
products_derivative a3 a4 a5 a6 a8 a12 = a3 + a5 * a8 * a12 + a3 * a4 * a5 * a6

-- by how much the products over a list of taps change with the bit at a1
unfoldable pub products_derivative_at : List ℕ → (ℕ → ℕ) → ℕ
products_derivative_at taps Y =
    let a : ℕ → ℕ = λ k. Y (get_or taps k 0) in
    products_derivative (a 3) (a 4) (a 5) (a 6) (a 8) (a 12)

-- by how much h changes with the bit y3
unfoldable pub mixes_derivative : (x25 x46 x55 y59 : ℕ) → ℕ
mixes_derivative x25 x46 x55 y59 = x55 + x25 * x46 + x46 * x55 + x46 * y59

abbrev pub mixes_derivative_at : MixedTaps → (X Y : ℕ → ℕ) → ℕ
mixes_derivative_at taps X Y = mixes_derivative (X taps.x_low) (X taps.x_mid) (X taps.x_high) (Y taps.y_high)

-- the derivatives of g's products and of h in step k
pub record DerivativeBits (T : Taps) (x y : Register) (d : Derivatives) (k : ℕ) : Type 0 where
  pub of_G : word_bit d.g k ≡ products_derivative_at (exchange T.g_taps) (in_step k y) % 2
  pub of_H : word_bit d.h k ≡ mixes_derivative_at (mixed_taps T) (in_step k x) (in_step k y) % 2

-- ---- the equations

-- the known terms of the bits of X and of Y before step k, added: for X what X and Y gained, f and g; for Y what Y gained, g and h
unfoldable pub known_X : RegisterWords → (words : Feedback) (kept k : ℕ) → ℕ
known_X s words kept k = word_bit (value s.x) (kept + k) + word_bit words.f k + (word_bit (value s.y) (kept + k) + word_bit words.g k)

unfoldable pub known_Y : RegisterWords → (words : Feedback) (kept k : ℕ) → ℕ
known_Y s words kept k = word_bit (value s.y) (kept + k) + word_bit words.g k + word_bit words.h k

-- words of w bits that have them
pub record KnownTerms (s : RegisterWords) (words : Feedback) (kept w : ℕ) (known : StepBits) : Type 0 where
  pub few_X : known.x < 2 ^ w
  pub few_Y : known.y < 2 ^ w
  pub bit_X : (k : ℕ) → k < w → word_bit known.x k ≡ known_X s words kept k % 2
  pub bit_Y : (k : ℕ) → k < w → word_bit known.y k ≡ known_Y s words kept k % 2

-- what g and h add in step k by the bits that are to be found: g by its low tap, h by X1 and its low taps
unfoldable pub read_by_G : LowTaps → Derivatives → (new : StepBits) → ℕ → ℕ
read_by_G taps d new k = word_bit new.y (k + taps.g) * (1 + word_bit d.g k)

unfoldable pub read_by_H : LowTaps → Derivatives → (new : StepBits) → ℕ → ℕ
read_by_H taps d new k =
    word_bit new.x (k + 1) + word_bit new.x (k + taps.x) + word_bit new.y (k + taps.y) + word_bit new.y (k + taps.h) * word_bit d.h k

-- words of w bits that solve the equations with known terms
pub record Solved (known : StepBits) (d : Derivatives) (taps : LowTaps) (w : ℕ) (new : StepBits) : Type 0 where
  pub few_X : new.x < 2 ^ w
  pub few_Y : new.y < 2 ^ w
  pub bit_X : (k : ℕ) → word_bit new.x k ≡ (word_bit known.x k + read_by_G taps d new k) % 2
  pub bit_Y : (k : ℕ) → word_bit new.y k ≡ (word_bit known.y k + read_by_G taps d new k + read_by_H taps d new k) % 2

-- low taps with which the bits of w steps can be found, the last one first: h's taps in Y are above 0, and the bits that g's low tap
-- changes, those below place w - g, are read again by X1 alone
pub record Solvable (taps : LowTaps) (w : ℕ) : Type 0 where
  pub above : 0 < taps.y
  pub ordered : taps.y ≤ taps.h
  pub inside : (taps.x < 64) × (taps.h < 64) × (taps.g < 64) × (w < 64)
  pub past_X : w ≤ taps.g + taps.x
  pub past_Y : w ≤ taps.g + taps.y
  pub past_G : w ≤ taps.g + taps.g
