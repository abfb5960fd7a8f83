-- f, g and h in words: bit k of a word is the bit of step k of a group. Only the contracts of private functions cite these forms.
use Rattle.std.specs.Prelude.{List, [], ◌∷◌, ◌≡◌, ℕ, zero, suc, ◌+◌, ◌*◌, ◌/◌, ◌%◌, ◌^◌, ◌<◌, get_or}
use Rattle.quark.specs.Feedback.{Taps, exchange, f, g, h, sum_at}
use Rattle.quark.specs.Word.{word_bit}
use Rattle.quark.specs.leaf.Places.{places_from}
use Rattle.words.specs.declared.Register.{Register}
use Rattle.words.specs.declared.feedback.Feedback.{Feedback}
use Rattle.words.specs.declared.feedback.StepBits.{StepBits}
use Rattle.words.specs.declared.taps.Masks.{Masks}
use Rattle.words.specs.declared.taps.MixedTaps.{MixedTaps}
use Rattle.words.specs.Words.{value}

-- the bits of a register in step k of a group: those from place k on
abbrev pub in_step : ℕ → Register → ℕ → ℕ
in_step k r = word_bit (value r / 2 ^ k)

-- taps that are places of a register
abbrev pub InRegister : List ℕ → Type 0
InRegister taps = (k : ℕ) → get_or taps k 0 < 128

-- ---- f and g: products and linear taps

-- the products of f's sum, of the bits at a1, a3 to a8 and a10 to a12
unfoldable pub products : (a1 a3 a4 a5 a6 a7 a8 a10 a11 a12 : ℕ) → ℕ
products a1 a3 a4 a5 a6 a7 a8 a10 a11 a12 =
    a11 * a12 + a6 * a7 + a1 * a3
    + a8 * a10 * a11 + a4 * a5 * a6
    + a1 * a5 * a8 * a12 + a6 * a7 * a10 * a11 + a3 * a4 * a11 * a12
    + a7 * a8 * a10 * a11 * a12 + a1 * a3 * a4 * a5 * a6
    + a4 * a5 * a6 * a7 * a8 * a10

-- the products of f's sum over a list of taps
unfoldable pub products_at : List ℕ → (ℕ → ℕ) → ℕ
products_at taps X =
    let a : ℕ → ℕ = λ k. X (get_or taps k 0) in
    products (a 1) (a 3) (a 4) (a 5) (a 6) (a 7) (a 8) (a 10) (a 11) (a 12)

-- the linear taps of f's sum
unfoldable pub linear_taps : List ℕ → List ℕ
linear_taps taps =
    get_or taps 0 0 ∷ get_or taps 1 0 ∷ get_or taps 2 0 ∷ get_or taps 4 0 ∷ get_or taps 5 0 ∷ get_or taps 6 0
    ∷ get_or taps 7 0 ∷ get_or taps 8 0 ∷ get_or taps 9 0 ∷ get_or taps 10 0 ∷ get_or taps 11 0 ∷ []

-- masks whose places are the linear taps of f and of g; 16 bits of the two words are left to move a mask up
pub record Masking (T : Taps) (m : Masks) : Type 0 where
  pub f_places : places_from 128 0 (value m.f) ≡ linear_taps T.f_taps
  pub g_places : places_from 128 0 (value m.g) ≡ linear_taps (exchange T.g_taps)
  pub f_narrow : value m.f < 2 ^ 112
  pub g_narrow : value m.g < 2 ^ 112

-- the sum of a number's bits at the places of a mask, each moved up by j
unfoldable pub mask_sum : (n mask j : ℕ) → ℕ
mask_sum n mask j = sum_at (word_bit (n / 2 ^ j)) (places_from 128 0 mask) % 2

-- a word of w bits, given bit by bit, lowest first
unfoldable pub pack : (ℕ → ℕ) → ℕ → ℕ
pack b zero = zero
pack b (suc j) = b j * 2 ^ j + pack b j

-- the sums of w steps under masks over X and Y
pub record MaskSums (x y : Register) (m : Masks) (w : ℕ) (sums : StepBits) : Type 0 where
  pub over_X : sums.x ≡ pack (mask_sum (value x) (value m.f)) w
  pub over_Y : sums.y ≡ pack (mask_sum (value y) (value m.g)) w

-- a mask of the tap 0 and of other taps within 61 places from `first` on: four steps read those in one word
pub record OneWord (mask first : ℕ) : Type 0 where
  pub place : (0 < first) × (first < 64)
  pub begins : mask % 2 ^ first ≡ 1
  pub ends : mask < 2 ^ (61 + first)

-- ---- h

-- the taps of h's products
unfoldable pub mixed_taps : Taps → MixedTaps
mixed_taps T = record { y_low = T.y_low; x_low = T.x_low; x_mid = T.x_mid; x_high = T.x_high; y_high = T.y_high }

pub record MixedInRegister (taps : MixedTaps) : Type 0 where
  pub y_low : taps.y_low < 128
  pub x_low : taps.x_low < 128
  pub x_mid : taps.x_mid < 128
  pub x_high : taps.x_high < 128
  pub y_high : taps.y_high < 128

-- h without the bits of X and Y that it adds by themselves
unfoldable pub mixes : (l y3 x25 x46 x55 y59 : ℕ) → ℕ
mixes l y3 x25 x46 x55 y59 =
    l + y3 * x55 + x46 * x55 + x55 * y59 + y3 * x25 * x46 + y3 * x46 * x55 + y3 * x46 * y59 + l * x25 * x46 * y59 + l * x25

abbrev pub mixes_at : MixedTaps → (X Y : ℕ → ℕ) → ℕ → ℕ
mixes_at taps X Y l = mixes l (Y taps.y_low) (X taps.x_low) (X taps.x_mid) (X taps.x_high) (Y taps.y_high)

-- ---- the steps of a group

-- words whose bits are f, g and h of registers in w steps, where bit k of l is L0 in step k
pub record FeedbackBits (T : Taps) (w : ℕ) (x y : Register) (l : ℕ) (words : Feedback) : Type 0 where
  pub of_F : (k : ℕ) → k < w → word_bit words.f k ≡ f T (in_step k x)
  pub of_G : (k : ℕ) → k < w → word_bit words.g k ≡ g T (in_step k y)
  pub of_H : (k : ℕ) → k < w → word_bit words.h k ≡ h T (in_step k x) (in_step k y) (λ i. word_bit l k)
