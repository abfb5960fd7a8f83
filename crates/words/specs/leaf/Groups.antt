-- Groups of steps that are taken, or undone, together on registers in words: their widths, and where they lead. Only the contracts of
-- private functions cite these forms.
use Rattle.std.specs.Prelude.{◌⊎◌, List, ◌≡◌, ℕ, ◌+◌, ◌*◌, ◌/◌, ◌%◌, ◌^◌, ◌<◌}
use Rattle.quark.specs.Bytes.{bit}
use Rattle.quark.specs.Feedback.{Taps}
use Rattle.quark.specs.Step.{steps, steps_L}
use Rattle.quark.specs.Word.{word_bit, word_bits}
use Rattle.words.specs.declared.RegisterWords.{RegisterWords}
use Rattle.words.specs.declared.feedback.Feedback.{Feedback}
use Rattle.words.specs.declared.feedback.StepBits.{StepBits}
use Rattle.words.specs.Words.{value, registers_of}
use Rattle.words.specs.leaf.FeedbackWords.{in_step}

-- the width of a group
abbrev pub Width : ℕ → Type 0
Width w = (w ≡ 8) ⊎ (w ≡ 16)

-- the width of an instance's groups: 8, and 16 too where a half is 128 bits, as in S
abbrev pub WidthIn : Taps → ℕ → Type 0
WidthIn T w = (w ≡ 8) ⊎ ((T.half ≡ 128) × (w ≡ 16))

-- r is L after n steps from l
pub record SteppedL (n l r : ℕ) : Type 0 where
  pub fits : r < 1024
  pub stepped : word_bits 10 r ≡ steps_L n (word_bits 10 l)

-- r is L before n steps that lead to l
pub record PrecedingL (n l r : ℕ) : Type 0 where
  pub fits : r < 1024
  pub redone : steps_L n (word_bits 10 r) ≡ word_bits 10 l

-- the word of L's first bits in w steps
abbrev pub Firsts : ℕ → List ℕ → ℕ → Type 0
Firsts w r word = (k : ℕ) → k < w → bit (steps_L k r) 0 ≡ word_bit word k

-- words hold no more than the registers' bits
pub record Fitting (T : Taps) (s : RegisterWords) : Type 0 where
  pub fits_X : value s.x < 2 ^ T.half
  pub fits_Y : value s.y < 2 ^ T.half
  pub fits_L : s.l < 1024

-- the words t are those of s after n steps
pub record Stepped (T : Taps) (n : ℕ) (s t : RegisterWords) : Type 0 where
  pub fitting : Fitting T t
  pub stepped : registers_of T t ≡ steps T n (registers_of T s)

-- the words t, taken n steps, are s
pub record Preceding (T : Taps) (n : ℕ) (s t : RegisterWords) : Type 0 where
  pub fitting : Fitting T t
  pub redone : steps T n (registers_of T t) ≡ registers_of T s

-- the registers of t are those of s after w steps: moved down by w, with w new bits after those kept. In each step X gains Y0, f and h, and
-- Y gains g and h.
pub record AfterGroup (s : RegisterWords) (words : Feedback) (kept w : ℕ) (t : RegisterWords) : Type 0 where
  pub new : StepBits
  pub few_X : new.x < 2 ^ w
  pub few_Y : new.y < 2 ^ w
  pub moved_X : value t.x ≡ new.x * 2 ^ kept + value s.x / 2 ^ w
  pub moved_Y : value t.y ≡ new.y * 2 ^ kept + value s.y / 2 ^ w
  pub bit_X : (k : ℕ) → k < w → word_bit new.x k ≡ (in_step k s.y 0 + word_bit words.f k + word_bit words.h k) % 2
  pub bit_Y : (k : ℕ) → k < w → word_bit new.y k ≡ (word_bit words.g k + word_bit words.h k) % 2
