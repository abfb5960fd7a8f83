-- f, g and h as the words have them: products and linear taps, h's mixed part and the bits that it adds by themselves. Words whose bits are
-- f, g and h in the steps of a group.
use mathlib.Core.List.{List, [], ◌∷◌}
use mathlib.Core.Path.{◌≡◌, sym, ap, ap₂, ◌∙◌}
use Prim.Native.Nat.{ℕ, zero, suc, ◌+◌, ◌/◌, ◌%◌, ◌^◌, ◌<◌, ◌≤◌}
use native.Mathlib.Nat.{add_comm, add-mod, mod-add-mod, zero-div, le_of_suc-le-suc, not-suc-le-zero}
use native.Mathlib.Omega.{arith}
use lib.Bits.{bit_xor}
use lib.ListN.{length, get_or, take}
use Rattle.quark.specs.Feedback.{Taps, feedback, exchange, f, g, sum_at, h}
use Rattle.quark.specs.Word.{word_bit}
use Rattle.quark.specs.leaf.Places.{places_from}
use Rattle.quark.proofs.Word.{word_bit-xor}
use Rattle.words.specs.declared.Register.{Register}
use Rattle.words.specs.declared.feedback.StepBits.{StepBits}
use Rattle.words.specs.declared.taps.Masks.{Masks}
use Rattle.words.specs.declared.taps.MixedTaps.{MixedTaps}
use Rattle.words.specs.Words.{value}
use Rattle.words.specs.leaf.FeedbackWords.{in_step, products, products_at, linear_taps, Masking, mask_sum, pack, MaskSums, mixed_taps, mixes, mixes_at, FeedbackBits}
use Rattle.words.proofs.Sums.{mask_sum-lt, bit-pack}

-- ---- f and g

pub feedback-split : (taps : List ℕ) (X : ℕ → ℕ) → feedback taps X ≡ (sum_at X (linear_taps taps) + products_at taps X) % 2
unfolding feedback sum_at linear_taps products_at products
feedback-split taps X = omega arith

-- f's sum in step k: the products, and the linear taps under a mask
feedback-words : (taps : List ℕ) (n mask w k productBits sums : ℕ) → k < w → places_from 128 0 mask ≡ linear_taps taps
    → word_bit productBits k ≡ products_at taps (word_bit (n / 2 ^ k)) % 2 → sums ≡ pack (mask_sum n mask) w
    → word_bit (bit_xor productBits sums) k ≡ feedback taps (word_bit (n / 2 ^ k))
unfolding mask_sum
feedback-words taps n mask w k productBits sums less places ep es =
    let X = word_bit (n / 2 ^ k) in
    let linear : word_bit sums k ≡ sum_at X (linear_taps taps) % 2 =
    ap (λ (m : ℕ). word_bit m k) es ∙ bit-pack (mask_sum n mask) (mask_sum-lt n mask) w k less ∙ ap (λ (ts : List ℕ). sum_at X ts % 2) places in
    word_bit-xor productBits sums k
    ∙ sym (feedback-split taps X
    ∙ add-mod (sum_at X (linear_taps taps)) (products_at taps X) 2
    ∙ ap₂ (λ (a b : ℕ). (a + b) % 2) (sym linear) (sym ep)
    ∙ ap (λ (m : ℕ). m % 2) (add_comm (word_bit sums k) (word_bit productBits k)))

-- ---- h

pub h-split : (T : Taps) (X Y L : ℕ → ℕ) → h T X Y L ≡ (mixes_at (mixed_taps T) X Y (L 0) + sum_at X T.h_X + sum_at Y T.h_Y) % 2
unfolding h mixes mixed_taps
h-split T X Y L = omega arith

-- bits at taps added one by one: at none, at one tap more
pub none_yet : (X : ℕ → ℕ) (taps : List ℕ) (k : ℕ) → word_bit 0 k ≡ sum_at X (take 0 taps) % 2
unfolding word_bit sum_at
none_yet X taps k = ap (λ (n : ℕ). n % 2) (zero-div (2 ^ k))

sum-next : (X : ℕ → ℕ) (taps : List ℕ) (i : ℕ) → i < length taps → sum_at X (take (suc i) taps) ≡ sum_at X (take i taps) + X (get_or taps i 0)
unfolding sum_at
sum-next X [] i less = absurd (not-suc-le-zero less)
sum-next X (t ∷ ts) zero less = omega arith
sum-next X (t ∷ ts) (suc i) less = ap (λ (n : ℕ). X t + n) (sum-next X ts i (le_of_suc-le-suc less)) ∙ omega arith

pub one_more : (X : ℕ → ℕ) (taps : List ℕ) (i k sum w : ℕ) → i < length taps → word_bit sum k ≡ sum_at X (take i taps) % 2
    → word_bit w k ≡ X (get_or taps i 0) → word_bit (bit_xor sum w) k ≡ sum_at X (take (i + 1) taps) % 2
one_more X taps i k sum w less before at-tap =
    let e : suc i ≡ i + 1 = omega arith in
    word_bit-xor sum w k
    ∙ ap₂ (λ (a b : ℕ). (a + b) % 2) before at-tap
    ∙ mod-add-mod (sum_at X (take i taps)) 2 (X (get_or taps i 0))
    ∙ ap (λ (n : ℕ). n % 2) (sym (sum-next X taps i less))
    ∙ ap (λ (n : ℕ). sum_at X (take n taps) % 2) e

pub two_sums : (k p q m n : ℕ) → word_bit p k ≡ m % 2 → word_bit q k ≡ n % 2 → word_bit (bit_xor p q) k ≡ (m + n) % 2
two_sums k p q m n e1 e2 = let e : (m % 2 + n % 2) % 2 ≡ (m + n) % 2 = omega arith in word_bit-xor p q k ∙ ap₂ (λ (a b : ℕ). (a + b) % 2) e1 e2 ∙ e

-- ---- the steps of a group

pub feedback-bits : {T : Taps} {w : ℕ} {x y : Register} {m : Masks} {sums : StepBits} (l pf pg mixed alone : ℕ) {F G : List ℕ} {H : MixedTaps} → w ≤ 16 → Masking T m
    → MaskSums x y m w sums → F ≡ T.f_taps → G ≡ exchange T.g_taps → H ≡ mixed_taps T
    → ((k : ℕ) → k < 64 → word_bit pf k ≡ products_at F (in_step k x) % 2)
    → ((k : ℕ) → k < 64 → word_bit pg k ≡ products_at G (in_step k y) % 2)
    → ((k : ℕ) → k < 64 → word_bit mixed k ≡ mixes_at H (in_step k x) (in_step k y) (word_bit l k) % 2)
    → ((k : ℕ) → k < 64 → word_bit alone k ≡ (sum_at (in_step k x) T.h_X + sum_at (in_step k y) T.h_Y) % 2)
    → FeedbackBits T w x y l (record { f = bit_xor pf sums.x; g = bit_xor pg sums.y; h = bit_xor mixed alone })
unfolding f g
feedback-bits {T} {w} {x} {y} {m} {sums} l pf pg mixed alone {F} {G} {H} few masking linear ef eg eh bf bg bm ba = record {
  of_F = λ k less.
      feedback-words T.f_taps (value x) (value m.f) w k pf sums.x less masking.f_places
      (bf k (omega arith) ∙ ap (λ (ts : List ℕ). products_at ts (in_step k x) % 2) ef) linear.over_X;
  of_G = λ k less.
      feedback-words (exchange T.g_taps) (value y) (value m.g) w k pg sums.y less masking.g_places
      (bg k (omega arith) ∙ ap (λ (ts : List ℕ). products_at ts (in_step k y) % 2) eg) linear.over_Y;
  of_H = λ k less.
      let X = in_step k x in
      let Y = in_step k y in
      let a = mixes_at (mixed_taps T) X Y (word_bit l k) in
      let b = sum_at X T.h_X in
      let c = sum_at Y T.h_Y in
      let e : (a % 2 + (b + c) % 2) % 2 ≡ (a + b + c) % 2 = omega arith in
      word_bit-xor mixed alone k
      ∙ ap₂ (λ (m n : ℕ). (m + n) % 2) (bm k (omega arith) ∙ ap (λ (ts : MixedTaps). mixes_at ts X Y (word_bit l k) % 2) eh) (ba k (omega arith))
      ∙ e ∙ sym (h-split T X Y (λ i. word_bit l k));
}
