-- Sums of bits in words: `&` and `^` at one bit, the bits of a register from a tap on, the ones under a mask modulo 2, a word that is filled
-- bit by bit, and the sums of several steps.
use mathlib.Core.Logic.{⊎_elim}
use mathlib.Core.Path.{◌≡◌, refl, sym, ap, ap₂, ◌∙◌}
use Prim.Native.Nat.{ℕ, zero, suc, ◌+◌, ◌*◌, ◌-◌, ◌/◌, ◌%◌, ◌^◌, ◌≤◌, ◌<◌}
use native.Mathlib.Nat.{add_comm, add-zero, add-mod, mod-lt, mod-eq_of_lt, div-add-mod', div-eq_of_lt, sub-zero, lt_of_le_of_lt, lt_of_lt_of_le, not-suc-le-zero, eq-or-lt_of_le, le_of_suc-le-suc, pow-suc, mul_comm, zero-lt-suc}
use native.Mathlib.Omega.{arith}
use lib.Arith.{bin_ind, digits_lt}
use lib.Bits.{bit_and, bit_xor, and_zero_r, and_block, xor_zero_l, xor_shr, shifted_half}
use lib.Count.{ones, ones_step, ones_cat}
use lib.Dec.{lit≤}
use lib.Pow.{pow_pos, pow_mono, shl_lt, shr_le, shr-shr, high, low, split}
use Rattle.quark.specs.Feedback.{sum_at}
use Rattle.quark.specs.Word.{word_bit}
use Rattle.quark.specs.leaf.Places.{places_from}
use Rattle.quark.proofs.Word.{word_bit-lt, word_bit-and, word_bit-xor, word_bit-shr, word_bit-mod, low_xor}
use Rattle.quark.proofs.Mask.{ones_under_mask, ones_under_masks}
use Rattle.words.specs.leaf.FeedbackWords.{mask_sum, pack}

-- ---- `&` and `^` under names that stay shut: those of `lib.Bits` unfold to a recursion that names its first number twice

unfoldable pub ◌&◌ : ℕ → ℕ → ℕ
a & b = bit_and a b

unfoldable pub ◌⊕◌ : ℕ → ℕ → ℕ
a ⊕ b = bit_xor a b

infixl 70 ◌&◌
infixl 65 ◌⊕◌
pub bit-& : (a b k : ℕ) → word_bit (a & b) k ≡ word_bit a k * word_bit b k
unfolding ◌&◌
bit-& = word_bit-and

pub bit-⊕ : (a b k : ℕ) → word_bit (a ⊕ b) k ≡ (word_bit a k + word_bit b k) % 2
unfolding ◌⊕◌
bit-⊕ = word_bit-xor

-- ---- a word's bit as a sum of bits

-- bit k of a word is the parity of a
pub record Sum (k word a : ℕ) : Type 0 where
  pub bit : word_bit word k ≡ a % 2

-- that of a bit is the bit
pub same_bit : (n i : ℕ) {k word : ℕ} → word_bit word k ≡ word_bit n i → Sum k word (word_bit n i)
same_bit n i e = record { bit = e ∙ sym (mod-eq_of_lt (word_bit-lt n i)) }

pub itself : (word k : ℕ) → Sum k word (word_bit word k)
itself word k = same_bit word k refl

-- words are added bit by bit
pub ◌⊞◌ : {k p q a b : ℕ} → Sum k p a → Sum k q b → Sum k (bit_xor p q) (a + b)
◌⊞◌ {k} {p} {q} {a} {b} s t = record { bit = word_bit-xor p q k ∙ ap₂ (λ (x y : ℕ). (x + y) % 2) s.bit t.bit ∙ sym (add-mod a b 2) }

infixl 65 ◌⊞◌
-- the w low bits of a word
pub low_lt : (word w : ℕ) {r : ℕ} → r ≡ word % 2 ^ w → r < 2 ^ w
low_lt word w e = rw e (mod-lt word (pow_pos w))

pub low_sum : (w : ℕ) {k word a r : ℕ} → r ≡ word % 2 ^ w → k < w → Sum k word a → word_bit r k ≡ a % 2
low_sum w {k} {word} e less s = ap (λ (x : ℕ). word_bit x k) e ∙ word_bit-mod word w k less ∙ s.bit

-- ---- a register from a tap on

-- bit k of a window at t is bit t + k of the register
pub window_place : (n t k : ℕ) {r : ℕ} → k < 64 → r ≡ n / 2 ^ t % 2 ^ 64 → word_bit r k ≡ word_bit n (t + k)
window_place n t k h e = ap (λ (x : ℕ). word_bit x k) e ∙ word_bit-mod (n / 2 ^ t) 64 k h ∙ word_bit-shr n t k

-- and so bit t of the register moved down by k
pub window_bit : (n t k : ℕ) {r : ℕ} → k < 64 → r ≡ n / 2 ^ t % 2 ^ 64 → word_bit r k ≡ word_bit (n / 2 ^ k) t
window_bit n t k h e = window_place n t k h e ∙ ap (word_bit n) (add_comm t k) ∙ sym (word_bit-shr n k t)

-- the low word's bits are the register's
pub low_word_bit : (hi lo k : ℕ) → lo < 2 ^ 64 → k < 64 → word_bit lo k ≡ word_bit ((hi * 2 ^ 64 + lo) / 2 ^ k) 0
low_word_bit hi lo k h g =
    let n : ℕ = hi * 2 ^ 64 + lo in
    ap (λ (z : ℕ). word_bit z k) (sym (low hi 64 h)) ∙ word_bit-mod n 64 k g ∙ ap (word_bit n) (sym (add-zero k)) ∙ sym (word_bit-shr n k 0)

-- ---- the parity of the ones

add-digits : (p q y u v : ℕ) → y % 2 ≡ (u + v) % 2 → ((p + q) % 2 + y) % 2 ≡ (p + u + (q + v)) % 2
add-digits p q y u v h = omega arith

-- the parity of a sum of words is the sum of their parities
ones_xor : (a b : ℕ) → ones (bit_xor a b) % 2 ≡ (ones a + ones b) % 2
unfolding ones
ones_xor a = bin_ind (λ (n : ℕ). (b : ℕ) → ones (bit_xor n b) % 2 ≡ (ones n + ones b) % 2) start more a
  where
    start : (b : ℕ) → ones (bit_xor zero b) % 2 ≡ (ones zero + ones b) % 2
    start b = ap (λ (x : ℕ). ones x % 2) (xor_zero_l b) ∙ omega arith

    more : (n : ℕ) → ((b : ℕ) → ones (bit_xor (n / 2) b) % 2 ≡ (ones (n / 2) + ones b) % 2) → (b : ℕ) → ones (bit_xor n b) % 2 ≡ (ones n + ones b) % 2
    more n ih b =
        let half : ones (bit_xor n b / 2) ≡ ones (bit_xor (n / 2) (b / 2)) = ap ones (xor_shr n b 1) in
        ap (λ (x : ℕ). x % 2) (ones_step (bit_xor n b) ∙ ap₂ (λ (x y : ℕ). x + y) (low_xor n b) half)
        ∙ add-digits (n % 2) (b % 2) (ones (bit_xor (n / 2) (b / 2))) (ones (n / 2)) (ones (b / 2)) (ih (b / 2))
        ∙ ap₂ (λ (x y : ℕ). (x + y) % 2) (sym (ones_step n)) (sym (ones_step b))

-- so the words of a register may be added before the ones under a mask are counted
pub parity_of_words : (hi lo maskHi maskLo : ℕ) → lo < 2 ^ 64 → maskLo < 2 ^ 64 → maskHi < 2 ^ 64
    → ones (bit_xor (bit_and hi maskHi) (bit_and lo maskLo)) % 2 ≡ sum_at (word_bit (hi * 2 ^ 64 + lo)) (places_from 128 0 (maskHi * 2 ^ 64 + maskLo)) % 2
parity_of_words hi lo maskHi maskLo hl hm hk =
    ones_xor (bit_and hi maskHi) (bit_and lo maskLo) ∙ ap (λ (x : ℕ). x % 2) (ones_under_masks 64 64 hi lo maskHi maskLo hl hm hk)

-- the ones under a mask that is moved up are those of the number moved down
ones_moved : (n mask i : ℕ) → ones (bit_and n (mask * 2 ^ i)) ≡ ones (bit_and (n / 2 ^ i) mask)
unfolding ones
ones_moved n mask i =
    let a : ℕ = bit_and (n / 2 ^ i) mask in
    ap₂ (λ (x y : ℕ). ones (bit_and x y)) (sym (split n i)) (sym (add-zero (mask * 2 ^ i)))
    ∙ ap ones (and_block i (n / 2 ^ i) mask (n % 2 ^ i) 0 (mod-lt n (pow_pos i)) (pow_pos i))
    ∙ ap (λ (x : ℕ). ones (a * 2 ^ i + x)) (and_zero_r (n % 2 ^ i))
    ∙ ones_cat i a 0 (pow_pos i)
    ∙ add-zero (ones a)

-- a mask of 112 bits stays within two words where it is moved up by at most 16
pub mask_fits : (mask i : ℕ) → mask < 2 ^ 112 → i ≤ 16 → mask * 2 ^ i < 2 ^ 128
mask_fits mask i h g = lt_of_lt_of_le (shl_lt 112 i h) (pow_mono {j = 128} (omega arith))

-- so the sum of step i is the parity under the mask moved up by i
mask_sum-moved : (n mask i : ℕ) → mask < 2 ^ 112 → i ≤ 16 → sum_at (word_bit n) (places_from 128 0 (mask * 2 ^ i)) % 2 ≡ mask_sum n mask i
unfolding mask_sum
mask_sum-moved n mask i h g =
    ap (λ (x : ℕ). x % 2)
    (sym (ones_under_mask 128 (mask * 2 ^ i) n (mask_fits mask i h g))
    ∙ ones_moved n mask i
    ∙ ones_under_mask 128 mask (n / 2 ^ i) (lt_of_lt_of_le h (lit≤ tt)))

-- ---- a word that is filled bit by bit

module _ (b : ℕ → ℕ) (h : (j : ℕ) → b j < 2) where
  pub pack-lt : (w : ℕ) → pack b w < 2 ^ w
  unfolding pack
  pack-lt zero = zero-lt-suc zero
  pack-lt (suc j) = rw (pow-suc, mul_comm (2 ^ j) 2) (digits_lt (h j) (pack-lt j))

  pub bit-pack : (w i : ℕ) → i < w → word_bit (pack b w) i ≡ b i
  unfolding pack word_bit
  bit-pack zero i g = absurd (not-suc-le-zero g)
  bit-pack (suc j) i g = ⊎_elim last (before (bit-pack j i)) (eq-or-lt_of_le (le_of_suc-le-suc g))
    where
      last : i ≡ j → word_bit (b j * 2 ^ j + pack b j) i ≡ b i
      last e = rw e (ap (λ (x : ℕ). x % 2) (high (b j) j (pack-lt j)) ∙ mod-eq_of_lt (h j))

      before : (i < j → word_bit (pack b j) i ≡ b i) → i < j → word_bit (b j * 2 ^ j + pack b j) i ≡ b i
      before ih l =
          sym (word_bit-mod (b j * 2 ^ j + pack b j) j i l) ∙ ap (λ (x : ℕ). word_bit x i) (low (b j) j (pack-lt j)) ∙ ih l

  -- the bits from i on are the bits above i, and bit i below them
  pub pack-from : (w i : ℕ) → i < w → pack b w / 2 ^ (i + 1) * 2 + b i ≡ pack b w / 2 ^ i
  unfolding word_bit
  pack-from w i g =
      ap₂ (λ (x y : ℕ). x * 2 + y) (sym (shr-shr (pack b w) i 1)) (sym (bit-pack w i g)) ∙ div-add-mod' (pack b w / 2 ^ i) 2

pub mask_sum-lt : (n mask j : ℕ) → mask_sum n mask j < 2
unfolding mask_sum
mask_sum-lt n mask j = mod-lt (sum_at (word_bit (n / 2 ^ j)) (places_from 128 0 mask)) (zero-lt-suc 1)

-- ---- the sums of w steps under a mask, last step first

-- when j steps are done, m is the mask moved up for the next one, and the bits are the word's last j
abbrev pub Summed : (n mask w j m bits : ℕ) → Type 0
Summed n mask w j m bits = (j < w → m ≡ mask * 2 ^ (w - suc j)) × (bits ≡ pack (mask_sum n mask) w / 2 ^ (w - j))

module _ (n mask w : ℕ) (narrow : mask < 2 ^ 112) (few : w ≤ 16) where
  pub summed_none : (m : ℕ) → m ≡ mask * 2 ^ (w - 1) → Summed n mask w 0 m 0
  summed_none m e = ((λ g. e), rw sub-zero (sym (div-eq_of_lt (pack-lt (mask_sum n mask) (mask_sum-lt n mask) w))))

  -- the next step is step i
  pub summed_more : (j m bits bit next : ℕ) → j < w → Summed n mask w j m bits → bit ≡ sum_at (word_bit n) (places_from 128 0 m) % 2 → next ≡ m / 2
      → Summed n mask w (j + 1) next (bits * 2 + bit)
  summed_more j m bits bit next g s eb en =
      let i : ℕ = w - (j + 1) in
      let e : w - j ≡ i + 1 = omega arith in
      let at : m ≡ mask * 2 ^ i = s.0 g ∙ ap (λ (x : ℕ). mask * 2 ^ x) (omega arith) in (
        (λ h.
            let f : i ≡ suc (w - suc (j + 1)) = omega arith in
            en ∙ ap (λ (x : ℕ). x / 2) (at ∙ ap (λ (x : ℕ). mask * 2 ^ x) f) ∙ shifted_half mask (w - suc (j + 1))),
        ap₂ (λ (x y : ℕ). x * 2 + y) (s.1 ∙ ap (λ (x : ℕ). pack (mask_sum n mask) w / 2 ^ x) e)
            (eb ∙ ap (λ (x : ℕ). sum_at (word_bit n) (places_from 128 0 x) % 2) at ∙ mask_sum-moved n mask i narrow (omega arith))
            ∙ pack-from (mask_sum n mask) (mask_sum-lt n mask) w i (omega arith),
      )

  pub summed_lt : (j m bits : ℕ) → Summed n mask w j m bits → bits < 2 ^ 16
  summed_lt j m bits s =
      let word : ℕ = pack (mask_sum n mask) w in
      rw s.1 (lt_of_le_of_lt (shr_le word (w - j)) (lt_of_lt_of_le (pack-lt (mask_sum n mask) (mask_sum-lt n mask) w) (pow_mono few)))
