-- Sums under a mask of the tap 0 and of taps that four steps read in one word: of a register whose first eight bits are 0 they are the sums
-- of two words.
use mathlib.Core.Path.{◌≡◌, refl, sym, ap, ap₂, ◌∙◌}
use Prim.Native.Nat.{ℕ, zero, suc, ◌+◌, ◌*◌, ◌-◌, ◌/◌, ◌%◌, ◌^◌, ◌≤◌, ◌<◌}
use native.Mathlib.Nat.{add-zero, zero-add, suc-add, zero-mul, add_comm, add_assoc, mul_assoc, add-mul, mod-lt, mod-eq_of_lt, div-eq_of_lt, zero-div, lt_of_le_of_lt, lt_of_lt_of_le}
use native.Mathlib.Omega.{arith}
use lib.Bits.{bit_and, and_block, and_le_r, and_mod, and_mask}
use lib.Count.{ones, ones_cat}
use lib.Dec.{lit≤, lit<}
use lib.Pow.{pow_pos, pow_mono, pow-add, pow-lt, add-lt-pow, shl_lt, shr_lt, shr_le, shr-shr, split, field, mod-mod-pow}
use Rattle.quark.specs.Feedback.{sum_at}
use Rattle.quark.specs.Word.{word_bit}
use Rattle.quark.specs.leaf.Places.{places_from}
use Rattle.quark.proofs.Mask.{ones_under_mask}
use Rattle.quark.proofs.Word.{word_bit-mod}
use Rattle.words.specs.leaf.FeedbackWords.{mask_sum, pack, OneWord}
use Rattle.words.proofs.Sums.{pack-lt, pack-from, mask_sum-lt}

-- ---- words that are filled bit by bit

pack-same : (a b : ℕ → ℕ) (w : ℕ) → ((j : ℕ) → j < w → a j ≡ b j) → pack a w ≡ pack b w
unfolding pack
pack-same a b zero h = refl
pack-same a b (suc w) h = ap₂ (λ (x y : ℕ). x * 2 ^ w + y) (h w (omega arith)) (pack-same a b w (λ j g. h j (omega arith)))

-- the last v bits stand above the first w
digits : (a p q r s : ℕ) → a * (p * q) + (r * q + s) ≡ (a * p + r) * q + s
digits a p q r s =
    ap (λ (x : ℕ). x + (r * q + s)) (sym (mul_assoc a p q))
    ∙ sym (add_assoc (a * p * q) (r * q) s)
    ∙ ap (λ (x : ℕ). x + s) (sym (add-mul (a * p) r q))

pack-cat : (a : ℕ → ℕ) (v w : ℕ) → pack a (v + w) ≡ pack (λ (j : ℕ). a (j + w)) v * 2 ^ w + pack a w
unfolding pack
pack-cat a zero w = ap (pack a) (zero-add w) ∙ sym (ap (λ (x : ℕ). x + pack a w) (zero-mul (2 ^ w)) ∙ zero-add (pack a w))
pack-cat a (suc v) w =
    ap (pack a) (suc-add v w)
    ∙ ap₂ (λ (x y : ℕ). a (v + w) * x + y) (pow-add 2 v w) (pack-cat a v w)
    ∙ digits (a (v + w)) (2 ^ v) (2 ^ w) (pack (λ (j : ℕ). a (j + w)) v) (pack a w)

-- ---- ones under a mask

-- a mask of 61 digits reads 61 digits
under_mask : (m a b : ℕ) → m < 2 ^ 61 → a % 2 ^ 61 ≡ b % 2 ^ 61 → bit_and a m ≡ bit_and b m
under_mask m a b h e = read a ∙ ap (λ (x : ℕ). bit_and x (m % 2 ^ 61)) e ∙ sym (read b)
  where
    read : (n : ℕ) → bit_and n m ≡ bit_and (n % 2 ^ 61) (m % 2 ^ 61)
    read n = sym (mod-eq_of_lt (lt_of_le_of_lt (and_le_r n m) h)) ∙ and_mod n m 61

-- the tap 0 apart from the others
tap_apart : (n m k : ℕ) → 0 < k → ones (bit_and n (m * 2 ^ k + 1)) ≡ ones (bit_and (n / 2 ^ k) m) + ones (n % 2 ^ k % 2)
tap_apart n m k h =
    ap (λ (x : ℕ). ones (bit_and x (m * 2 ^ k + 1))) (sym (split n k))
    ∙ ap ones (and_block k (n / 2 ^ k) m (n % 2 ^ k) 1 (mod-lt n (pow_pos k)) (pow-lt h))
    ∙ ap (λ (x : ℕ). ones (bit_and (n / 2 ^ k) m * 2 ^ k + x)) (and_mask (n % 2 ^ k) 1)
    ∙ ones_cat k (bit_and (n / 2 ^ k) m) (n % 2 ^ k % 2) (lt_of_lt_of_le (mod-lt (n % 2 ^ k) (lit< tt)) (pow_mono h))

-- ---- the sums of a register and of its words

module _ (n mask first : ℕ) (narrow : OneWord mask first) (zeros : n % 2 ^ 8 ≡ 0) where
  -- the mask from `first` on
  abbrev taps : ℕ
  taps = mask / 2 ^ first

  taps-lt : taps < 2 ^ 61
  taps-lt = shr_lt 61 first narrow.ends

  mask_lt : mask < 2 ^ 128
  mask_lt = lt_of_lt_of_le narrow.ends (pow_mono {j = 128} (let h = narrow.place.1 in omega arith))

  -- the tap 0 reads a bit that is 0
  no_first : (j : ℕ) → j < 8 → ones (n / 2 ^ j % 2 ^ first % 2) ≡ 0
  unfolding word_bit ones
  no_first j h =
      let e : first ≡ (first - 1) + 1 = (let g = narrow.place.0 in omega arith) in
      ap ones
      (ap (λ (x : ℕ). n / 2 ^ j % 2 ^ x % 2) e
      ∙ mod-mod-pow (n / 2 ^ j) (first - 1) 1
      ∙ sym (word_bit-mod n 8 j h)
      ∙ ap (λ (x : ℕ). word_bit x j) zeros
      ∙ ap (λ (x : ℕ). x % 2) (zero-div (2 ^ j)))

  -- step k + i reads what step i reads in the word from k places further on
  in_word : (k i word : ℕ) → k + i < 8 → i < 4 → word ≡ n / 2 ^ (first + k) % 2 ^ 64 → mask_sum n mask (k + i) ≡ mask_sum word taps i
  unfolding mask_sum
  in_word k i word h g e =
      ap (λ (x : ℕ). x % 2)
      (sym (ones_under_mask 128 mask (n / 2 ^ (k + i)) mask_lt)
      ∙ apart
      ∙ ones_under_mask 128 taps (word / 2 ^ i) (lt_of_lt_of_le taps-lt (lit≤ tt)))
    where
      further : n / 2 ^ (k + i) / 2 ^ first ≡ n / 2 ^ (first + k) / 2 ^ i
      further =
          let s : (k + i) + first ≡ (first + k) + i = omega arith in
          shr-shr n (k + i) first ∙ ap (λ (x : ℕ). n / 2 ^ x) s ∙ sym (shr-shr n (first + k) i)

      same_digits : n / 2 ^ (first + k) / 2 ^ i % 2 ^ 61 ≡ word / 2 ^ i % 2 ^ 61
      same_digits =
          let v : ℕ = n / 2 ^ (first + k) in
          let a : 64 - i ≡ (3 - i) + 61 = omega arith in
          let b : 64 ≡ (64 - i) + i = omega arith in
          sym (mod-mod-pow (v / 2 ^ i) (3 - i) 61)
          ∙ ap (λ (x : ℕ). v / 2 ^ i % 2 ^ x % 2 ^ 61) (sym a)
          ∙ ap (λ (x : ℕ). x % 2 ^ 61) (sym (field v (64 - i) i))
          ∙ ap (λ (x : ℕ). v % 2 ^ x / 2 ^ i % 2 ^ 61) (sym b)
          ∙ ap (λ (x : ℕ). x / 2 ^ i % 2 ^ 61) (sym e)

      apart : ones (bit_and (n / 2 ^ (k + i)) mask) ≡ ones (bit_and (word / 2 ^ i) taps)
      apart =
          let whole : mask ≡ taps * 2 ^ first + 1 = sym (split mask first) ∙ ap (λ (x : ℕ). taps * 2 ^ first + x) narrow.begins in
          let read : bit_and (n / 2 ^ (k + i) / 2 ^ first) taps ≡ bit_and (word / 2 ^ i) taps =
          ap (λ (x : ℕ). bit_and x taps) further ∙ under_mask taps _ _ taps-lt same_digits in
          ap (λ (x : ℕ). ones (bit_and (n / 2 ^ (k + i)) x)) whole
          ∙ tap_apart (n / 2 ^ (k + i)) taps first narrow.place.0
          ∙ ap₂ (λ (x y : ℕ). x + y) (ap ones read) (no_first (k + i) h)
          ∙ add-zero (ones (bit_and (word / 2 ^ i) taps))

  -- so the sums of eight steps are those of two words, the later four above the first four
  pub eight_sums : (w v m later r : ℕ) → w ≡ n / 2 ^ first % 2 ^ 64 → v ≡ n / 2 ^ (first + 4) % 2 ^ 64 → m ≡ mask / 2 ^ first % 2 ^ 64
      → later ≡ 0 * 16 + pack (mask_sum v m) 4 → r ≡ later * 16 + pack (mask_sum w m) 4 → r ≡ pack (mask_sum n mask) 8
  eight_sums w v m later r ew ev em el er =
      let sum : ℕ → ℕ = mask_sum n mask in
      let e : m ≡ taps = em ∙ mod-eq_of_lt (lt_of_lt_of_le taps-lt (lit≤ tt)) in
      let under : (x i : ℕ) → mask_sum x taps i ≡ mask_sum x m i = λ x i. ap (λ (y : ℕ). mask_sum x y i) (sym e) in
      let whole_word : w ≡ n / 2 ^ (first + 0) % 2 ^ 64 = ew ∙ ap (λ (x : ℕ). n / 2 ^ x % 2 ^ 64) (sym (add-zero first)) in
      let last-four : pack (λ (j : ℕ). sum (j + 4)) 4 ≡ pack (mask_sum v m) 4 =
      pack-same (λ (j : ℕ). sum (j + 4)) (mask_sum v m) 4 (λ j g. ap sum (add_comm j 4) ∙ in_word 4 j v (omega arith) g ev ∙ under v j) in
      let first-four : pack sum 4 ≡ pack (mask_sum w m) 4 =
      pack-same sum (mask_sum w m) 4 (λ j g. ap sum (sym (zero-add j)) ∙ in_word 0 j w (omega arith) g whole_word ∙ under w j) in
      er ∙ ap₂ (λ (x y : ℕ). x * 16 + y) (el ∙ zero-add (pack (mask_sum v m) 4) ∙ sym last-four) (sym first-four) ∙ sym (pack-cat sum 4 4)

-- ---- four sums with later ones above them, last step first

-- the bits when the steps from j on are done
abbrev pub SumsFrom : (later word mask j bits : ℕ) → Type 0
SumsFrom later word mask j bits = bits ≡ later * 2 ^ (4 - j) + pack (mask_sum word mask) 4 / 2 ^ j

double : (c d q b r : ℕ) → d ≡ c * 2 → q * 2 + b ≡ r → (c + q) * 2 + b ≡ d + r
double c d q b r e f = omega arith

module _ (later word mask : ℕ) where
  -- all four
  sums : ℕ
  sums = pack (mask_sum word mask) 4

  sums_lt : sums < 2 ^ 4
  unfolding sums
  sums_lt = pack-lt (mask_sum word mask) (mask_sum-lt word mask) 4

  pub sums_from_none : SumsFrom later word mask 4 later
  unfolding sums
  sums_from_none = sym (ap₂ (λ (x y : ℕ). x + y) (omega arith) (div-eq_of_lt sums_lt) ∙ add-zero later)

  -- the next step is step j - 1
  pub sums_from_more : (j bits b : ℕ) → 0 < j → j ≤ 4 → SumsFrom later word mask j bits → b ≡ mask_sum word mask (j - 1)
      → SumsFrom later word mask (j - 1) (bits * 2 + b)
  unfolding sums
  sums_from_more j bits b h more e f =
      let i : ℕ = j - 1 in
      let next : j ≡ i + 1 = omega arith in
      let g : 4 - i ≡ (4 - (i + 1)) + 1 = omega arith in
      let twice : later * 2 ^ (4 - i) ≡ later * 2 ^ (4 - (i + 1)) * 2 =
      ap (λ (x : ℕ). later * x) (ap (λ (x : ℕ). 2 ^ x) g ∙ pow-add 2 (4 - (i + 1)) 1) ∙ sym (mul_assoc later (2 ^ (4 - (i + 1))) 2) in
      ap₂ (λ (x y : ℕ). x * 2 + y) (e ∙ ap (λ (x : ℕ). later * 2 ^ (4 - x) + sums / 2 ^ x) next) f
      ∙ double (later * 2 ^ (4 - (i + 1))) (later * 2 ^ (4 - i)) (sums / 2 ^ (i + 1)) (mask_sum word mask i) (sums / 2 ^ i) twice
      (pack-from (mask_sum word mask) (mask_sum-lt word mask) 4 i (omega arith))

  pub sums_from_lt : (j bits : ℕ) → later < 16 → SumsFrom later word mask j bits → bits < 2 ^ 9
  unfolding sums
  sums_from_lt j bits h e =
      let a : later * 2 ^ (4 - j) < 2 ^ 8 = lt_of_lt_of_le (shl_lt 4 (4 - j) h) (pow_mono {j = 8} (omega arith)) in
      rw e (add-lt-pow 8 a (lt_of_le_of_lt (shr_le sums j) (lt_of_lt_of_le sums_lt (lit≤ tt))))

  -- the sum of step i, of a register that is one word, moved down
  pub one_word : (i b : ℕ) → b ≡ sum_at (word_bit (0 * 2 ^ 64 + word / 2 ^ i)) (places_from 128 0 (0 * 2 ^ 64 + mask)) % 2 → b ≡ mask_sum word mask i
  unfolding mask_sum
  one_word i b e = e ∙ ap₂ (λ (x y : ℕ). sum_at (word_bit x) (places_from 128 0 y) % 2) (zero-add (word / 2 ^ i)) (zero-add mask)

-- four sums with none later
pub four_lt : (word mask r : ℕ) → r ≡ 0 * 16 + pack (mask_sum word mask) 4 → r < 16
four_lt word mask r e = rw (e, zero-add (pack (mask_sum word mask) 4)) (pack-lt (mask_sum word mask) (mask_sum-lt word mask) 4)
