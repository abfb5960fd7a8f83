-- Eight steps of L undone. Below L stand the eight bits of its sequence before it, and ten bits of both are L before the steps. Of the
-- sums that make L's last eight bits, those three places on are L's or among the eight.
use mathlib.Core.List.{List}
use mathlib.Core.Path.{◌≡◌, sym, ap, ap₂, ◌∙◌}
use Prim.Native.Nat.{ℕ, suc-le-suc, ◌+◌, ◌-◌, ◌*◌, ◌/◌, ◌%◌, ◌^◌, ◌<◌}
use native.Mathlib.Nat.{add_comm, le_trans, mod-lt}
use native.Mathlib.Omega.{arith}
use lib.Bits.{bit_xor, xor_lt, xor_shifted}
use lib.ListN.{length}
use lib.Pow.{pow_pos, shr_le, shr_lt}
use Rattle.quark.specs.Step.{steps_L}
use Rattle.quark.specs.Word.{word_bit, word_bits}
use Rattle.quark.proofs.Word.{word_bit-lt, word_bit-xor, word_bit-shr, word_bit-mod, length-word_bits}
use Rattle.words.specs.leaf.Groups.{Firsts}
use Rattle.words.proofs.LSequence.{length-steps_L, sequence, sequence-later, recurs, onwards, first_bit, ten_firsts}
use Rattle.words.proofs.MovedUp.{past_end, low_bit, high_bit}

-- ---- a byte that is to be the sum of another and of that moved down by three

-- the byte of which m is the sum with itself moved down by three
abbrev unsummed : ℕ → ℕ
unsummed m = bit_xor (bit_xor m (m / 2 ^ 3)) (m / 2 ^ 6)

unsummed_lt : (m : ℕ) → m < 2 ^ 8 → unsummed m < 2 ^ 8
unsummed_lt m h =
    xor_lt 8 (bit_xor m (m / 2 ^ 3)) (m / 2 ^ 6) (xor_lt 8 m (m / 2 ^ 3) h (le_trans (suc-le-suc (shr_le m 3)) h)) (le_trans (suc-le-suc (shr_le m 6)) h)

unsummed_bit : (m k : ℕ) → word_bit (unsummed m) k ≡ ((word_bit m k + word_bit m (3 + k)) % 2 + word_bit m (6 + k)) % 2
unsummed_bit m k =
    word_bit-xor (bit_xor m (m / 2 ^ 3)) (m / 2 ^ 6) k
    ∙ ap₂ (λ (x y : ℕ). (x + y) % 2) (word_bit-xor m (m / 2 ^ 3) k ∙ ap (λ (x : ℕ). (word_bit m k + x) % 2) (word_bit-shr m 3 k)) (word_bit-shr m 6 k)

summed_bit : (m k : ℕ) → m < 2 ^ 8 → (word_bit (unsummed m) k + word_bit (unsummed m) (3 + k)) % 2 ≡ word_bit m k
summed_bit m k h =
    let n : ℕ = unsummed m in
    let six : 3 + (3 + k) ≡ 6 + k = omega arith in
    let none : word_bit m (6 + (3 + k)) ≡ 0 = past_end m 8 (6 + (3 + k)) h (omega arith) in
    let first-term : word_bit n k ≡ ((word_bit m k + word_bit m (3 + k)) % 2 + word_bit m (6 + k)) % 2 = unsummed_bit m k in
    let second-term : word_bit n (3 + k) ≡ ((word_bit m (3 + k) + word_bit m (6 + k)) % 2 + 0) % 2 =
    unsummed_bit m (3 + k) ∙ ap₂ (λ (x y : ℕ). ((word_bit m (3 + k) + x) % 2 + y) % 2) (ap (word_bit m) six) none in
    let bound = word_bit-lt m k in
    omega arith

-- ---- the eight bits before L

-- n and n moved down by three add up to L's last eight bits and its first three moved up
module _ (l n : ℕ) (small : n < 2 ^ 8) (sums : (j : ℕ) → j < 8 → (word_bit n j + word_bit n (3 + j)) % 2 ≡ word_bit (bit_xor (l / 2 ^ 2) (l * 2 ^ 5)) j) where
  word : ℕ
  word = l * 2 ^ 8 + n

  word_sums : (j : ℕ) → j < 8 → word_bit word (j + 10) ≡ (word_bit word j + word_bit word (j + 3)) % 2
  unfolding word
  word_sums j less =
      let place : j + 10 - 8 ≡ 2 + j = omega arith in
      let down : word / 2 ^ 3 ≡ l * 2 ^ 5 + n / 2 ^ 3 = omega arith in
      let last : word_bit word (j + 10) ≡ word_bit l (2 + j) = high_bit l 8 n (j + 10) small (omega arith) ∙ ap (word_bit l) place in
      let first-term : word_bit word j ≡ word_bit n j = low_bit l 8 n j small less in
      let second-term : word_bit word (j + 3) ≡ (word_bit (l * 2 ^ 5) j + word_bit n (3 + j)) % 2 =
      ap (word_bit word) (add_comm j 3)
      ∙ sym (word_bit-shr word 3 j)
      ∙ ap (λ (x : ℕ). word_bit x j) (down ∙ sym (xor_shifted l 5 (n / 2 ^ 3) (shr_lt 5 3 small)))
      ∙ word_bit-xor (l * 2 ^ 5) (n / 2 ^ 3) j
      ∙ ap (λ (x : ℕ). (word_bit (l * 2 ^ 5) j + x) % 2) (word_bit-shr n 3 j) in
      let sum : (word_bit n j + word_bit n (3 + j)) % 2 ≡ (word_bit l (2 + j) + word_bit (l * 2 ^ 5) j) % 2 =
      sums j less ∙ word_bit-xor (l / 2 ^ 2) (l * 2 ^ 5) j ∙ ap (λ (x : ℕ). (x + word_bit (l * 2 ^ 5) j) % 2) (word_bit-shr l 2 j) in
      let bound = word_bit-lt l (2 + j) in
      omega arith

  steps_back : steps_L 8 (word_bits 10 (l % 2 ^ 2 * 2 ^ 8 + n)) ≡ word_bits 10 l
  unfolding word
  steps_back =
      let r : List ℕ = word_bits 10 (l % 2 ^ 2 * 2 ^ 8 + n) in
      let e : length r ≡ 10 = length-word_bits 10 (l % 2 ^ 2 * 2 ^ 8 + n) in
      let low : l % 2 ^ 2 * 2 ^ 8 + n ≡ word % 2 ^ 10 = omega arith in
      let first : Firsts 10 r word = λ k g. first_bit (l % 2 ^ 2 * 2 ^ 8 + n) k g ∙ ap (λ (x : ℕ). word_bit x k) low ∙ word_bit-mod word 10 k g in
      sym (ten_firsts (steps_L 8 r) l (length-steps_L 8 r e)
      (λ k g.
      (let place : 8 + k - 8 ≡ k = omega arith in
      sequence-later r 8 k
      ∙ onwards (sequence r) 10 3 8 word (recurs r e) (omega arith) word_sums first (8 + k) (omega arith)
      ∙ high_bit l 8 n (8 + k) small (omega arith)
      ∙ ap (word_bit l) place)))

abbrev before : ℕ → ℕ
before l = unsummed (bit_xor (l / 2 ^ 2) (l * 2 ^ 5) % 2 ^ 8)

pub before-lt : (l : ℕ) → before l < 2 ^ 8
before-lt l = unsummed_lt (bit_xor (l / 2 ^ 2) (l * 2 ^ 5) % 2 ^ 8) (mod-lt (bit_xor (l / 2 ^ 2) (l * 2 ^ 5)) (pow_pos 8))

-- eight steps lead from L so moved up to L
pub eight_back_steps : (l : ℕ) → steps_L 8 (word_bits 10 (l % 2 ^ 2 * 2 ^ 8 + before l)) ≡ word_bits 10 l
eight_back_steps l =
    let m : ℕ = bit_xor (l / 2 ^ 2) (l * 2 ^ 5) in
    steps_back l (before l) (before-lt l) (λ j g. summed_bit (m % 2 ^ 8) j (mod-lt m (pow_pos 8)) ∙ word_bit-mod m 8 j g)
