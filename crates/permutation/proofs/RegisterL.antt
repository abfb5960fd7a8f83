-- L as a number with bit i at weight 2 ^ i: one step, one step undone, and the number with bit 0 at weight 512.
use Rattle.std.specs.Prelude.{◌≡◌, ℕ, zero, suc, ◌+◌, ◌-◌, ◌*◌, ◌/◌, ◌%◌, ◌^◌, ◌<◌, ◌≤◌, List, [], ◌∷◌, ◌++◌, length, drop}
use mathlib.Core.Path.{sym, ap, ap₂, ◌∙◌}
use native.Mathlib.Nat.{mod-mod, le_refl, add-zero, add-suc, pow-suc, add_assoc, add-mul, mul_assoc, mul_comm, div-eq_of_lt, lt_of_lt_of_le}
use native.Mathlib.Omega.{arith}
use lib.Bits.{bit_xor}
use lib.Pow.{pow_mono}
use lib.Seq.{ext_get_or}
use Rattle.std.specs.Int.{reverse_bits, reverse_bits_onto, w32}
use Rattle.quark.specs.Bytes.{bit}
use Rattle.quark.specs.Feedback.{p}
use Rattle.quark.specs.Step.{shift, step_L}
use Rattle.quark.specs.Inverse.{unshift, gained, undo_step_L}
use Rattle.quark.specs.Word.{word_bit, word_bits}
use Rattle.quark.proofs.Bits.{Wide, parity_lt, bits_at, bits-tabulate}
use Rattle.quark.proofs.Bytes.{length-tabulate, get_or-tabulate}
use Rattle.quark.proofs.Weights.{weighed, weighed_cong, weighed_fits, weighed_bit, weighed_bits}
use Rattle.quark.proofs.Word.{low_xor, word_bit-lt, word_bit-zero, word_bit-suc, word_bit-mod, length-word_bits, get_or-word_bits, cons-word_bits, move_word_bits}
use Rattle.permutation.specs.Steps.{bits_of_L, value_of_L}

pub step-word_bits : (l : ℕ) → l < 1024 → word_bits 10 (bit_xor l (l / 8) % 2 * 512 + l / 2) ≡ step_L (word_bits 10 l)
unfolding step_L shift p word_bits word_bit
step-word_bits l h =
    let v = bit_xor l (l / 8) in
    let bits : v % 2 ≡ p (bit (word_bits 10 l)) =
    low_xor l (l / 8) ∙ ap (λ (b : ℕ). (l % 2 + b) % 2) (sym (get_or-word_bits 10 l 3 (omega arith))) in
    sym (move_word_bits 1 9 l (v % 2) h) ∙ ap (λ (b : ℕ). drop 1 (word_bits 10 l) ++ (b ∷ [])) (mod-mod v 2 ∙ bits)

-- the bits of the low k digits
mod-word_bits : (k n : ℕ) → word_bits k (n % 2 ^ k) ≡ word_bits k n
mod-word_bits k n =
    ext_get_or 0 (word_bits k (n % 2 ^ k)) (word_bits k n) (length-word_bits k (n % 2 ^ k) ∙ sym (length-word_bits k n))
    (λ i q. let w : i < k = rw length-word_bits at q in get_or-word_bits k (n % 2 ^ k) i w ∙ word_bit-mod n k i w ∙ sym (get_or-word_bits k n i w))

pub undo_word_bits : (l : ℕ) → l < 1024 → word_bits 10 (l % 512 * 2 + bit_xor (l / 512) (l / 4) % 2) ≡ undo_step_L (word_bits 10 l)
unfolding undo_step_L unshift gained word_bits word_bit
undo_word_bits l h =
    let v = bit_xor (l / 512) (l / 4) % 2 in
    let bits : v ≡ (gained (word_bits 10 l) + bit (word_bits 10 l) 2) % 2 =
    low_xor (l / 512) (l / 4)
    ∙ ap₂ (λ (a b : ℕ). (a + b) % 2) (sym (get_or-word_bits 10 l 9 (omega arith))) (sym (get_or-word_bits 10 l 2 (omega arith))) in
    cons-word_bits 9 (l % 512) v (omega arith) ∙ ap₂ (λ (b : ℕ) (w : List ℕ). b ∷ w) bits (mod-word_bits 9 l)

-- ---- bit 0 with weight 512

-- one place further up
twice : (a k : ℕ) → a * 2 ^ suc k ≡ a * 2 ^ k * 2
twice a k = ap (λ (p : ℕ). a * p) (pow-suc 2 k) ∙ sym (mul_assoc a (2 ^ k) 2)

beside : (a d k : ℕ) → (a * 2 + d) * 2 ^ k ≡ a * 2 ^ suc k + d * 2 ^ k
beside a d k = add-mul (a * 2) d (2 ^ k) ∙ ap (λ (p : ℕ). p + d * 2 ^ k) (mul_assoc a 2 (2 ^ k) ∙ ap (λ (p : ℕ). a * p) (mul_comm 2 (2 ^ k) ∙ sym (pow-suc 2 k)))

-- the first digit has the greatest weight
weighed_first : (a : ℕ → ℕ) (k : ℕ) → weighed a (suc k) ≡ a 0 * 2 ^ k + weighed (λ i. a (suc i)) k
unfolding weighed
weighed_first a zero = omega arith
weighed_first a (suc k) = omega (arith, weighed_first a k, twice (a 0) k)

-- the lowest k bits after those of a number, in the other order
reversed-onto : (k n a : ℕ) → reverse_bits_onto k n a ≡ a * 2 ^ k + weighed (word_bit n) k
unfolding reverse_bits_onto weighed
reversed-onto zero n a = omega arith
reversed-onto (suc k) n a =
    reversed-onto k (n / 2) (a * 2 + n % 2)
    ∙ ap₂ (λ (p q : ℕ). p + q) (beside a (n % 2) k) (weighed_cong k (word_bit (n / 2)) (λ i. word_bit n (suc i)) (λ i h. sym (word_bit-suc n i)))
    ∙ ap (λ (d : ℕ). a * 2 ^ suc k + d * 2 ^ k + weighed (λ i. word_bit n (suc i)) k) (sym (word_bit-zero n))
    ∙ add_assoc (a * 2 ^ suc k) (word_bit n 0 * 2 ^ k) (weighed (λ i. word_bit n (suc i)) k)
    ∙ ap (λ (w : ℕ). a * 2 ^ suc k + w) (sym (weighed_first (word_bit n) k))

-- zeros after k digits
weighed_zeros : (a : ℕ → ℕ) (k m : ℕ) → ((i : ℕ) → k ≤ i → a i ≡ 0) → weighed a (k + m) ≡ weighed a k * 2 ^ m
unfolding weighed
weighed_zeros a k zero z = rw add-zero (omega arith)
weighed_zeros a k (suc m) z = rw add-suc (omega (arith, weighed_zeros a k m z, z (k + m) (omega arith), twice (weighed a k) m))

-- a number below 1024 has no bit from the tenth on
no_bit : (l i : ℕ) → l < 1024 → 10 ≤ i → word_bit l i ≡ 0
unfolding word_bit
no_bit l i h g =
    let p : 2 ^ 10 ≤ 2 ^ i = pow_mono g in
    ap (λ (q : ℕ). q % 2) (div-eq_of_lt (lt_of_lt_of_le h p))

-- the value of ten bits, as the number that they make
value-weighed : (l : List ℕ) → weighed (bit l) 10 ≡ value_of_L l
unfolding weighed value_of_L
value-weighed l = omega arith

pub mirror_all : (l : ℕ) → weighed (word_bit l) 10 ≡ value_of_L (word_bits 10 l)
mirror_all l = weighed_cong 10 (word_bit l) (bit (word_bits 10 l)) (λ k h. sym (get_or-word_bits 10 l k h)) ∙ value-weighed (word_bits 10 l)

-- ten bits reversed among 32, and moved down by 22
pub mirrored-bits : (l : ℕ) → l < 1024 → reverse_bits w32 l / 4194304 ≡ value_of_L (word_bits 10 l)
mirrored-bits l h =
    let w = weighed (word_bit l) 10 in
    let all : weighed (word_bit l) 32 ≡ w * 2 ^ 22 = weighed_zeros (word_bit l) 10 22 (λ i g. no_bit l i h g) in
    let q : reverse_bits_onto 32 l 0 / 4194304 ≡ w = omega (arith, reversed-onto 32 l 0, all) in
    q ∙ mirror_all l

-- ---- there and back

-- bit k of ten bits, by its weight in their number
at-weight : (a : ℕ → ℕ) → ((k : ℕ) → a k < 2) → (k d : ℕ) → suc k + d ≡ 10 → word_bit (weighed a 10) d ≡ a k
at-weight a b k d e = ap (λ (n : ℕ). word_bit (weighed a n) d) (sym e) ∙ weighed_bit a b k d

bit-of_L : (value i : ℕ) → i < 10 → bit (bits_of_L value) i ≡ word_bit value (9 - i)
unfolding bits_of_L word_bit
bit-of_L value i h = get_or-tabulate 10 _ i h

length-bits_of_L : (value : ℕ) → length (bits_of_L value) ≡ 10
unfolding bits_of_L
length-bits_of_L value = length-tabulate 10 _

pub wide_bits_of_L : (value : ℕ) → Wide 10 (bits_of_L value)
unfolding bits_of_L
wide_bits_of_L value = (length-bits_of_L value, bits-tabulate 10 _ (λ k. parity_lt _))

-- the bits of a start value, from its mirrored number
pub start-bits : (value : ℕ) → word_bits 10 (value_of_L (word_bits 10 value)) ≡ bits_of_L value
start-bits value =
    let mirrored = value_of_L (word_bits 10 value) in
    ext_get_or 0 (word_bits 10 mirrored) (bits_of_L value) (length-word_bits 10 mirrored ∙ sym (length-bits_of_L value))
    (λ i q. let less : i < 10 = rw length-word_bits at q in
    get_or-word_bits 10 mirrored i less
    ∙ ap (λ (v : ℕ). word_bit v i) (sym (mirror_all value))
    ∙ at-weight (word_bit value) (word_bit-lt value) (9 - i) i (omega arith)
    ∙ sym (bit-of_L value i less))

module _ (l : List ℕ) (w : Wide 10 l) where
  pub value-small : value_of_L l < 1024
  value-small = rw (← value-weighed l) (weighed_fits (bit l) (bits_at w.1) 10 10 (le_refl 10))

  -- the bits of the value of ten bits are these
  pub bits-value : bits_of_L (value_of_L l) ≡ l
  bits-value =
      ext_get_or 0 (bits_of_L (value_of_L l)) l (length-bits_of_L (value_of_L l) ∙ sym w.0)
      (λ i q. let less : i < 10 = rw length-bits_of_L at q in
      bit-of_L (value_of_L l) i less
      ∙ ap (λ (v : ℕ). word_bit v (9 - i)) (sym (value-weighed l))
      ∙ at-weight (bit l) (bits_at w.1) i (9 - i) (omega arith))

-- the value of the bits of a value below 1024 is this
pub value-bits : (value : ℕ) → value < 1024 → value_of_L (bits_of_L value) ≡ value
value-bits value h =
    sym (value-weighed (bits_of_L value))
    ∙ weighed_cong 10 (bit (bits_of_L value)) (λ k. word_bit value (10 - 1 - k)) (bit-of_L value)
    ∙ weighed_bits value 10 h
