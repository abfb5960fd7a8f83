-- The ones of a register under a mask: counted, they are the sum of its bits at the mask's places, and so modulo 2 what linear taps add
-- (document 01, "Taps and feedback").
use mathlib.Core.Path.{◌≡◌, sym, ap, ap₂, ◌∙◌}
use mathlib.Core.List.{List}
use Prim.Native.Nat.{ℕ, zero, suc, ◌+◌, ◌*◌, ◌/◌, ◌%◌, ◌^◌, ◌<◌}
use native.Mathlib.Nat.{mod-lt, zero-lt-suc, mul-zero, mul-one, zero-add, div-div-eq-div-mul, pow-suc, div-one}
use native.Mathlib.Numerals.{add-one}
use native.Mathlib.Omega.{arith}
use lib.Arith.{lt-one, digits_lt}
use lib.Pow.{shr_lt, pow-add}
use lib.Bits.{bit_and, and_zero_r, and_block, and_lt}
use lib.Count.{ones, ones_step, ones_cat}
use Rattle.quark.specs.Feedback.{sum_at}
use Rattle.quark.specs.Word.{word_bit}
use Rattle.quark.specs.leaf.Places.{put_if, places_from}
use Rattle.quark.proofs.Word.{low_and, and_half}

choose : (n i d : ℕ) (l : List ℕ) → d < 2 → word_bit n i * d + sum_at (word_bit n) l ≡ sum_at (word_bit n) (put_if d i l)
unfolding sum_at put_if
choose n i zero l h = ap (λ (x : ℕ). x + sum_at (word_bit n) l) (mul-zero (word_bit n i)) ∙ zero-add (sum_at (word_bit n) l)
choose n i (suc zero) l h = ap (λ (x : ℕ). x + sum_at (word_bit n) l) (mul-one (word_bit n i))
choose n i (suc (suc d)) l h = omega arith

-- the ones of n from place i on, under a mask of k digits
ones_from : (k i mask n : ℕ) → mask < 2 ^ k → ones (bit_and (n / 2 ^ i) mask) ≡ sum_at (word_bit n) (places_from k i mask)
unfolding ones sum_at places_from word_bit
ones_from zero i mask n h = ap ones (ap (bit_and (n / 2 ^ i)) (lt-one h) ∙ and_zero_r (n / 2 ^ i))
ones_from (suc k) i mask n h =
    let a : ℕ = n / 2 ^ i in
    let low : bit_and a mask % 2 ≡ word_bit n i * (mask % 2) = low_and a mask in
    let rest : ones (bit_and a mask / 2) ≡ sum_at (word_bit n) (places_from k (suc i) (mask / 2)) =
    ap ones
    (and_half a mask ∙ ap (λ (x : ℕ). bit_and x (mask / 2)) (div-div-eq-div-mul n (2 ^ i) 2 ∙ ap (λ (x : ℕ). n / x) (sym (pow-suc 2 i))))
    ∙ ones_from k (suc i) (mask / 2) n (shr_lt k 1 (rw add-one h)) in
    ones_step (bit_and a mask)
    ∙ ap₂ (λ (x y : ℕ). x + y) low rest
    ∙ choose n i (mask % 2) (places_from k (suc i) (mask / 2)) (mod-lt mask (zero-lt-suc 1))

-- the count of ones of a number under a mask is the sum of its bits at the mask's places
pub ones_under_mask : (k mask n : ℕ) → mask < 2 ^ k → ones (bit_and n mask) ≡ sum_at (word_bit n) (places_from k 0 mask)
ones_under_mask k mask n h = ap (λ (x : ℕ). ones (bit_and x mask)) (sym (div-one n)) ∙ ones_from k 0 mask n h

-- so modulo 2 it is the sum of the taps whose mask it is
pub parity_under_mask : (k mask n : ℕ) (taps : List ℕ) → mask < 2 ^ k → places_from k 0 mask ≡ taps → ones (bit_and n mask) % 2 ≡ sum_at (word_bit n) taps % 2
parity_under_mask k mask n taps h e = ap (λ (x : ℕ). x % 2) (ones_under_mask k mask n h ∙ ap (sum_at (word_bit n)) e)

-- a number and a mask of two words each, the lower of j digits
pub ones_under_masks : (k j hi lo maskHi maskLo : ℕ) → lo < 2 ^ j → maskLo < 2 ^ j → maskHi < 2 ^ k
    → ones (bit_and hi maskHi) + ones (bit_and lo maskLo) ≡ sum_at (word_bit (hi * 2 ^ j + lo)) (places_from (k + j) 0 (maskHi * 2 ^ j + maskLo))
ones_under_masks k j hi lo maskHi maskLo hl hm hk =
    sym (ones_cat j (bit_and hi maskHi) (bit_and lo maskLo) (and_lt j lo maskLo hl hm))
    ∙ ap ones (sym (and_block j hi maskHi lo maskLo hl hm))
    ∙ ones_under_mask (k + j) (maskHi * 2 ^ j + maskLo) (hi * 2 ^ j + lo) (rw pow-add (digits_lt hk hm))
