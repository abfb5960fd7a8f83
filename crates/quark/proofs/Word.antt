-- Laws of a word's bits: `&`, `^`, shifts and remainders, at one bit and as a list.
use mathlib.Core.Path.{◌≡◌, refl, sym, ap, ap₂, ◌∙◌}
use mathlib.Core.List.{List, [], ◌∷◌, ◌++◌}
use Prim.Native.Nat.{ℕ, zero, suc, ◌+◌, ◌*◌, ◌-◌, ◌/◌, ◌%◌, ◌^◌, ◌<◌, min}
use native.Mathlib.Nat.{mod-lt, mod-eq_of_lt, zero-lt-suc, zero-min, zero-mul, mul_comm, mul-one, zero-add, suc-add, add-zero, add_comm, mul-add-mod_self_right, div-div-eq-div-mul, div-one, pow-suc, mod-mod, lt_of_le_of_lt, min-le_left, div-lt_iff_lt-mul, le_of_suc-le-suc, not-suc-le-zero, suc_inj, div-add-mod'}
use native.Mathlib.Omega.{arith}
use lib.Arith.{lt-one, digits_div, digits_mod}
use lib.Pow.{shr-shr, shr_lt, field, mod-mod-pow}
use lib.Bits.{bit_and, bit_xor, differ, and_step, xor_step, and_shr, xor_shr, block_half, block_odd}
use lib.ListN.{length, get_or, drop}
use Rattle.quark.specs.Word.{word_bit, word_bits, word_of}
use Rattle.quark.proofs.Bits.{Bits, none, more, Wide, parity_lt}

-- ---- one bit

pub word_bit-lt : (n i : ℕ) → word_bit n i < 2
unfolding word_bit
word_bit-lt n i = mod-lt (n / 2 ^ i) (zero-lt-suc 1)

pub word_bit-zero : (n : ℕ) → word_bit n zero ≡ n % 2
unfolding word_bit
word_bit-zero n = ap (λ (x : ℕ). x % 2) (div-one n)

pub word_bit-suc : (n i : ℕ) → word_bit n (suc i) ≡ word_bit (n / 2) i
unfolding word_bit
word_bit-suc n i =
    ap (λ (x : ℕ). n / x % 2) (pow-suc 2 i ∙ mul_comm (2 ^ i) 2) ∙ ap (λ (x : ℕ). x % 2) (sym (div-div-eq-div-mul n 2 (2 ^ i)))

-- a number moved down by j
pub word_bit-shr : (n j i : ℕ) → word_bit (n / 2 ^ j) i ≡ word_bit n (j + i)
unfolding word_bit
word_bit-shr n j i = ap (λ (x : ℕ). x % 2) (shr-shr n j i)

-- the low w digits
pub word_bit-mod : (n w i : ℕ) → i < w → word_bit (n % 2 ^ w) i ≡ word_bit n i
unfolding word_bit
word_bit-mod n w i h =
    let e : (w - suc i + 1) + i ≡ w = omega arith in
    ap (λ (x : ℕ). n % 2 ^ x / 2 ^ i % 2) (sym e)
    ∙ ap (λ (x : ℕ). x % 2) (field n (w - suc i + 1) i)
    ∙ mod-mod-pow (n / 2 ^ i) (w - suc i) 1

-- digits below 2
min-mul : (x y : ℕ) → x < 2 → y < 2 → min x y ≡ x * y
min-mul zero y hx hy = zero-min y ∙ sym (zero-mul y)
min-mul (suc zero) zero hx hy = refl
min-mul (suc zero) (suc zero) hx hy = refl
min-mul (suc zero) (suc (suc y)) hx hy = omega arith
min-mul (suc (suc x)) y hx hy = omega arith

differ_add : (x y : ℕ) → x < 2 → y < 2 → differ x y ≡ (x + y) % 2
differ_add zero zero hx hy = refl
differ_add zero (suc zero) hx hy = refl
differ_add (suc zero) zero hx hy = refl
differ_add (suc zero) (suc zero) hx hy = refl
differ_add zero (suc (suc y)) hx hy = omega arith
differ_add (suc zero) (suc (suc y)) hx hy = omega arith
differ_add (suc (suc x)) y hx hy = omega arith

two_pos : zero < 2
two_pos = zero-lt-suc 1

pub low_and : (a b : ℕ) → bit_and a b % 2 ≡ (a % 2) * (b % 2)
low_and a b =
    ap (λ (x : ℕ). x % 2) (and_step a b)
    ∙ mul-add-mod_self_right (bit_and (a / 2) (b / 2)) 2 (min (a % 2) (b % 2))
    ∙ mod-eq_of_lt (lt_of_le_of_lt (min-le_left (a % 2) (b % 2)) (mod-lt a two_pos))
    ∙ min-mul (a % 2) (b % 2) (mod-lt a two_pos) (mod-lt b two_pos)

pub and_half : (a b : ℕ) → bit_and a b / 2 ≡ bit_and (a / 2) (b / 2)
and_half a b =
    ap (λ (x : ℕ). x / 2) (and_step a b)
    ∙ digits_div (bit_and (a / 2) (b / 2)) (lt_of_le_of_lt (min-le_left (a % 2) (b % 2)) (mod-lt a two_pos))

pub low_xor : (a b : ℕ) → bit_xor a b % 2 ≡ (a % 2 + b % 2) % 2
low_xor a b =
    ap (λ (x : ℕ). x % 2) (xor_step a b)
    ∙ mul-add-mod_self_right (bit_xor (a / 2) (b / 2)) 2 (differ (a % 2) (b % 2))
    ∙ ap (λ (x : ℕ). x % 2) (differ_add (a % 2) (b % 2) (mod-lt a two_pos) (mod-lt b two_pos))
    ∙ mod-mod (a % 2 + b % 2) 2

-- `&` is the product and `^` the sum, bit by bit
pub word_bit-and : (a b k : ℕ) → word_bit (bit_and a b) k ≡ word_bit a k * word_bit b k
unfolding word_bit
word_bit-and a b k = ap (λ (x : ℕ). x % 2) (and_shr a b k) ∙ low_and (a / 2 ^ k) (b / 2 ^ k)

pub word_bit-xor : (a b k : ℕ) → word_bit (bit_xor a b) k ≡ (word_bit a k + word_bit b k) % 2
unfolding word_bit
word_bit-xor a b k = ap (λ (x : ℕ). x % 2) (xor_shr a b k) ∙ low_xor (a / 2 ^ k) (b / 2 ^ k)

-- ---- the list of bits

pub length-word_bits : (k n : ℕ) → length (word_bits k n) ≡ k
unfolding word_bits
length-word_bits zero n = refl
length-word_bits (suc k) n = ap suc (length-word_bits k (n / 2))

bits-word_bits : (k n : ℕ) → Bits (word_bits k n)
unfolding word_bits
bits-word_bits zero n = none
bits-word_bits (suc k) n = more (parity_lt n) (bits-word_bits k (n / 2))

pub wide_word_bits : (k n : ℕ) → Wide k (word_bits k n)
wide_word_bits k n = (length-word_bits k n, bits-word_bits k n)

pub get_or-word_bits : (k n i : ℕ) → i < k → get_or (word_bits k n) i 0 ≡ word_bit n i
unfolding word_bits
get_or-word_bits zero n i h = absurd (not-suc-le-zero h)
get_or-word_bits (suc k) n zero h = sym (word_bit-zero n)
get_or-word_bits (suc k) n (suc i) h = get_or-word_bits k (n / 2) i (le_of_suc-le-suc h) ∙ sym (word_bit-suc n i)

half-shr : (n w : ℕ) → n / 2 / 2 ^ w ≡ n / 2 ^ suc w
half-shr n w = div-div-eq-div-mul n 2 (2 ^ w) ∙ ap (λ (x : ℕ). n / x) (mul_comm 2 (2 ^ w) ∙ sym (pow-suc 2 w))

pub drop-word_bits : (w a n : ℕ) → drop w (word_bits (w + a) n) ≡ word_bits a (n / 2 ^ w)
unfolding word_bits
drop-word_bits zero a n = ap₂ word_bits (zero-add a) (sym (div-one n))
drop-word_bits (suc w) a n =
    ap (λ (k : ℕ). drop (suc w) (word_bits k n)) (suc-add w a) ∙ drop-word_bits w a (n / 2) ∙ ap (word_bits a) (half-shr n w)

half_lt : (a n : ℕ) → n < 2 ^ suc a → n / 2 < 2 ^ a
half_lt a n h = (div-lt_iff_lt-mul (zero-lt-suc 1)).1 (rw pow-suc at h)

pub append_word_bits : (a w n m : ℕ) → n < 2 ^ a → word_bits a n ++ word_bits w m ≡ word_bits (a + w) (m * 2 ^ a + n)
unfolding word_bits
append_word_bits zero w n m h =
    ap₂ word_bits (sym (zero-add w)) (sym (ap (λ (x : ℕ). m * 1 + x) (lt-one h) ∙ add-zero (m * 1) ∙ mul-one m))
append_word_bits (suc a) w n m h =
    ap₂ (λ (b : ℕ) (l : List ℕ). b ∷ l) (sym (block_odd m a n))
    (append_word_bits a w (n / 2) m (half_lt a n h) ∙ ap (word_bits (a + w)) (sym (block_half m a n)))
    ∙ ap (λ (k : ℕ). word_bits k (m * 2 ^ suc a + n)) (sym (suc-add a w))

-- one more bit at the end, and one more in front
pub snoc-word_bits : (j n : ℕ) → word_bits (suc j) n ≡ word_bits j n ++ (word_bit n j ∷ [])
unfolding word_bits
snoc-word_bits zero n = ap (λ (b : ℕ). b ∷ []) (sym (word_bit-zero n))
snoc-word_bits (suc j) n =
    ap (λ (l : List ℕ). n % 2 ∷ l) (snoc-word_bits j (n / 2) ∙ ap (λ (b : ℕ). word_bits j (n / 2) ++ (b ∷ [])) (sym (word_bit-suc n j)))

pub cons-word_bits : (k r b : ℕ) → b < 2 → word_bits (suc k) (r * 2 + b) ≡ b ∷ word_bits k r
unfolding word_bits
cons-word_bits k r b h = ap₂ (λ (x y : ℕ). x ∷ word_bits k y) (digits_mod r h) (digits_div r h)

-- a register moved down by w, with the w bits of m after it
pub move_word_bits : (w a n m : ℕ) → n < 2 ^ (w + a) → drop w (word_bits (w + a) n) ++ word_bits w m ≡ word_bits (a + w) (m * 2 ^ a + n / 2 ^ w)
move_word_bits w a n m h =
    ap (λ (l : List ℕ). l ++ word_bits w m) (drop-word_bits w a n) ∙ append_word_bits a w (n / 2 ^ w) m (shr_lt a w (rw add_comm at h))

-- ---- the number of a list of bits

-- a number of k digits is that of its bits
pub word_of_bits : (k n : ℕ) → n < 2 ^ k → word_of (word_bits k n) ≡ n
unfolding word_bits word_of
word_of_bits zero n h = sym (lt-one h)
word_of_bits (suc k) n h = ap (λ (r : ℕ). r * 2 + n % 2) (word_of_bits k (n / 2) (half_lt k n h)) ∙ div-add-mod' n 2

-- k bits are those of their number, which has k digits
pub bits-word_of : (k : ℕ) (bits : List ℕ) → Wide k bits → (word_bits k (word_of bits) ≡ bits) × (word_of bits < 2 ^ k)
unfolding word_bits word_of
bits-word_of zero [] w = (refl, omega arith)
bits-word_of zero (b ∷ bits) w = absurd (let n = w.0 in omega arith)
bits-word_of (suc k) [] w = absurd (let n = w.0 in omega arith)
bits-word_of (suc k) (b ∷ bits) (n, more small rest) =
    let inner = bits-word_of k bits (suc_inj n, rest) in
    (cons-word_bits k (word_of bits) b small ∙ ap (λ (l : List ℕ). b ∷ l) inner.0, omega (arith, inner.1, pow-suc 2 k))
