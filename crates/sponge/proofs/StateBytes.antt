-- A state's 32 bytes and its b bits: they determine each other where every byte from b/8 on is zero; and what the code does to the bytes
-- is what the definition does to the bits.
use mathlib.Core.Bool.{true, not, ◌||◌}
use mathlib.Core.List.{List, [], ◌++◌, append-nil}
use mathlib.Core.Path.{◌≡◌, refl, sym, ap, ap₂, ◌∙◌, subst}
use Prim.Native.Nat.{ℕ, zero, suc, ◌+◌, ◌*◌, ◌-◌, ◌/◌, ◌%◌, ◌^◌, ◌<◌, ◌≤◌}
use native.Mathlib.Nat.{div-add-mod', add-zero, add_assoc, mod-add-mod, mod-mod, mul-div_cancel, mod-eq_of_lt, div-eq_of_lt, mul_assoc, pow-suc, mul-le-mul, mul-le-mul_right, min-le_left}
use native.Mathlib.Decide.{dec_lt, ℕ_discrete}
use native.Mathlib.Omega.{arith}
use borrow.Author.Tests.{eq-eqb, ne_eqb}
use lib.Bits.{bit_and, bit_xor, and_mask, xor_lt}
use lib.Dec.{eqb}
use lib.ListN.{length, get_or, set, take, drop, replicate, length-drop, length-take, length-set, take-append-drop, get_or-eq_default, length-replicate}
use lib.Pow.{pow_pos, pow_mono, pow-lt, pow-add}
use lib.Seq.{ext_get_or, length-take-le, get_or-take, get_or-drop, get_or-set_same, get_or-set_other, drop-set-lt}
use Rattle.quark.specs.Bytes.{bit, bit_at, bits_of, bytes_of}
use Rattle.quark.specs.Instance.{U, D, S, instance_of, state_bytes}
use Rattle.quark.specs.Step.{P}
use Rattle.quark.specs.Word.{word_bit}
use Rattle.quark.proofs.Bits.{Wide}
use Rattle.quark.proofs.Bytes.{bytes-append, tabulate-cong, wide_bits_of, get_or-bits_of, length-bytes_of, bits_of_bytes, bytes-of_bits, byte_past, get_or-bytes_of}
use Rattle.quark.proofs.Instance.{in_bytes, of_each, regular, P-wide}
use Rattle.quark.proofs.Word.{word_bit-xor}
use Rattle.permutation.specs.Permute.{on_bytes}
use Rattle.sponge.specs.Soundness.{all_zero}
use Rattle.sponge.proofs.Taking.{divided}
use Rattle.sponge.proofs.AllZero.{zeros_of, all_zero_lem}

-- every element is a byte
abbrev pub Bytes : List ℕ → Type 0
Bytes l = (j : ℕ) → get_or l j 0 < 256

-- the bytes of the last r bits: r/8 bytes from (b - r)/8 on
unfoldable pub last_bytes : ℕ → List ℕ → List ℕ
last_bytes i bytes = take ((instance_of i).r / 8) (drop (((instance_of i).b - (instance_of i).r) / 8) bytes)

-- a block is whole bytes
pub whole-rate : (i : ℕ) → (instance_of i).r ≡ 8 * ((instance_of i).r / 8)
unfolding U D S
whole-rate = of_each (λ I. I.r ≡ 8 * (I.r / 8)) refl refl refl

-- and at least one
pub some_block_bytes : (i : ℕ) → 0 < (instance_of i).r / 8
some_block_bytes i = omega (arith, (regular i).some_rate, whole-rate i)

-- a length is k parts of q exactly when it divides into k and leaves nothing
pub whole_parts : (q n k : ℕ) → 0 < q → (not (eqb (n % q) 0) || not (eqb (n / q) k)) ≡ not (eqb n (k * q))
whole_parts q n k some = elim (ℕ_discrete n (k * q)) [ yes e ↦ parts e | no d ↦ rw (ne_eqb n (k * q) d) (rest d) ]
  where
    parts : n ≡ k * q → (not (eqb (n % q) 0) || not (eqb (n / q) k)) ≡ not (eqb n (k * q))
    parts e =
        let d = divided q k 0 n some (e ∙ sym (add-zero (k * q))) in
        rw (eq-eqb n (k * q) e, eq-eqb (n % q) 0 d.1, eq-eqb (n / q) k d.0)

    rest : (n ≡ k * q → ⊥) → (not (eqb (n % q) 0) || not (eqb (n / q) k)) ≡ true
    rest d =
        elim (ℕ_discrete (n % q) 0) [
          | yes z ↦ rw (eq-eqb (n % q) 0 z, ne_eqb (n / q) k (λ e. d (sym (div-add-mod' n q) ∙ ap₂ (λ (a b : ℕ). a * q + b) e z ∙ add-zero (k * q))))
          | no z ↦ rw (ne_eqb (n % q) 0 z)
        ]

-- so is what stands before the last
pub whole-front : (i : ℕ) → 8 * (((instance_of i).b - (instance_of i).r) / 8) ≡ (instance_of i).b - (instance_of i).r
unfolding U D S
whole-front = of_each (λ I. 8 * ((I.b - I.r) / 8) ≡ I.b - I.r) refl refl refl

-- a digest has at most 17 blocks
pub outputs_small : (i : ℕ) → (instance_of i).n / (instance_of i).r ≤ 17
unfolding U D S
outputs_small = of_each (λ I. I.n / I.r ≤ 17) (omega arith) (omega arith) (omega arith)

-- r is a power of two, so a number under the mask r - 1 is its remainder by r
pub mask_remainder : (i n : ℕ) → bit_and n ((instance_of i).r - 1) ≡ n % (instance_of i).r
unfolding U D S
mask_remainder i n = of_each (λ I. bit_and n (I.r - 1) ≡ n % I.r) (and_mask n 3) (and_mask n 4) (and_mask n 5) i

-- and a multiple of 32 is a multiple of r
pub multiple_of_32 : (i n : ℕ) → n % 32 ≡ 0 → n % (instance_of i).r ≡ 0
unfolding U D S
multiple_of_32 i n h = of_each (λ I. n % I.r ≡ 0) (omega (arith, h)) (omega (arith, h)) (omega (arith, h)) i

-- the padded length, by the total's remainder
pub padded_remainder : (t r z : ℕ) → (t % r + 1 + z) % r ≡ (t + 1 + z) % r
padded_remainder t r z =
    ap (λ (n : ℕ). n % r) (add_assoc (t % r) 1 z) ∙ mod-add-mod t r (1 + z) ∙ ap (λ (n : ℕ). n % r) (sym (add_assoc t 1 z))

-- ---- no bits

bytes-none : (m : ℕ) → ◌≡◌ {A = List ℕ} (bytes_of m []) (replicate m 0)
bytes-none m =
    ext_get_or 0 (bytes_of m []) (replicate m 0) (length-bytes_of m [] ∙ sym (length-replicate m 0))
    (λ j h. nothing j (subst (λ (k : ℕ). j < k) (length-bytes_of m []) h) ∙ sym (zeros m j))
  where
    zeros : (n j : ℕ) → ◌≡◌ {A = ℕ} (get_or (replicate n 0) j 0) 0
    zeros zero j = refl
    zeros (suc n) zero = refl
    zeros (suc n) (suc j) = zeros n j

    nothing : (j : ℕ) → j < m → get_or (bytes_of m []) j 0 ≡ 0
    nothing j h = get_or-bytes_of m [] j h ∙ byte_past [] j (omega arith)

-- ---- parts of bytes

pub bytes_take : (k : ℕ) (l : List ℕ) → Bytes l → Bytes (take k l)
bytes_take k l small j = elim (dec_lt j k) [ yes h ↦ rw get_or-take (small j) | no h ↦ past h ]
  where
    past : (j < k → ⊥) → get_or (take k l) j 0 < 256
    past h = rw (get_or-eq_default (take k l) 0 {n = j} (omega (arith, length-take k l, min-le_left k (length l)))) (omega arith)

pub bytes_drop : (k : ℕ) (l : List ℕ) → Bytes l → Bytes (drop k l)
bytes_drop k l small j = rw get_or-drop (small (k + j))

-- ---- a bit is added in its byte

-- a bit's weight is within a byte
pub weight_lt : (x k : ℕ) → x < 2 → x * 2 ^ (7 - k) < 256
weight_lt x k h = omega (arith, mul-le-mul {n₁ = x} {m₁ = 2 ^ (7 - k)} {n₂ = 1} {m₂ = 2 ^ 7} (omega arith) (pow_mono {j = 7} (omega arith)))

own_bit : (x k : ℕ) → x < 2 → word_bit (x * 2 ^ k) k ≡ x
unfolding word_bit
own_bit x k h = ap (λ (z : ℕ). z % 2) (mul-div_cancel x (pow_pos k)) ∙ mod-eq_of_lt h

other_bit : (x k u : ℕ) → x < 2 → (u ≡ k → ⊥) → word_bit (x * 2 ^ k) u ≡ 0
unfolding word_bit
other_bit x k u h ne = elim (dec_lt u k) [ yes l ↦ above (k - u - 1) (omega arith) | no n ↦ below (omega arith) ]
  where
    above : (d : ℕ) → k ≡ suc d + u → x * 2 ^ k / 2 ^ u % 2 ≡ 0
    above d e =
        ap (λ (z : ℕ). x * 2 ^ z / 2 ^ u % 2) e
        ∙ ap (λ (z : ℕ). x * z / 2 ^ u % 2) (pow-add 2 (suc d) u)
        ∙ ap (λ (z : ℕ). z / 2 ^ u % 2) (sym (mul_assoc x (2 ^ suc d) (2 ^ u)))
        ∙ ap (λ (z : ℕ). z % 2) (mul-div_cancel (x * 2 ^ suc d) (pow_pos u))
        ∙ ap (λ (z : ℕ). x * z % 2) (pow-suc 2 d)
        ∙ ap (λ (z : ℕ). z % 2) (sym (mul_assoc x (2 ^ d) 2))
        ∙ omega arith

    below : k < u → x * 2 ^ k / 2 ^ u % 2 ≡ 0
    below l =
        let once : x * 2 ^ k ≤ 1 * 2 ^ k = mul-le-mul_right (2 ^ k) (omega arith) in
        let less : x * 2 ^ k < 2 ^ u = omega (arith, pow-lt l) in
        ap (λ (z : ℕ). z % 2) (div-eq_of_lt less)

-- bytes with a bit added at an index
abbrev pub flipped : List ℕ → (at x : ℕ) → List ℕ
flipped l at x = set l (at / 8) (bit_xor (get_or l (at / 8) 0) (x * 2 ^ (7 - at % 8)))

module _ (l : List ℕ) (at x : ℕ) (within : at / 8 < length l) (single : x < 2) where
  bit-flipped : bit_at (flipped l at x) at ≡ (bit_at l at + x) % 2
  unfolding bit_at word_bit
  bit-flipped =
      let k = 7 - at % 8 in
      ap (λ (z : ℕ). z / 2 ^ k % 2) (get_or-set_same l (at / 8) (bit_xor (get_or l (at / 8) 0) (x * 2 ^ k)) 0 within)
      ∙ word_bit-xor (get_or l (at / 8) 0) (x * 2 ^ k) k
      ∙ ap (λ (z : ℕ). (word_bit (get_or l (at / 8) 0) k + z) % 2) (own_bit x k single)

  bit_kept : (j : ℕ) → (j ≡ at → ⊥) → bit_at (flipped l at x) j ≡ bit_at l j
  unfolding bit_at word_bit
  bit_kept j ne = elim (ℕ_discrete (j / 8) (at / 8)) [ yes e ↦ same e | no d ↦ other d ]
    where
      other : (j / 8 ≡ at / 8 → ⊥) → bit_at (flipped l at x) j ≡ bit_at l j
      other d =
          ap (λ (z : ℕ). z / 2 ^ (7 - j % 8) % 2)
          (get_or-set_other l (at / 8) (j / 8) (bit_xor (get_or l (at / 8) 0) (x * 2 ^ (7 - at % 8))) 0 d)

      same : j / 8 ≡ at / 8 → bit_at (flipped l at x) j ≡ bit_at l j
      same e =
          let k = 7 - at % 8 in
          let u = 7 - j % 8 in
          let byte = get_or l (at / 8) 0 in
          let differs : u ≡ k → ⊥ = λ q. ne (omega arith) in
          ap (λ (z : ℕ). get_or (flipped l at x) z 0 / 2 ^ u % 2) e
          ∙ ap (λ (z : ℕ). z / 2 ^ u % 2) (get_or-set_same l (at / 8) (bit_xor byte (x * 2 ^ k)) 0 within)
          ∙ word_bit-xor byte (x * 2 ^ k) u
          ∙ ap (λ (z : ℕ). (word_bit byte u + z) % 2) (other_bit x k u single differs)
          ∙ ap (λ (z : ℕ). z % 2) (add-zero (word_bit byte u))
          ∙ mod-mod (byte / 2 ^ u) 2
          ∙ ap (λ (z : ℕ). get_or l z 0 / 2 ^ u % 2) (sym e)

  -- the bits are the same but the one at the index
  bits-flipped : (n : ℕ) → at < n → bits_of n (flipped l at x) ≡ set (bits_of n l) at ((bit (bits_of n l) at + x) % 2)
  bits-flipped n h =
      let s = bits_of n l in
      let v = (bit s at + x) % 2 in
      let long = (wide_bits_of n (flipped l at x)).0 in
      let long' = (wide_bits_of n l).0 in
      ext_get_or 0 (bits_of n (flipped l at x)) (set s at v) (long ∙ sym (length-set s at v ∙ long'))
      (λ j g. each j (subst (λ (k : ℕ). j < k) long g))
    where
      each : (j : ℕ) → j < n → bit (bits_of n (flipped l at x)) j ≡ bit (set (bits_of n l) at ((bit (bits_of n l) at + x) % 2)) j
      each j g =
          get_or-bits_of n (flipped l at x) j g
          ∙ elim (ℕ_discrete j at) [ yes e ↦ here e | no d ↦ bit_kept j d ∙ sym (get_or-set_other (bits_of n l) at j ((bit (bits_of n l) at + x) % 2) 0 d ∙ get_or-bits_of n l j g) ]
        where
          here : j ≡ at → bit_at (flipped l at x) j ≡ bit (set (bits_of n l) at ((bit (bits_of n l) at + x) % 2)) j
          here e =
              let v = (bit (bits_of n l) at + x) % 2 in
              ap (bit_at (flipped l at x)) e
              ∙ bit-flipped
              ∙ ap (λ (z : ℕ). (z + x) % 2) (sym (get_or-bits_of n l at h))
              ∙ sym (get_or-set_same (bits_of n l) at v 0 (rw (wide_bits_of n l).0 h))
              ∙ ap (bit (set (bits_of n l) at v)) (sym e)

  bytes-flipped : Bytes l → Bytes (flipped l at x)
  bytes-flipped small j =
      elim (ℕ_discrete j (at / 8)) [
        | yes e ↦ rw e (rw (get_or-set_same l (at / 8) (bit_xor (get_or l (at / 8) 0) (x * 2 ^ (7 - at % 8))) 0 within) (xor_lt 8 (get_or l (at / 8) 0) (x * 2 ^ (7 - at % 8)) (small (at / 8)) (weight_lt x (at % 8) single)))
        | no d ↦ rw (get_or-set_other l (at / 8) j (bit_xor (get_or l (at / 8) 0) (x * 2 ^ (7 - at % 8))) 0 d) (small j)
      ]

-- ---- zeros after b/8 bytes

module _ (i : ℕ) where
  -- b bits in 32 bytes, and out of them
  pub bits-content : (s : List ℕ) → Wide (instance_of i).b s → bits_of (instance_of i).b (bytes_of 32 s) ≡ s
  bits-content s w = bits_of_bytes (instance_of i).b 32 s (in_bytes i).at-most_256 w

  -- the bytes after b bits are zero
  pub zero_past : (s : List ℕ) → Wide (instance_of i).b s → all_zero (drop (state_bytes i) (bytes_of 32 s)) ≡ true
  unfolding state_bytes
  zero_past s w =
      all_zero_lem (drop (state_bytes i) (bytes_of 32 s))
      (λ j. get_or-drop (state_bytes i) (bytes_of 32 s) j 0 ∙ past (state_bytes i + j) (omega arith))
    where
      past : (k : ℕ) → state_bytes i ≤ k → get_or (bytes_of 32 s) k 0 ≡ 0
      past k h =
          elim (dec_lt k 32) [
            | yes g ↦ get_or-bytes_of 32 s k g ∙ byte_past s k (omega (arith, w.0, (in_bytes i).whole-bytes))
            | no g ↦ get_or-eq_default (bytes_of 32 s) 0 {n = k} (omega (arith, length-bytes_of 32 s))
          ]

  -- b bits in 32 bytes: b/8 bytes, then zeros
  pub bytes-wide : (s : List ℕ) → Wide (instance_of i).b s
      → bytes_of 32 s ≡ bytes_of (state_bytes i) s ++ replicate (32 - state_bytes i) 0
  unfolding state_bytes
  bytes-wide s w =
      let k = state_bytes i in
      let n : 32 ≡ k + (32 - k) = omega (arith, (in_bytes i).whole-bytes, (in_bytes i).at-most_256) in
      ap₂ bytes_of n (sym (append-nil s))
      ∙ bytes-append k (32 - k) s [] (w.0 ∙ (in_bytes i).whole-bytes)
      ∙ ap (λ (l : List ℕ). bytes_of k s ++ l) (bytes-none (32 - k))

  -- b/8 bytes, and bits of the first b/8 bytes alone
  bits-front : (l : List ℕ) → bits_of (instance_of i).b (take (state_bytes i) l) ≡ bits_of (instance_of i).b l
  unfolding bits_of bit_at state_bytes
  bits-front l =
      tabulate-cong (instance_of i).b (bit_at (take (state_bytes i) l)) (bit_at l)
      (λ j h. ap (λ (x : ℕ). x / 2 ^ (7 - j % 8) % 2) (get_or-take (state_bytes i) l (j / 8) 0 (omega (arith, (in_bytes i).whole-bytes))))

  -- bytes that are zero from b/8 on come back from their b bits
  pub bytes-content : (l : List ℕ) → length l ≡ 32 → Bytes l → all_zero (drop (state_bytes i) l) ≡ true → bytes_of 32 (bits_of (instance_of i).b l) ≡ l
  unfolding state_bytes
  bytes-content l size small z =
      let k = state_bytes i in
      let s = bits_of (instance_of i).b l in
      let n : length (drop k l) ≡ 32 - k = length-drop k l ∙ ap (λ (m : ℕ). m - k) size in
      let m : length (take k l) ≡ k = length-take-le k l (omega (arith, (in_bytes i).at-most_256)) in
      bytes-wide s (wide_bits_of (instance_of i).b l)
      ∙ ap₂ (λ (x y : List ℕ). x ++ y)
      (ap (bytes_of k) (sym (bits-front l) ∙ ap (λ (j : ℕ). bits_of j (take k l)) (in_bytes i).whole-bytes)
      ∙ bytes-of_bits k (take k l) m (bytes_take k l small))
      (sym (zeros_of (drop k l) z ∙ ap (λ (j : ℕ). replicate j 0) n))
      ∙ take-append-drop k l

  -- the last r bits stand in the last r/8 bytes
  last-bits : (l : List ℕ) → bits_of (8 * ((instance_of i).r / 8)) (take ((instance_of i).r / 8) (drop (((instance_of i).b - (instance_of i).r) / 8) l))
      ≡ drop ((instance_of i).b - (instance_of i).r) (bits_of (instance_of i).b l)
  unfolding bit_at
  last-bits l =
      let b = (instance_of i).b in
      let r = (instance_of i).r in
      let q = r / 8 in
      let from = (b - r) / 8 in
      let part = take q (drop from l) in
      let long = (wide_bits_of (8 * q) part).0 in
      ext_get_or 0 (bits_of (8 * q) part) (drop (b - r) (bits_of b l))
      (long ∙ sym (length-drop (b - r) (bits_of b l) ∙ ap (λ (n : ℕ). n - (b - r)) (wide_bits_of b l).0 ∙ omega (arith, whole-rate i, (regular i).rate_fits)))
      (λ j g. let h : j < 8 * q = subst (λ (k : ℕ). j < k) long g in
      let within : b - r + j < b = omega (arith, whole-rate i, (regular i).rate_fits) in
      let byte : (b - r + j) / 8 ≡ from + j / 8 = omega (arith, whole-rate i, (regular i).rate_fits, (in_bytes i).whole-bytes) in
      let weight : (b - r + j) % 8 ≡ j % 8 = omega (arith, whole-rate i, (regular i).rate_fits, (in_bytes i).whole-bytes) in
      get_or-bits_of (8 * q) part j h
      ∙ ap (λ (x : ℕ). x / 2 ^ (7 - j % 8) % 2) (get_or-take q (drop from l) (j / 8) 0 (omega arith) ∙ get_or-drop from l (j / 8) 0)
      ∙ sym (ap₂ (λ (x y : ℕ). get_or l x 0 / 2 ^ (7 - y) % 2) byte weight)
      ∙ sym (get_or-drop (b - r) (bits_of b l) j 0 ∙ get_or-bits_of b l (b - r + j) within))

  module _ (l : List ℕ) (size : length l ≡ 32) where
    -- P on the first b/8 bytes is P on the b bits
    pub bytes-permuted : all_zero (drop (state_bytes i) l) ≡ true
        → on_bytes P i (take (state_bytes i) l) ++ drop (state_bytes i) l
        ≡ bytes_of 32 (P (instance_of i).taps (bits_of (instance_of i).b l))
    unfolding on_bytes state_bytes
    bytes-permuted z =
        let k = state_bytes i in
        let n : length (drop k l) ≡ 32 - k = length-drop k l ∙ ap (λ (m : ℕ). m - k) size in
        ap₂ (λ (x y : List ℕ). bytes_of k (P (instance_of i).taps x) ++ y) (bits-front l)
        (zeros_of (drop k l) z ∙ ap (λ (m : ℕ). replicate m 0) n)
        ∙ sym (bytes-wide (P (instance_of i).taps (bits_of (instance_of i).b l))
        (P-wide (instance_of i) (regular i) (bits_of (instance_of i).b l) (wide_bits_of (instance_of i).b l)))

    -- a bit is added to the b bits
    pub bytes-added : Bytes l → all_zero (drop (state_bytes i) l) ≡ true → (at x : ℕ) → at < (instance_of i).b → x < 2
        → flipped l at x ≡ bytes_of 32 (set (bits_of (instance_of i).b l) at ((bit (bits_of (instance_of i).b l) at + x) % 2))
    unfolding state_bytes
    bytes-added small z at x h single =
        let l' = flipped l at x in
        let v = bit_xor (get_or l (at / 8) 0) (x * 2 ^ (7 - at % 8)) in
        let within : at / 8 < length l = omega (arith, (in_bytes i).at-most_256) in
        let kept : drop (state_bytes i) l' ≡ drop (state_bytes i) l =
        drop-set-lt (state_bytes i) l (at / 8) v (omega (arith, (in_bytes i).whole-bytes)) in
        sym (bytes-content l' (length-set l (at / 8) v ∙ size) (bytes-flipped l at x within single small) (ap all_zero kept ∙ z))
        ∙ ap (bytes_of 32) (bits-flipped l at x within single (instance_of i).b h)

    -- the part for the output, by the numbers that the code finds
    pub last-part : (from step : ℕ) → from ≡ ((instance_of i).b - (instance_of i).r) / 8 → step ≡ (instance_of i).r / 8
        → take (from + step - from) (drop from l) ≡ last_bytes i l
    unfolding last_bytes
    last-part from step ef es =
        let long : from + step - from ≡ (instance_of i).r / 8 = omega arith in
        ap₂ (λ (m k : ℕ). take m (drop k l)) long ef

    pub last-size : length (last_bytes i l) ≡ (instance_of i).r / 8
    unfolding last_bytes
    last-size =
        length-take-le ((instance_of i).r / 8) (drop (((instance_of i).b - (instance_of i).r) / 8) l)
        (rw length-drop (omega (arith, (regular i).rate_fits, (in_bytes i).at-most_256, (in_bytes i).whole-bytes)))

    -- the part for the output holds the last r bits
    pub bytes-last : Bytes l → last_bytes i l ≡ bytes_of ((instance_of i).r / 8) (drop ((instance_of i).b - (instance_of i).r) (bits_of (instance_of i).b l))
    unfolding last_bytes bit_at
    bytes-last small =
        let q = (instance_of i).r / 8 in
        let from = ((instance_of i).b - (instance_of i).r) / 8 in
        let part = take q (drop from l) in
        sym (bytes-of_bits q part last-size (bytes_take q (drop from l) (bytes_drop from l small))) ∙ ap (bytes_of q) (last-bits l)
