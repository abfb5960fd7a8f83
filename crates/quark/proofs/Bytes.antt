-- The byte form, there and back: bits of bytes of bits, and bytes of bits of bytes.
use mathlib.Core.List.{List, [], ◌∷◌, ◌++◌, append-nil, append_assoc}
use mathlib.Core.Path.{◌≡◌, refl, sym, ap, ap₂, ◌∙◌, subst}
use Prim.Native.Nat.{ℕ, zero, suc, ◌+◌, ◌*◌, ◌-◌, ◌/◌, ◌%◌, ◌^◌, ◌<◌, ◌≤◌}
use native.Mathlib.Nat.{add-zero, add-suc, not-suc-le-zero}
use native.Mathlib.Decide.{dec_lt}
use native.Mathlib.Omega.{arith}
use lib.ListN.{length, get_or, length-append, get_or-append, get_or-eq_default}
use lib.Seq.{ext_get_or, get_or_at, get_or-append-add}
use Rattle.quark.specs.Bytes.{bit, tabulate, bit_at, bits_of, byte_at, bytes_of}
use Rattle.quark.specs.Word.{word_bit}
use Rattle.quark.proofs.Bits.{Bits, Wide, parity_lt, bits_at, bits-tabulate}
use Rattle.quark.proofs.Weights.{weighed, weighed_cong, weighed_bit, weighed_bits}

-- ---- tabulated lists

pub length-tabulate : (n : ℕ) (F : ℕ → ℕ) → length (tabulate n F) ≡ n
unfolding tabulate
length-tabulate zero F = refl
length-tabulate (suc n) F = length-append (tabulate n F) (F n ∷ []) ∙ omega (arith, length-tabulate n F)

pub get_or-tabulate : (n : ℕ) (F : ℕ → ℕ) (i : ℕ) → i < n → get_or (tabulate n F) i 0 ≡ F i
unfolding tabulate
get_or-tabulate zero F i h = absurd (not-suc-le-zero h)
get_or-tabulate (suc n) F i h = case (dec_lt i n) (get_or-tabulate n F i)
  where
    case : Dec (i < n) → (i < n → get_or (tabulate n F) i 0 ≡ F i) → get_or (tabulate n F ++ (F n ∷ [])) i 0 ≡ F i
    case (yes q) r = get_or-append (tabulate n F) (F n ∷ []) 0 i (omega (arith, length-tabulate n F)) ∙ r q
    case (no q) r =
        let e : n ≡ i = omega arith in
        get_or_at (tabulate n F) (F n) [] 0 i (length-tabulate n F ∙ e) ∙ ap F e

pub tabulate-cong : (n : ℕ) (F G : ℕ → ℕ) → ((i : ℕ) → i < n → F i ≡ G i) → tabulate n F ≡ tabulate n G
unfolding tabulate
tabulate-cong zero F G e = refl
tabulate-cong (suc n) F G e =
    ap₂ (λ (l : List ℕ) (v : ℕ). l ++ (v ∷ [])) (tabulate-cong n F G (λ i h. e i (omega arith))) (e n (omega arith))

-- ---- bits of bytes are bits

pub wide_bits_of : (n : ℕ) (bytes : List ℕ) → Wide n (bits_of n bytes)
unfolding bits_of bit_at
wide_bits_of n bytes = (length-tabulate n (bit_at bytes), bits-tabulate n (bit_at bytes) (λ i. parity_lt _))

pub get_or-bits_of : (n : ℕ) (bytes : List ℕ) (i : ℕ) → i < n → bit (bits_of n bytes) i ≡ bit_at bytes i
unfolding bits_of
get_or-bits_of n bytes i h = get_or-tabulate n (bit_at bytes) i h

pub get_or-bytes_of : (n : ℕ) (s : List ℕ) (j : ℕ) → j < n → get_or (bytes_of n s) j 0 ≡ byte_at s j
unfolding bytes_of
get_or-bytes_of n s j h = get_or-tabulate n (byte_at s) j h

pub length-bytes_of : (n : ℕ) (s : List ℕ) → length (bytes_of n s) ≡ n
unfolding bytes_of
length-bytes_of n s = length-tabulate n (byte_at s)

-- ---- from bits to bytes and back

-- the weight of a bit in its byte
bit-weight : (bytes : List ℕ) (i : ℕ) → bit_at bytes i ≡ word_bit (get_or bytes (i / 8) 0) (7 - i % 8)
unfolding bit_at word_bit
bit-weight bytes i = ap (λ (k : ℕ). get_or bytes (i / 8) 0 / 2 ^ k % 2) (omega arith)

-- a byte is the number of its eight bits
pub byte-weighed : (s : List ℕ) (j : ℕ) → byte_at s j ≡ weighed (λ k. bit s (8 * j + k)) 8
unfolding byte_at weighed
byte-weighed s j = omega (arith, ap (bit s) (add-zero (8 * j)))

byte-bit : (s : List ℕ) → Bits s → (j k : ℕ) → k < 8 → word_bit (byte_at s j) (7 - k) ≡ bit s (8 * j + k)
byte-bit s b j k h =
    let a : ℕ → ℕ = λ i. bit s (8 * j + i) in
    let eight : 8 ≡ suc k + (7 - k) = omega arith in
    ap (λ (x : ℕ). word_bit x (7 - k)) (byte-weighed s j ∙ ap (weighed a) eight) ∙ weighed_bit a (λ i. bits_at b (8 * j + i)) k (7 - k)

-- bytes of the same bits
byte-cong : (s t : List ℕ) (i j : ℕ) → ((k : ℕ) → k < 8 → bit s (8 * i + k) ≡ bit t (8 * j + k)) → byte_at s i ≡ byte_at t j
byte-cong s t i j e = byte-weighed s i ∙ weighed_cong 8 (λ k. bit s (8 * i + k)) (λ k. bit t (8 * j + k)) e ∙ sym (byte-weighed t j)

pub bits_of_bytes : (n m : ℕ) (s : List ℕ) → n ≤ 8 * m → Wide n s → bits_of n (bytes_of m s) ≡ s
bits_of_bytes n m s fits w =
    ext_get_or 0 (bits_of n (bytes_of m s)) s ((wide_bits_of n (bytes_of m s)).0 ∙ sym w.0)
    (λ i h. at i (subst (λ (k : ℕ). i < k) (wide_bits_of n (bytes_of m s)).0 h))
  where
    at : (i : ℕ) → i < n → bit (bits_of n (bytes_of m s)) i ≡ bit s i
    at i h =
        let e : 8 * (i / 8) + i % 8 ≡ i = omega arith in
        get_or-bits_of n (bytes_of m s) i h
        ∙ bit-weight (bytes_of m s) i
        ∙ ap (λ (x : ℕ). word_bit x (7 - i % 8)) (get_or-bytes_of m s (i / 8) (omega arith))
        ∙ byte-bit s w.1 (i / 8) (i % 8) (omega arith)
        ∙ ap (bit s) e

-- ---- from bytes to bits and back

pub bytes-of_bits : (n : ℕ) (bytes : List ℕ) → length bytes ≡ n → ((j : ℕ) → get_or bytes j 0 < 256) → bytes_of n (bits_of (8 * n) bytes) ≡ bytes
bytes-of_bits n bytes e small =
    ext_get_or 0 (bytes_of n (bits_of (8 * n) bytes)) bytes (length-bytes_of n (bits_of (8 * n) bytes) ∙ sym e)
    (λ j h. at j (subst (λ (k : ℕ). j < k) (length-bytes_of n (bits_of (8 * n) bytes)) h))
  where
    in_byte : (j k : ℕ) → j < n → k < 8 → bit (bits_of (8 * n) bytes) (8 * j + k) ≡ word_bit (get_or bytes j 0) (7 - k)
    in_byte j k h g =
        let q : (8 * j + k) / 8 ≡ j = omega arith in
        let r : (8 * j + k) % 8 ≡ k = omega arith in
        get_or-bits_of (8 * n) bytes (8 * j + k) (omega arith)
        ∙ bit-weight bytes (8 * j + k)
        ∙ ap₂ (λ (x y : ℕ). word_bit (get_or bytes x 0) (7 - y)) q r

    at : (j : ℕ) → j < n → get_or (bytes_of n (bits_of (8 * n) bytes)) j 0 ≡ get_or bytes j 0
    at j h =
        let s = bits_of (8 * n) bytes in
        get_or-bytes_of n s j h
        ∙ byte-weighed s j
        ∙ weighed_cong 8 (λ k. bit s (8 * j + k)) (λ k. word_bit (get_or bytes j 0) (7 - k)) (λ k g. in_byte j k h g)
        ∙ weighed_bits (get_or bytes j 0) 8 (small j)

-- ---- past the end of the bits

pub byte_past : (s : List ℕ) (j : ℕ) → length s ≤ 8 * j → byte_at s j ≡ 0
unfolding byte_at
byte_past s j h = byte-cong s [] j 0 (λ k g. get_or-eq_default s 0 (omega arith))

-- ---- one list of bits after another

tabulate-append : (k m : ℕ) (F : ℕ → ℕ) → tabulate (k + m) F ≡ tabulate k F ++ tabulate m (λ j. F (k + j))
unfolding tabulate
tabulate-append k zero F = ap (λ (n : ℕ). tabulate n F) (add-zero k) ∙ sym (append-nil (tabulate k F))
tabulate-append k (suc m) F =
    ap (λ (n : ℕ). tabulate n F) (add-suc k m)
    ∙ ap (λ (l : List ℕ). l ++ (F (k + m) ∷ [])) (tabulate-append k m F)
    ∙ append_assoc (tabulate k F) (tabulate m (λ j. F (k + j))) (F (k + m) ∷ [])

byte-front : (x y : List ℕ) (j : ℕ) → 8 * j + 8 ≤ length x → byte_at (x ++ y) j ≡ byte_at x j
byte-front x y j h = byte-cong (x ++ y) x j j (λ k g. get_or-append x y 0 (8 * j + k) (omega arith))

byte-after : (x y : List ℕ) (m j : ℕ) → length x ≡ 8 * m → byte_at (x ++ y) (m + j) ≡ byte_at y j
byte-after x y m j h =
    byte-cong (x ++ y) y (m + j) j
    (λ k g. let e : 8 * (m + j) + k ≡ length x + (8 * j + k) = omega arith in
    ap (λ (n : ℕ). get_or (x ++ y) n 0) e ∙ get_or-append-add x y (8 * j + k) 0)

pub bytes-append : (m q : ℕ) (x y : List ℕ) → length x ≡ 8 * m → bytes_of (m + q) (x ++ y) ≡ bytes_of m x ++ bytes_of q y
unfolding bytes_of
bytes-append m q x y h =
    tabulate-append m q (byte_at (x ++ y))
    ∙ ap₂ (λ (a b : List ℕ). a ++ b)
    (tabulate-cong m (byte_at (x ++ y)) (byte_at x) (λ j g. byte-front x y j (omega arith)))
    (tabulate-cong q (λ j. byte_at (x ++ y) (m + j)) (byte_at y) (λ j g. byte-after x y m j h))

-- the bytes of a list's whole bytes, with more bits after it
pub bytes-front : (n : ℕ) (x y : List ℕ) → 8 * n ≤ length x → bytes_of n (x ++ y) ≡ bytes_of n x
unfolding bytes_of
bytes-front n x y h = tabulate-cong n (byte_at (x ++ y)) (byte_at x) (λ j g. byte-front x y j (omega arith))
