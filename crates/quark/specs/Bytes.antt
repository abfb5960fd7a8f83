-- Bits and their byte form (document 01, "Steps, permutation and inverse"). Message bits are ordered like state bits.
-- A bit is the number 0 or 1. A list of bits has bit 0 first.
use Rattle.std.specs.Prelude.{List, [], ◌∷◌, ◌++◌, ℕ, zero, suc, ◌+◌, ◌*◌, ◌-◌, ◌/◌, ◌%◌, ◌^◌, get_or}

-- bit i of a list of bits, 0 past its end
abbrev pub bit : List ℕ → ℕ → ℕ
bit s i = get_or s i 0

-- the list of f 0, f 1, .. f (n - 1)
unfoldable pub tabulate : ℕ → (ℕ → ℕ) → List ℕ
tabulate zero f = []
tabulate (suc n) f = tabulate n f ++ (f n ∷ [])

-- document 01's byte form, from bytes to bits: bit i is in byte i div 8 with weight 2 to the (7 - i mod 8)
unfoldable pub bit_at : List ℕ → ℕ → ℕ
bit_at bytes i = get_or bytes (i / 8) 0 / 2 ^ (7 - i % 8) % 2

-- the first n bits of a list of bytes
unfoldable pub bits_of : ℕ → List ℕ → List ℕ
bits_of n bytes = tabulate n (bit_at bytes)

-- from bits to bytes: byte j holds the bits 8 j to 8 j + 7, with the same weights
unfoldable pub byte_at : List ℕ → ℕ → ℕ
byte_at s j =
    bit s (8 * j) * 2 ^ 7 + bit s (8 * j + 1) * 2 ^ 6 + bit s (8 * j + 2) * 2 ^ 5 + bit s (8 * j + 3) * 2 ^ 4
    + bit s (8 * j + 4) * 2 ^ 3 + bit s (8 * j + 5) * 2 ^ 2 + bit s (8 * j + 6) * 2 ^ 1 + bit s (8 * j + 7) * 2 ^ 0

-- the first n bytes of a list of bits, zero past its end
unfoldable pub bytes_of : ℕ → List ℕ → List ℕ
bytes_of n s = tabulate n (byte_at s)
