-- Bits in a machine word: bit i has weight 2 ^ i. The word form of the registers is stated with these forms.
use Rattle.std.specs.Prelude.{List, [], ◌∷◌, ℕ, zero, suc, ◌+◌, ◌*◌, ◌/◌, ◌%◌, ◌^◌}

-- bit i of a number
unfoldable pub word_bit : ℕ → ℕ → ℕ
word_bit n i = n / 2 ^ i % 2

-- the bits 0 to k - 1 of a number, as a list with bit 0 first
unfoldable pub word_bits : ℕ → ℕ → List ℕ
word_bits zero n = []
word_bits (suc k) n = n % 2 ∷ word_bits k (n / 2)

-- the number of a list of bits, bit 0 first
unfoldable pub word_of : List ℕ → ℕ
word_of [] = 0
word_of (b ∷ bits) = word_of bits * 2 + b
