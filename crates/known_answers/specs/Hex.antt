-- Bytes in hexadecimal, in upper case.
use Rattle.std.specs.Prelude.{List, [], ◌∷◌, ℕ, ◌+◌, ◌/◌, ◌%◌, nat_lt, if◌then◌else◌, flat_map}

-- `0` to `9` are the bytes 48 to 57, `A` to `F` the bytes 65 to 70
unfoldable pub digit : ℕ → ℕ
digit n = if nat_lt n 10 then 48 + n else 55 + n

-- the digits of a byte, the high one first
unfoldable pub two_digits : ℕ → List ℕ
two_digits byte = digit (byte / 16) ∷ digit (byte % 16) ∷ []

unfoldable pub hex : List ℕ → List ℕ
hex bytes = flat_map two_digits bytes
