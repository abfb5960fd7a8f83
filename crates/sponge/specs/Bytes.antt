-- Bytes compared, and bytes as numbers, high byte first: of a mark (document 02, 2.5), and in `records` of a record.
use Rattle.std.specs.Prelude.{Bool, true, false, ◌&&◌, List, [], ◌∷◌, ℕ, ◌+◌, ◌*◌, eqb, get_or}

-- two lists of bytes are equal
unfoldable pub same : List ℕ → List ℕ → Bool
same [] [] = true
same [] (y ∷ ys) = false
same (x ∷ xs) [] = false
same (x ∷ xs) (y ∷ ys) = eqb x y && same xs ys

-- byte i; 0 past the end
abbrev pub byte : List ℕ → ℕ → ℕ
byte bytes i = get_or bytes i 0

-- the number that four bytes make from an offset on
unfoldable pub four_byte_number : List ℕ → ℕ → ℕ
four_byte_number bytes at = byte bytes at * 16777216 + byte bytes (at + 1) * 65536 + byte bytes (at + 2) * 256 + byte bytes (at + 3)
