-- Marks (document 02, 2.5): a state under a name, in 64 bytes, and marks one after another in a buffer. Numbers have their high byte first.
--
--   0-15   name                       22-25  runs
--   16     instance                   26-29  extra
--   17     phase                      30-61  bits
--   18-21  total                      62-63  zero
use Rattle.std.specs.Prelude.{Bool, ◌&&◌, cond, List, [], ◌∷◌, ◌++◌, ℕ, zero, suc, ◌+◌, ◌*◌, ◌-◌, ◌/◌, ◌%◌, eqb, take, drop}
use Rattle.sponge.specs.declared.State.{State}
use Rattle.sponge.specs.Bytes.{same, byte, four_byte_number}

-- the bytes of a name and of a mark, and the most bytes that a buffer of marks has
abbrev pub name_size : ℕ
name_size = 16

abbrev pub mark_size : ℕ
mark_size = 64

abbrev pub most_mark_bytes : ℕ
most_mark_bytes = 64000

-- ---- one mark

-- a number in four bytes
unfoldable pub four_bytes : ℕ → List ℕ
four_bytes n = n / 16777216 % 256 ∷ n / 65536 % 256 ∷ n / 256 % 256 ∷ n % 256 ∷ []

-- what stands between the name and the bits
unfoldable pub mark_fields : State → List ℕ
mark_fields s = s.instance ∷ s.phase ∷ (four_bytes s.total ++ four_bytes s.runs ++ four_bytes s.extra)

-- the bytes of a mark
unfoldable pub mark_of : (name : List ℕ) → State → List ℕ
mark_of name s = name ++ mark_fields s ++ s.bits ++ (0 ∷ 0 ∷ [])

-- what a mark's bytes say: its name, its state, and whether its last two bytes are zero
unfoldable pub name_in : List ℕ → List ℕ
name_in mark = take name_size mark

unfoldable pub state_in : List ℕ → State
state_in mark = record {
  instance = byte mark 16;
  phase = byte mark 17;
  total = four_byte_number mark 18;
  runs = four_byte_number mark 22;
  extra = four_byte_number mark 26;
  bits = take 32 (drop 30 mark);
}

unfoldable pub ends_in_zeros : List ℕ → Bool
ends_in_zeros mark = eqb (byte mark 62) 0 && eqb (byte mark 63) 0

-- ---- marks in a buffer

-- mark j, counted from 0
unfoldable pub mark_at : (buffer : List ℕ) (j : ℕ) → List ℕ
mark_at buffer j = take mark_size (drop (mark_size * j) buffer)

-- the buffer with other bytes for mark j
unfoldable pub with_mark : (buffer : List ℕ) (j : ℕ) → List ℕ → List ℕ
with_mark buffer j mark = take (mark_size * j) buffer ++ mark ++ drop (mark_size * j + mark_size) buffer

-- how many marks there are up to the latest with the name, that one included, among the first `count`; 0 where none has the name
unfoldable pub up_to_latest : (name buffer : List ℕ) (count : ℕ) → ℕ
up_to_latest name buffer zero = 0
up_to_latest name buffer (suc j) = cond (same (name_in (mark_at buffer j)) name) (suc j) (up_to_latest name buffer j)

-- that mark; where none has the name it is mark 0, and line 18 holds
unfoldable pub found : (name buffer : List ℕ) (count : ℕ) → List ℕ
found name buffer count = mark_at buffer (up_to_latest name buffer count - 1)
