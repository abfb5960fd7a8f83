-- Registers in words, and the words some steps on or before (document 01, "Steps, permutation and inverse"). A word's bit i has weight
-- 2 ^ i; `word_bits k n` is the list of the bits 0 to k - 1 of n, and `word_of` the number of a list of bits.
use Rattle.std.specs.Prelude.{Bool, not, ◌&&◌, List, ℕ, ◌+◌, ◌*◌, ◌/◌, ◌%◌, ◌^◌, eqb, ltb}
use Rattle.quark.specs.Feedback.{Taps}
use Rattle.quark.specs.Instance.{instance_of, is_instance, is_width}
use Rattle.quark.specs.Inverse.{undo_steps}
use Rattle.quark.specs.Step.{Registers, steps, steps_L}
use Rattle.quark.specs.Word.{word_bits, word_of}
use Rattle.words.specs.declared.Register.{Register}
use Rattle.words.specs.declared.RegisterWords.{RegisterWords}

-- ---- registers from words and back

-- the number that a register is
abbrev pub value : Register → ℕ
value r = r.hi * 2 ^ 64 + r.lo

-- the registers that numbers hold, and those that words hold
unfoldable pub word_registers : Taps → (x y l : ℕ) → Registers
word_registers T x y l = record { X = word_bits T.half x; Y = word_bits T.half y; L = word_bits 10 l }

abbrev pub registers_of : Taps → RegisterWords → Registers
registers_of T s = word_registers T (value s.x) (value s.y) s.l

-- the bits of a register in two words
unfoldable pub two_words : List ℕ → Register
two_words bits = record { hi = word_of bits / 2 ^ 64; lo = word_of bits % 2 ^ 64 }

-- the words that hold registers
unfoldable pub in_words : Registers → RegisterWords
in_words s = record { x = two_words s.X; y = two_words s.Y; l = word_of s.L }

-- ---- steps

-- the words n steps on
unfoldable pub words_after : Taps → ℕ → RegisterWords → RegisterWords
words_after T n s = in_words (steps T n (registers_of T s))

-- the words n steps before; the word of L in s is what L was before these steps
unfoldable pub words_before : Taps → ℕ → RegisterWords → RegisterWords
words_before T n s =
    let r = registers_of T s in
    in_words (undo_steps T n (record { X = r.X; Y = r.Y; L = steps_L n r.L }))

-- a call fits: its number is an instance's; its width is one of the instance's, and not 1; its steps are whole groups of that width; and its
-- words hold no more than the registers' bits
unfoldable pub fits : (instance width count : ℕ) → RegisterWords → Bool
fits i w n s =
    let bound = 2 ^ (instance_of i).taps.half in
    is_instance i && is_width i w && not (eqb w 1) && eqb (n % w) 0 && ltb (value s.x) bound && ltb (value s.y) bound && ltb s.l 1024
