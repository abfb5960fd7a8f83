-- Registers in words, there and back: words that fit are those of the registers that they hold, and registers are held by their own words.
use mathlib.Core.List.{List}
use mathlib.Core.Path.{◌≡◌, ap, ◌∙◌}
use Prim.Native.Nat.{ℕ, ◌/◌, ◌%◌, ◌^◌, ◌<◌}
use native.Mathlib.Nat.{div-add-mod'}
use lib.Pow.{high, low}
use Rattle.quark.specs.Feedback.{Taps}
use Rattle.quark.specs.Inverse.{undo_steps}
use Rattle.quark.specs.Step.{Registers, steps, steps_L}
use Rattle.quark.specs.Word.{word_bits, word_of}
use Rattle.quark.proofs.Inverse.{Sized, wide_steps_L, sized_steps, sized_undo_steps}
use Rattle.quark.proofs.Taps.{Lawful}
use Rattle.quark.proofs.Together.{registers-path}
use Rattle.quark.proofs.Word.{wide_word_bits, word_of_bits, bits-word_of}
use Rattle.words.specs.declared.Register.{Register}
use Rattle.words.specs.declared.RegisterWords.{RegisterWords}
use Rattle.words.specs.Words.{value, word_registers, registers_of, two_words, in_words, words_after, words_before}
use Rattle.words.specs.leaf.Groups.{Fitting}

-- ---- one register

-- the words of a register that fits are those of its bits
two_words_lem : (half : ℕ) (r : Register) → r.lo < 2 ^ 64 → value r < 2 ^ half → two_words (word_bits half (value r)) ≡ r
unfolding two_words
two_words_lem half r word fits =
    let e : word_of (word_bits half (value r)) ≡ value r = word_of_bits half (value r) fits in
    let up : word_of (word_bits half (value r)) / 2 ^ 64 ≡ r.hi = ap (λ (n : ℕ). n / 2 ^ 64) e ∙ high r.hi 64 word in
    let down : word_of (word_bits half (value r)) % 2 ^ 64 ≡ r.lo = ap (λ (n : ℕ). n % 2 ^ 64) e ∙ low r.hi 64 word in
    λ i. record { hi = up i; lo = down i }

-- both words are the number of the bits
value-two : (bits : List ℕ) → value (two_words bits) ≡ word_of bits
unfolding two_words
value-two bits = div-add-mod' (word_of bits) (2 ^ 64)

-- ---- all registers

module _ (T : Taps) where
  pub sized_words : (x y l : ℕ) → Sized T (word_registers T x y l)
  unfolding word_registers
  sized_words x y l = record { wide_X = wide_word_bits T.half x; wide_Y = wide_word_bits T.half y; wide_L = wide_word_bits 10 l }

  -- words that fit are those of the registers that they hold
  pub words_held : (s : RegisterWords) → s.x.lo < 2 ^ 64 → s.y.lo < 2 ^ 64 → Fitting T s → in_words (registers_of T s) ≡ s
  unfolding word_registers in_words
  words_held s x y fitting =
      let ex = two_words_lem T.half s.x x fitting.fits_X in
      let ey = two_words_lem T.half s.y y fitting.fits_Y in
      let el = word_of_bits 10 s.l fitting.fits_L in
      λ i. record { x = ex i; y = ey i; l = el i }

  -- registers are those that their words hold, and these fit
  abbrev pub Held : RegisterWords → Registers → Type 0
  Held t s = (registers_of T t ≡ s) × Fitting T t

  held_words : (s : Registers) → Sized T s → Held (in_words s) s
  unfolding word_registers in_words
  held_words s sized =
      let x = bits-word_of T.half s.X sized.wide_X in
      let y = bits-word_of T.half s.Y sized.wide_Y in
      let l = bits-word_of 10 s.L sized.wide_L in (
        registers-path (ap (word_bits T.half) (value-two s.X) ∙ x.0) (ap (word_bits T.half) (value-two s.Y) ∙ y.0) l.0,
        record { fits_X = rw (value-two s.X) x.1; fits_Y = rw (value-two s.Y) y.1; fits_L = l.1 },
      )

  -- so the words n steps on, and n steps before, hold the registers of the definition
  module _ (lawful : Lawful T) (n : ℕ) (s : RegisterWords) where
    pub held_after : Held (words_after T n s) (steps T n (registers_of T s))
    unfolding words_after
    held_after =
        held_words (steps T n (registers_of T s)) (sized_steps T lawful n (registers_of T s) (sized_words (value s.x) (value s.y) s.l))

    pub held_before : Held (words_before T n s)
        (undo_steps T n (record { X = (registers_of T s).X; Y = (registers_of T s).Y; L = steps_L n (registers_of T s).L }))
    unfolding words_before
    held_before =
        let z = sized_words (value s.x) (value s.y) s.l in
        let r = registers_of T s in
        let start : Registers = record { X = r.X; Y = r.Y; L = steps_L n r.L } in
        held_words (undo_steps T n start)
        (sized_undo_steps T lawful n start (record { wide_X = z.wide_X; wide_Y = z.wide_Y; wide_L = wide_steps_L n r.L z.wide_L }))
