-- L in strides: words of its first bits, four steps from its old bits, and 24 steps on forty bits of its sequence. L is the ten bits of a
-- number.
use mathlib.Core.List.{List}
use mathlib.Core.Path.{◌≡◌, refl, sym, ◌∙◌, subst}
use Prim.Native.Nat.{ℕ, ◌+◌, ◌*◌, ◌/◌, ◌%◌, ◌^◌, ◌<◌}
use native.Mathlib.Nat.{add_comm, mod-lt}
use native.Mathlib.Omega.{arith}
use lib.Bits.{bit_xor}
use lib.ListN.{length}
use lib.Pow.{pow_pos, shr_lt}
use Rattle.quark.specs.Step.{steps_L}
use Rattle.quark.specs.Word.{word_bits}
use Rattle.quark.proofs.Together.{steps_L-add}
use Rattle.quark.proofs.Word.{word_bit-mod, length-word_bits}
use Rattle.words.specs.leaf.Groups.{Firsts, SteppedL}
use Rattle.words.proofs.Groups.{L-composes}
use Rattle.words.proofs.LSequence.{Recurs, doubled, length-steps_L, sequence, recurs, first_bit, ten_firsts, firsts_joined, firsts_further}
use Rattle.words.proofs.MovedUp.{up_lt}

pub firsts_eight : (l : ℕ) → Firsts 8 (word_bits 10 l) l
firsts_eight l k h = first_bit l k (omega arith)

-- a word's low digits are its first bits
firsts_low : (r : List ℕ) (w word : ℕ) → Firsts w r word → Firsts w r (word % 2 ^ w)
firsts_low r w word first k h = first k h ∙ sym (word_bit-mod word w k h)

-- sixteen: the first eight bits of L, and of L eight steps on
pub firsts_sixteen : (l next : ℕ) → word_bits 10 next ≡ steps_L 8 (word_bits 10 l) → Firsts 16 (word_bits 10 l) (next * 2 ^ 8 + l % 2 ^ 8)
firsts_sixteen l next e =
    let r : List ℕ = word_bits 10 l in
    firsts_joined r 8 8 (l % 2 ^ 8) next (mod-lt l (pow_pos 8)) (firsts_low r 8 l (firsts_eight l))
    (subst (λ (q : List ℕ). Firsts 8 q next) e (firsts_eight next))

-- four steps
pub four_steps : (n : ℕ) → n < 2 ^ 10 → word_bits 10 (bit_xor n (n / 2 ^ 3) % 2 ^ 4 * 2 ^ 6 + n / 2 ^ 4) ≡ steps_L 4 (word_bits 10 n)
four_steps n h =
    let r : List ℕ = word_bits 10 n in
    let e : length r ≡ 10 = length-word_bits 10 n in
    ten_firsts (steps_L 4 r) (bit_xor n (n / 2 ^ 3) % 2 ^ 4 * 2 ^ 6 + n / 2 ^ 4) (length-steps_L 4 r e)
    (firsts_further r 10 3 4 6 n (recurs r e) refl (omega arith) h (first_bit n))

-- ---- forty bits

-- bit k + 40 of the sequence is the sum of the bits k and k + 12
recurs_forty : (r : List ℕ) → length r ≡ 10 → Recurs (sequence r) 40 12
recurs_forty r e = doubled (sequence r) 20 6 (doubled (sequence r) 10 3 (recurs r e))

-- the word of the first w bits, as a number of w digits
abbrev pub Begins : ℕ → List ℕ → ℕ → Type 0
Begins w r word = (word < 2 ^ w) × Firsts w r word

-- eight bits more, of L after w steps
eight_more : (r : List ℕ) (w word next : ℕ) → Begins w r word → word_bits 10 next ≡ steps_L w r → Begins (w + 8) r (word + next % 2 ^ 8 * 2 ^ w)
eight_more r w word next known e =
    subst (Begins (w + 8) r) (add_comm (next % 2 ^ 8 * 2 ^ w) word) (
      up_lt next 8 w word known.0,
      firsts_joined r w 8 word (next % 2 ^ 8) known.0 known.1
          (subst (λ (q : List ℕ). Firsts 8 q (next % 2 ^ 8)) e (firsts_low (word_bits 10 next) 8 next (firsts_eight next))),
    )

pub forty_bits : (l l8 l16 l24 l32 : ℕ) → SteppedL 8 l l8 → SteppedL 8 l8 l16 → SteppedL 8 l16 l24 → SteppedL 8 l24 l32
    → Begins 40 (word_bits 10 l) (l % 2 ^ 8 + l8 % 2 ^ 8 * 2 ^ 8 + l16 % 2 ^ 8 * 2 ^ 16 + l24 % 2 ^ 8 * 2 ^ 24 + l32 % 2 ^ 8 * 2 ^ 32)
forty_bits l l8 l16 l24 l32 e8 f16 f24 f32 =
    let r : List ℕ = word_bits 10 l in
    let e16 : SteppedL 16 l l16 = L-composes.join 8 8 l l8 l16 e8 f16 in
    let e24 : SteppedL 24 l l24 = L-composes.join 16 8 l l16 l24 e16 f24 in
    let e32 : SteppedL 32 l l32 = L-composes.join 24 8 l l24 l32 e24 f32 in
    let w8 : ℕ = l % 2 ^ 8 in
    let w16 : ℕ = w8 + l8 % 2 ^ 8 * 2 ^ 8 in
    let w24 : ℕ = w16 + l16 % 2 ^ 8 * 2 ^ 16 in
    let w32 : ℕ = w24 + l24 % 2 ^ 8 * 2 ^ 24 in
    let b8 : Begins 8 r w8 = (mod-lt l (pow_pos 8), firsts_low r 8 l (firsts_eight l)) in
    let b16 : Begins 16 r w16 = eight_more r 8 w8 l8 b8 e8.stepped in
    let b24 : Begins 24 r w24 = eight_more r 16 w16 l16 b16 e16.stepped in
    let b32 : Begins 32 r w32 = eight_more r 24 w24 l24 b24 e24.stepped in
    eight_more r 32 w32 l32 b32 e32.stepped

-- 24 steps
pub forty_further : (l n bits : ℕ) → Begins 40 (steps_L n (word_bits 10 l)) bits
    → Begins 40 (steps_L (n + 24) (word_bits 10 l)) (bit_xor bits (bits / 2 ^ 12) % 2 ^ 24 * 2 ^ 16 + bits / 2 ^ 24)
forty_further l n bits known =
    let r : List ℕ = steps_L n (word_bits 10 l) in
    let next : ℕ = bit_xor bits (bits / 2 ^ 12) % 2 ^ 24 * 2 ^ 16 + bits / 2 ^ 24 in (
      up_lt (bit_xor bits (bits / 2 ^ 12)) 24 16 (bits / 2 ^ 24) (shr_lt 16 24 known.0),
      subst (λ (q : List ℕ). Firsts 40 q next) (sym (steps_L-add n 24 (word_bits 10 l)))
          (firsts_further r 40 12 24 16 bits (recurs_forty r (length-steps_L n (word_bits 10 l) (length-word_bits 10 l))) refl (omega arith) known.0 known.1),
    )

-- the first ten are L
pub ten_of_forty : (l n bits : ℕ) → Firsts 40 (steps_L n (word_bits 10 l)) bits → word_bits 10 (bits % 2 ^ 10) ≡ steps_L n (word_bits 10 l)
ten_of_forty l n bits first =
    let r : List ℕ = steps_L n (word_bits 10 l) in
    ten_firsts r (bits % 2 ^ 10) (length-steps_L n (word_bits 10 l) (length-word_bits 10 l)) (firsts_low r 10 bits (λ k h. first k (omega arith)))
