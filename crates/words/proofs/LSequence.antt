-- L's sequence: its first bit after each number of steps. Ten bits of it in a row are L, and each bit is the sum of those ten and seven
-- places before it. Words of its bits in a row, and the word of those w places on.
use mathlib.Core.List.{List, [], ◌∷◌}
use mathlib.Core.Logic.{⊎_elim}
use mathlib.Core.Path.{◌≡◌, sym, ap, ap₂, ◌∙◌, subst}
use Prim.Native.Nat.{ℕ, zero, suc, ◌+◌, ◌*◌, ◌/◌, ◌%◌, ◌^◌, ◌≤◌, ◌<◌}
use native.Mathlib.Nat.{add_comm, add-zero}
use native.Mathlib.Omega.{arith}
use lib.Bits.{bit_xor}
use lib.ListN.{length, drop, length-drop, length-append, get_or-append}
use lib.Pow.{shr_lt}
use lib.Seq.{ext_get_or, get_or-drop, get_or_at}
use Rattle.quark.specs.Bytes.{bit}
use Rattle.quark.specs.Feedback.{p}
use Rattle.quark.specs.Step.{shift, step_L, steps_L}
use Rattle.quark.specs.Word.{word_bit, word_bits}
use Rattle.quark.proofs.Together.{steps_L-add}
use Rattle.quark.proofs.Word.{word_bit-xor, word_bit-shr, word_bit-mod, length-word_bits, get_or-word_bits}
use Rattle.words.specs.leaf.Groups.{Firsts}
use Rattle.words.proofs.MovedUp.{below, joined_bits}

-- ---- a sequence in which bit k + n is the sum of the bits k and k + t

abbrev pub Recurs : (ℕ → ℕ) → ℕ → ℕ → Type 0
Recurs s n t = (k : ℕ) → s (k + n) ≡ (s k + s (k + t)) % 2

-- bit k + 2 n is the sum of the bits k, k + t, k + t and k + 2 t
pub doubled : (s : ℕ → ℕ) (n t : ℕ) → Recurs s n t → Recurs s (n * 2) (t * 2)
doubled s n t law k =
    let twice-n : k + n * 2 ≡ k + n + n = omega arith in
    let exchanged : k + n + t ≡ k + t + n = omega arith in
    let twice-t : k + t + t ≡ k + t * 2 = omega arith in
    let first : s (k + n * 2) ≡ (s (k + n) + s (k + t + n)) % 2 = ap s twice-n ∙ law (k + n) ∙ ap (λ (i : ℕ). (s (k + n) + s i) % 2) exchanged in
    let second = law k in
    let third : s (k + t + n) ≡ (s (k + t) + s (k + t * 2)) % 2 = law (k + t) ∙ ap (λ (i : ℕ). (s (k + t) + s i) % 2) twice-t in
    omega arith

-- the n bits from place w on, from the first n
pub further : (s : ℕ → ℕ) (n t w kept word : ℕ) → Recurs s n t → w + kept ≡ n → t ≤ kept → word < 2 ^ n → ((k : ℕ) → k < n → s k ≡ word_bit word k)
    → (k : ℕ) → k < n → s (w + k) ≡ word_bit (bit_xor word (word / 2 ^ t) % 2 ^ w * 2 ^ kept + word / 2 ^ w) k
further s n t w kept word law e reach small known k less =
    let new : ℕ = bit_xor word (word / 2 ^ t) in
    let e' : n ≡ kept + w = omega arith in
    joined_bits (λ i. s (w + i)) (new % 2 ^ w) kept (word / 2 ^ w) w (shr_lt kept w (subst (λ (i : ℕ). word < 2 ^ i) e' small))
    (λ i g. known (w + i) (omega arith) ∙ sym (word_bit-shr word w i))
    (λ i g.
    (let place : w + (kept + i) ≡ i + n = omega arith in
    ap s place
    ∙ law i
    ∙ ap₂ (λ (x y : ℕ). (x + y) % 2) (known i (omega arith))
    (known (i + t) (omega arith) ∙ ap (word_bit word) (add_comm i t) ∙ sym (word_bit-shr word t i))
    ∙ sym (word_bit-mod new w i g ∙ word_bit-xor word (word / 2 ^ t) i)))
    k (omega arith)

-- a word that begins as the sequence does and goes on by the same sums
pub onwards : (s : ℕ → ℕ) (n t w word : ℕ) → Recurs s n t → t < n → ((j : ℕ) → j < w → word_bit word (j + n) ≡ (word_bit word j + word_bit word (j + t)) % 2)
    → ((k : ℕ) → k < n → s k ≡ word_bit word k) → (k : ℕ) → k < n + w → s k ≡ word_bit word k
onwards s n t zero word law reach sums known k less = known k (omega arith)
onwards s n t (suc w) word law reach sums known k less =
    let before : (i : ℕ) → i < n + w → s i ≡ word_bit word i = onwards s n t w word law reach (λ j g. sums j (omega arith)) known in
    ⊎_elim (before k)
    (λ g.
    (let e : k ≡ w + n = omega arith in
    ap s e
    ∙ law w
    ∙ ap₂ (λ (x y : ℕ). (x + y) % 2) (before w (omega arith)) (before (w + t) (omega arith))
    ∙ sym (sums w (omega arith))
    ∙ ap (word_bit word) (sym e)))
    (below k (n + w))

-- ---- L's sequence

pub length-steps_L : (k : ℕ) (r : List ℕ) → length r ≡ 10 → length (steps_L k r) ≡ 10
unfolding steps_L step_L shift
length-steps_L zero r e = e
length-steps_L (suc k) r e = simp (length-append, length-drop) (omega (arith, length-steps_L k r e))

-- a step moves each bit down by one
step-bit : (r : List ℕ) → length r ≡ 10 → (i : ℕ) → 1 + i < 10 → bit (step_L r) i ≡ bit r (1 + i)
unfolding step_L shift
step-bit r e i h =
    let inside : i < length (drop 1 r) = simp length-drop (omega arith) in
    get_or-append (drop 1 r) (p (bit r) ∷ []) 0 i inside ∙ get_or-drop 1 r i 0

-- and puts the sum of L0 and L3 last
step-new : (r : List ℕ) → length r ≡ 10 → bit (step_L r) 9 ≡ (bit r 0 + bit r 3) % 2
unfolding step_L shift p
step-new r e = get_or_at (drop 1 r) ((bit r 0 + bit r 3) % 2) [] 0 9 (simp length-drop (omega arith))

moved-bit : (r : List ℕ) → length r ≡ 10 → (j i : ℕ) → j + i < 10 → bit (steps_L j r) i ≡ bit r (j + i)
unfolding steps_L
moved-bit r e zero i h = let z : i ≡ 0 + i = omega arith in ap (bit r) z
moved-bit r e (suc j) i h =
    let z : j + (1 + i) ≡ suc j + i = omega arith in
    step-bit (steps_L j r) (length-steps_L j r e) i (omega arith) ∙ moved-bit r e j (1 + i) (omega arith) ∙ ap (bit r) z

abbrev pub sequence : List ℕ → ℕ → ℕ
sequence r k = bit (steps_L k r) 0

pub sequence-later : (r : List ℕ) (j k : ℕ) → sequence (steps_L j r) k ≡ sequence r (j + k)
sequence-later r j k = ap (λ (q : List ℕ). bit q 0) (sym (steps_L-add j k r))

-- its first ten bits are L
sequence-bit : (r : List ℕ) → length r ≡ 10 → (j : ℕ) → j < 10 → sequence r j ≡ bit r j
sequence-bit r e j h = moved-bit r e j 0 (omega arith) ∙ ap (bit r) (add-zero j)

later-bit : (r : List ℕ) → length r ≡ 10 → (k j : ℕ) → j < 10 → bit (steps_L k r) j ≡ sequence r (k + j)
later-bit r e k j h = sym (sequence-bit (steps_L k r) (length-steps_L k r e) j h) ∙ sequence-later r k j

pub recurs : (r : List ℕ) → length r ≡ 10 → Recurs (sequence r) 10 3
unfolding steps_L
recurs r e k =
    let z : k + 10 ≡ suc k + 9 = omega arith in
    ap (sequence r) z
    ∙ sym (later-bit r e (suc k) 9 (omega arith))
    ∙ step-new (steps_L k r) (length-steps_L k r e)
    ∙ ap (λ (y : ℕ). (sequence r k + y) % 2) (later-bit r e k 3 (omega arith))

-- ---- words of its bits

-- ten are L
pub first_bit : (n : ℕ) → Firsts 10 (word_bits 10 n) n
first_bit n k h = sequence-bit (word_bits 10 n) (length-word_bits 10 n) k h ∙ get_or-word_bits 10 n k h

pub ten_firsts : (r : List ℕ) (n : ℕ) → length r ≡ 10 → Firsts 10 r n → word_bits 10 n ≡ r
ten_firsts r n e first =
    ext_get_or 0 (word_bits 10 n) r (length-word_bits 10 n ∙ sym e)
    (λ i q. let g : i < 10 = rw length-word_bits at q in get_or-word_bits 10 n i g ∙ sym (first i g) ∙ sequence-bit r e i g)

-- the first w bits, and the first v bits after w steps
pub firsts_joined : (r : List ℕ) (w v a b : ℕ) → a < 2 ^ w → Firsts w r a → Firsts v (steps_L w r) b → Firsts (w + v) r (b * 2 ^ w + a)
firsts_joined r w v a b small first next =
    joined_bits (sequence r) b w a v small first (λ k g. sym (sequence-later r w k) ∙ next k g)

-- the first n bits after w steps
pub firsts_further : (r : List ℕ) (n t w kept word : ℕ) → Recurs (sequence r) n t → w + kept ≡ n → t ≤ kept → word < 2 ^ n → Firsts n r word
    → Firsts n (steps_L w r) (bit_xor word (word / 2 ^ t) % 2 ^ w * 2 ^ kept + word / 2 ^ w)
firsts_further r n t w kept word law e reach small first k g =
    sequence-later r w k ∙ further (sequence r) n t w kept word law e reach small first k g
