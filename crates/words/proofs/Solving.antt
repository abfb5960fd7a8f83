-- The bits that a group has to find when it is undone, solved in words from the last step to the first.
use mathlib.Core.Path.{◌≡◌, sym, ap, ap₂, ◌∙◌}
use Prim.Native.Nat.{ℕ, ◌+◌, ◌*◌, ◌/◌, ◌%◌, ◌^◌, ◌<◌, ◌≤◌}
use native.Mathlib.Nat.{add_comm, lt_of_le_of_lt, mod-add-mod, add-mod-mod, zero-mul}
use native.Mathlib.Omega.{arith}
use lib.Bits.{bit_and, bit_xor, xor_lt, and_le_l}
use lib.Pow.{shr_le}
use Rattle.quark.specs.Word.{word_bit}
use Rattle.quark.proofs.Word.{word_bit-lt, word_bit-and, word_bit-xor, word_bit-shr}
use Rattle.words.specs.declared.RegisterWords.{RegisterWords}
use Rattle.words.specs.declared.back.Derivatives.{Derivatives}
use Rattle.words.specs.declared.back.LowTaps.{LowTaps}
use Rattle.words.specs.declared.feedback.Feedback.{Feedback}
use Rattle.words.specs.declared.feedback.StepBits.{StepBits}
use Rattle.words.specs.Words.{value}
use Rattle.words.specs.leaf.Solving.{known_X, known_Y, KnownTerms, read_by_G, read_by_H, Solved, Solvable}
use Rattle.words.proofs.MovedUp.{past_end}

-- the registers of t are those of s before w steps: moved up by w, with w new bits, which solve the equations, before those kept
pub record BeforeGroup (s : RegisterWords) (words : Feedback) (d : Derivatives) (taps : LowTaps) (kept w : ℕ) (t : RegisterWords) : Type 0 where
  pub new : StepBits
  pub few_X : new.x < 2 ^ w
  pub few_Y : new.y < 2 ^ w
  pub moved_X : value t.x ≡ value s.x % 2 ^ kept * 2 ^ w + new.x
  pub moved_Y : value t.y ≡ value s.y % 2 ^ kept * 2 ^ w + new.y
  pub bit_X : (k : ℕ) → k < w → word_bit new.x k ≡ (known_X s words kept k + read_by_G taps d new k) % 2
  pub bit_Y : (k : ℕ) → k < w → word_bit new.y k ≡ (known_Y s words kept k + read_by_G taps d new k + read_by_H taps d new k) % 2

shr_bit : (n j k : ℕ) → word_bit (n / 2 ^ j) k ≡ word_bit n (k + j)
shr_bit n j k = word_bit-shr n j k ∙ ap (word_bit n) (add_comm j k)

fewer : (w n j : ℕ) → n < 2 ^ w → n / 2 ^ j < 2 ^ w
fewer w n j small = lt_of_le_of_lt (shr_le n j) small

-- ---- a word that is a sum of itself

-- bit k of a known word, of a word moved down by `low`, and of that moved down by `high` where the factor has a one, added
unfoldable pub sum_from : (known factor low high word k : ℕ) → ℕ
sum_from known factor low high word k = (word_bit known k + word_bit word (k + low) + word_bit word (k + high) * word_bit factor k) % 2

-- the word after a pass
pub pass_bit : (known factor low high word k : ℕ)
    → word_bit (bit_xor (bit_xor known (word / 2 ^ low)) (bit_and (word / 2 ^ high) factor)) k ≡ sum_from known factor low high word k
unfolding sum_from
pass_bit known factor low high word k =
    word_bit-xor (bit_xor known (word / 2 ^ low)) (bit_and (word / 2 ^ high) factor) k
    ∙ ap₂ (λ (a b : ℕ). (a + b) % 2) (word_bit-xor known (word / 2 ^ low) k ∙ ap (λ (a : ℕ). (word_bit known k + a) % 2) (shr_bit word low k))
    (word_bit-and (word / 2 ^ high) factor k ∙ ap (λ (a : ℕ). a * word_bit factor k) (shr_bit word high k))
    ∙ mod-add-mod (word_bit known k + word_bit word (k + low)) 2 (word_bit word (k + high) * word_bit factor k)

pub pass_lt : (w known factor low high word : ℕ) → known < 2 ^ w → word < 2 ^ w
    → bit_xor (bit_xor known (word / 2 ^ low)) (bit_and (word / 2 ^ high) factor) < 2 ^ w
pass_lt w known factor low high word hk hw =
    xor_lt w (bit_xor known (word / 2 ^ low)) (bit_and (word / 2 ^ high) factor) (xor_lt w known (word / 2 ^ low) hk (fewer w word low hw))
    (lt_of_le_of_lt (and_le_l (word / 2 ^ high) factor) (fewer w word high hw))

-- the last `right` bits of a word of `width` bits are the sums
abbrev pub Right : (known factor low high width right word : ℕ) → Type 0
Right known factor low high width right word = (k : ℕ) → width ≤ k + right → word_bit word k ≡ sum_from known factor low high word k

-- of the known word the last `low` bits are
pub first-right : (known factor low high width : ℕ) → known < 2 ^ width → low ≤ high → Right known factor low high width low known
unfolding sum_from
first-right known factor low high width small less k more =
    let a = past_end known width (k + low) small more in
    let b = past_end known width (k + high) small (omega arith) in
    sym (ap₂ (λ (m n : ℕ). (word_bit known k + m + n * word_bit factor k) % 2) a b
    ∙ ap (λ (n : ℕ). (word_bit known k + 0 + n) % 2) (zero-mul (word_bit factor k))
    ∙ (let bound = word_bit-lt known k in omega arith))

-- after a pass `low` more are
pub more_right : (known factor low high width right word next : ℕ) → low ≤ high → ((k : ℕ) → word_bit next k ≡ sum_from known factor low high word k)
    → Right known factor low high width right word → Right known factor low high width (right + low) next
unfolding sum_from
more_right known factor low high width right word next less e r k more =
    let same : (j : ℕ) → width ≤ j + right → word_bit word j ≡ word_bit next j = λ j q. r j q ∙ sym (e j) in
    e k ∙ ap₂ (λ (m n : ℕ). (word_bit known k + m + n * word_bit factor k) % 2) (same (k + low) (omega arith)) (same (k + high) (omega arith))

-- ---- the bits of X and Y

-- the known terms of Y, where X is its known terms
abbrev without_G : StepBits → LowTaps → ℕ
without_G known taps = bit_xor (bit_xor known.y (known.x / 2 ^ 1)) (known.x / 2 ^ taps.x)

pub without_G_lt : (w : ℕ) (known : StepBits) (taps : LowTaps) → known.x < 2 ^ w → known.y < 2 ^ w → without_G known taps < 2 ^ w
without_G_lt w known taps hx hy =
    xor_lt w (bit_xor known.y (known.x / 2 ^ 1)) (known.x / 2 ^ taps.x) (xor_lt w known.y (known.x / 2 ^ 1) hy (fewer w known.x 1 hx))
    (fewer w known.x taps.x hx)

without_G_bit : (known : StepBits) (taps : LowTaps) (k : ℕ)
    → word_bit (without_G known taps) k ≡ (word_bit known.y k + word_bit known.x (k + 1) + word_bit known.x (k + taps.x)) % 2
without_G_bit known taps k =
    word_bit-xor (bit_xor known.y (known.x / 2 ^ 1)) (known.x / 2 ^ taps.x) k
    ∙ ap₂ (λ (i j : ℕ). (i + j) % 2)
    (word_bit-xor known.y (known.x / 2 ^ 1) k ∙ ap (λ (i : ℕ). (word_bit known.y k + i) % 2) (shr_bit known.x 1 k))
    (shr_bit known.x taps.x k)
    ∙ mod-add-mod (word_bit known.y k + word_bit known.x (k + 1)) 2 (word_bit known.x (k + taps.x))

-- sums whose parts are sums
flat : (n v m : ℕ) {c z : ℕ} → c ≡ n % 2 → z ≡ (c + v + m) % 2 → z ≡ (n + v + m) % 2
flat n v m ec ez = omega arith

flat_mid : (n p r : ℕ) {q y : ℕ} → q ≡ p % 2 → y ≡ (n + q + r) % 2 → y ≡ (n + p + r) % 2
flat_mid n p r eq ey = omega arith

flat_next : (a b c p q v m : ℕ) {x y : ℕ} → x ≡ (b + q) % 2 → y ≡ (a + b + c + v + m + p + q) % 2 → y ≡ (a + p + (x + c + v + m)) % 2
flat_next a b c p q v m ex ey = omega arith

-- z is Y without what g reads of the bits that are to be found
module _ (w : ℕ) (known : StepBits) (d : Derivatives) (taps : LowTaps) (able : Solvable taps w) (small : known.x < 2 ^ w) (z : ℕ) (smallZ : z < 2 ^ w)
    (ez : (k : ℕ) → word_bit z k ≡ (word_bit (without_G known taps) k + word_bit z (k + taps.y) + word_bit z (k + taps.h) * word_bit d.h k) % 2) where
  -- what g reads of them
  unfoldable pub by_G : ℕ
  by_G = bit_xor (z / 2 ^ taps.g) (bit_and (z / 2 ^ taps.g) d.g)

  by_G_bit : (k : ℕ) → word_bit by_G k ≡ word_bit z (k + taps.g) * (1 + word_bit d.g k) % 2
  unfolding by_G
  by_G_bit k =
      let n = word_bit z (k + taps.g) in
      let e : n + n * word_bit d.g k ≡ n * (1 + word_bit d.g k) = omega arith in
      word_bit-xor (z / 2 ^ taps.g) (bit_and (z / 2 ^ taps.g) d.g) k
      ∙ ap₂ (λ (a b : ℕ). (a + b) % 2) (shr_bit z taps.g k)
      (word_bit-and (z / 2 ^ taps.g) d.g k ∙ ap (λ (a : ℕ). a * word_bit d.g k) (shr_bit z taps.g k))
      ∙ ap (λ (a : ℕ). a % 2) e

  by_G_lt : by_G < 2 ^ w
  unfolding by_G
  by_G_lt =
      xor_lt w (z / 2 ^ taps.g) (bit_and (z / 2 ^ taps.g) d.g) (fewer w z taps.g smallZ)
      (lt_of_le_of_lt (and_le_l (z / 2 ^ taps.g) d.g) (fewer w z taps.g smallZ))

  -- it reads them in the first steps alone
  by_G_none : (k : ℕ) → w ≤ k + taps.g → word_bit by_G k ≡ 0
  by_G_none k more =
      by_G_bit k
      ∙ ap (λ (n : ℕ). n * (1 + word_bit d.g k) % 2) (past_end z w (k + taps.g) smallZ more)
      ∙ ap (λ (n : ℕ). n % 2) (zero-mul (1 + word_bit d.g k))

  new : StepBits
  new = record { x = bit_xor known.x by_G; y = bit_xor (bit_xor z by_G) (by_G / 2 ^ 1) }

  new-x : (k : ℕ) → word_bit new.x k ≡ (word_bit known.x k + word_bit by_G k) % 2
  unfolding new
  new-x = word_bit-xor known.x by_G

  new-y : (k : ℕ) → word_bit new.y k ≡ (word_bit z k + word_bit by_G k + word_bit by_G (k + 1)) % 2
  unfolding new
  new-y k =
      word_bit-xor (bit_xor z by_G) (by_G / 2 ^ 1) k
      ∙ ap₂ (λ (a b : ℕ). (a + b) % 2) (word_bit-xor z by_G k) (shr_bit by_G 1 k)
      ∙ mod-add-mod (word_bit z k + word_bit by_G k) 2 (word_bit by_G (k + 1))

  -- the bits of Y in the later steps are those of z
  y_same : (k : ℕ) → w ≤ k + taps.g → word_bit new.y k ≡ word_bit z k
  y_same k more =
      new-y k
      ∙ ap₂ (λ (a b : ℕ). (word_bit z k + a + b) % 2) (by_G_none k more) (by_G_none (k + 1) (omega arith))
      ∙ (let bound = word_bit-lt z k in omega arith)

  solved_x : (k : ℕ) → word_bit new.x k ≡ (word_bit known.x k + read_by_G taps d new k) % 2
  unfolding read_by_G
  solved_x k =
      let past = able.past_G in
      new-x k
      ∙ ap (λ (n : ℕ). (word_bit known.x k + n) % 2) (by_G_bit k)
      ∙ add-mod-mod (word_bit known.x k) (word_bit z (k + taps.g) * (1 + word_bit d.g k)) 2
      ∙ ap (λ (n : ℕ). (word_bit known.x k + n * (1 + word_bit d.g k)) % 2) (sym (y_same (k + taps.g) (omega arith)))

  solved_y : (k : ℕ) → word_bit new.y k ≡ (word_bit known.y k + read_by_G taps d new k + read_by_H taps d new k) % 2
  unfolding read_by_G read_by_H
  solved_y k =
      let g = taps.g in
      let p = word_bit z (k + g) * (1 + word_bit d.g k) in
      let m = word_bit z (k + taps.h) * word_bit d.h k in
      let v = word_bit z (k + taps.y) in
      let a = word_bit known.y k in
      let b = word_bit known.x (k + 1) in
      let c = word_bit known.x (k + taps.x) in
      let q = word_bit by_G (k + 1) in
      let n : ℕ = a + b + c in
      let e = flat n v m (without_G_bit known taps k) (ez k) in
      let ey = flat_mid (n + v + m) p q (by_G_bit k) (flat (n + v + m) (word_bit by_G k) q e (new-y k)) in
      let ex : word_bit new.x (k + taps.x) ≡ c =
      new-x (k + taps.x) ∙ (let none = by_G_none (k + taps.x) (omega (arith, able.past_X)) in let bound = word_bit-lt known.x (k + taps.x) in omega arith) in
      flat_next a b c p q v m (new-x (k + 1)) ey
      ∙ (λ i. (a + sym (y_same (k + g) (omega (arith, able.past_G))) i * (1 + word_bit d.g k)
      + (word_bit new.x (k + 1) + sym ex i + sym (y_same (k + taps.y) (omega (arith, able.past_Y))) i
      + sym (y_same (k + taps.h) (omega (arith, able.past_Y, able.ordered))) i * word_bit d.h k)) % 2)

  pub solved : Solved known d taps w (record { x = bit_xor known.x by_G; y = bit_xor (bit_xor z by_G) (by_G / 2 ^ 1) })
  unfolding new
  solved = record {
    few_X = xor_lt w known.x by_G small by_G_lt;
    few_Y = xor_lt w (bit_xor z by_G) (by_G / 2 ^ 1) (xor_lt w z by_G smallZ by_G_lt) (fewer w by_G 1 by_G_lt);
    bit_X = solved_x;
    bit_Y = solved_y;
  }

-- ---- the registers

-- registers moved up, with bits that solve the equations with their known terms
pub found-bits : {s : RegisterWords} {words : Feedback} {kept w : ℕ} {known new : StepBits} {d : Derivatives} {taps : LowTaps}
    → KnownTerms s words kept w known → Solved known d taps w new → (t : RegisterWords) → value t.x ≡ value s.x % 2 ^ kept * 2 ^ w + new.x
    → value t.y ≡ value s.y % 2 ^ kept * 2 ^ w + new.y → BeforeGroup s words d taps kept w t
found-bits {s} {words} {kept} {w} {known} {new} {d} {taps} terms bits t ex ey = record {
  new = new;
  few_X = bits.few_X;
  few_Y = bits.few_Y;
  moved_X = ex;
  moved_Y = ey;
  bit_X = λ k less.
      bits.bit_X k
      ∙ ap (λ (n : ℕ). (n + read_by_G taps d new k) % 2) (terms.bit_X k less)
      ∙ mod-add-mod (known_X s words kept k) 2 (read_by_G taps d new k);
  bit_Y = λ k less. flat (known_Y s words kept k) (read_by_G taps d new k) (read_by_H taps d new k) (terms.bit_Y k less) (bits.bit_Y k);
}
