-- Lists of bits: that every element is 0 or 1.
use mathlib.Core.List.{List, [], ◌∷◌, ◌++◌}
use mathlib.Core.Path.{◌≡◌, sym, ◌∙◌}
use Prim.Native.Nat.{ℕ, zero, suc, ◌%◌, ◌<◌}
use native.Mathlib.Omega.{arith}
use lib.ListN.{length, take, drop, replicate}
use lib.Seq.{take-suc, take_all}
use Rattle.quark.specs.Bytes.{bit, tabulate}

pub data Bits : List ℕ → Type 0 where
  none : Bits []
  more : {v : ℕ} {vs : List ℕ} → v < 2 → Bits vs → Bits (v ∷ vs)

-- b bits
abbrev pub Wide : ℕ → List ℕ → Type 0
Wide b s = (length s ≡ b) × Bits s

pub parity_lt : (n : ℕ) → n % 2 < 2
parity_lt n = omega arith

pub bits-append : {s t : List ℕ} → Bits s → Bits t → Bits (s ++ t)
bits-append none q = q
bits-append (more v p) q = more v (bits-append p q)

pub bits-take : (n : ℕ) {s : List ℕ} → Bits s → Bits (take n s)
bits-take zero p = none
bits-take (suc n) none = none
bits-take (suc n) (more v p) = more v (bits-take n p)

pub bits-drop : (n : ℕ) {s : List ℕ} → Bits s → Bits (drop n s)
bits-drop zero p = p
bits-drop (suc n) none = none
bits-drop (suc n) (more v p) = bits-drop n p

pub bits_at : {s : List ℕ} → Bits s → (i : ℕ) → bit s i < 2
bits_at none i = omega arith
bits_at (more v p) zero = v
bits_at (more v p) (suc i) = bits_at p i

pub bits_of : (s : List ℕ) → ((i : ℕ) → bit s i < 2) → Bits s
bits_of [] h = none
bits_of (v ∷ s) h = more (h 0) (bits_of s (λ i. h (suc i)))

-- a list is its elements but the last, and the last
pub split_last : (n : ℕ) (s : List ℕ) → length s ≡ suc n → take n s ++ (bit s n ∷ []) ≡ s
split_last n s e = sym (take-suc s n 0 (omega arith)) ∙ take_all (suc n) s (omega arith)

pub bits-replicate : (n : ℕ) {v : ℕ} → v < 2 → Bits (replicate n v)
bits-replicate zero p = none
bits-replicate (suc n) p = more p (bits-replicate n p)

pub bits-tabulate : (n : ℕ) (f : ℕ → ℕ) → ((i : ℕ) → f i < 2) → Bits (tabulate n f)
unfolding tabulate
bits-tabulate zero f h = none
bits-tabulate (suc n) f h = bits-append (bits-tabulate n f h) (more (h n) none)
