-- The code's `^` and `&` on single bits are the sum and the product of bits, so that an expression in them is a polynomial modulo 2.
use Rattle.std.specs.Prelude.{◌≡◌, ℕ, zero, suc, ◌+◌, ◌*◌, ◌%◌, ◌<◌}
use mathlib.Core.Path.{refl, ap₂, ◌∙◌}
use native.Mathlib.Omega.{arith}
use lib.Bits.{bit_and, bit_xor}

-- a is a single bit and equals n, a product of bits
pub record Product (a n : ℕ) : Type 0 where
  pub small : a < 2
  pub same : a ≡ n

-- a is a single bit, the sum n modulo 2
pub record Sum (a n : ℕ) : Type 0 where
  pub small : a < 2
  pub same : a ≡ n % 2

xor_cases : (a b : ℕ) → a < 2 → b < 2 → bit_xor a b ≡ (a + b) % 2
xor_cases zero zero p q = refl
xor_cases zero (suc zero) p q = refl
xor_cases zero (suc (suc b)) p q = absurd (omega arith)
xor_cases (suc zero) zero p q = refl
xor_cases (suc zero) (suc zero) p q = refl
xor_cases (suc zero) (suc (suc b)) p q = absurd (omega arith)
xor_cases (suc (suc a)) b p q = absurd (omega arith)

and_cases : (a b : ℕ) → a < 2 → b < 2 → Product (bit_and a b) (a * b)
and_cases zero zero p q = record { small = p; same = refl }
and_cases zero (suc zero) p q = record { small = p; same = refl }
and_cases zero (suc (suc b)) p q = absurd (omega arith)
and_cases (suc zero) zero p q = record { small = q; same = refl }
and_cases (suc zero) (suc zero) p q = record { small = p; same = refl }
and_cases (suc zero) (suc (suc b)) p q = absurd (omega arith)
and_cases (suc (suc a)) b p q = absurd (omega arith)

infixl 60 ◌⊕◌
infixl 70 ◌⊗◌
pub single : {a : ℕ} → a < 2 → Product a a
single p = record { small = p; same = refl }

pub exact : {a n : ℕ} → a ≡ n → n < 2 → Product a n
exact p q = record { small = omega arith; same = p }

pub sum : {a n : ℕ} → Product a n → Sum a n
sum p = record { small = p.small; same = omega (arith, p.small, p.same) }

-- what a sum of bits is modulo 2
pub parity : {a n : ℕ} → a ≡ n % 2 → Sum a n
parity p = record { small = omega arith; same = p }

pub plus : {a b m n : ℕ} → Sum a m → Sum b n → Sum (bit_xor a b) (m + n)
plus {a} {b} {m} {n} p q =
    let e = xor_cases a b p.small q.small in
    record { small = omega arith; same = omega (arith, p.same, q.same) }

pub ◌⊕◌ : {a b m n : ℕ} → Sum a m → Product b n → Sum (bit_xor a b) (m + n)
p ⊕ q = plus p (sum q)

pub ◌⊗◌ : {a b m n : ℕ} → Product a m → Product b n → Product (bit_and a b) (m * n)
◌⊗◌ {a} {b} {m} {n} p q =
    let e = and_cases a b p.small q.small in
    record { small = e.small; same = e.same ∙ ap₂ (λ (x y : ℕ). x * y) p.same q.same }
