-- The taps of an instance and its functions f, g and h (QUARK 3.3; document 01, "Taps and feedback").
-- A register is given to them by its bits: X i is the paper's X_i. A sum of bits is the sum of the numbers, modulo 2.
use Rattle.std.specs.Prelude.{List, [], ◌∷◌, ℕ, ◌+◌, ◌*◌, ◌%◌, get_or, set}

pub record Taps : Type 0 where
  -- document 01's half: b / 2, the bits of X and of Y
  pub half : ℕ
  -- a0 to a12 of f, in X, and of g, in Y
  pub f_taps : List ℕ
  pub g_taps : List ℕ
  -- the taps that h adds by themselves, in X and in Y
  pub h_X : List ℕ
  pub h_Y : List ℕ
  -- the five taps of h's products: Y3, X25, X46, X55 and Y59 in U
  pub y_low : ℕ
  pub x_low : ℕ
  pub x_mid : ℕ
  pub x_high : ℕ
  pub y_high : ℕ

-- f's sum, over the taps a0 to a12 of a register
unfoldable pub feedback : List ℕ → (ℕ → ℕ) → ℕ
feedback taps X =
    let a : ℕ → ℕ = λ k. X (get_or taps k 0) in
    (a 0 + a 1 + a 2 + a 4 + a 5 + a 6 + a 7 + a 8 + a 9 + a 10 + a 11
    + a 11 * a 12 + a 6 * a 7 + a 1 * a 3
    + a 8 * a 10 * a 11 + a 4 * a 5 * a 6
    + a 1 * a 5 * a 8 * a 12 + a 6 * a 7 * a 10 * a 11 + a 3 * a 4 * a 11 * a 12
    + a 7 * a 8 * a 10 * a 11 * a 12 + a 1 * a 3 * a 4 * a 5 * a 6
    + a 4 * a 5 * a 6 * a 7 * a 8 * a 10) % 2

-- taps in which a2 and a3 have changed places
unfoldable pub exchange : List ℕ → List ℕ
exchange taps = set (set taps 2 (get_or taps 3 0)) 3 (get_or taps 2 0)

unfoldable pub f : Taps → (ℕ → ℕ) → ℕ
f T X = feedback T.f_taps X

-- g: f's sum again, over Y's taps, once a2 and a3 have changed places. (Where the paper says f for S's g, its taps are those of g.)
unfoldable pub g : Taps → (ℕ → ℕ) → ℕ
g T Y = feedback (exchange T.g_taps) Y

-- the sum of a register's bits at some taps
unfoldable pub sum_at : (ℕ → ℕ) → List ℕ → ℕ
sum_at X [] = 0
sum_at X (t ∷ ts) = X t + sum_at X ts

-- U's line of the paper:
--   L0 + X1 + Y2 + X4 + Y10 + X25 + X31 + Y43 + X56 + Y59
--   + Y3 X55 + X46 X55 + X55 Y59 + Y3 X25 X46 + Y3 X46 X55 + Y3 X46 Y59 + L0 X25 X46 Y59 + L0 X25
unfoldable pub h : Taps → (X Y L : ℕ → ℕ) → ℕ
h T X Y L =
    let y3 = Y T.y_low in
    let x25 = X T.x_low in
    let x46 = X T.x_mid in
    let x55 = X T.x_high in
    let y59 = Y T.y_high in
    (L 0 + sum_at X T.h_X + sum_at Y T.h_Y
    + y3 * x55 + x46 * x55 + x55 * y59 + y3 * x25 * x46 + y3 * x46 * x55 + y3 * x46 * y59 + L 0 * x25 * x46 * y59 + L 0 * x25) % 2

-- p, which feeds L
unfoldable pub p : (ℕ → ℕ) → ℕ
p L = (L 0 + L 3) % 2
