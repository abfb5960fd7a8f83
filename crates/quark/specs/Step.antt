-- One step, n steps, and the permutation P (QUARK 3.2; document 01, "Steps, permutation and inverse").
use Rattle.std.specs.Prelude.{List, [], ◌∷◌, ◌++◌, ℕ, zero, suc, ◌+◌, ◌*◌, ◌%◌, take, drop, replicate}
use Rattle.quark.specs.Bytes.{bit}
use Rattle.quark.specs.Feedback.{Taps, f, g, h, p}

pub record Registers : Type 0 where
  pub X : List ℕ
  pub Y : List ℕ
  pub L : List ℕ

-- a register drops bit 0, moves down one and gains a bit
unfoldable pub shift : List ℕ → ℕ → List ℕ
shift register gained = drop 1 register ++ (gained ∷ [])

unfoldable pub step_L : List ℕ → List ℕ
step_L l = shift l (p (bit l))

-- one step (3.2.2): every new bit comes from the registers before the step. (L has ten bits; where the paper numbers its last 10, 9 is meant.)
unfoldable pub step : Taps → Registers → Registers
step T s =
    let X = bit s.X in
    let Y = bit s.Y in
    let L = bit s.L in
    record {
      X = shift s.X ((Y 0 + f T X + h T X Y L) % 2);
      Y = shift s.Y ((g T Y + h T X Y L) % 2);
      L = step_L s.L;
    }

unfoldable pub steps : Taps → ℕ → Registers → Registers
steps T zero s = s
steps T (suc n) s = step T (steps T n s)

unfoldable pub steps_L : ℕ → List ℕ → List ℕ
steps_L zero l = l
steps_L (suc n) l = step_L (steps_L n l)

-- L at the start of P
unfoldable pub all_ones : List ℕ
all_ones = replicate 10 1

-- P's bits in X and Y (3.2.1), with a given L
unfoldable pub loaded : Taps → List ℕ → List ℕ → Registers
loaded T s l = record { X = take T.half s; Y = drop T.half s; L = l }

-- X, then Y (3.2.3)
unfoldable pub stored : Registers → List ℕ
stored s = s.X ++ s.Y

-- 4b, where b is twice the half
unfoldable pub rounds : Taps → ℕ
rounds T = 4 * (2 * T.half)

unfoldable pub P : Taps → List ℕ → List ℕ
P T s = stored (steps T (rounds T) (loaded T s all_ones))
