-- f, g and h depend on the bits at their taps alone, and on a0 only by its sum.
use mathlib.Core.List.{List, [], ◌∷◌}
use mathlib.Core.Path.{◌≡◌, refl, ap₂, ◌∙◌}
use Prim.Native.Nat.{ℕ, zero, suc, ◌+◌, ◌%◌, ◌<◌, ◌≤◌}
use native.Mathlib.Nat.{le_of_suc-le-suc}
use native.Mathlib.Omega.{arith}
use lib.ListN.{length, get_or, set, drop, length-set}
use Rattle.quark.specs.Feedback.{Taps, feedback, exchange, f, g, sum_at, h}
use Rattle.quark.proofs.Taps.{All, all_at, all_map, all_set, all_left, all_right, x_taps, y_taps, FirstAtZero, Lawful, Reach}

-- two registers have the same bits at some taps
abbrev pub Agree : (X X' : ℕ → ℕ) → List ℕ → Type 0
Agree X X' ts = All (λ t. X t ≡ X' t) ts

-- the taps but the first
others : (F : ℕ → Type 0) (ts : List ℕ) → All F (drop 1 ts) → (k : ℕ) → 0 < k → k < length ts → F (get_or ts k 0)
others F [] a k p q = absurd (omega arith)
others F (t ∷ ts) a zero p q = absurd (omega arith)
others F (t ∷ ts) a (suc k) p q = all_at F ts a k (le_of_suc-le-suc q)

-- with the same bits at every other tap, two sums differ as the bits at a0 do
feedback-apart : (ts : List ℕ) → length ts ≡ 13 → (X X' : ℕ → ℕ) → Agree X X' (drop 1 ts)
    → (X' (get_or ts 0 0) + feedback ts X) % 2 ≡ (X (get_or ts 0 0) + feedback ts X') % 2
unfolding feedback
feedback-apart ts n X X' e =
    let at : (k : ℕ) → k < 12 → X (get_or ts (suc k) 0) ≡ X' (get_or ts (suc k) 0) = λ k h. others (λ t. X t ≡ X' t) ts e (suc k) (omega arith) (omega arith) in
    rw (
      at 0 (omega arith),
      at 1 (omega arith),
      at 2 (omega arith),
      at 3 (omega arith),
      at 4 (omega arith),
      at 5 (omega arith),
      at 6 (omega arith),
      at 7 (omega arith),
      at 8 (omega arith),
      at 9 (omega arith),
      at 10 (omega arith),
      at 11 (omega arith),
    ) (omega arith)

feedback-bit : (ts : List ℕ) (X : ℕ → ℕ) → feedback ts X < 2
unfolding feedback
feedback-bit ts X = omega arith

-- with 0 for the bit at a0
pub feedback-first : (ts : List ℕ) → length ts ≡ 13 → (X X' : ℕ → ℕ) → X' (get_or ts 0 0) ≡ 0 → Agree X X' (drop 1 ts)
    → feedback ts X ≡ (X (get_or ts 0 0) + feedback ts X') % 2
feedback-first ts n X X' z e = omega (arith, feedback-apart ts n X X' e, feedback-bit ts X)

pub feedback-cong : (ts : List ℕ) → length ts ≡ 13 → (X X' : ℕ → ℕ) → Agree X X' ts → feedback ts X ≡ feedback ts X'
feedback-cong [] n X X' e = absurd (omega arith)
feedback-cong (t ∷ ts) n X X' e = omega (arith, feedback-apart (t ∷ ts) n X X' e.1, feedback-bit (t ∷ ts) X, feedback-bit (t ∷ ts) X', e.0)

pub sum_at_cong : (X X' : ℕ → ℕ) (ts : List ℕ) → Agree X X' ts → sum_at X ts ≡ sum_at X' ts
unfolding sum_at
sum_at_cong X X' [] e = refl
sum_at_cong X X' (t ∷ ts) e = ap₂ (λ (m n : ℕ). m + n) e.0 (sum_at_cong X X' ts e.1)

-- the exchange keeps the taps
length-exchange : (ts : List ℕ) → length (exchange ts) ≡ length ts
unfolding exchange
length-exchange ts = simp length-set

first-exchange : (ts : List ℕ) → get_or (exchange ts) 0 0 ≡ get_or ts 0 0
unfolding exchange
first-exchange [] = refl
first-exchange (t ∷ ts) = refl

pub all_exchange : (F : ℕ → Type 0) (ts : List ℕ) → length ts ≡ 13 → All F ts → All F (exchange ts)
unfolding exchange
all_exchange F ts n a =
    all_set F (set ts 2 (get_or ts 3 0)) 3 (get_or ts 2 0) (all_set F ts 2 (get_or ts 3 0) a (all_at F ts a 3 (omega arith))) (all_at F ts a 2 (omega arith))

others-exchange : (F : ℕ → Type 0) (ts : List ℕ) → length ts ≡ 13 → All F (drop 1 ts) → All F (drop 1 (exchange ts))
unfolding exchange
others-exchange F [] n a = tt
others-exchange F (t ∷ ts) n a =
    all_set F (set ts 1 (get_or ts 2 0)) 2 (get_or ts 1 0) (all_set F ts 1 (get_or ts 2 0) a (all_at F ts a 2 (omega arith))) (all_at F ts a 1 (omega arith))

pub first-at_zero : (ts : List ℕ) → FirstAtZero ts → FirstAtZero (exchange ts)
first-at_zero ts a = record {
  count = length-exchange ts ∙ a.count;
  first = first-exchange ts ∙ a.first;
  others = others-exchange (λ t. 0 < t) ts a.count a.others;
}

module _ (T : Taps) (X X' Y Y' L L' : ℕ → ℕ) where
  pub h-cong : Agree X X' (x_taps T) → Agree Y Y' (y_taps T) → L 0 ≡ L' 0 → h T X Y L ≡ h T X' Y' L'
  unfolding h
  h-cong ex ey el =
      let px = all_right (λ t. X t ≡ X' t) T.h_X (T.x_low ∷ T.x_mid ∷ T.x_high ∷ []) ex in
      let py = all_right (λ t. Y t ≡ Y' t) T.h_Y (T.y_low ∷ T.y_high ∷ []) ey in
      cc (
        el,
        sum_at_cong X X' T.h_X (all_left (λ t. X t ≡ X' t) T.h_X (T.x_low ∷ T.x_mid ∷ T.x_high ∷ []) ex),
        sum_at_cong Y Y' T.h_Y (all_left (λ t. Y t ≡ Y' t) T.h_Y (T.y_low ∷ T.y_high ∷ []) ey),
        px.0,
        px.1.0,
        px.1.1.0,
        py.0,
        py.1.0,
      )

-- ---- registers that are the same above 0

module _ (X X' : ℕ → ℕ) (e : (i : ℕ) → 0 < i → X i ≡ X' i) (z : X' 0 ≡ 0) where
  feedback-zero : (ts : List ℕ) → FirstAtZero ts → feedback ts X ≡ (X 0 + feedback ts X') % 2
  feedback-zero ts a =
      rw (← a.first) (feedback-first ts a.count X X' (rw a.first z) (all_map (λ t. 0 < t) (λ t. X t ≡ X' t) e (drop 1 ts) a.others))

  module _ (T : Taps) (lawful : Lawful T) where
    -- f and g are the bit 0 and what they are with 0 in its place
    pub f-zero : f T X ≡ (X 0 + f T X') % 2
    unfolding f
    f-zero = feedback-zero T.f_taps lawful.f

    pub g-zero : g T X ≡ (X 0 + g T X') % 2
    unfolding g
    g-zero = feedback-zero _ (search (lawful.g, first-at_zero))

-- h reads no bit 0 of X and Y
pub h-zero : (T : Taps) → Lawful T → (X X' Y Y' L : ℕ → ℕ) → ((i : ℕ) → 0 < i → X i ≡ X' i) → ((i : ℕ) → 0 < i → Y i ≡ Y' i)
    → h T X Y L ≡ h T X' Y' L
h-zero T lawful X X' Y Y' L ex ey =
    h-cong T X X' Y Y' L L (all_map (λ t. 0 < t) (λ t. X t ≡ X' t) ex (x_taps T) lawful.x_above)
    (all_map (λ t. 0 < t) (λ t. Y t ≡ Y' t) ey (y_taps T) lawful.y_above) refl

-- ---- registers that are the same at every place that the taps reach

module _ (T : Taps) (lawful : Lawful T) (w : ℕ) (reach : Reach T w) (X X' : ℕ → ℕ) (ex : (i : ℕ) → i + w ≤ T.half → X i ≡ X' i) where
  within-local : (ts : List ℕ) → length ts ≡ 13 → All (λ t. t + w ≤ T.half) ts → feedback ts X ≡ feedback ts X'
  within-local ts n a = feedback-cong ts n X X' (all_map (λ t. t + w ≤ T.half) (λ t. X t ≡ X' t) ex ts a)

  pub f_local : f T X ≡ f T X'
  unfolding f
  f_local = within-local T.f_taps lawful.f.count reach.f-within

  pub g-local : g T X ≡ g T X'
  unfolding g
  g-local = within-local _ (search (lawful.g.count, length-exchange)) (search (reach.g_within, all_exchange, lawful.g.count))

  pub h-local : (Y Y' L L' : ℕ → ℕ) → ((i : ℕ) → i + w ≤ T.half → Y i ≡ Y' i) → L 0 ≡ L' 0 → h T X Y L ≡ h T X' Y' L'
  h-local Y Y' L L' ey el =
      h-cong T X X' Y Y' L L' (all_map (λ t. t + w ≤ T.half) (λ t. X t ≡ X' t) ex (x_taps T) reach.x_within)
      (all_map (λ t. t + w ≤ T.half) (λ t. Y t ≡ Y' t) ey (y_taps T) reach.y_within) el
